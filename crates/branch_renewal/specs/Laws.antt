-- What holds of a history with renewed operations.
use Rattle.std.specs.Prelude.{◌≡◌, ◌⊎◌, ℕ, List, [], ◌∷◌, ◌++◌}
use Rattle.mrdt_model.specs.Laws.{Meaning}
use Rattle.mrdt_renewal.specs.Renewals.{renewed_events}
use Rattle.std.specs.List.{AllByRecursion}
use Rattle.branch_names.specs.Heads.{name_of, head_of, IsKeptBranch}
use Rattle.branch_names.specs.declared.terms.Terms.{Terms}
use Rattle.branch_history.specs.declared.moves.Move.{Move}
use Rattle.branch_history.specs.declared.moves.Move.TheVariants as move
use Rattle.branch_history.specs.Commits.{Commit, graph_of, clock_of, origin_of, visible}
use Rattle.branch_history.specs.History.{Store, store_of}
use Rattle.branch_history.specs.Machine.{answers}
use Rattle.branch_history.specs.Steps.{Step, Turn, Refused, ValueTooLarge, Collision}
use Rattle.branch_history.specs.Steps as machine
use Rattle.branch_history.specs.Validity.{IsStep, IsValid}
use Rattle.branch_machine.specs.Fixed.{Form, FixedIn, fix_in}
use Rattle.branch_machine.specs.Machine.{full_turn}
use Rattle.branch_machine.specs.Objects.{store_after}
use Rattle.branch_machine.specs.Validity.{IsFullyValid}
use Rattle.branch_renewal.specs.Renewed.{renewed_moves, renewed_commits, renewed_store}

-- the move is of a kind that the first version of the files has
abbrev pub IsOfFirstKinds : {O R : Type 0} → Move O R → Type 0
IsOfFirstKinds (move.Fork name number from) = Unit {0}
IsOfFirstKinds (move.Operation r op reply) = Unit {0}
IsOfFirstKinds (move.Merge r m) = Unit {0}
IsOfFirstKinds (move.Forward r m) = Unit {0}
IsOfFirstKinds (move.Join r ms) = ⊥
IsOfFirstKinds (move.Received parents origin clock act) = ⊥
IsOfFirstKinds (move.Place name number n) = ⊥
IsOfFirstKinds (move.Drop r) = ⊥

-- A store makes a move of these kinds again by this step, on a branch that was not dropped: it forks from the branch of
-- the same name, or lands the same operation on the branch's head, or merges the same commit into it.
abbrev pub MakesAgain : {O R Q : Type 0} → Store O R → Move O R → Step O Q → Type 0
MakesAgain s (move.Fork name number from) step =
    IsKeptBranch s.branches from × (step ≡ machine.Fork name (name_of s.branches from))
MakesAgain s (move.Operation r op reply) step =
    IsKeptBranch s.branches r × (step ≡ machine.Land r (head_of s.branches r) op)
MakesAgain s (move.Merge r m) step =
    IsKeptBranch s.branches r × (step ≡ machine.Merge r (head_of s.branches r) (m ∷ []))
MakesAgain s (move.Forward r m) step =
    IsKeptBranch s.branches r × (step ≡ machine.Merge r (head_of s.branches r) (m ∷ []))
MakesAgain s (move.Join r ms) step = ⊥
MakesAgain s (move.Received parents origin clock act) step = ⊥
MakesAgain s (move.Place name number n) step = ⊥
MakesAgain s (move.Drop r) step = ⊥

-- a refusal for what a new value or a new object is
abbrev pub IsOfBytes : machine.Refusal → Type 0
IsOfBytes refusal =
    ((size : ℕ) × (refusal ≡ ValueTooLarge size))
    ⊎ ((address : List ℕ) × (stored : List ℕ) × (fresh : List ℕ) × (refusal ≡ Collision address stored fresh))

-- the turn makes this move, or refuses it for what the new value or a new object is
abbrev pub MakesOrRefuses : {O R A : Type 0} → Turn O R A → Move O R → Type 0
MakesOrRefuses t made =
    (t.made ≡ made ∷ []) ⊎ ((refusal : machine.Refusal) × IsOfBytes refusal × (t ≡ answers (Refused refusal)))

-- Behind a history this step of the machine makes this move again: it makes the move, or refuses it for what the new
-- value or a new object is.
pub record RepeatsBy {S O R Q A : Type 0} {form : Form} (fixed : FixedIn form S O R Q A) (moves : List (Move O R))
    (made : Move O R) (step : Step O Q) : Type 0 where
  pub again : MakesAgain (store_after fixed moves) made step
  pub may : IsStep fixed.meaning (store_after fixed moves) step
  pub turns : MakesOrRefuses (full_turn fixed moves step) made

-- there is such a step
abbrev pub Repeats : {S O R Q A : Type 0} {form : Form} → FixedIn form S O R Q A → List (Move O R) → Move O R → Type 0
Repeats {S} {O} {R} {Q} fixed moves made = (step : Step O Q) × RepeatsBy fixed moves made step

-- the machine refuses the step that makes a move again, for what the new value or a new object is
pub record IsRefused {S O R Q A : Type 0} {form : Form} (fixed : FixedIn form S O R Q A) (moves : List (Move O R))
    (made : Move O R) : Type 0 where
  pub step : Step O Q
  pub again : MakesAgain (store_after fixed moves) made step
  pub refusal : machine.Refusal
  pub bytes : IsOfBytes refusal
  pub refuses : full_turn fixed moves step ≡ answers (Refused refusal)

-- and so for each of more moves, once those before it are made
abbrev pub RepeatsAll : {S O R Q A : Type 0} {form : Form} → FixedIn form S O R Q A → List (Move O R) → List (Move O R) → Type 0
RepeatsAll fixed before [] = Unit {0}
RepeatsAll fixed before (m ∷ ms) = Repeats fixed before m × RepeatsAll fixed (before ++ m ∷ []) ms

-- the renewed history has the renewed commits, and the same branches
abbrev pub KeepsStores : {O1 O2 : Type 0} → (R : Type 0) → (O1 → O2) → Type 0
KeepsStores {O1} {O2} R f =
    (origin : ℕ) (moves : List (Move O1 R)) → store_of origin (renewed_moves f moves) ≡ renewed_store f (store_of origin moves)

-- renewed commits have the same graph, clocks and origins, and see the renewed events
pub record IsSameRenewed {O1 O2 R : Type 0} (f : O1 → O2) (commits : List (Commit O1 R)) : Type 0 where
  pub graph : graph_of (renewed_commits f commits) ≡ graph_of commits
  pub clock : (n : ℕ) → clock_of (renewed_commits f commits) n ≡ clock_of commits n
  pub origin : (n : ℕ) → origin_of (renewed_commits f commits) n ≡ origin_of commits n
  pub visible : (n : ℕ) → visible (renewed_commits f commits) n ≡ renewed_events f (visible commits n)

abbrev pub KeepsCommits : {O1 O2 : Type 0} → (R : Type 0) → (O1 → O2) → Type 0
KeepsCommits {O1} {O2} R f = (commits : List (Commit O1 R)) → IsSameRenewed f commits

-- at each commit a valid history gives the answers that it gives renewed
abbrev pub KeepsAnswers : {S1 O1 S2 O2 R Q A : Type 0} → Meaning S1 O1 R Q A → Meaning S2 O2 R Q A → (O1 → O2) → Type 0
KeepsAnswers {S1} {O1} {S2} {O2} {R} {Q} {A} old new f =
    (terms : Terms) (moves : List (Move O1 R)) → IsValid old terms moves → (n : ℕ) (q : Q)
    → new.answer_of (visible (store_of terms.origin (renewed_moves f moves)).commits n) q
    ≡ old.answer_of (visible (store_of terms.origin moves).commits n) q

-- The moves of a valid history, renewed, are made again one after the other: each is made, or refused for what the new
-- value or a new object is.
abbrev pub KeepsTurns : {S1 O1 S2 O2 R Q A : Type 0} → (old_form new_form : Form) → Meaning S1 O1 R Q A → Meaning S2 O2 R Q A → (O1 → O2) → Type 0
KeepsTurns {S1} {O1} {S2} {O2} {R} {Q} {A} old_form new_form old new f =
    (terms : Terms) (address : List ℕ → List ℕ) (moves : List (Move O1 R))
    → IsFullyValid (fix_in old_form old terms address) moves → AllByRecursion IsOfFirstKinds moves
    → RepeatsAll (fix_in new_form new terms address) [] (renewed_moves f moves)
