-- Of the steps of a client, each behind the first three is an operation or a merge of one of its two sessions, and names no branch but `main` and the client's own. None is of sequences.
use Rattle.std.proofs.Common.{zero, suc, ◌≡◌, ℕ, ◌+◌, ◌%◌, ◌^◌, ◌==◌, ◌⊎◌, inl, inr, Bool, true, false, List, [], ◌∷◌, codes, refl, subst, if◌then◌else◌, Some}
use Rattle.std.specs.Prelude.{slice_get}
use Rattle.std.specs.List.{AllByRecursion}
use Rattle.branch_doc.specs.declared.plain.Kind.TheVariants as kind
use Rattle.branch_doc.specs.declared.plain.PlainOp.{PlainOp}
use Rattle.branch_doc.specs.Kinds.{op_kind}
use Rattle.branch_doc.specs.Types.{PlainForms}
use Rattle.branch_history.specs.declared.moves.Move.{Move}
use Rattle.branch_history.specs.declared.moves.Move.TheVariants as move
use Rattle.branch_script.specs.declared.step.Step.{Step}
use Rattle.branch_script.specs.declared.step.Step.TheVariants.{Look, Fork, Merge, Join, Do, Ask, Drop}
use Rattle.branch_gen.specs.Draws.{next, pick, Drawn}
use Rattle.branch_gen.specs.Clients.{client_branch, own, top, step_for, step, drawn_steps, client_steps}
use Rattle.parallel_clients.specs.Allowed.{AllowsScripts, AllowsStep, IsOfScripts, MayMake}
use Rattle.client_runs.specs.Worked.{IsOfClients}

-- one of a client's sessions
abbrev pub IsSession : List ℕ → Type 0
IsSession session = (session ≡ own) ⊎ (session ≡ top)

-- `main`, or the branch that the client forks
abbrev pub IsOfBoth : List ℕ → List ℕ → Type 0
IsOfBoth branch name = (name ≡ codes "main") ⊎ (name ≡ branch)

-- an operation is on no sequence
abbrev pub IsOfNoSequence : PlainOp → Type 0
IsOfNoSequence op = op_kind op ≡ kind.Sequence → ⊥

-- a move that drops no branch
abbrev pub IsNoDrop : {O R : Type 0} → Move O R → Type 0
IsNoDrop (move.Drop branch) = ⊥
IsNoDrop made = Unit {0}

-- a step that drops no branch
abbrev pub KeepsBranch : Step → Type 0
KeepsBranch (Drop session) = ⊥
KeepsBranch step = Unit {0}

abbrev pub IsDrawn : List ℕ → Step → Type 0
IsDrawn branch (Do session op) = IsSession session × IsOfNoSequence op
IsDrawn branch (Merge session from) = IsSession session × IsOfBoth branch from
IsDrawn branch (Join session from) = ⊥
IsDrawn branch (Look session from) = ⊥
IsDrawn branch (Fork new from) = ⊥
IsDrawn branch (Ask from query) = ⊥
IsDrawn branch (Drop session) = ⊥

module _ (branch : List ℕ) where
  drawn-if : (test : Bool) (s t : Drawn Step) → IsDrawn branch s.made → IsDrawn branch t.made → IsDrawn branch (if test then s else t).made
  drawn-if true s t is other = is
  drawn-if false s t other is = is

  step_for-drawn : (a x : ℕ) → IsDrawn branch (step_for branch a x).made
  unfolding step_for
  step_for-drawn a x =
      drawn-if (a == 0) _ _ (inl refl, inl refl)
      (drawn-if (a == 1) _ _ (inr refl, inr refl)
      (drawn-if (a == 2) _ _ (inr refl, λ is. cc)
      (drawn-if (a == 3) _ _ (inl refl, λ is. cc)
      (drawn-if (a == 4) _ _ (inl refl, λ is. cc)
      (drawn-if (a == 5) _ _ (inl refl, λ is. cc)
      (drawn-if (a == 6) _ _ (inl refl, λ is. cc) (inl refl, λ is. cc)))))))

  step-drawn : (x : ℕ) → IsDrawn branch (step branch x).made
  unfolding step
  step-drawn x = step_for-drawn (pick 8 x) (next x)

  pub steps-drawn : (steps x k : ℕ) (s : Step) → slice_get (drawn_steps branch steps x) k ≡ Some s → IsDrawn branch s
  steps-drawn zero x k s is = let never : ⊥ = cc in absurd never
  steps-drawn (suc steps) x zero s is = let same : (step branch x).made ≡ s = cc in subst (IsDrawn branch) same (step-drawn x)
  steps-drawn (suc steps) x (suc k) s is = steps-drawn steps (step branch x).state k s is

  drawn-keeps : (s : Step) → IsDrawn branch s → KeepsBranch s
  drawn-keeps (Do session op) is = tt
  drawn-keeps (Merge session from) is = tt
  drawn-keeps (Join session from) is = tt
  drawn-keeps (Look session from) is = tt
  drawn-keeps (Fork new from) is = tt
  drawn-keeps (Ask from query) is = tt
  drawn-keeps (Drop session) is = absurd is

  steps-keep : (steps x : ℕ) → AllByRecursion KeepsBranch (drawn_steps branch steps x)
  steps-keep zero x = tt
  steps-keep (suc steps) x = (drawn-keeps (step branch x).made (step-drawn x), steps-keep steps (step branch x).state)

-- no step of a client drops a branch
client-keeps : (client steps number : ℕ) → AllByRecursion KeepsBranch (client_steps client steps number)
unfolding client_steps
client-keeps client steps number = (tt, (tt, (tt, steps-keep (client_branch client) steps ((number + client) % 2 ^ 64))))

pub all-mapped : {X : Type 0} (P Q : X → Type 0) → ((x : X) → P x → Q x) → (xs : List X) → AllByRecursion P xs → AllByRecursion Q xs
all-mapped P Q says [] all = tt
all-mapped P Q says (x ∷ xs) all = (says x all.0, all-mapped P Q says xs all.1)

got : {X : Type 0} (P : X → Type 0) (xs : List X) (k : ℕ) (x : X) → AllByRecursion P xs → slice_get xs k ≡ Some x → P x
got P [] k x all is = let never : ⊥ = cc in absurd never
got P (y ∷ ys) zero x all is = let same : y ≡ x = cc in subst P same all.0
got P (y ∷ ys) (suc k) x all is = got P ys k x all.1 is

all-placed : {X : Type 0} (P : X → Type 0) (xs : List X) → ((k : ℕ) (x : X) → slice_get xs k ≡ Some x → P x) → AllByRecursion P xs
all-placed P [] placed = tt
all-placed P (x ∷ xs) placed = (placed zero x refl, all-placed P xs (λ k y at. placed (suc k) y at))

module _ {O R Q A : Type 0} (forms : PlainForms O Q R A) where
  makes-no_drop : (s : Step) (made : Move O R) → KeepsBranch s → MayMake forms s made → IsNoDrop made
  makes-no_drop (Do session op) (move.Drop branch) keeps may = may
  makes-no_drop (Merge session from) (move.Drop branch) keeps may = may
  makes-no_drop (Join session from) (move.Drop branch) keeps may = may
  makes-no_drop (Look session from) (move.Drop branch) keeps may = may
  makes-no_drop (Fork new from) (move.Drop branch) keeps may = may
  makes-no_drop (Ask from query) (move.Drop branch) keeps may = may
  makes-no_drop (Drop session) (move.Drop branch) keeps may = keeps
  makes-no_drop s (move.Fork name number source) keeps may = tt
  makes-no_drop s (move.Operation branch op reply) keeps may = tt
  makes-no_drop s (move.Merge branch commit) keeps may = tt
  makes-no_drop s (move.Join branch commits) keeps may = tt
  makes-no_drop s (move.Forward branch commit) keeps may = tt
  makes-no_drop s (move.Received parents origin clock act) keeps may = tt
  makes-no_drop s (move.Place name number commit) keeps may = tt

  pub clients-no_drop : (count steps number : ℕ) (made : Move O R) → IsOfClients forms count steps number made → IsNoDrop made
  clients-no_drop count steps number made is = makes-no_drop is.step made (got KeepsBranch (client_steps is.client steps number) is.place is.step (client-keeps is.client steps number) is.is_step) is.may

  -- the scripts allow what their own steps may make
  pub scripts-own : (scripts : List (List Step)) → AllowsScripts forms (IsOfScripts forms scripts) scripts
  scripts-own scripts =
      all-placed (AllByRecursion (AllowsStep forms (IsOfScripts forms scripts))) scripts
      (λ client steps is. all-placed (AllowsStep forms (IsOfScripts forms scripts)) steps
      (λ place step at made may. record { client = client; steps = steps; is_script = is; place = place; step = step; is_step = at; may = may }))
