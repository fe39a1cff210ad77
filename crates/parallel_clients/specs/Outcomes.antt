-- What becomes of a client.
use Rattle.std.specs.Prelude.{◌≡◌, ℕ, ◌+◌, ◌<◌, ◌≤◌, ◌⊎◌, List, [], ◌∷◌, ◌++◌, length, take, slice_get, Option, Some, None}
use Rattle.std.specs.List.{AllByRecursion}
use mathlib.Core.List.{IsPrefix}
use Rattle.branch_io.specs.Causes.{Rose}
use Rattle.branch_history.specs.declared.moves.Move.{Move}
use Rattle.branch_history.specs.Steps as machine
use Rattle.branch_machine.specs.Fixed.{Fixed}
use Rattle.branch_doc.specs.Types.{PlainForms}
use Rattle.branch_script.specs.declared.step.Step.{Step}
use Rattle.branch_script.specs.declared.step.Step.TheVariants.{Look, Fork, Merge, Join, Do, Ask, Drop}
use Rattle.recorded_history.specs.Machine.{FullyRefuses}
use Rattle.parallel_clients.specs.declared.outcome.ClientRefusal.{ClientRefusal}
use Rattle.parallel_clients.specs.declared.outcome.ClientRefusal.TheVariants as client_refusal
use Rattle.parallel_clients.specs.declared.outcome.Outcome.{Outcome}
use Rattle.parallel_clients.specs.declared.outcome.Outcome.TheVariants.{Done, Refused, Unseen}
use Rattle.parallel_clients.specs.Played.{Sights, HasBranch, WasHead, HadHead, AreNamedHeads, WereHeads, IfSees, Played, PlayedTo}

-- what is fixed for the clients of a store: the store's meaning, terms and addresses, what plain forms stand for, and the count of the disk's faults when
-- the store was opened
pub record Setting (S O R Q A : Type 0) : Type 1 where
  pub fixed : Fixed S O R Q A
  pub forms : PlainForms O Q R A
  pub opened : ℕ

abbrev pub setting : {S O R Q A : Type 0} → Fixed S O R Q A → PlainForms O Q R A → ℕ → Setting S O R Q A
setting fixed forms opened = record { fixed = fixed; forms = forms; opened = opened }

-- the machine refuses a look at one of the branches with these names; those with the names before it are there
pub record RefusesLook {S O R Q A : Type 0} (on : Setting S O R Q A) (moves : List (Move O R)) (from : List (List ℕ)) (refusal : machine.Refusal) : Type 0 where
  pub first : List (List ℕ)
  pub name : List ℕ
  pub rest : List (List ℕ)
  pub is : from ≡ first ++ name ∷ rest
  pub heads : List ℕ
  pub there : AreNamedHeads on.fixed.terms.origin moves first heads
  pub refused : FullyRefuses on.fixed moves (machine.Look name) refusal

-- the machine refuses a merge of commits that were the heads of the branches with these names, from a head that a session's branch had
pub record RefusesJoin {S O R Q A : Type 0} (on : Setting S O R Q A) (moves : List (Move O R)) (branch : ℕ) (from : List (List ℕ)) (refusal : machine.Refusal) : Type 0 where
  pub head : ℕ
  pub heads : List ℕ
  pub seen : HadHead on.fixed.terms.origin moves branch head
  pub others : WereHeads on.fixed.terms.origin moves from heads
  pub refused : FullyRefuses on.fixed moves (machine.Merge branch head heads) refusal

-- there is an operation, and the machine refuses it on a session's branch, from a head that it had
pub record RefusesLanding {S O R Q A : Type 0} (on : Setting S O R Q A) (moves : List (Move O R)) (branch : ℕ) (op : Option O) (refusal : machine.Refusal) : Type 0 where
  pub operation : O
  pub is : op ≡ Some operation
  pub head : ℕ
  pub seen : HadHead on.fixed.terms.origin moves branch head
  pub refused : FullyRefuses on.fixed moves (machine.Land branch head operation) refusal

-- The machine refuses a client's step after a history: an operation, a merge or a drop is made from a head that the session's branch had, and a merge is of a head that the
-- other branch had, if there is one with its name, and a join of those of several. Of a session that has not looked it is not asked.
abbrev pub RefusesStep : {S O R Q A : Type 0} → Setting S O R Q A → List (Move O R) → Sights → Step → machine.Refusal → Type 0
RefusesStep on moves sights (Look session branch) refusal = FullyRefuses on.fixed moves (machine.Look branch) refusal
RefusesStep on moves sights (Ask branch query) refusal = FullyRefuses on.fixed moves (machine.Look branch) refusal
RefusesStep on moves sights (Fork new from) refusal = FullyRefuses on.fixed moves (machine.Fork new from) refusal
RefusesStep on moves sights (Do session op) refusal =
    IfSees (sights session) (λ branch. RefusesLanding on moves branch (on.forms.op op) refusal)
RefusesStep on moves sights (Merge session from) refusal =
    IfSees (sights session) (λ branch. FullyRefuses on.fixed moves (machine.Look from) refusal
    ⊎ ((head source commit : ℕ) × HadHead on.fixed.terms.origin moves branch head × WasHead on.fixed.terms.origin moves from source commit
    × FullyRefuses on.fixed moves (machine.Merge branch head (commit ∷ [])) refusal))
RefusesStep on moves sights (Join session from) refusal = IfSees (sights session) (λ branch. RefusesLook on moves from refusal ⊎ RefusesJoin on moves branch from refusal)
RefusesStep on moves sights (Drop session) refusal =
    IfSees (sights session) (λ branch. (head : ℕ) × HadHead on.fixed.terms.origin moves branch head × FullyRefuses on.fixed moves (machine.Drop branch head) refusal)

-- the disk has failed since the store was opened
abbrev pub HasFailed : {S O R Q A : Type 0} → Setting S O R Q A → ℕ → Type 0
HasFailed on faults = Rose on.opened (on.opened + faults)

-- A client's step is an operation or a query of a kind that the store lacks; the session of the one sees a branch, and the branch of the other is there.
abbrev pub LacksKind : {S O R Q A : Type 0} → Setting S O R Q A → List (Move O R) → Sights → Step → Type 0
LacksKind on moves sights (Do session op) = IfSees (sights session) (λ branch. on.forms.op op ≡ None)
LacksKind on moves sights (Ask branch query) = HasBranch on.fixed.terms.origin branch moves × (on.forms.query query ≡ None)
LacksKind on moves sights step = ⊥

-- why a step was refused, after a history: by the machine, or as one of a kind that the store lacks, which only sequences may be, or by a disk that has failed, or for want of memory
abbrev pub StepRefused : {S O R Q A : Type 0} → Setting S O R Q A → List (Move O R) → ℕ → Sights → Step → ClientRefusal → Type 0
StepRefused on moves faults sights step (client_refusal.UnknownBranch name) = RefusesStep on moves sights step (machine.UnknownBranch name)
StepRefused on moves faults sights step (client_refusal.Dropped branch) = RefusesStep on moves sights step (machine.Dropped branch)
StepRefused on moves faults sights step client_refusal.KeepsMain = RefusesStep on moves sights step machine.KeepsMain
StepRefused on moves faults sights step (client_refusal.Exhausted clock) = RefusesStep on moves sights step (machine.Exhausted clock)
StepRefused on moves faults sights step (client_refusal.FullCommits count) = RefusesStep on moves sights step (machine.FullCommits count)
StepRefused on moves faults sights step (client_refusal.FullBranches count) = RefusesStep on moves sights step (machine.FullBranches count)
StepRefused on moves faults sights step (client_refusal.FullMoves count) = RefusesStep on moves sights step (machine.FullMoves count)
StepRefused on moves faults sights step (client_refusal.ValueTooLarge length) = RefusesStep on moves sights step (machine.ValueTooLarge length)
StepRefused on moves faults sights step (client_refusal.Collision address stored fresh) = RefusesStep on moves sights step (machine.Collision address stored fresh)
StepRefused on moves faults sights step client_refusal.NoSequences = LacksKind on moves sights step
StepRefused on moves faults sights step client_refusal.DiskFault = HasFailed on faults
StepRefused on moves faults sights step (client_refusal.Failed count) = (count ≡ length moves) × HasFailed on faults
StepRefused on moves faults sights step client_refusal.Memory = Unit {0}

-- The step behind so many was refused, after a history that begins with the old one, begins the new one, and has what the steps before it made at the places. The disk's
-- faults are those known at the end.
pub record IsRefused {S O R Q A : Type 0} (on : Setting S O R Q A) (old new : List (Move O R)) (faults : ℕ) (steps : List Step) (number : ℕ) (places : List ℕ) (refusal : ClientRefusal) : Type 0 where
  pub step : Step
  pub is_step : slice_get steps number ≡ Some step
  pub before : List (Move O R)
  pub begun : IsPrefix old before
  pub begins : IsPrefix before new
  pub sights : Sights
  pub played : PlayedTo on.forms on.fixed.terms.origin (length old) (take number steps) places before sights
  pub refused : StepRefused on before faults sights step refusal

-- a step names a session that has to have looked, and sees no branch
abbrev pub SeesNone : Sights → Step → Type 0
SeesNone sights (Do session op) = sights session ≡ None
SeesNone sights (Merge session from) = sights session ≡ None
SeesNone sights (Join session from) = sights session ≡ None
SeesNone sights (Drop session) = sights session ≡ None
SeesNone sights step = ⊥

-- the step behind so many names a session without a look, after what the steps before it made at the places
pub record IsUnseen {S O R Q A : Type 0} (on : Setting S O R Q A) (old new : List (Move O R)) (steps : List Step) (number : ℕ) (places : List ℕ) : Type 0 where
  pub step : Step
  pub is_step : slice_get steps number ≡ Some step
  pub sights : Sights
  pub played : PlayedTo on.forms on.fixed.terms.origin (length old) (take number steps) places new sights
  pub unseen : SeesNone sights step

-- what became of the steps of a client, where a history grew from an old one to a new one, and the disk has had so many faults since it was opened
abbrev pub ComesTo : {S O R Q A : Type 0} → Setting S O R Q A → List (Move O R) → List (Move O R) → ℕ → List Step → Outcome → Type 0
ComesTo on old new faults steps (Done places) = Played on.forms on.fixed.terms.origin (length old) steps places new
ComesTo on old new faults steps (Refused number refusal places) = IsRefused on old new faults steps number places refusal
ComesTo on old new faults steps (Unseen number places) = IsUnseen on old new steps number places

-- the places of an outcome
abbrev pub places_of : Outcome → List ℕ
places_of (Done places) = places
places_of (Refused number refusal places) = places
places_of (Unseen number places) = places

-- the places lie behind this one
abbrev pub ArePast : ℕ → List ℕ → Type 0
ArePast last places = AllByRecursion (λ place. last < place) places

-- what became of a client, whose moves all came behind the old history
pub record IsOutcome {S O R Q A : Type 0} (on : Setting S O R Q A) (old new : List (Move O R)) (faults : ℕ) (steps : List Step) (outcome : Outcome) : Type 0 where
  pub comes : ComesTo on old new faults steps outcome
  pub past : ArePast (length old) (places_of outcome)

-- what became of a client stays that where the new history grows, and more faults are known
abbrev pub StaysOutcome : {S O R Q A : Type 0} → Setting S O R Q A → Type 0
StaysOutcome {S} {O} {R} on = (old new later : List (Move O R)) (few many : ℕ) (steps : List Step) (outcome : Outcome) → IsPrefix new later → few ≤ many → IsOutcome on old new few steps outcome → IsOutcome on old later many steps outcome
