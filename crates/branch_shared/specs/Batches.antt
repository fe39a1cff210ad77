-- Landings of several callers together: what is handed over, what comes back, and what is told on the way.
use Rattle.std.specs.Prelude.{◌≡◌, ◌≢◌, ℕ, ◌+◌, ◌<◌, ◌≤◌, cond, List, [], ◌∷◌, ◌++◌, length, take, replicate, Result, Ok, Err, IfOk, IfErr, OnErr}
use mathlib.Core.List.{IsPrefix}
use Rattle.atomic_table.specs.Seated.{TableId}
use Rattle.branch_front.specs.Views.{View}
use Rattle.branch_history.specs.declared.moves.Move.{Move}
use Rattle.branch_machine.specs.Fixed.{Fixed}
use Rattle.branch_machine.specs.Validity.{IsFullyValid}
use Rattle.branch_names.specs.declared.terms.Terms.{Terms}
use Rattle.store_seen.specs.declared.answers.Landed.{Landed}
use Rattle.store_seen.specs.Views.{PreparedView}
use Rattle.store_core.specs.declared.answers.LandRefused.{LandRefused}
use Rattle.store_core.specs.declared.answers.LandRefused.TheVariants as refusal
use Rattle.store_core.specs.Views.{StoreView}
use Rattle.branch_shared.specs.declared.name.Entry.{Entry}
use Rattle.branch_shared.specs.Allowed.{AllowsWork}
use Rattle.branch_shared.specs.Entries.{moves_of, moments_of}
use Rattle.branch_shared.specs.Passes.{PassView, IsSeenOn, KnowsMoments, LandedAt, BatchRefusedAt}

-- the pass of a store that began with this history
abbrev pub pass_of : {O R : Type 0} → List (Move O R) → View (Entry O R) → PassView (Move O R)
pass_of begun v = record { moves = begun ++ moves_of v.moves; sure = moments_of v.moves; mine = v.mine; others = v.others; faults = v.faults; parts = v.parts; receipts = v.receipts }

-- what a caller hands over to be landed: what it prepared, and a pass for it
pub record JobView (O R : Type 0) : Type 0 where
  pub prepared : PreparedView O R
  pub pass : View (Entry O R)

-- what a caller gets back
pub record GivenView (O R : Type 0) : Type 0 where
  pub pass : PassView (Move O R)
  pub answer : Result (Landed R) LandRefused

-- a job that was taken to be landed, and what its caller will get back
pub record TakenView (O R : Type 0) : Type 0 where
  pub job : JobView O R
  pub given : GivenView O R

-- a store with this front, beginning and terms can land the job: its pass is one of the store, and has seen the history that it was prepared on; and the store's name allows it
pub record MayLand {O R : Type 0} (table : TableId) (begun : List (Move O R)) (terms : Terms) (allows : Move O R → Type 0) (job : JobView O R) : Type 0 where
  pub table_is : job.pass.table ≡ table
  pub part : 0 < job.pass.parts
  pub begins : IsPrefix job.prepared.seen.history (begun ++ moves_of job.pass.moves)
  pub terms_are : job.prepared.seen.terms ≡ terms
  pub allowed : AllowsWork allows job.prepared.seen.branch job.prepared.work

-- What landing together with others makes of a pass, and how it is answered: as a landing alone is, at a beginning of the one history, but that a disk that fails does so for all.
pub record LandsTogether {S O R Q A : Type 0} (fixed : Fixed S O R Q A) (opened : ℕ) (begun : List (Move O R)) (made : PreparedView O R) (old : PassView (Move O R)) (given : GivenView O R) : Type 0 where
  pub prefix : IsPrefix old.moves given.pass.moves
  pub sure : KnowsMoments begun old given.pass
  pub begins : IsPrefix begun given.pass.moves
  pub valid : IsFullyValid fixed given.pass.moves
  pub faults : old.faults ≤ given.pass.faults
  pub parts : given.pass.parts ≡ old.parts
  pub landed : IfOk given.answer (λ landed. LandedAt fixed made old given.pass landed.moves landed.kind)
  pub refused : IfErr given.answer (BatchRefusedAt fixed opened made old given.pass)
  pub rest : OnErr given.answer (IsSeenOn old given.pass)
  pub quiet : given.answer ≢ Err refusal.DiskFault → ((moves : ℕ) → given.answer ≢ Err (refusal.Failed moves)) → given.pass.faults ≡ 0

-- the same of a job and what comes back for it
abbrev pub Serves : {S O R Q A : Type 0} → Fixed S O R Q A → ℕ → List (Move O R) → JobView O R → GivenView O R → Type 0
Serves fixed opened begun job given = LandsTogether fixed opened begun job.prepared (pass_of begun job.pass) given

-- how many moves an answer brings: one, or none where it refuses
abbrev pub brings : {L E : Type 0} → Result L E → ℕ
brings (Ok landed) = 1
brings (Err refused) = 0

-- how many moves answers bring
abbrev pub bring : {L E : Type 0} → List (Result L E) → ℕ
bring [] = 0
bring (answer ∷ answers) = brings answer + bring answers

-- what the writer adds at an answer: the entry, or nothing where it refuses
abbrev pub brought : {M L E : Type 0} → List M → Result L E → List M
brought entry (Ok landed) = entry
brought entry (Err refused) = []

-- a pass that has seen a beginning of this history and its moments, and no more faults
abbrev pub IsBehind : {M : Type 0} → ℕ → List M → List ℕ → PassView M → Type 0
IsBehind faults history sure pass = IsPrefix pass.moves history × IsPrefix pass.sure sure × (pass.faults ≤ faults)

-- a job whose pass has seen this history and these moments, and so many faults
abbrev pub seen_to : {O R : Type 0} → ℕ → List (Move O R) → List ℕ → TakenView O R → TakenView O R
seen_to faults history sure taken = record taken { given = record (taken.given) { pass = record (taken.given.pass) { moves = history; sure = sure; faults = faults } } }

-- a pass that is told an answer: where that is a landing, the last move of this history is its own
abbrev pub told : {M L E : Type 0} → ℕ → List M → List ℕ → Result L E → PassView M → PassView M
told faults history sure (Ok landed) pass = record pass { moves = history; sure = sure; mine = pass.mine ++ length history ∷ []; faults = faults; receipts = pass.receipts + 1 }
told faults history sure (Err refused) pass = record pass { moves = history; sure = sure; faults = faults }

-- a job that is answered so, where its pass then has seen this history and these moments
abbrev pub answered : {O R : Type 0} → ℕ → List (Move O R) → List ℕ → Result (Landed R) LandRefused → TakenView O R → TakenView O R
answered faults history sure answer taken = record taken { given = record { pass = told faults history sure answer taken.given.pass; answer = answer } }

-- the moments behind an answer, where what it brings is acknowledged at this one
abbrev pub sure_after : {L E : Type 0} → ℕ → List ℕ → Result L E → List ℕ
sure_after since sure answer = sure ++ replicate (brings answer) since

-- jobs that are answered, all at one moment and each at its place in the history, of which so many moves and these moments
-- came before the first answer
abbrev pub answered_all : {O R : Type 0} → ℕ → List (Move O R) → ℕ → List ℕ → ℕ → List (Result (Landed R) LandRefused) → List (TakenView O R) → List (TakenView O R)
answered_all faults history since sure count [] all = all
answered_all faults history since sure count (answer ∷ answers) [] = []
answered_all faults history since sure count (answer ∷ answers) (taken ∷ all) =
    answered faults (take (count + brings answer) history) (sure_after since sure answer) answer taken
    ∷ answered_all faults history since (sure_after since sure answer) (count + brings answer) answers all

-- why no job lands where memory is short: a store that has failed says so
abbrev pub shortage : {M D : Type 0} → StoreView M D → LandRefused
shortage store = cond store.failed (refusal.Failed (length store.history)) refusal.Memory

-- a job that is refused
abbrev pub with_refusal : {O R : Type 0} → LandRefused → TakenView O R → TakenView O R
with_refusal why taken = record taken { given = record (taken.given) { answer = Err why } }
