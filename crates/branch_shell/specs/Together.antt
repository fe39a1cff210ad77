-- Clients that work side by side on one store: what is written of them, and what a crash leaves.
use Rattle.std.specs.Prelude.{◌≡◌, ◌≢◌, ℕ, ◌+◌, ◌≤◌, ◌⊎◌, List, [], ◌∷◌, ◌++◌, codes, length, slice_get, Some, None, option_map}
use Rattle.std.specs.declared.option.Option.{Option}
use Rattle.std.specs.List.{AllByRecursion}
use mathlib.Core.List.{IsPrefix}
use Rattle.branch_disk.specs.declared.disk.Disk.{Ghosts}
use Rattle.branch_disk.specs.Disk.{Files, LeavesOnly}
use Rattle.branch_history.specs.declared.moves.Move.{Move}
use Rattle.branch_history.specs.Steps as machine
use Rattle.branch_machine.specs.Validity.{IsFullyValid}
use Rattle.branch_print.specs.Texts.{refusal_text, line_end}
use Rattle.branch_print.specs.Reports.{report_text}
use Rattle.branch_print.specs.Clients.{client_text, client_done_text}
use Rattle.branch_command.specs.Work.{Clients}
use Rattle.parallel_clients.specs.declared.outcome.ClientRefusal.{ClientRefusal}
use Rattle.parallel_clients.specs.declared.outcome.ClientRefusal.TheVariants as refused
use Rattle.parallel_clients.specs.declared.outcome.Outcome.{Outcome}
use Rattle.parallel_clients.specs.declared.outcome.Outcome.TheVariants as outcome
use Rattle.parallel_clients.specs.Outcomes.{setting}
use Rattle.client_runs.specs.Worked.{HaveWorked, IsOfClients}
use Rattle.branch_shell.specs.declared.status.Status.{Status}
use Rattle.branch_shell.specs.declared.status.Status.TheVariants.{DiskFault, Memory}
use Rattle.branch_shell.specs.Stores.{Stored, ReadsAsStore, IsOpenedAs}
use Rattle.branch_shell.specs.Values.{ValueType}
use Rattle.branch_shell.specs.Bundling.{fixed_for}

-- the machine's refusal of a client's step; none, where the disk failed or memory was short, nor of a step on sequences, which no client of drawn steps has
abbrev pub machine_refusal : ClientRefusal → Option machine.Refusal
machine_refusal (refused.UnknownBranch name) = Some (machine.UnknownBranch name)
machine_refusal (refused.Dropped branch) = Some (machine.Dropped branch)
machine_refusal refused.KeepsMain = Some machine.KeepsMain
machine_refusal (refused.Exhausted clock) = Some (machine.Exhausted clock)
machine_refusal (refused.FullCommits count) = Some (machine.FullCommits count)
machine_refusal (refused.FullBranches count) = Some (machine.FullBranches count)
machine_refusal (refused.FullMoves count) = Some (machine.FullMoves count)
machine_refusal (refused.ValueTooLarge size) = Some (machine.ValueTooLarge size)
machine_refusal (refused.Collision address stored fresh) = Some (machine.Collision address stored fresh)
machine_refusal refused.NoSequences = None
machine_refusal refused.DiskFault = None
machine_refusal (refused.Failed count) = None
machine_refusal refused.Memory = None

-- the line of a client that was refused
abbrev pub refused_line : ℕ → machine.Refusal → List ℕ
refused_line client refusal = (client_text client ++ codes " ") ++ (refusal_text [] refusal ++ line_end)

-- The line of a client: how many moves it landed, or why it was refused. There is none where the disk failed or memory was short, nor of a step that names a session
-- that has not looked.
abbrev pub client_line : ℕ → Outcome → Option (List ℕ)
client_line client (outcome.Done places) = Some (client_done_text client (length places) ++ line_end)
client_line client (outcome.Refused step refusal places) = option_map (refused_line client) (machine_refusal refusal)
client_line client (outcome.Unseen step places) = None

-- two texts, where there are both
abbrev pub both_texts : Option (List ℕ) → Option (List ℕ) → Option (List ℕ)
both_texts (Some first) (Some second) = Some (first ++ second)
both_texts _ _ = None

-- a line for each client, from one with a number on; none where one of them has none
abbrev pub client_lines : ℕ → List Outcome → Option (List ℕ)
client_lines client [] = Some []
client_lines client (one ∷ others) = both_texts (client_line client one) (client_lines (client + 1) others)

-- a line for each client, and then the report of a store of this first origin with this history
pub record TellsClients {O R : Type 0} (origin : ℕ) (outcomes : List Outcome) (history : List (Move O R)) (text : List ℕ) : Type 0 where
  pub lines : List ℕ
  pub told : client_lines 0 outcomes ≡ Some lines
  pub text_is : text ≡ lines ++ report_text origin history

-- Clients worked on the store, which came to this history. Their places are the numbers of the moves behind the old one, each once. How many faults the disk had had
-- when the store was opened, and how many since, matters only to refusals that have no line.
pub record WorkedTogether {S O R Q A : Type 0} (of : ValueType S O R Q A) (address : List ℕ → List ℕ) (store : Stored O R) (clients : Clients) (history : List (Move O R)) (outcomes : List Outcome) : Type 0 where
  pub opened : ℕ
  pub since : ℕ
  pub grown : IsPrefix store.history history
  pub valid : IsFullyValid (fixed_for of.meaning address store) history
  pub worked : HaveWorked (setting (fixed_for of.meaning address store) of.forms opened) store.history history since clients.count clients.work.steps clients.work.number outcomes

-- clients worked on the store, which came to this history, and this is their text
pub record ToldTogether {S O R Q A : Type 0} (of : ValueType S O R Q A) (address : List ℕ → List ℕ) (store : Stored O R) (clients : Clients) (history : List (Move O R)) (text : List ℕ) : Type 0 where
  pub outcomes : List Outcome
  pub worked : WorkedTogether of address store clients history outcomes
  pub tells : TellsClients store.terms.origin outcomes history text

-- the text of clients that worked on a store
abbrev pub SaysOver : {S O R Q A : Type 0} → ValueType S O R Q A → (List ℕ → List ℕ) → Stored O R → Clients → List ℕ → Type 0
SaysOver {S} {O} {R} of address store clients text = (history : List (Move O R)) × ToldTogether of address store clients history text

-- the text of clients that worked on the store that opening found
abbrev pub SaysTogether : {S O R Q A : Type 0} → ValueType S O R Q A → (List ℕ → List ℕ) → Option Files → Clients → List ℕ → Type 0
SaysTogether {S} {O} {R} of address told clients text = (store : Stored O R) × IsOpenedAs of.kind of.meaning address told store × SaysOver of address store clients text

-- the store with another history
abbrev pub with_history : {O R : Type 0} → Stored O R → List (Move O R) → Stored O R
with_history store history = record { terms = store.terms; history = history }

-- clients worked on a store and this is their text, and each image of the disk reads as the store with the history that they came to
pub record RanOver {S O R Q A D : Type 0} (may_leave : D → Files → Type 0) (of : ValueType S O R Q A) (address : List ℕ → List ℕ) (store : Stored O R) (clients : Clients) (new : D) (text : List ℕ) : Type 0 where
  pub history : List (Move O R)
  pub told : ToldTogether of address store clients history text
  pub reads : (c : Files) → may_leave new c → ReadsAsStore of.meaning address (with_history store history) c

-- clients worked so on the store that opening found
abbrev pub RanTogether : {S O R Q A D : Type 0} → (D → Files → Type 0) → ValueType S O R Q A → (List ℕ → List ℕ) → Option Files → Clients → D → List ℕ → Type 0
RanTogether {S} {O} {R} may_leave of address told clients new text = (store : Stored O R) × IsOpenedAs of.kind of.meaning address told store × RanOver may_leave of address store clients new text

-- the store came to this history by clients, or has its own still, since none of them began
abbrev pub CameTogether : {S O R Q A : Type 0} → ValueType S O R Q A → (List ℕ → List ℕ) → Stored O R → Clients → List (Move O R) → Type 0
CameTogether of address store clients history = (history ≡ store.history) ⊎ ((outcomes : List Outcome) × WorkedTogether of address store clients history outcomes)

-- The files read as the store with a part of a history, from its beginning on, that has at least the store's own.
pub record ReadsFrom {S O R Q A : Type 0} (of : ValueType S O R Q A) (address : List ℕ → List ℕ) (store : Stored O R) (history : List (Move O R)) (c : Files) : Type 0 where
  pub moves : List (Move O R)
  pub begins : IsPrefix store.history moves
  pub within : IsPrefix moves history
  pub reads : ReadsAsStore of.meaning address (with_history store moves) c

-- The files read as the store with this history, and behind it the first of more moves: none of them, some or all.
abbrev pub ReadsWithFirst : {S O R Q A : Type 0} → ValueType S O R Q A → (List ℕ → List ℕ) → Stored O R → List (Move O R) → List (Move O R) → Files → Type 0
ReadsWithFirst {S} {O} {R} of address store history more c =
    (first : List (Move O R)) × IsPrefix first more × ReadsAsStore of.meaning address (with_history store (history ++ first)) c

-- What a crash leaves from the moment on when a store was opened on which clients work. They came to one history, however they ended. Behind it there may be a tail of
-- at most 64 moves that are valid there, each of which a drawn step of some client may make: none but after a fault of the disk. At each moment an image has a part of these moves with at least those that the store had;
-- and at the end the whole history, with the first moves of the tail.
pub record SurvivesClients {S O R Q A D : Type 0} (disk : Ghosts D) (of : ValueType S O R Q A) (address : List ℕ → List ℕ) (store : Stored O R) (clients : Clients) (opened new : D) (status : Status) : Type 0 where
  pub history : List (Move O R)
  pub tail : List (Move O R)
  pub came : CameTogether of address store clients history
  pub none : status ≢ DiskFault → tail ≡ []
  pub few : length tail ≤ 64
  pub allowed : AllByRecursion (IsOfClients of.forms clients.count clients.work.steps clients.work.number) tail
  pub valid : IsFullyValid (fixed_for of.meaning address store) (history ++ tail)
  pub any_moment : LeavesOnly disk.moment disk.left_since opened new (ReadsFrom of address store (history ++ tail))
  pub at_end : (c : Files) → disk.may_leave new c → ReadsWithFirst of address store history tail c

-- a client's step was not refused for a branch that is not there
abbrev pub FindsBranch : ClientRefusal → Type 0
FindsBranch (refused.UnknownBranch name) = ⊥
FindsBranch refused.NoSequences = ⊥
FindsBranch refusal = Unit {0}

-- no step of a client named a branch that is not there, or a session that has not looked
abbrev pub FindsAll : Outcome → Type 0
FindsAll (outcome.Done places) = Unit {0}
FindsAll (outcome.Refused step refusal places) = FindsBranch refusal
FindsAll (outcome.Unseen step places) = ⊥

-- a client's step was refused since the disk had failed
abbrev pub IsFault : ClientRefusal → Type 0
IsFault refused.DiskFault = Unit {0}
IsFault (refused.Failed count) = Unit {0}
IsFault refusal = ⊥

abbrev pub TellsFault : Outcome → Type 0
TellsFault (outcome.Refused step refusal places) = IsFault refusal
TellsFault one = ⊥

-- some client's step was refused since the disk had failed
abbrev pub SomeTellFault : List Outcome → Type 0
SomeTellFault outcomes = (client : ℕ) × (one : Outcome) × (slice_get outcomes client ≡ Some one) × TellsFault one

-- writing was stopped for want of memory, or for a fault of the disk that was told
abbrev pub StopsFor : Type 0 → Status → Type 0
StopsFor fault DiskFault = fault
StopsFor fault Memory = Unit {0}
StopsFor fault status = ⊥
