-- How the walk over the records goes on.
use Rattle.std.specs.Prelude.{◌≡◌, ℕ, ◌-◌, Bool, true, false, List, [], ◌∷◌, ◌++◌, length, take, drop}
use Rattle.std.specs.declared.option.Option.{Option}
use Rattle.std.specs.declared.option.Option.TheVariants.{None, Some}
use Rattle.branch_wire.specs.Objects.{value_object}
use Rattle.branch_wire.specs.StoredObjects.{first_with}
use Rattle.branch_history.specs.declared.moves.Move.{Move}
use Rattle.branch_history.specs.History.{Store}
use Rattle.branch_history.specs.Steps.{Step, Turn}
use Rattle.heads_journal.specs.declared.record.Record.{Record}
use Rattle.branch_machine.specs.Fixed.{Form, FixedIn, Fixed}
use Rattle.branch_machine.specs.Objects.{Pair, store_after, end_of, objects_of, region}
use Rattle.branch_machine.specs.Validity.{IsFullMove, IsFullyValid, Receives}
use Rattle.branch_files.specs.Records.{record_of}
use Rattle.branch_files.specs.Next.{end_at, HasBranch, HasCommit, AreJoined, HasShape, IsMade}
use Rattle.recorded_history.specs.Views.{RecordedView}
use Rattle.commit_replay.specs.declared.commit.NotRemade.{NotRemade}
use Rattle.commit_replay.specs.declared.commit.NotRemade.TheVariants as unmade
use Rattle.commit_replay.specs.declared.lookups.Standing.{Standing}
use Rattle.commit_replay.specs.declared.plan.Plan.{Plan}
use Rattle.commit_replay.specs.declared.plan.Plan.TheVariants as plan
use Rattle.commit_replay.specs.declared.parts.Parts.{Parts}
use Rattle.commit_replay.specs.Follows.{Follows, Remakes}
use Rattle.commit_replay.specs.Parts.{value_text}
use Rattle.commit_replay.specs.Plans.{step_for}

-- a valid history, its numbers, its terms, and where its objects end
pub record IsStanding {S O R Q A : Type 0} (fixed : Fixed S O R Q A) (history : List (Move O R)) (s : Standing) : Type 0 where
  pub valid : IsFullyValid fixed history
  pub moves : s.moves ≡ length history
  pub commits : s.commits ≡ length (store_after fixed history).commits
  pub branches : s.branches ≡ length (store_after fixed history).branches
  pub terms : s.terms ≡ fixed.terms
  pub end : s.end ≡ end_of fixed history

-- the branch and the commit of a plan are there, and several commits may be joined to its head
abbrev pub HasPlan : {O R : Type 0} → Store O R → Plan O → Type 0
HasPlan s (plan.Operation branch op) = HasBranch s branch
HasPlan s (plan.Merge branch commit) = HasBranch s branch × HasCommit s commit
HasPlan s (plan.Join branch commits) = HasBranch s branch × AreJoined s branch commits

-- of the bytes that stand behind the objects of the history, those up to where the objects of the record end
abbrev pub bytes_ahead : {S O R Q A : Type 0} {form : Form} → FixedIn form S O R Q A → List (Move O R) → List ℕ → Record → List ℕ
bytes_ahead fixed moves ahead r = take (end_at r - end_of fixed moves) ahead

-- and those behind them
abbrev pub left_ahead : {S O R Q A : Type 0} {form : Form} → FixedIn form S O R Q A → List (Move O R) → List ℕ → Record → List ℕ
left_ahead fixed moves ahead r = drop (end_at r - end_of fixed moves) ahead

-- the history goes on by a move of the machine with this record and this region
pub record GoesOn {S O R Q A : Type 0} (fixed : Fixed S O R Q A) (old new : RecordedView (Move O R)) (r : Record) (bytes : List ℕ) : Type 0 where
  pub made : Move O R
  pub full : IsFullMove fixed old.written made
  pub recorded : record_of fixed old.written made ≡ r
  pub stored : region fixed old.written made ≡ bytes
  pub grown : new ≡ record { written = old.written ++ made ∷ []; pending = []; terms = old.terms }

-- a step remakes the move of the record and the region, and the history goes on by it; or it does not, and nothing has changed
abbrev pub Remade : {S O R Q A : Type 0} → Fixed S O R Q A → RecordedView (Move O R) → RecordedView (Move O R) → Step O Q → Record → List ℕ → Bool → Type 0
Remade fixed old new step r bytes true = GoesOn fixed old new r bytes
Remade fixed old new step r bytes false = (new ≡ old) × ¬ Remakes fixed old.written step r bytes

-- the machine makes, of an item, a move that has this record, and this region
pub record TakesItem {S O R Q A : Type 0} (fixed : Fixed S O R Q A) (moves : List (Move O R)) (item : Pair) (r : Record) (bytes : List ℕ) : Type 0 where
  pub turn : Turn O R A
  pub receives : Receives fixed moves item turn
  pub made : Move O R
  pub makes : turn.made ≡ made ∷ []
  pub recorded : record_of fixed moves made ≡ r
  pub stored : region fixed moves made ≡ bytes

-- that is the move, and the history goes on by it; or it does not, and nothing has changed
abbrev pub IsTaken : {S O R Q A : Type 0} → Fixed S O R Q A → RecordedView (Move O R) → RecordedView (Move O R) → Pair → Record → List ℕ → Bool → Type 0
IsTaken fixed old new item r bytes true = GoesOn fixed old new r bytes
IsTaken fixed old new item r bytes false = (new ≡ old) × ¬ TakesItem fixed old.written item r bytes

-- the object of a value, which has this spelling or, where none is told, is the stored one with this address; where no address is told either, there is none
abbrev pub IsValueOf : {S O R Q A : Type 0} → Fixed S O R Q A → List (Move O R) → Option (List ℕ) → Option (List ℕ) → List ℕ → Type 0
IsValueOf fixed moves None None value = value ≡ []
IsValueOf fixed moves None (Some address) value = first_with fixed.address address (objects_of fixed moves) ≡ Some value
IsValueOf fixed moves (Some spelling) address value = value ≡ value_object spelling

-- the item whose objects the bytes are: that of its value, where it has one, stands there, or was stored before
pub record IsItemIn {S O R Q A : Type 0} (fixed : Fixed S O R Q A) (moves : List (Move O R)) (parts : Parts) (bytes : List ℕ) (item : Pair) : Type 0 where
  pub value : IsValueOf fixed moves parts.value parts.address item.value
  pub whole : bytes ≡ value_text parts.value ++ item.commit

-- the machine makes the move of the item that the bytes are, and the history goes on by it; or it does not, and nothing has changed
abbrev pub IsReceivedIn : {S O R Q A : Type 0} → Fixed S O R Q A → RecordedView (Move O R) → RecordedView (Move O R) → Parts → Record → List ℕ → Bool → Type 0
IsReceivedIn fixed old new parts r bytes true = GoesOn fixed old new r bytes
IsReceivedIn fixed old new parts r bytes false =
    (new ≡ old) × ((item : Pair) → IsItemIn fixed old.written parts bytes item → ¬ TakesItem fixed old.written item r bytes)

-- the move of a plan, or of the item, is made anew
abbrev pub MadeAnew : {S O R Q A : Type 0} → Fixed S O R Q A → RecordedView (Move O R) → RecordedView (Move O R) → Option (Plan O) → Parts → Record → List ℕ → Bool → Type 0
MadeAnew fixed old new (Some p) parts r bytes same = Remade fixed old new (step_for old.terms old.written p) r bytes same
MadeAnew fixed old new None parts r bytes same = IsReceivedIn fixed old new parts r bytes same

-- the pending move has this record and this region, and is settled; or it has not, and is undone
abbrev pub IsKeptIfSame : {S O R Q A : Type 0} → Fixed S O R Q A → RecordedView (Move O R) → RecordedView (Move O R) → Move O R → Record → List ℕ → Bool → Type 0
IsKeptIfSame fixed old new made r bytes true =
    (record_of fixed old.written made ≡ r) × (region fixed old.written made ≡ bytes) × (new ≡ record { written = old.written ++ made ∷ []; pending = []; terms = old.terms })
IsKeptIfSame fixed old new made r bytes false = (new ≡ record old { pending = [] }) × (record_of fixed old.written made ≡ r → region fixed old.written made ≡ bytes → ⊥)

-- why the bytes are not those of a move of the machine with this record
abbrev pub NotRemadeAs : {S O R Q A : Type 0} {form : Form} → FixedIn form S O R Q A → List (Move O R) → Record → List ℕ → NotRemade → Type 0
NotRemadeAs fixed history r bytes unmade.Object = ¬ HasShape fixed r bytes
NotRemadeAs fixed history r bytes unmade.Commit = HasShape fixed r bytes × ¬ IsMade fixed history r bytes
NotRemadeAs fixed history r bytes unmade.Memory = Unit {0}

-- so many of the records are those of the history, which has nothing pending
pub record IsWalked {S O R Q A : Type 0} {form : Form} (fixed : FixedIn form S O R Q A) (r : RecordedView (Move O R)) (count : ℕ) (records : List Record) (objects : List ℕ) : Type 0 where
  pub settled : r.pending ≡ []
  pub terms : r.terms ≡ fixed.terms
  pub counted : length r.written ≡ count
  pub follows : Follows fixed r.written records objects
