-- Why records and bytes of objects are not those of a history: behind those of one comes a record that goes no further.
use Rattle.std.specs.Prelude.{◌≡◌, ℕ, ◌+◌, ◌<◌, ◌≤◌, List, [], length, drop, slice_get}
use Rattle.std.specs.declared.option.Option.TheVariants.{Some}
use Rattle.branch_wire.specs.StoredObjects.{Begins}
use Rattle.branch_disk.specs.declared.part.Part.TheVariants.{Objects, Heads}
use Rattle.branch_history.specs.declared.moves.Move.{Move}
use Rattle.heads_journal.specs.declared.record.Record.{Record}
use Rattle.branch_machine.specs.Fixed.{Form, FixedIn}
use Rattle.branch_machine.specs.Objects.{store_after, objects_text, end_of}
use Rattle.branch_files.specs.Next.{end_at, MakesCommit, bytes_behind, HasShape, IsMade}
use Rattle.commit_replay.specs.Follows.{Follows, MayCome}
use Rattle.commit_replay.specs.declared.refused.ReplayRefused.{ReplayRefused}
use Rattle.commit_replay.specs.declared.refused.ReplayRefused.TheVariants.{NotAStore, BadRecord, Truncated, BadObject, BadCommit, Memory}

-- the history allows the record behind it, and it is of a move that makes a commit, whose objects are all there
pub record ComesWhole {S O R Q A : Type 0} {form : Form} (fixed : FixedIn form S O R Q A) (moves : List (Move O R)) (objects : List ℕ) (r : Record) : Type 0 where
  pub may : MayCome fixed moves r
  pub long : end_at r ≤ length objects
  pub makes : MakesCommit r

-- Why a record behind a history goes no further: the history does not allow it; the objects end too soon; they are
-- no objects of such a move; or they are not those of a move of the machine.
abbrev pub StopsAs : {S O R Q A : Type 0} {form : Form} → FixedIn form S O R Q A → List (Move O R) → List ℕ → Record → ReplayRefused → Type 0
StopsAs fixed moves objects r NotAStore = ⊥
StopsAs fixed moves objects r (BadRecord number) = (number ≡ length moves + 1) × ¬ MayCome fixed moves r
StopsAs fixed moves objects r (Truncated Objects place) = (place ≡ end_of fixed moves) × MayCome fixed moves r × (length objects < end_at r)
StopsAs fixed moves objects r (Truncated Heads place) = ⊥
StopsAs fixed moves objects r (BadObject place) =
    (place ≡ end_of fixed moves) × ComesWhole fixed moves objects r × ¬ HasShape fixed r (bytes_behind fixed moves objects r)
StopsAs fixed moves objects r (BadCommit number) =
    (number ≡ length (store_after fixed moves).commits) × ComesWhole fixed moves objects r
    × HasShape fixed r (bytes_behind fixed moves objects r) × ¬ IsMade fixed moves r (bytes_behind fixed moves objects r)
StopsAs fixed moves objects r Memory = Unit {0}

-- whatever bytes of objects have these behind those of the history, the record goes no further
abbrev pub StopsAheadAs : {S O R Q A : Type 0} {form : Form} → FixedIn form S O R Q A → List (Move O R) → List ℕ → Record → ReplayRefused → Type 0
StopsAheadAs fixed moves ahead r refusal = (objects : List ℕ) → ahead ≡ drop (end_of fixed moves) objects → StopsAs fixed moves objects r refusal

-- The objects do not begin with those of the empty history; or the record that comes behind some history goes no further.
abbrev pub ReplayRefusedAs : {S O R Q A : Type 0} {form : Form} → FixedIn form S O R Q A → List Record → List ℕ → ReplayRefused → Type 0
ReplayRefusedAs fixed records objects NotAStore = Begins (objects_text fixed []) objects → ⊥
ReplayRefusedAs fixed records objects Memory = Unit {0}
ReplayRefusedAs {S} {O} {R} fixed records objects refusal =
    (moves : List (Move O R)) × Follows fixed moves records objects
    × ((r : Record) × (slice_get records (length moves) ≡ Some r) × StopsAs fixed moves objects r refusal)
