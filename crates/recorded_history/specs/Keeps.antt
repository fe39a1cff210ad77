-- What a recorded history keeps.
use Rattle.std.specs.Prelude.{◌≡◌, ℕ, List, [], ◌∷◌, ◌++◌, length, take, None}
use Rattle.mrdt_model.specs.Laws.{Meaning}
use Rattle.branch_names.specs.declared.terms.Terms.{Terms}
use Rattle.branch_history.specs.declared.moves.Move.{Move}
use Rattle.branch_history.specs.History.{store_of}
use Rattle.branch_machine.specs.Fixed.{Fixed, fix}
use Rattle.branch_machine.specs.Objects.{objects_of, end_of}
use Rattle.branch_machine.specs.Machine.{collision_refusal}
use Rattle.branch_machine.specs.Validity.{IsFullyValid}
use Rattle.branch_files.specs.Records.{record_with, record_of}
use Rattle.object_store.specs.Views.{ObjectsView}
use Rattle.store_seen.specs.Turns.{StoodAt, addresses_after}
use Rattle.store_seen.specs.Views.{CoreView, VersionsView, Work}
use Rattle.recorded_history.specs.Machine.{addresses_of}
use Rattle.recorded_history.specs.Views.{RecordedView}

-- the branch of each pending move stood at the commit of the same place before it
abbrev pub CameFrom : {O R : Type 0} → Terms → List (Move O R) → List (Move O R) → List ℕ → Type 0
CameFrom terms history [] [] = Unit {0}
CameFrom terms history [] (head ∷ stood) = ⊥
CameFrom terms history (made ∷ pending) [] = ⊥
CameFrom terms history (made ∷ pending) (head ∷ stood) = StoodAt terms history made head × CameFrom terms (history ++ made ∷ []) pending stood

-- the core has the settled moves, and behind them pending ones, which came from these commits
pub record CameBehind {O R : Type 0} (settled core : CoreView (Move O R)) (stood : List ℕ) : Type 0 where
  pub pending : List (Move O R)
  pub whole : core ≡ record { history = settled.history ++ pending; terms = settled.terms }
  pub came : CameFrom settled.terms settled.history pending stood

-- the core is the settled one again, with the addresses of its commits
abbrev pub IsBackAt : {O R : Type 0} → CoreView (Move O R) → VersionsView (Move O R) → VersionsView (Move O R) → Type 0
IsBackAt settled old new = new ≡ record { core = settled; addresses = take (length (store_of settled.terms.origin settled.history).commits) old.addresses }

-- A fully valid history. The half in memory has all its moves, with the address of each commit; of its objects those of the written moves are stored, and those of the pending ones are staged.
pub record IsRecorded {S O R Q A : Type 0} (meaning : Meaning S O R Q A) (address : List ℕ → List ℕ) (r : RecordedView (Move O R)) (stood : List ℕ) (versions : VersionsView (Move O R)) (objects : ObjectsView) : Type 0 where
  pub valid : IsFullyValid (fix meaning r.terms address) (r.written ++ r.pending)
  pub came : CameFrom r.terms r.written r.pending stood
  pub moves : versions.core ≡ record { history = r.written ++ r.pending; terms = r.terms }
  pub addressed : versions.addresses ≡ addresses_of (fix meaning r.terms address) (r.written ++ r.pending)
  pub stored : objects.stored ≡ objects_of (fix meaning r.terms address) r.written
  pub staged : objects.stored ++ objects.staged ≡ objects_of (fix meaning r.terms address) (r.written ++ r.pending)

-- a fully valid history in memory, with the address of each commit; its objects are stored or staged
pub record IsLaidOut {S O R Q A : Type 0} (meaning : Meaning S O R Q A) (address : List ℕ → List ℕ) (versions : VersionsView (Move O R)) (objects : ObjectsView) : Type 0 where
  pub valid : IsFullyValid (fix meaning versions.core.terms address) versions.core.history
  pub addressed : versions.addresses ≡ addresses_of (fix meaning versions.core.terms address) versions.core.history
  pub whole : objects.stored ++ objects.staged ≡ objects_of (fix meaning versions.core.terms address) versions.core.history

-- the objects of a move are staged behind those of the history, and do not collide; its work's commit, if it makes one, has this address
pub record IsStaged {S O R Q A : Type 0} (fixed : Fixed S O R Q A) (history : List (Move O R)) (work : Work O R) (made : Move O R) (old new : ObjectsView) (address : List ℕ) : Type 0 where
  pub free : collision_refusal fixed history made ≡ None
  pub stored : new.stored ≡ old.stored
  pub staged : new.stored ++ new.staged ≡ objects_of fixed (history ++ made ∷ [])
  pub addressed : addresses_after work address (addresses_of fixed history) ≡ addresses_of fixed (history ++ made ∷ [])
  pub recorded : record_with address (end_of fixed (history ++ made ∷ [])) made ≡ record_of fixed history made
