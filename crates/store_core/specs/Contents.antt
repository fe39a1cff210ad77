-- What a disk that tells its bytes has of a store, byte for byte.
use Rattle.std.specs.Prelude.{◌≡◌, ℕ, ◌+◌, ◌*◌, List, [], ◌∷◌, ◌++◌, length, drop, Option}
use Rattle.branch_disk.specs.Disk.{Files, Tells, Torn}
use Rattle.mrdt_model.specs.Laws.{Meaning}
use Rattle.branch_history.specs.declared.moves.Move.{Move}
use Rattle.branch_history.specs.Steps.{Step}
use Rattle.branch_machine.specs.Fixed.{Fixed, fix}
use Rattle.branch_machine.specs.Machine.{full_turn}
use Rattle.branch_machine.specs.Objects.{objects_text, end_of, region}
use Rattle.branch_files.specs.Records.{history_text, gate_of}
use Rattle.recorded_history.specs.Machine.{regions}
use Rattle.recorded_history.specs.Views.{RecordedView}
use Rattle.store_core.specs.Views.{StoreView}

-- a text, and behind it what the old bytes have behind its length
abbrev pub over : List ℕ → List ℕ → List ℕ
over text old = text ++ drop (length text) old

-- the header and the records of a history, each behind an open gate, and one closed gate
abbrev pub closed_text : {S O R Q A : Type 0} → Fixed S O R Q A → List (Move O R) → List ℕ
closed_text fixed history = history_text fixed history ++ 0 ∷ []

-- The files of a store, written over old ones: exactly the objects of the history, and exactly its records and one closed gate. Behind these stands what stood there in the old files.
abbrev pub files_with : {S O R Q A : Type 0} → Fixed S O R Q A → List (Move O R) → Files → Files
files_with fixed history old = record { objects = over (objects_text fixed history) old.objects; heads = over (closed_text fixed history) old.heads }

-- what was told is told now with the files of the history over it, and no other byte has changed
abbrev pub HoldsExactly : {S O R Q A : Type 0} → Fixed S O R Q A → List (Move O R) → Option Files → Option Files → Type 0
HoldsExactly fixed history = Tells (λ old new. new ≡ files_with fixed history old)

-- Any bytes may stand in so many of the objects from a place on, and in so many of the heads from a gate on. All others are the old ones.
pub record AreTorn (start count gate width : ℕ) (old new : Files) : Type 0 where
  pub objects : Torn start count old.objects new.objects
  pub heads : Torn gate width old.heads new.heads

-- the same with 65 bytes of the heads, which is a record with the gates before and behind it
abbrev pub IsTorn : ℕ → ℕ → ℕ → Files → Files → Type 0
IsTorn start count gate = AreTorn start count gate 65

-- what was told is told now but for the region and the record of the move that comes behind the history, if one does
abbrev pub MayBeTorn : {S O R Q A : Type 0} → Fixed S O R Q A → List (Move O R) → List (Move O R) → Option Files → Option Files → Type 0
MayBeTorn {S} {O} {R} fixed history more old new = (made : Move O R) → more ≡ made ∷ [] → Tells (IsTorn (end_of fixed history) (length (region fixed history made)) (gate_of fixed history)) old new

-- what was told is told now but for the regions of moves that come behind the history, and for their records with the gates before, between and behind them
abbrev pub MayTearAll : {S O R Q A : Type 0} → Fixed S O R Q A → List (Move O R) → List (Move O R) → Option Files → Option Files → Type 0
MayTearAll fixed history more = Tells (AreTorn (end_of fixed history) (length (regions fixed history more)) (gate_of fixed history) (64 * length more + 1))

-- the same of a recorded history, whose pending moves are put on the disk
abbrev pub PutsExactly : {S O R Q A : Type 0} → Meaning S O R Q A → (List ℕ → List ℕ) → RecordedView (Move O R) → Option Files → Option Files → Type 0
PutsExactly meaning address r = HoldsExactly (fix meaning r.terms address) (r.written ++ r.pending)

abbrev pub MayTear : {S O R Q A : Type 0} → Meaning S O R Q A → (List ℕ → List ℕ) → RecordedView (Move O R) → Option Files → Option Files → Type 0
MayTear meaning address r = MayTearAll (fix meaning r.terms address) r.written r.pending

-- the disk of a store tells exactly the bytes of the history that it has now, over what it told before
abbrev pub LeavesExactly : {D S O R Q A : Type 0} → Meaning S O R Q A → (List ℕ → List ℕ) → (D → Option Files) → StoreView (Move O R) D → StoreView (Move O R) D → Type 0
LeavesExactly meaning address contents old new = HoldsExactly (fix meaning old.terms address) new.history (contents old.disk) (contents new.disk)

-- it tells what it told before, but for the region and the record of the move that the machine makes of a step
abbrev pub LeavesTorn : {D S O R Q A : Type 0} → Meaning S O R Q A → (List ℕ → List ℕ) → (D → Option Files) → StoreView (Move O R) D → StoreView (Move O R) D → Step O Q → Type 0
LeavesTorn meaning address contents old new step =
    let fixed = fix meaning old.terms address in
    MayBeTorn fixed old.history (full_turn fixed old.history step).made (contents old.disk) (contents new.disk)
