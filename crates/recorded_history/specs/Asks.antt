-- What the fields of a commit's object ask for, and whether an item has what was made anew of them.
use Rattle.std.specs.Prelude.{◌≡◌, ℕ, List, [], ◌∷◌, map, Option}
use Rattle.std.specs.List.{AllByRecursion}
use Rattle.mrdt_model.specs.Laws.{Meaning}
use Rattle.branch_wire.specs.declared.action.Action.{Action}
use Rattle.branch_wire.specs.declared.action.Action.TheVariants as wire
use Rattle.branch_wire.specs.Objects.{CommitFields, commit_object}
use Rattle.branch_history.specs.declared.moves.Move.{Move}
use Rattle.branch_history.specs.Steps as machine
use Rattle.branch_history.specs.Validity.{IsStep, AreCommits}
use Rattle.branch_machine.specs.Fixed.{Fixed, fix}
use Rattle.branch_machine.specs.Objects.{Pair, address_at, store_after, pairs_of}
use Rattle.branch_machine.specs.Validity.{IsFullyValid}
use Rattle.object_store.specs.Commits.{value_of, value_address_of}
use Rattle.store_seen.specs.declared.arrival.WrittenArrival.{WrittenArrival}
use Rattle.store_seen.specs.declared.arrival.WrittenArrival.TheVariants as written
use Rattle.store_seen.specs.Keeps.{bytes_at}
use Rattle.store_seen.specs.Views.{VersionsView}
use Rattle.recorded_history.specs.declared.arriving.Fields.{Fields}
use Rattle.recorded_history.specs.Machine.{addresses_of}

-- the fields that were read
abbrev pub fields_in : Fields → CommitFields
fields_in f = record { parents = f.parents; branch = f.origin; clock = f.clock; value = f.value; action = f.action }

-- an item of a value's object, which is empty where there is none, and of the object of a commit with these fields
abbrev pub item_with : List ℕ → CommitFields → Pair
item_with value f = record { value = value; commit = commit_object f }

-- these commits are there, and have these addresses
pub record HaveAddresses {S O R Q A : Type 0} (fixed : Fixed S O R Q A) (history : List (Move O R)) (addresses : List (List ℕ)) (commits : List ℕ) : Type 0 where
  pub there : AreCommits (store_after fixed history).commits commits
  pub addressed : map (address_at fixed.address (pairs_of fixed (store_after fixed history).commits)) commits ≡ addresses

-- the step receives a commit with these parents, of this origin, that does this
abbrev pub Asks : {S O R Q A : Type 0} → Fixed S O R Q A → List (Move O R) → CommitFields → machine.Step O Q → Type 0
Asks fixed history f (machine.ReceiveOperation origin h op) =
    HaveAddresses fixed history f.parents (h ∷ []) × (f.branch ≡ origin) × (reply : List ℕ) × (f.action ≡ wire.Operation (fixed.meaning.op_spelling op) reply)
Asks fixed history f (machine.ReceiveMerge origin h ms) =
    HaveAddresses fixed history f.parents (h ∷ ms) × (f.branch ≡ origin) × (f.action ≡ wire.Merge)
Asks fixed history f step = ⊥

-- and it is a step of the machine
pub record IsAsked {S O R Q A : Type 0} (fixed : Fixed S O R Q A) (history : List (Move O R)) (f : CommitFields) (step : machine.Step O Q) : Type 0 where
  pub asks : Asks fixed history f step
  pub may : IsStep fixed.meaning (store_after fixed history) step

-- what is done is an operation with this reply
abbrev pub Replies : Action → List ℕ → Type 0
Replies (wire.Operation op reply) given = reply ≡ given
Replies action given = ⊥

-- the spelling of the value that was made anew, where the layout keeps it
abbrev pub value_spelling : WrittenArrival → Option (List ℕ)
value_spelling (written.Operation parent clock size value_bytes op_bytes reply_bytes) = bytes_at value_bytes
value_spelling (written.Merge parents clock size value_bytes) = bytes_at value_bytes

-- the objects are of the value, where the layout keeps it, and of the commit that were made anew
abbrev pub IsTold : (List ℕ → List ℕ) → List ℕ → CommitFields → WrittenArrival → Type 0
IsTold address value f (written.Operation parent clock size value_bytes op_bytes reply_bytes) =
    (f.clock ≡ clock) × Replies f.action reply_bytes.now × (value ≡ value_of (bytes_at value_bytes)) × (f.value ≡ value_address_of address (bytes_at value_bytes))
IsTold address value f (written.Merge parents clock size value_bytes) =
    (f.clock ≡ clock) × (value ≡ value_of (bytes_at value_bytes)) × (f.value ≡ value_address_of address (bytes_at value_bytes))

-- a fully valid history, with the address of each commit
pub record IsAddressed {S O R Q A : Type 0} (meaning : Meaning S O R Q A) (address : List ℕ → List ℕ) (versions : VersionsView (Move O R)) : Type 0 where
  pub valid : IsFullyValid (fix meaning versions.core.terms address) versions.core.history
  pub addressed : versions.addresses ≡ addresses_of (fix meaning versions.core.terms address) versions.core.history
