-- The objects of a history as they are copied, commit by commit.
use Rattle.std.specs.Prelude.{ℕ, List, [], ◌∷◌, ◌++◌, length, if◌then◌else◌}
use Rattle.std.specs.declared.option.Option.{Option}
use Rattle.std.specs.declared.option.Option.TheVariants.{None, Some}
use Rattle.std.specs.List.{flat_map, list_any}
use Rattle.branch_machine.specs.Objects.{Pair, both, commit_text, value_text}
use Rattle.branch_wire.specs.StoredObjects.{Stored, file_of, fresh, same}
use Rattle.store_compact.specs.declared.copying.Placed.{Placed}

-- the objects of commits in the order of the file, each once
abbrev pub objects_in : List Pair → Stored
objects_in pairs = fresh [] (flat_map both pairs)

-- the address of the object of a value, where there is one
abbrev pub value_address : (List ℕ → List ℕ) → List ℕ → Option (List ℕ)
value_address address [] = None
value_address address (b ∷ bs) = Some (address (b ∷ bs))

-- an address, where there is one
abbrev pub listed : Option (List ℕ) → List (List ℕ)
listed None = []
listed (Some address) = address ∷ []

-- the addresses of the values of commits, each once
abbrev pub values_in : (List ℕ → List ℕ) → List Pair → List (List ℕ)
values_in address pairs = fresh [] (flat_map (λ p. listed (value_address address p.value)) pairs)

-- the objects of the commit of this number
abbrev pub pair_of : List Pair → ℕ → Pair
pair_of pairs n = record { value = value_text pairs n; commit = commit_text pairs n }

-- an object, but where its address is known
abbrev pub unless_known : List (List ℕ) → List ℕ → List ℕ → Stored
unless_known known address object = if list_any (same address) known then [] else object ∷ []

-- the same of an object that has an address; another one is none
abbrev pub kept_unless : List (List ℕ) → Option (List ℕ) → List ℕ → Stored
kept_unless known None object = []
kept_unless known (Some address) object = unless_known known address object

-- what a commit adds where these addresses of values are known: the object of its value, if there is one and it is not there, and its own
abbrev pub added : (List ℕ → List ℕ) → List (List ℕ) → Pair → Stored
added address known p = kept_unless known (value_address address p.value) p.value ++ p.commit ∷ []

-- of more commits, behind others, the address of each, and where the objects end behind it
abbrev pub placed_after : (List ℕ → List ℕ) → List Pair → List Pair → List Placed
placed_after address before [] = []
placed_after address before (p ∷ ps) =
    record { address = address p.commit; end = length (file_of (objects_in (before ++ p ∷ []))) }
    ∷ placed_after address (before ++ p ∷ []) ps

-- of each commit the address, and where the objects end behind it
abbrev pub placed_of : (List ℕ → List ℕ) → List Pair → List Placed
placed_of address pairs = placed_after address [] pairs
