-- The objects of a commit, as they are lent out.
use Rattle.std.specs.Prelude.{◌≡◌, ◌≤◌, ℕ, List, [], length}
use Rattle.std.specs.Borrow.{Bor}
use Rattle.std.specs.List.{AllByRecursion}
use Rattle.std.specs.Option.{option_map}
use Rattle.std.specs.declared.option.Option.{Option}
use Rattle.std.specs.declared.option.Option.TheVariants.{None, Some}
use Rattle.branch_wire.specs.Objects.{CommitFields}
use Rattle.branch_wire.specs.Reading.{HasLength}
use Rattle.branch_wire.specs.StoredObjects.{Stored, first_with}
use Rattle.branch_objects_codec.specs.Grammar.{IsValueAddress}
use Rattle.branch_machine.specs.Objects.{Pair}

-- the object of a commit's value, which is empty where there is none, and the commit's own
abbrev pub lent_pair : Bor (List ℕ) × Bor (List ℕ) → Pair
lent_pair both = record { value = both.0.now; commit = both.1.now }

-- the same where there may be none
abbrev pub lent_item : Option (Bor (List ℕ) × Bor (List ℕ)) → Option Pair
lent_item item = option_map lent_pair item

-- the addresses in a commit have 32 bytes, that of its value where it has one, and it has nine parents at most
pub record AreSized (c : CommitFields) : Type 0 where
  pub parents : AllByRecursion (HasLength 32) c.parents
  pub few : length c.parents ≤ 9
  pub value : IsValueAddress c.value

-- the first stored object with the address of a commit's value is this one; it is empty where the commit has no such address
abbrev pub FindsValue : (List ℕ → List ℕ) → Stored → Option (List ℕ) → List ℕ → Type 0
FindsValue address stored None value = value ≡ []
FindsValue address stored (Some a) value = first_with address a stored ≡ Some value
