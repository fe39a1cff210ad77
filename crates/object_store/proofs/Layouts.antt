-- What a layout keeps of a value, as the objects of histories have it.
use Rattle.std.proofs.Common.{◌≡◌, ℕ, List, refl}
use Rattle.branch_names.specs.declared.layout.Layout.{Layout}
use Rattle.branch_names.specs.declared.layout.Layout.TheVariants.{Whole, Changes}
use Rattle.branch_machine.specs.Objects.{kept_value, kept_address}
use Rattle.object_store.specs.Commits.{kept_spelling, value_of, value_address_of}

pub value-kept : (layout : Layout) (spelling : List ℕ) → value_of (kept_spelling layout spelling) ≡ kept_value layout spelling
value-kept Whole spelling = refl
value-kept Changes spelling = refl

pub address-kept : (address : List ℕ → List ℕ) (layout : Layout) (spelling : List ℕ) → value_address_of address (kept_spelling layout spelling) ≡ kept_address layout (address (kept_value layout spelling))
address-kept address Whole spelling = refl
address-kept address Changes spelling = refl
