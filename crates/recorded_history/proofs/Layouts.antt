-- What a layout keeps of a value: its spelling, its object, and this object's address.
use Rattle.std.proofs.Common.{◌≡◌, ℕ, List, refl, ap, sym, ◌∙◌, Option, Some, None, IfSome}
use Rattle.branch_names.specs.declared.layout.Layout.{Layout}
use Rattle.branch_names.specs.declared.layout.Layout.TheVariants.{Whole, Changes}
use Rattle.branch_wire.specs.Objects.{value_object}
use Rattle.branch_wire.specs.Reading.{HasLength}
use Rattle.branch_objects_codec.specs.Grammar.{IsValueAddress}
use Rattle.branch_machine.specs.Objects.{kept_value, kept_address}
use Rattle.object_store.specs.Commits.{kept_spelling, value_of, value_address_of}
use Rattle.object_store.proofs.Layouts.{value-kept, address-kept}
use Rattle.store_seen.specs.Keeps as seen

same-spelling : (layout : Layout) (spelling : List ℕ) → seen.kept_spelling layout spelling ≡ kept_spelling layout spelling
same-spelling Whole spelling = refl
same-spelling Changes spelling = refl

-- what is written of a value leads to the object that is kept, and to its address
module _ (layout : Layout) (spelling : List ℕ) (value : Option (List ℕ)) (is : value ≡ seen.kept_spelling layout spelling) where
  kept : value ≡ kept_spelling layout spelling
  kept = is ∙ same-spelling layout spelling

  pub value-is : value_of value ≡ kept_value layout spelling
  value-is = ap value_of kept ∙ value-kept layout spelling

  pub address-is : (address : List ℕ → List ℕ) → value_address_of address value ≡ kept_address layout (address (value_of value))
  address-is address = ap (value_address_of address) kept ∙ address-kept address layout spelling ∙ ap (λ (v : List ℕ). kept_address layout (address v)) (sym value-is)

-- an address that is kept has its length
pub kept-sized : (layout : Layout) (a : List ℕ) → HasLength 32 a → IsValueAddress (kept_address layout a)
kept-sized Whole a size = size
kept-sized Changes a size = tt

-- the address that was worked out is that of the value's object
pub address-told : (address : List ℕ → List ℕ) (layout : Layout) (spelling : List ℕ) (value : Option (List ℕ)) → value ≡ seen.kept_spelling layout spelling → (known : Option (List ℕ)) → IfSome known (λ a. Some a ≡ value_address_of address value)
    → IfSome known (λ a. a ≡ address (value_object spelling))
address-told address layout spelling value is None told = tt
address-told address Whole spelling value is (Some a) told =
    let same : Some a ≡ Some (address (value_object spelling)) = told ∙ ap (value_address_of address) is in
    cc same
address-told address Changes spelling value is (Some a) told =
    let none : Some a ≡ None = told ∙ ap (value_address_of address) is in
    cc none
