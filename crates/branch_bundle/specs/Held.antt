-- Bundles as they are held, with a number for each item.
use Rattle.std.specs.Prelude.{◌≡◌, ℕ, ◌+◌, List, [], ◌∷◌, ◌++◌, map, codes}
use Rattle.branch_names.specs.declared.layout.Layout.{Layout}
use Rattle.branch_wire.specs.Fields.{short_number, counted}
use Rattle.branch_machine.specs.Objects.{Pair}
use Rattle.branch_bundle_laws.specs.Bundles.{Bundle as Plain}
use Rattle.branch_bundle_laws.specs.Text.{item_text, bundle_version, bundle_text, IsBundle}
use Rattle.branch_bundle.specs.declared.bundle.Bundle.{Bundle}
use Rattle.branch_bundle.specs.declared.bundle.Item.{Item}

-- the objects of an item
abbrev pub pair_of : Item → Pair
pair_of item = record { value = item.value; commit = item.commit }

-- the bundle without the numbers of its items
abbrev pub plain : Bundle → Plain
plain b = record { tip = b.tip; items = map pair_of b.items }

-- the bytes of an item, of a count and items, and of a bundle
abbrev pub held_text : Item → List ℕ
held_text item = item_text (pair_of item)

abbrev pub items_text : List Item → List ℕ
items_text items = counted item_text (map pair_of items)

abbrev pub text_of : Layout → Bundle → List ℕ
text_of layout b = bundle_text layout (plain b)

-- the letters and the version, which all those of a layout begin with
abbrev pub front : Layout → List ℕ
front layout = codes "MRDTBNDL" ++ short_number (bundle_version layout)

-- items with these objects, by number from n on
abbrev pub numbered : ℕ → List Pair → List Item
numbered n [] = []
numbered n (p ∷ ps) = record { number = n; value = p.value; commit = p.commit } ∷ numbered (n + 1) ps

-- a bundle of a layout, its items numbered from 1, whose bytes these are; and no other one has them
pub record IsReadAs (layout : Layout) (bytes : List ℕ) (b : Bundle) : Type 0 where
  pub known : IsBundle layout (plain b)
  pub numbers : b.items ≡ numbered 1 (plain b).items
  pub spelled : bytes ≡ text_of layout b
  pub only : (other : Plain) → IsBundle layout other → bytes ≡ bundle_text layout other → plain b ≡ other

-- these are the bytes of no bundle of a layout
abbrev pub IsNoBundle : Layout → List ℕ → Type 0
IsNoBundle layout bytes = (b : Plain) → IsBundle layout b → bytes ≡ bundle_text layout b → ⊥
