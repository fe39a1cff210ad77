-- What a core sends of a commit to another store.
use Rattle.std.specs.Prelude.{◌≡◌, ℕ, Bool, false, ◌&&◌, ◌==◌, not, List, Option, None, Some, map, filter}
use Rattle.std.specs.List.{list_any, range_with_len}
use Rattle.branch_history.specs.declared.moves.Move.{Move}
use Rattle.branch_machine.specs.Fixed.{Fixed}
use Rattle.branch_machine.specs.Objects.{Pair}
use Rattle.branch_bundle_laws.specs.Bundles.{bundle_of, item_at}
use Rattle.branch_bundle.specs.declared.bundle.Bundle.{Bundle}
use Rattle.branch_bundle.specs.declared.bundle.Item.{Item}
use Rattle.branch_bundle.specs.Held.{plain, numbered}
use Rattle.branch_compact.specs.Marks.{is_marked}
use Rattle.recorded_history.specs.Machine.{commit_of_address}

-- the bundle of a commit for one that has the commits here with these addresses, its items numbered from 1
pub record IsBundleOf {S O R Q A : Type 0} (fixed : Fixed S O R Q A) (moves : List (Move O R)) (tip : ℕ) (here : List (List ℕ)) (b : Bundle) : Type 0 where
  pub is : plain b ≡ bundle_of fixed moves tip here
  pub numbers : b.items ≡ numbered 1 (plain b).items

-- an item with a number
abbrev pub with_number : Pair → ℕ → Item
with_number p n = record { number = n; value = p.value; commit = p.commit }

-- a number is this one
abbrev pub is_number : Option ℕ → ℕ → Bool
is_number None n = false
is_number (Some m) n = m == n

-- the commit is the first with one of these addresses
abbrev pub is_here : {S O R Q A : Type 0} → Fixed S O R Q A → List (Move O R) → List (List ℕ) → ℕ → Bool
is_here fixed moves here n = list_any (λ a. is_number (commit_of_address fixed moves a) n) here

-- of the commits below a number those that have the first mark, and not the other
abbrev pub marked_alone : List Bool → List Bool → ℕ → List ℕ
marked_alone reached held count = filter (λ n. is_marked reached n && not (is_marked held n)) (range_with_len 0 count)

-- the items of those
abbrev pub items_below : List Pair → List Bool → List Bool → ℕ → List Item
items_below pairs reached held count = numbered 1 (map (item_at pairs) (marked_alone reached held count))
