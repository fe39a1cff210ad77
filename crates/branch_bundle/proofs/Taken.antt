-- Items that were read, against those that the bytes may spell.
use Rattle.std.proofs.Common.{◌≡◌, ℕ, ◌+◌, ◌<◌, ◌^◌, List, [], ◌∷◌, ◌++◌, length, map, ◌∙◌, ap, sym, subst, append_assoc, arith, length-append}
use Rattle.std.specs.List.{flat_map, AllByRecursion}
use Rattle.std.proofs.lemmas.List.{map-append}
use Rattle.branch_names.specs.declared.layout.Layout.{Layout}
use Rattle.branch_wire.specs.Fields.{number}
use Rattle.branch_wire.specs.Reading.{AreCounted}
use Rattle.branch_wire.proofs.Lists.{flat_map-front, flat_map-push}
use Rattle.branch_objects_codec.specs.Parts.{NoneAt}
use Rattle.branch_machine.specs.Objects.{Pair}
use Rattle.branch_bundle_laws.specs.Text.{item_text, IsItemText}
use Rattle.branch_bundle_laws.proofs.Mapped.{length-mapped}
use Rattle.branch_bundle_laws.proofs.Text.{items-one}
use Rattle.branch_bundle.specs.declared.bundle.Item.{Item}
use Rattle.branch_bundle.specs.Held.{pair_of, held_text, items_text, numbered}

abbrev with_number : Pair → ℕ → Item
with_number p n = record { number = n; value = p.value; commit = p.commit }

-- one more is numbered
numbered-push : (n k : ℕ) (ps : List Pair) (p : Pair) → k ≡ n + length ps → numbered n (ps ++ p ∷ []) ≡ numbered n ps ++ with_number p k ∷ []
numbered-push n k [] p is = ap (λ (j : ℕ). with_number p j ∷ []) (omega (arith, is))
numbered-push n k (q ∷ ps) p is = ap (λ (l : List Item). with_number q n ∷ l) (numbered-push (n + 1) k ps p (omega (arith, is)))

module _ (layout : Layout) where
  -- this many items are taken from the front of the bytes, numbered from 1
  pub record AreTaken (bytes : List ℕ) (count : ℕ) (rest : List ℕ) (taken : List Item) : Type 0 where
    pub many : length taken ≡ count
    pub good : AllByRecursion (IsItemText layout) (map pair_of taken)
    pub numbers : taken ≡ numbered 1 (map pair_of taken)
    pub spelled : bytes ≡ flat_map item_text (map pair_of taken) ++ rest

  all-push : (xs : List Pair) (y : Pair) → AllByRecursion (IsItemText layout) xs → IsItemText layout y → AllByRecursion (IsItemText layout) (xs ++ y ∷ [])
  all-push [] y all last = (last, tt)
  all-push (x ∷ xs) y all last = (all.0, all-push xs y all.1 last)

  all-behind : (xs ys : List Pair) (y : Pair) → AllByRecursion (IsItemText layout) (xs ++ (y ∷ ys)) → IsItemText layout y
  all-behind [] ys y all = all.0
  all-behind (x ∷ xs) ys y all = all-behind xs ys y all.1

  -- one more is taken
  pub taken-more : (bytes rest more : List ℕ) (n : ℕ) (taken next : List Item) (item : Item) → AreTaken bytes n rest taken → IsItemText layout (pair_of item) → item.number ≡ n + 1 → rest ≡ held_text item ++ more → next ≡ taken ++ item ∷ [] → AreTaken bytes (n + 1) more next
  taken-more bytes rest more n taken next item so_far fits own is made =
      let ps : List Pair = map pair_of taken in
      let p : Pair = pair_of item in
      let mapped : map pair_of next ≡ ps ++ p ∷ [] = ap (map pair_of) made ∙ map-append pair_of taken (item ∷ []) in
      let many = so_far.many in
      let last : item.number ≡ 1 + length ps = omega (arith, own, many, length-mapped pair_of taken) in
      record {
        many = ap length made ∙ length-append taken (item ∷ []) ∙ ap (λ (m : ℕ). m + 1) many;
        good = subst (AllByRecursion (IsItemText layout)) (sym mapped) (all-push ps p so_far.good fits);
        numbers =
            made ∙ ap (λ (l : List Item). l ++ item ∷ []) so_far.numbers ∙ sym (numbered-push 1 item.number ps p last)
            ∙ ap (numbered 1) (sym mapped);
        spelled =
            so_far.spelled ∙ ap (λ (r : List ℕ). flat_map item_text ps ++ r) is ∙ sym (append_assoc (flat_map item_text ps) (item_text p) more)
            ∙ ap (λ (b : List ℕ). b ++ more) (sym (flat_map-push item_text ps p) ∙ ap (flat_map item_text) (sym mapped));
      }

  -- where no item is to be taken next, there are no more than were taken
  pub taken-none : (bytes rest : List ℕ) (n : ℕ) (taken : List Item) → AreTaken bytes n rest taken → NoneAt (IsItemText layout) item_text rest
      → (all : List Pair) (more : List ℕ) → n < length all → AllByRecursion (IsItemText layout) all → bytes ≡ flat_map item_text all ++ more → ⊥
  taken-none bytes rest n taken so_far none all more few good is =
      let many = so_far.many in
      let ps : List Pair = map pair_of taken in
      let front = flat_map-front (IsItemText layout) item_text (items-one layout) ps all rest more so_far.good good (omega (arith, many, few, length-mapped pair_of taken)) (sym so_far.spelled ∙ is) in
      at front.0 front.1 front.2
    where
      at : (others : List Pair) → all ≡ map pair_of taken ++ others → rest ≡ flat_map item_text others ++ more → ⊥
      at [] same spelled = let many = so_far.many in omega (arith, few, many, ap length same, length-append (map pair_of taken) [], length-mapped pair_of taken)
      at (y ∷ ys) same spelled =
          none y (flat_map item_text ys ++ more) (all-behind (map pair_of taken) ys y (subst (AllByRecursion (IsItemText layout)) same good)) (spelled ∙ append_assoc (item_text y) (flat_map item_text ys) more)

  -- a count and as many items are what was taken
  pub taken-counted : (whole bytes rest : List ℕ) (n : ℕ) (taken : List Item) → whole ≡ number n ++ bytes → AreTaken bytes n rest taken → whole ≡ items_text taken ++ rest
  taken-counted whole bytes rest n taken is all =
      let flat = flat_map item_text (map pair_of taken) in
      let count : n ≡ length (map pair_of taken) = sym (length-mapped pair_of taken ∙ all.many) in
      is ∙ ap (λ (b : List ℕ). number n ++ b) all.spelled ∙ sym (append_assoc (number n) flat rest) ∙ ap (λ (m : ℕ). (number m ++ flat) ++ rest) count

  pub taken-known : (bytes rest : List ℕ) (n : ℕ) (taken : List Item) → n < 2 ^ 64 → AreTaken bytes n rest taken → AreCounted (IsItemText layout) (map pair_of taken)
  taken-known bytes rest n taken small all = let many = all.many in (omega (arith, small, many, length-mapped pair_of taken), all.good)
