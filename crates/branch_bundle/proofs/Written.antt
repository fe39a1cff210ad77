-- Items that were written.
use Rattle.std.proofs.Common.{◌≡◌, ℕ, ◌<◌, ◌≤◌, suc, List, [], ◌∷◌, ◌++◌, length, map, get_or, take, drop, drop-cons, refl, ap, sym, ◌∙◌, subst, append_assoc, arith}
use Rattle.std.specs.List.{flat_map}
use Rattle.std.proofs.lemmas.Grind.{flat_map-append}
use Rattle.std.proofs.lemmas.List.{take-append-drop}
use Rattle.std.proofs.Math.Seq.{take-length}
use Rattle.mrdt_model.specs.Spelled.{AppendsPart}
use Rattle.branch_wire.specs.Fields.{number}
use Rattle.branch_wire.proofs.Parts.{part-first, part-second}
use Rattle.branch_bundle_laws.specs.Text.{item_text}
use Rattle.branch_bundle_laws.proofs.Mapped.{length-mapped}
use Rattle.branch_bundle.specs.declared.bundle.Item.{Item}
use Rattle.branch_bundle.specs.Held.{pair_of, held_text, items_text}

flat-mapped : (items : List Item) → flat_map item_text (map pair_of items) ≡ flat_map held_text items
flat-mapped [] = refl
flat-mapped (item ∷ items) = ap (λ (l : List ℕ). held_text item ++ l) (flat-mapped items)

-- a count, and the items
pub counted-mapped : (items : List Item) → items_text items ≡ number (length items) ++ flat_map held_text items
counted-mapped items = ap (λ (n : ℕ). number n ++ flat_map item_text (map pair_of items)) (length-mapped pair_of items) ∙ ap (λ (l : List ℕ). number (length items) ++ l) (flat-mapped items)

-- of the items, those before one were written, and a part of its bytes
pub items-part : (items : List Item) (i : ℕ) (item other : Item) (old mid new : List ℕ)
    → i < length items → item ≡ get_or items i other → mid ≡ old ++ (number (length items) ++ flat_map held_text (take i items)) → AppendsPart mid new (held_text item) → AppendsPart old new (items_text items)
items-part items i item other old mid new inside is written part =
    let n : List ℕ = number (length items) in
    let rest : List Item = drop (suc i) items in
    let here : drop i items ≡ item ∷ rest = drop-cons items i other inside ∙ ap (λ (x : Item). x ∷ rest) (sym is) in
    let flat : flat_map held_text (take i items) ++ flat_map held_text (item ∷ rest) ≡ flat_map held_text items =
    sym (flat_map-append held_text (take i items) (item ∷ rest)) ∙ ap (λ (xs : List Item). flat_map held_text (take i items ++ xs)) (sym here) ∙ ap (flat_map held_text) (take-append-drop i items) in
    let whole : (n ++ flat_map held_text (take i items)) ++ flat_map held_text (item ∷ rest) ≡ items_text items =
    append_assoc n (flat_map held_text (take i items)) (flat_map held_text (item ∷ rest)) ∙ ap (λ (l : List ℕ). n ++ l) flat ∙ sym (counted-mapped items) in
    subst (AppendsPart old new) whole (part-second old mid new (n ++ flat_map held_text (take i items)) (flat_map held_text (item ∷ rest)) written (part-first mid new (held_text item) (flat_map held_text rest) part))

-- all items were written
pub items-all : (items : List Item) (i : ℕ) (old out : List ℕ) → length items ≤ i → i ≤ length items → out ≡ old ++ (number (length items) ++ flat_map held_text (take i items)) → out ≡ old ++ items_text items
items-all items i old out least most is =
    let end : i ≡ length items = omega (arith, least, most) in
    let all : take i items ≡ items = ap (λ (k : ℕ). take k items) end ∙ take-length items in
    is ∙ ap (λ (l : List Item). old ++ (number (length items) ++ flat_map held_text l)) all ∙ ap (λ (l : List ℕ). old ++ l) (sym (counted-mapped items))
