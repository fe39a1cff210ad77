-- Texts that are written piece by piece.
use Rattle.std.proofs.Common.{◌≡◌, ℕ, ◌++◌, List, [], ◌∷◌, ◌<◌, suc, length, get_or, take, drop, drop-cons, ap, sym, ◌∙◌, subst, Result, Ok, Err, OnOk, OnErr, Option, None, Some, MatchOption}
use Rattle.std.specs.List.{flat_map}
use Rattle.std.proofs.lemmas.Grind.{flat_map-append}
use Rattle.std.proofs.lemmas.List.{take-append-drop}
use Rattle.std.proofs.lemmas.Result.{on_err_weaker}
use Rattle.mrdt_model.specs.Spelled.{AppendsPart}
use Rattle.branch_wire.proofs.Parts.{part-first, part-second, on-err}
use Rattle.branch_print.specs.Texts.{at_most_one}

-- of the texts of items, those before one were written, and a part of its own
pub each-part : {A : Type 0} (text : A → List ℕ) (items : List A) (i : ℕ) (item other : A) (old mid new : List ℕ)
    → i < length items → item ≡ get_or items i other → mid ≡ old ++ flat_map text (take i items) → AppendsPart mid new (text item) → AppendsPart old new (flat_map text items)
each-part text items i item other old mid new inside is written part =
    let rest = drop (suc i) items in
    let here : drop i items ≡ item ∷ rest = drop-cons items i other inside ∙ ap (λ x. x ∷ rest) (sym is) in
    let whole : flat_map text (take i items) ++ flat_map text (item ∷ rest) ≡ flat_map text items =
    sym (flat_map-append text (take i items) (item ∷ rest)) ∙ ap (λ xs. flat_map text (take i items ++ xs)) (sym here) ∙ ap (flat_map text) (take-append-drop i items) in
    subst (AppendsPart old new) whole (part-second old mid new (flat_map text (take i items)) (flat_map text (item ∷ rest)) written (part-first mid new (text item) (flat_map text rest) part))

-- a part of a text, in other words
pub part-is : {T E : Type 0} (r : Result T E) (old new text whole : List ℕ) → OnErr r (AppendsPart old new text) → text ≡ whole → OnErr r (AppendsPart old new whole)
part-is r old new text whole part is = on_err_weaker r (subst (AppendsPart old new) is) part

-- a whole text, in other words
pub whole-is : {T E : Type 0} (r : Result T E) (old new text whole : List ℕ) → OnOk r (new ≡ old ++ text) → text ≡ whole → OnOk r (new ≡ old ++ whole)
whole-is (Ok x) old new text whole is same = is ∙ ap (λ t. old ++ t) same
whole-is (Err e) old new text whole is same = tt

-- a part of the first of two texts, after a refusal
pub first-refused : {T E : Type 0} (r : Result T E) (old new first second : List ℕ) → AppendsPart old new first → OnErr r (AppendsPart old new (first ++ second))
first-refused r old new first second part = on-err r (part-first old new first second part)

-- the first of two texts, and a part of the second
pub second-refused : {T E : Type 0} (r : Result T E) (old mid new first second : List ℕ) → mid ≡ old ++ first → OnErr r (AppendsPart mid new second) → OnErr r (AppendsPart old new (first ++ second))
second-refused r old mid new first second is part = on_err_weaker r (part-second old mid new first second is) part

-- the one item that there is, or none, as a list
pub one_or_none : {A : Type 0} (o : Option A) (xs : List A) → MatchOption o (xs ≡ []) (λ x. xs ≡ x ∷ []) → xs ≡ at_most_one o
one_or_none None xs is = is
one_or_none (Some x) xs is = is
