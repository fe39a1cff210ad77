-- Texts of which a first part was written, after want of memory.
use Rattle.std.proofs.Common.{◌≡◌, ℕ, Bool, ◌+◌, ◌<◌, nat_lt, List, [], ◌∷◌, ◌++◌, length, get_or, take, drop, map, filter, codes, if◌then◌else◌, refl, ap, sym, ◌∙◌, subst, append_assoc, Result, Ok, Err, OnErr}
use Rattle.std.specs.List.{flat_map}
use Rattle.std.proofs.lemmas.Grind.{flat_map-append}
use Rattle.std.proofs.lemmas.List.{take-append-drop, map-append}
use Rattle.std.proofs.lemmas.List.Elements.{filter-append, filter_more}
use Rattle.mrdt_model.specs.Spelled.{AppendsPart}
use Rattle.branch_print.proofs.Written.{first-refused, second-refused}
use Rattle.branch_show.specs.Json.{with_commas}
use Rattle.branch_show.proofs.Commas.{comma, has_any, commas_more, told-last}

-- what holds in any case holds after a refusal
pub on-err : {T E P : Type 0} (r : Result T E) → P → OnErr r P
on-err (Ok x) p = tt
on-err (Err e) p = p

abbrev refused : Result (List ℕ) (List ℕ)
refused = Err []

-- of two texts a part of the first was written
pub part-first : (old new first second : List ℕ) → AppendsPart old new first → AppendsPart old new (first ++ second)
part-first old new first second part = first-refused refused old new first second part

-- of two texts the first was written, and a part of the second
pub part-second : (old mid new first second : List ℕ) → mid ≡ old ++ first → AppendsPart mid new second → AppendsPart old new (first ++ second)
part-second old mid new first second is part = second-refused refused old mid new first second is part

-- of two texts both were written
pub behind : (old mid new first second : List ℕ) → mid ≡ old ++ first → new ≡ mid ++ second → new ≡ old ++ (first ++ second)
behind old mid new first second before is = is ∙ ap (λ t. t ++ second) before ∙ append_assoc old first second

-- the texts behind others
abbrev commas-rest : List (List ℕ) → List (List ℕ) → List ℕ
commas-rest [] more = with_commas more
commas-rest (first ∷ texts) more = flat_map (λ t. codes "," ++ t) more

commas-append : (texts more : List (List ℕ)) → with_commas (texts ++ more) ≡ with_commas texts ++ commas-rest texts more
commas-append [] more = refl
commas-append (first ∷ texts) more =
    let each : List ℕ → List ℕ = λ t. codes "," ++ t in
    ap (λ t. first ++ t) (flat_map-append each texts more) ∙ sym (append_assoc first (flat_map each texts) (flat_map each more))

-- of the texts of items, those before one were written, and a part of its own
pub commas-part : {X : Type 0} (f : X → List ℕ) (xs : List X) (i : ℕ) (x : X) (text old mid new : List ℕ) → i < length xs → x ≡ get_or xs i x → text ≡ f x
    → mid ≡ old ++ with_commas (map f (take i xs)) → AppendsPart mid new (comma (nat_lt 0 i) ++ text) → AppendsPart old new (with_commas (map f xs))
commas-part f xs i x text old mid new inside item same before part =
    let so_far = with_commas (map f (take i xs)) in
    let more = comma (nat_lt 0 i) ++ f x in
    let rest = commas-rest (map f (take (i + 1) xs)) (map f (drop (i + 1) xs)) in
    let whole : so_far ++ more ++ rest ≡ with_commas (map f xs) =
    ap (λ t. t ++ rest) (sym (commas_more f xs i x inside item)) ∙ sym (commas-append (map f (take (i + 1) xs)) (map f (drop (i + 1) xs)))
    ∙ ap with_commas (sym (map-append f (take (i + 1) xs) (drop (i + 1) xs))) ∙ ap (λ ys. with_commas (map f ys)) (take-append-drop (i + 1) xs) in
    let mine : AppendsPart mid new more = subst (λ t. AppendsPart mid new (comma (nat_lt 0 i) ++ t)) same part in
    subst (AppendsPart old new) whole (part-first old new (so_far ++ more) rest (part-second old mid new so_far more before mine))

-- of those that pass a test likewise
pub told-part : {X : Type 0} (f : X → List ℕ) (p : X → Bool) (xs : List X) (i : ℕ) (d x : X) (is_behind : Bool) (old mid new : List ℕ) → i < length xs → x ≡ get_or xs i d
    → mid ≡ old ++ with_commas (map f (filter p (take i xs))) → is_behind ≡ has_any (filter p (take i xs)) → AppendsPart mid new (if p x then comma is_behind ++ f x else [])
    → AppendsPart old new (with_commas (map f (filter p xs)))
told-part f p xs i d x is_behind old mid new inside item before is part =
    let told = filter p (take i xs) in
    let to_come = filter p (drop (i + 1) xs) in
    let so_far = with_commas (map f told) in
    let y = get_or xs i d in
    let more = if p y then comma (has_any told) ++ f y else [] in
    let rest = commas-rest (map f (filter p (take (i + 1) xs))) (map f to_come) in
    let whole : so_far ++ more ++ rest ≡ with_commas (map f (filter p xs)) =
    ap (λ t. t ++ rest) (sym (ap (λ ys. with_commas (map f ys)) (filter_more p xs i d inside) ∙ told-last f told (p y) y))
    ∙ sym (commas-append (map f (filter p (take (i + 1) xs))) (map f to_come))
    ∙ ap with_commas (sym (map-append f (filter p (take (i + 1) xs)) to_come)) ∙ ap (λ ys. with_commas (map f ys)) (sym (filter-append p (take (i + 1) xs) (drop (i + 1) xs)))
    ∙ ap (λ ys. with_commas (map f (filter p ys))) (take-append-drop (i + 1) xs) in
    let here : AppendsPart mid new (if p y then comma is_behind ++ f y else []) = subst (λ z. AppendsPart mid new (if p z then comma is_behind ++ f z else [])) item part in
    let mine : AppendsPart mid new more = subst (λ b. AppendsPart mid new (if p y then comma b ++ f y else [])) is here in
    subst (AppendsPart old new) whole (part-first old new (so_far ++ more) rest (part-second old mid new so_far more before mine))
