-- Texts with a comma between two.
use Rattle.std.proofs.Common.{◌≡◌, ℕ, Bool, true, false, ◌||◌, cond, nat_lt, ◌+◌, ◌<◌, List, [], ◌∷◌, ◌++◌, length, zero, suc, refl, get_or, take, map, filter, codes, if◌then◌else◌, ap, sym, ◌∙◌, arith, append_assoc}
use Rattle.std.specs.List.{flat_map}
use Rattle.std.proofs.lemmas.Grind.{flat_map-append}
use Rattle.std.proofs.lemmas.List.{append-nil, take_more, map-append}
use Rattle.std.proofs.lemmas.List.Elements.{filter_more}
use Rattle.std.proofs.lemmas.Bool.Decides.{nat_tests}
use Rattle.branch_show.specs.Json.{with_commas}

-- whether there is an item
abbrev pub has_any : {X : Type 0} → List X → Bool
has_any [] = false
has_any (x ∷ xs) = true

-- the comma in front of an item that is behind others
abbrev pub comma : Bool → List ℕ
comma is_behind = if is_behind then codes "," else []

-- one text more
pub commas-last : (texts : List (List ℕ)) (text : List ℕ) → with_commas (texts ++ (text ∷ [])) ≡ with_commas texts ++ (comma (has_any texts) ++ text)
commas-last [] text = append-nil text
commas-last (first ∷ texts) text =
    let each : List ℕ → List ℕ = λ t. codes "," ++ t in
    ap (λ t. first ++ t) (flat_map-append each texts (text ∷ []) ∙ ap (λ t. flat_map each texts ++ t) (append-nil (each text)))
    ∙ sym (append_assoc first (flat_map each texts) (each text))

-- texts of items are as many
pub has_any-map : {X : Type 0} (f : X → List ℕ) (xs : List X) → has_any (map f xs) ≡ has_any xs
has_any-map f [] = refl
has_any-map f (x ∷ xs) = refl

positive : (i : ℕ) → true ≡ nat_lt 0 (suc i)
positive i = grind (arith, nat_tests)

-- a first part of a list has an item where its length is not 0
pub has_any-take : {X : Type 0} (f : X → List ℕ) (xs : List X) (i : ℕ) → i < length xs → has_any (map f (take i xs)) ≡ nat_lt 0 i
has_any-take f xs zero inside = refl
has_any-take f [] (suc i) inside = absurd (omega arith)
has_any-take f (x ∷ xs) (suc i) inside = positive i

-- one item more
pub commas_more : {X : Type 0} (f : X → List ℕ) (xs : List X) (i : ℕ) (x : X) → i < length xs → x ≡ get_or xs i x
    → with_commas (map f (take (i + 1) xs)) ≡ with_commas (map f (take i xs)) ++ (comma (nat_lt 0 i) ++ f x)
commas_more f xs i x inside is =
    ap (λ ys. with_commas (map f ys)) (take_more xs i x inside) ∙ ap with_commas (map-append f (take i xs) (get_or xs i x ∷ [])) ∙ commas-last (map f (take i xs)) (f (get_or xs i x))
    ∙ ap (λ b. with_commas (map f (take i xs)) ++ (comma b ++ f (get_or xs i x))) (has_any-take f xs i inside)
    ∙ ap (λ y. with_commas (map f (take i xs)) ++ (comma (nat_lt 0 i) ++ f y)) (sym is)

-- one item more was written
pub commas-written : {X : Type 0} (f : X → List ℕ) (xs : List X) (i : ℕ) (x : X) (text old mid new : List ℕ) → i < length xs → x ≡ get_or xs i x → text ≡ f x
    → mid ≡ old ++ with_commas (map f (take i xs)) → new ≡ mid ++ (comma (nat_lt 0 i) ++ text) → new ≡ old ++ with_commas (map f (take (i + 1) xs))
commas-written f xs i x text old mid new inside item same before is =
    let more = comma (nat_lt 0 i) ++ f x in
    is ∙ ap (λ t. mid ++ (comma (nat_lt 0 i) ++ t)) same ∙ ap (λ t. t ++ more) before ∙ append_assoc old (with_commas (map f (take i xs))) more
    ∙ ap (λ t. old ++ t) (sym (commas_more f xs i x inside item))

-- an item more, or none
pub told-last : {X : Type 0} (f : X → List ℕ) (xs : List X) (is_told : Bool) (x : X)
    → with_commas (map f (xs ++ cond is_told (x ∷ []) [])) ≡ with_commas (map f xs) ++ (if is_told then comma (has_any xs) ++ f x else [])
told-last f xs true x =
    ap with_commas (map-append f xs (x ∷ [])) ∙ commas-last (map f xs) (f x) ∙ ap (λ b. with_commas (map f xs) ++ (comma b ++ f x)) (has_any-map f xs)
told-last f xs false x = ap (λ ys. with_commas (map f ys)) (append-nil xs) ∙ sym (append-nil (with_commas (map f xs)))

-- then there is an item, or was one
pub any-last : {X : Type 0} (xs : List X) (is_told : Bool) (x : X) → has_any (xs ++ cond is_told (x ∷ []) []) ≡ (has_any xs || is_told)
any-last [] true x = refl
any-last [] false x = refl
any-last (y ∷ xs) is_told x = refl

-- of the items that pass a test, one more was written, or none
pub told-written : {X : Type 0} (f : X → List ℕ) (p : X → Bool) (xs : List X) (i : ℕ) (d x : X) (is_behind : Bool) (old mid new : List ℕ) → i < length xs → x ≡ get_or xs i d
    → mid ≡ old ++ with_commas (map f (filter p (take i xs))) → is_behind ≡ has_any (filter p (take i xs)) → new ≡ mid ++ (if p x then comma is_behind ++ f x else [])
    → new ≡ old ++ with_commas (map f (filter p (take (i + 1) xs)))
told-written f p xs i d x is_behind old mid new inside item before behind is =
    let told = filter p (take i xs) in
    let y = get_or xs i d in
    let more = if p y then comma (has_any told) ++ f y else [] in
    is ∙ ap (λ z. mid ++ (if p z then comma is_behind ++ f z else [])) item ∙ ap (λ b. mid ++ (if p y then comma b ++ f y else [])) behind ∙ ap (λ t. t ++ more) before
    ∙ append_assoc old (with_commas (map f told)) more ∙ ap (λ t. old ++ t) (sym (ap (λ ys. with_commas (map f ys)) (filter_more p xs i d inside) ∙ told-last f told (p y) y))

-- then there is one, or was
pub any-written : {X : Type 0} (p : X → Bool) (xs : List X) (i : ℕ) (d x : X) (is_behind next : Bool) → i < length xs → x ≡ get_or xs i d
    → is_behind ≡ has_any (filter p (take i xs)) → next ≡ (is_behind || p x) → next ≡ has_any (filter p (take (i + 1) xs))
any-written p xs i d x is_behind next inside item behind is =
    is ∙ ap (λ z. is_behind || p z) item ∙ ap (λ b. b || p (get_or xs i d)) behind
    ∙ sym (ap has_any (filter_more p xs i d inside) ∙ any-last (filter p (take i xs)) (p (get_or xs i d)) (get_or xs i d))
