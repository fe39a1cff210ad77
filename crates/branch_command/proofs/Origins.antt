-- From the numbers of limits and of an origin to terms.
use Rattle.std.proofs.Common.{◌≡◌, ◌∙◌, ◌+◌, ◌≤◌, ◌^◌, ℕ, Bool, Option, Some, None, IfSome, IfNone, IsSome, nat_le, true, false, if◌then◌else◌, refl, sym, subst, ap, ap₂, arith, codes, List}
use Rattle.std.proofs.lemmas.Bool.{le-leb, leb-true}
use Rattle.clap.specs.Walk.{Row, first_of}
use Rattle.branch_names.specs.Ranges.{AreOrigins}
use Rattle.branch_names.specs.declared.limits.Limits.{Limits}
use Rattle.branch_names.specs.declared.terms.Terms.{Terms}
use Rattle.branch_command.specs.Numbers.{Numbers, AreLimits, numbers_of}
use Rattle.branch_command.specs.Terms.{TermNumbers, origin_or, is_given, kind_number, layout_said, terms_with, terms_of, AreTerms}

abbrev fitting : Numbers → ℕ → Bool → Bool → TermNumbers
fitting n origin sequences changes = record { limits = n; origin = origin; sequences = sequences; changes = changes }

fits : (n : Numbers) (origin : ℕ) (sequences changes : Bool) → origin + n.branches ≤ 4294967296 → terms_with (Some n) (Some origin) sequences changes ≡ Some (fitting n origin sequences changes)
fits n origin sequences changes low = ap (λ b. if b then Some (fitting n origin sequences changes) else None) (le-leb (origin + n.branches) 4294967296 low)

fits_not : (n : Numbers) (origin : ℕ) (sequences changes : Bool) → (origin + n.branches ≤ 4294967296 → ⊥) → terms_with (Some n) (Some origin) sequences changes ≡ None
fits_not n origin sequences changes high = go (nat_le (origin + n.branches) 4294967296) refl
  where
    go : (b : Bool) → nat_le (origin + n.branches) 4294967296 ≡ b → (if b then Some (fitting n origin sequences changes) else None) ≡ None
    go false is = refl
    go true is = absurd (high (leb-true _ _ is))

-- whether the flag for sequences was given
abbrev asks : List Row → Bool
asks given = is_given (first_of (codes "sequences") given)

-- whether the flag for changes was given
abbrev changes_asked : List Row → Bool
changes_asked given = is_given (first_of (codes "changes") given)

read : (given : List Row) (n : Numbers) (origin : ℕ) → numbers_of given ≡ Some n → Some origin ≡ origin_or (first_of (codes "origin") given) → terms_of given ≡ terms_with (Some n) (Some origin) (asks given) (changes_asked given)
read given n origin numbers said = ap₂ (λ (m : Option Numbers) (o : Option ℕ). terms_with m o (asks given) (changes_asked given)) numbers (sym said)

pub some : (given : List Row) (n : Numbers) (origin : ℕ) (limits : Limits) (o : Option Terms) → numbers_of given ≡ Some n → AreLimits n limits
    → Some origin ≡ origin_or (first_of (codes "origin") given) → (IsSome o → AreOrigins origin limits.branches) → IfSome o (λ terms. terms.limits ≡ limits) → IfSome o (λ terms. terms.origin ≡ origin) → IfSome o (λ terms. terms.kind ≡ kind_number (asks given)) → IfSome o (λ terms. terms.layout ≡ layout_said (changes_asked given))
    → IfSome o (λ terms. (n : TermNumbers) × (terms_of given ≡ Some n) × AreTerms n terms)
some given n origin limits None numbers are said inside same from kind layout = tt
some given n origin limits (Some terms) numbers are said inside same from kind layout =
    let low : origin + limits.branches ≤ 2 ^ 32 = inside refl in
    let branches : limits.branches ≡ n.branches = are.2 in
    (fitting n origin (asks given) (changes_asked given), read given n origin numbers said ∙ fits n origin (asks given) (changes_asked given) (omega (low, branches, arith)), record { limits = subst (AreLimits n) (sym same) are; origin = from; kind = kind; layout = layout })

pub none : (given : List Row) (n : Numbers) (origin : ℕ) (limits : Limits) (o : Option Terms) → numbers_of given ≡ Some n → AreLimits n limits
    → Some origin ≡ origin_or (first_of (codes "origin") given) → (AreOrigins origin limits.branches → IsSome o) → IfNone o (terms_of given ≡ None)
none given n origin limits (Some terms) numbers are said inside = tt
none given n origin limits None numbers are said inside =
    let branches : limits.branches ≡ n.branches = are.2 in
    read given n origin numbers said ∙ fits_not n origin (asks given) (changes_asked given) (λ low. let yes : false ≡ true = inside (omega (low, branches, arith)) in cc)
