-- One more call: the count of failed calls rises where the call is listed, and else stays.
use Rattle.std.proofs.Common.{◌≡◌, ℕ, ◌+◌, ◌≤◌, List, [], ◌∷◌, ◌++◌, true, false, nat_eq, length, take, drop, arith, refl, cond, ◌||◌, ◌∙◌, ap, sym, take-append-drop}
use Rattle.std.proofs.Math.Seq.{take-append_seam}
use Rattle.std.proofs.lemmas.List.{drop-drop}
use Rattle.std.specs.Prelude.{nat_le}
use Rattle.std.proofs.lemmas.Bool.{or_parts}
use Rattle.std.specs.List.{list_any}
use Rattle.std.proofs.lemmas.Bool.Decides.{nat_tests}
use Rattle.branch_io.specs.Counts.{failed_calls}

pub failed_calls_later : (failing : List ℕ) (made : ℕ) → failed_calls failing made ≤ failed_calls failing (made + 1)
failed_calls_later [] made = omega arith
failed_calls_later (f ∷ fs) made =
    let more = failed_calls_later fs made in
    let now : failed_calls (f ∷ fs) made ≡ cond (nat_le f made) 1 0 + failed_calls fs made = refl in
    let next : failed_calls (f ∷ fs) (made + 1) ≡ cond (nat_le f (made + 1)) 1 0 + failed_calls fs (made + 1) = refl in
    grind (arith, nat_tests, more, now, next)

pub failed_calls_listed : (failing : List ℕ) (made : ℕ) → list_any (λ y. nat_eq y (made + 1)) failing ≡ true
    → failed_calls failing made + 1 ≤ failed_calls failing (made + 1)
failed_calls_listed [] made h = cc
failed_calls_listed (f ∷ fs) made h =
    let later = failed_calls_later fs made in
    let more : list_any (λ y. nat_eq y (made + 1)) fs ≡ true → failed_calls fs made + 1 ≤ failed_calls fs (made + 1) = failed_calls_listed fs made in
    let any : list_any (λ y. nat_eq y (made + 1)) (f ∷ fs) ≡ (nat_eq f (made + 1) || list_any (λ y. nat_eq y (made + 1)) fs) = refl in
    let now : failed_calls (f ∷ fs) made ≡ cond (nat_le f made) 1 0 + failed_calls fs made = refl in
    let next : failed_calls (f ∷ fs) (made + 1) ≡ cond (nat_le f (made + 1)) 1 0 + failed_calls fs (made + 1) = refl in
    grind (arith, nat_tests, more, now, next, any)

pub failed_calls_other : (failing : List ℕ) (made : ℕ) → list_any (λ y. nat_eq y (made + 1)) failing ≡ false
    → failed_calls failing (made + 1) ≡ failed_calls failing made
failed_calls_other [] made h = refl
failed_calls_other (f ∷ fs) made h =
    let any : list_any (λ y. nat_eq y (made + 1)) (f ∷ fs) ≡ (nat_eq f (made + 1) || list_any (λ y. nat_eq y (made + 1)) fs) = refl in
    let parts = or_parts (nat_eq f (made + 1)) (list_any (λ y. nat_eq y (made + 1)) fs) (sym any ∙ h) in
    let rest : failed_calls fs (made + 1) ≡ failed_calls fs made = failed_calls_other fs made parts.1 in
    let now : failed_calls (f ∷ fs) made ≡ cond (nat_le f made) 1 0 + failed_calls fs made = refl in
    let next : failed_calls (f ∷ fs) (made + 1) ≡ cond (nat_le f (made + 1)) 1 0 + failed_calls fs (made + 1) = refl in
    let other = parts.0 in
    grind (arith, nat_tests, rest, now, next, other)

-- the next bytes, put at the front of a buffer
pub next_bytes : (bytes copied rest : List ℕ) (at count : ℕ) → copied ≡ take count (drop at bytes) → length copied ≡ count
    → drop at bytes ≡ take count (copied ++ rest) ++ drop (at + count) bytes
next_bytes bytes copied rest at count is len =
    let seam : take (length copied) (copied ++ rest) ≡ copied = take-append_seam copied rest in
    let front : take count (copied ++ rest) ≡ copied = ap (λ n. take n (copied ++ rest)) (sym len) ∙ seam in
    let back : drop (at + count) bytes ≡ drop count (drop at bytes) = sym (drop-drop count at bytes) in
    let whole : take count (drop at bytes) ++ drop count (drop at bytes) ≡ drop at bytes = take-append-drop count (drop at bytes) in
    cc
