-- Tables that begin alike, and spellings of them.
use Rattle.std.proofs.Common.{◌≡◌, ℕ, ◌<◌, ◌^◌, ◌*◌, List, [], ◌∷◌, ◌++◌, length, refl, ◌∙◌, ap, sym, append_assoc, arith, length-append}
use Rattle.std.specs.List.{flat_map}
use Rattle.std.proofs.lemmas.List.{append-nil}
use Rattle.std.proofs.lemmas.List.Concat.{flat_map-append}
use Rattle.branch_wire.specs.Fields.{number, field, time_field}
use Rattle.branch_wire.proofs.Numbers.{same_parts, length-time_field, number-same}
use Rattle.branch_wire.proofs.OneWay.{fields, numbers}
use Rattle.live_set.specs.Payloads.{nothing_spelling}
use Rattle.live_set.specs.Spelling.{kept_spelling, live_spelling}
use Rattle.live_set.proofs.Alike.{counted-parts}
use Rattle.mrdt_set.specs.Members.{Times, member_spelling, set_spelling}

abbrev pub Entries : Type 0
Entries = List (List ℕ × Times)

-- behind what is alike stands what is to come
pub record BeginAlike (es fs rest more : Entries) : Type 0 where
  pub before : Entries
  pub mine : es ≡ before ++ rest
  pub other : fs ≡ before ++ more

same_pair : (e f : List ℕ × Times) → e.0 ≡ f.0 → e.1 ≡ f.1 → e ≡ f
same_pair e f p q = ap {B = List ℕ × Times} (λ k. (k, e.1)) p ∙ ap {B = List ℕ × Times} (λ v. (f.0, v)) q

-- one more entry that is the same
pub alike-more : (es fs rest more rest' more' : Entries) (e f : List ℕ × Times) → BeginAlike es fs rest more → rest ≡ e ∷ rest' → more ≡ f ∷ more' → e.0 ≡ f.0 → e.1 ≡ f.1 → BeginAlike es fs rest' more'
alike-more es fs rest more rest' more' e f so_far is_rest is_more keys values = record {
  before = so_far.before ++ e ∷ [];
  mine = so_far.mine ∙ ap (λ r. so_far.before ++ r) is_rest ∙ sym (append_assoc so_far.before (e ∷ []) rest');
  other = so_far.other ∙ ap (λ r. so_far.before ++ r) (is_more ∙ ap (λ g. g ∷ more') (sym (same_pair e f keys values))) ∙ sym (append_assoc so_far.before (e ∷ []) more');
}

cancel : (xs ys zs : Entries) → xs ++ ys ≡ xs ++ zs → ys ≡ zs
cancel [] ys zs is = is
cancel (x ∷ xs) ys zs is = cancel xs ys zs (cc)

-- equal tables go on alike
pub alike-next : (es fs rest more rest' more' : Entries) (e f : List ℕ × Times) → BeginAlike es fs rest more → rest ≡ e ∷ rest' → more ≡ f ∷ more' → es ≡ fs → (e.0 ≡ f.0) × (e.1 ≡ f.1)
alike-next es fs rest more rest' more' e f so_far is_rest is_more same =
    let both : e ∷ rest' ≡ f ∷ more' = sym is_rest ∙ cancel so_far.before rest more (sym so_far.mine ∙ same ∙ so_far.other) ∙ is_more in
    let heads : e ≡ f = cc in
    (ap (λ g. g.0) heads, ap (λ g. g.1) heads)

-- so do tables that are spelled alike
pub spelled-next : (es fs rest more rest' more' : Entries) (e f : List ℕ × Times) → BeginAlike es fs rest more → rest ≡ e ∷ rest' → more ≡ f ∷ more' → set_spelling es ≡ set_spelling fs
    → member_spelling e ++ flat_map member_spelling rest' ≡ member_spelling f ++ flat_map member_spelling more'
spelled-next es fs rest more rest' more' e f so_far is_rest is_more same =
    let flat = flat_map member_spelling in
    let one : flat so_far.before ++ flat rest ≡ flat so_far.before ++ flat more =
    sym (flat_map-append member_spelling so_far.before rest) ∙ ap flat (sym so_far.mine) ∙ (counted-parts member_spelling es fs same).1 ∙ ap flat so_far.other ∙ flat_map-append member_spelling so_far.before more in
    ap flat (sym is_rest) ∙ (same_parts (flat so_far.before) (flat rest) (flat so_far.before) (flat more) refl one).1 ∙ ap flat is_more

-- where nothing is to come of one, and both are of one length, they are the same
pub alike-end : (es fs rest more : Entries) → BeginAlike es fs rest more → rest ≡ [] → length es ≡ length fs → es ≡ fs
alike-end es fs rest more so_far none long = so_far.mine ∙ ap (λ r. so_far.before ++ r) (none ∙ sym gone) ∙ sym so_far.other
  where
    empty : (gs : Entries) → length gs ≡ 0 → gs ≡ []
    empty [] h = refl
    empty (g ∷ gs) h = absurd (omega (arith, h))

    gone : more ≡ []
    gone = empty more (omega (arith, long, ap length so_far.mine, ap length so_far.other, length-append so_far.before rest, length-append so_far.before more, ap length none))

-- where one has an entry to come, so has the other
pub alike-longer : (es fs rest more rest' : Entries) (e : List ℕ × Times) → BeginAlike es fs rest more → rest ≡ e ∷ rest' → more ≡ [] → length es ≡ length fs → ⊥
alike-longer es fs rest more rest' e so_far is_rest none long =
    omega (arith, long, ap length so_far.mine, ap length so_far.other, length-append so_far.before rest, length-append so_far.before more, ap length none, ap length is_rest)

-- the spellings of equally many times are equally long
times_long : (ts : Times) → length (flat_map (kept_spelling nothing_spelling) ts) ≡ 12 * length ts
times_long [] = refl
times_long (k ∷ ts) =
    omega (arith, length-append (time_field k.time ++ []) (flat_map (kept_spelling nothing_spelling) ts), ap length (append-nil (time_field k.time)), length-time_field k.time, times_long ts)

module _ (ts us : Times) (a b : List ℕ) (p : length ts < 2 ^ 64) (q : length us < 2 ^ 64) (is : live_spelling nothing_spelling ts ++ a ≡ live_spelling nothing_spelling us ++ b) where
  abbrev flat : Times → List ℕ
  flat = flat_map (kept_spelling nothing_spelling)

  counts : (length ts ≡ length us) × (flat ts ++ a ≡ flat us ++ b)
  counts = numbers.one (length ts) (length us) (flat ts ++ a) (flat us ++ b) p q (sym (append_assoc (number (length ts)) (flat ts) a) ∙ is ∙ append_assoc (number (length us)) (flat us) b)

  -- times whose spellings stand at the front of the same bytes are as many
  pub times-count : length ts ≡ length us
  times-count = counts.0

  -- and they are spelled alike
  pub times-front : live_spelling nothing_spelling ts ≡ live_spelling nothing_spelling us
  times-front =
      let long : length (flat ts) ≡ length (flat us) = times_long ts ∙ ap (λ n. 12 * n) counts.0 ∙ sym (times_long us) in
      ap (λ n. number n ++ flat ts) counts.0 ∙ ap (λ r. number (length us) ++ r) (same_parts (flat ts) a (flat us) b long counts.1).0

-- members whose spellings stand at the front of the same bytes have one element, and behind it stand their times
pub member-front : (j k : List ℕ) (ts us : Times) (a b : List ℕ) → length j < 2 ^ 64 → length k < 2 ^ 64
    → member_spelling (j, ts) ++ a ≡ member_spelling (k, us) ++ b → (j ≡ k) × (live_spelling nothing_spelling ts ++ a ≡ live_spelling nothing_spelling us ++ b)
member-front j k ts us a b jl kl is =
    let spell = live_spelling nothing_spelling in
    fields.one j k (spell ts ++ a) (spell us ++ b) jl kl (sym (append_assoc (field j) (spell ts) a) ∙ is ∙ append_assoc (field k) (spell us) b)

-- tables that are spelled alike are of one length
pub lengths-alike : (es fs : Entries) → length es < 2 ^ 64 → length fs < 2 ^ 64 → set_spelling es ≡ set_spelling fs → length es ≡ length fs
lengths-alike es fs p q is = number-same (length es) (length fs) p q (counted-parts member_spelling es fs is).0
