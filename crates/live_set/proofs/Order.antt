-- The order of times.
use Rattle.std.proofs.Common.{◌≡◌, ◌<◌, Bool, true, false, ◌&&◌, ◌⊎◌, inl, inr, refl, ◌∙◌, sym, subst, arith, nat_lt, ◌==◌, ⊎_elim}
use Rattle.std.proofs.lemmas.Bool.{and_parts, and_from, or_cases, or_left, or_right, both_ways, false_from_ne_true, ltb-true, lt-ltb, eqb-true, eq-eqb, cases_order}
use Rattle.mrdt_model.specs.declared.time.Time.{Time}
use Rattle.mrdt_model.specs.Times.{same_time, is_earlier}
use Rattle.mrdt_model.proofs.TimeSets.{same_time-eq, same_time-refl}
use Rattle.mrdt_model.proofs.Executions.{is_earlier-irrefl}

earlier-clock : (s t : Time) → s.clock < t.clock → is_earlier s t ≡ true
unfolding is_earlier
earlier-clock s t h = or_left (nat_lt s.clock t.clock) ((s.clock == t.clock) && nat_lt s.origin t.origin) (lt-ltb s.clock t.clock h)

earlier-origin : (s t : Time) → s.clock ≡ t.clock → s.origin < t.origin → is_earlier s t ≡ true
unfolding is_earlier
earlier-origin s t c o = or_right (nat_lt s.clock t.clock) ((s.clock == t.clock) && nat_lt s.origin t.origin) (and_from (s.clock == t.clock) (nat_lt s.origin t.origin) (eq-eqb s.clock t.clock c) (lt-ltb s.origin t.origin o))

earlier-cases : (s t : Time) → is_earlier s t ≡ true → (s.clock < t.clock) ⊎ ((s.clock ≡ t.clock) × (s.origin < t.origin))
unfolding is_earlier
earlier-cases s t h =
    ⊎_elim (λ c. inl (ltb-true s.clock t.clock c)) (λ o. let p = and_parts (s.clock == t.clock) (nat_lt s.origin t.origin) o in inr (eqb-true s.clock t.clock p.0, ltb-true s.origin t.origin p.1))
    (or_cases (nat_lt s.clock t.clock) ((s.clock == t.clock) && nat_lt s.origin t.origin) h)

pub earlier-trans : (r s t : Time) → is_earlier r s ≡ true → is_earlier s t ≡ true → is_earlier r t ≡ true
earlier-trans r s t p q = at (earlier-cases r s p) (earlier-cases s t q)
  where
    at : (r.clock < s.clock) ⊎ ((r.clock ≡ s.clock) × (r.origin < s.origin)) → (s.clock < t.clock) ⊎ ((s.clock ≡ t.clock) × (s.origin < t.origin)) → is_earlier r t ≡ true
    at (inl a) (inl b) = earlier-clock r t (omega arith)
    at (inl a) (inr b) = let e = b.0 in earlier-clock r t (omega (arith, e))
    at (inr a) (inl b) = let e = a.0 in earlier-clock r t (omega (arith, e))
    at (inr a) (inr b) = let d = a.1 in let e = b.1 in earlier-origin r t (a.0 ∙ b.0) (omega (arith, d, e))

pub same-from_fields : (s t : Time) → s.clock ≡ t.clock → s.origin ≡ t.origin → same_time s t ≡ true
unfolding same_time
same-from_fields s t c o = and_from (s.clock == t.clock) (s.origin == t.origin) (eq-eqb s.clock t.clock c) (eq-eqb s.origin t.origin o)

-- neither is earlier: the two are the same
pub earlier-neither : (s t : Time) → is_earlier s t ≡ false → is_earlier t s ≡ false → same_time s t ≡ true
earlier-neither s t p q =
    ⊎_elim (λ c. ⊎_elim (λ o. same-from_fields s t c o) (⊎_elim (λ o. absurd (both_ways (is_earlier s t) p (earlier-origin s t c o))) (λ o. absurd (both_ways (is_earlier t s) q (earlier-origin t s (sym c) o)))) (cases_order s.origin t.origin))
    (⊎_elim (λ c. absurd (both_ways (is_earlier s t) p (earlier-clock s t c))) (λ c. absurd (both_ways (is_earlier t s) q (earlier-clock t s c))))
    (cases_order s.clock t.clock)

pub earlier-other : (s t : Time) → is_earlier s t ≡ true → same_time s t ≡ false
earlier-other s t h = false_from_ne_true (same_time s t) (λ e. both_ways (is_earlier t t) (is_earlier-irrefl t) (subst (λ u. is_earlier u t ≡ true) (same_time-eq s t e) h))

pub earlier-not : (s t : Time) → is_earlier s t ≡ true → is_earlier t s ≡ false
earlier-not s t h = false_from_ne_true (is_earlier t s) (λ e. both_ways (is_earlier s s) (is_earlier-irrefl s) (earlier-trans s t s h e))

pub same-sym : (s t : Time) → same_time s t ≡ true → same_time t s ≡ true
same-sym s t h = subst (λ u. same_time u s ≡ true) (same_time-eq s t h) (same_time-refl s)

pub other-sym : (s t : Time) → same_time s t ≡ false → same_time t s ≡ false
other-sym s t h = false_from_ne_true (same_time t s) (λ e. both_ways (same_time s t) h (same-sym t s e))

-- not earlier and not the same: later
pub earlier-else : (s t : Time) → is_earlier s t ≡ false → same_time s t ≡ false → is_earlier t s ≡ true
earlier-else s t p q = at (is_earlier t s) refl
  where
    at : (b : Bool) → is_earlier t s ≡ b → is_earlier t s ≡ true
    at true e = e
    at false e = absurd (both_ways (same_time s t) q (earlier-neither s t p e))

-- what is not before t is not before what is before t
pub not_earlier-trans : (r s t : Time) → is_earlier r s ≡ true → is_earlier r t ≡ false → is_earlier s t ≡ false
not_earlier-trans r s t p q = false_from_ne_true (is_earlier s t) (λ e. both_ways (is_earlier r t) q (earlier-trans r s t p e))
