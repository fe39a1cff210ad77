-- The value of a counter is the sum of its entries.
use Rattle.std.proofs.Common.{◌≡◌, ℤ, pos, ◌+ℤ◌, Bool, true, false, cond, ◌&&◌, ◌||◌, None, Some, List, [], ◌∷◌, refl, ◌∙◌, ap, sym, arith}
use Rattle.std.proofs.lemmas.Int.{ints}
use Rattle.std.proofs.lemmas.Bool.{or_parts}
use Rattle.mrdt_model.specs.declared.time.Time.{Time}
use Rattle.mrdt_model.specs.Times.{same_time, is_earlier, among}
use Rattle.mrdt_model.specs.Executions.{Event, times_of}
use Rattle.mrdt_model.proofs.SameEvents.{HaveOwnTimes}
use Rattle.live_set.specs.declared.kept.Kept.{Kept}
use Rattle.live_set.specs.Entries.{kept_times, payload_at, place, by_time}
use Rattle.live_set.specs.Effects.{is_hidden, add_put, puts_but, live_of}
use Rattle.live_set.proofs.Order.{other-sym}
use Rattle.live_set.proofs.Rising.{payload-none, payload-by_time}
use Rattle.mrdt_counter.specs.declared.counter.CounterOp.{CounterOp}
use Rattle.mrdt_counter.specs.declared.counter.CounterOp.TheVariants.{Add, Reset}
use Rattle.mrdt_counter.specs.Counter.{counter_effect, amount, is_reset, is_cancelled, sum_but, value_of, sum_of}

-- an entry at a time at which there is none is one more
none_behind : (k j : Kept ℤ) (ks : List (Kept ℤ)) → payload_at (j ∷ ks) k.time ≡ None → (same_time k.time j.time ≡ false) × (payload_at ks k.time ≡ None)
none_behind k j ks none = at (same_time k.time j.time) refl
  where
    at : (p : Bool) → same_time k.time j.time ≡ p → (same_time k.time j.time ≡ false) × (payload_at ks k.time ≡ None)
    at true is = let clash : Some j.payload ≡ None = sym (ap (λ b. cond b (Some j.payload) (payload_at ks k.time)) is) ∙ none in absurd (cc)
    at false is = (is, sym (ap (λ b. cond b (Some j.payload) (payload_at ks k.time)) is) ∙ none)

sum-place : (k : Kept ℤ) (ks : List (Kept ℤ)) → payload_at ks k.time ≡ None → sum_of (place k ks) ≡ k.payload +ℤ sum_of ks
sum-place k [] none = refl
sum-place k (j ∷ ks) none =
    let behind = none_behind k j ks none in
    at (is_earlier j.time k.time) (same_time j.time k.time) (other-sym k.time j.time behind.0) (sum-place k ks behind.1)
  where
    at : (p q : Bool) → q ≡ false → sum_of (place k ks) ≡ k.payload +ℤ sum_of ks → sum_of (cond p (j ∷ place k ks) (k ∷ cond q ks (j ∷ ks))) ≡ k.payload +ℤ (j.payload +ℤ sum_of ks)
    at true q other rest = omega (arith, ints, rest)
    at false true other rest = cc
    at false false other rest = refl

-- no two entries have one time
abbrev AreApart : List (Kept ℤ) → Type 0
AreApart [] = Unit {0}
AreApart (k ∷ ks) = (among (kept_times ks) k.time ≡ false) × AreApart ks

sum-by_time : (ks : List (Kept ℤ)) → AreApart ks → sum_of (by_time ks) ≡ sum_of ks
sum-by_time [] apart = refl
sum-by_time (k ∷ ks) apart =
    sum-place k (by_time ks) (payload-by_time ks k.time ∙ payload-none ks k.time apart.0) ∙ ap (λ s. k.payload +ℤ s) (sum-by_time ks apart.1)

module _ {R : Type 0} where
  -- an event puts something at its time alone
  puts-new : (hidden : Time → Bool) (x : List (Event CounterOp R)) (t : Time) → among (times_of x) t ≡ false → among (kept_times (puts_but counter_effect hidden x)) t ≡ false
  puts-new hidden [] t new = refl
  puts-new hidden (e ∷ x) t new =
      let parts = or_parts (same_time t e.time) (among (times_of x) t) new in
      at e.operation (hidden e.time) parts.0 (puts-new hidden x t parts.1)
    where
      at : (o : CounterOp) (p : Bool) → same_time t e.time ≡ false → among (kept_times (puts_but counter_effect hidden x)) t ≡ false
          → among (kept_times (add_put (counter_effect o).puts p e.time (puts_but counter_effect hidden x))) t ≡ false
      at (Add n) true other rest = rest
      at (Add n) false other rest = rw other rest
      at Reset p other rest = rest

  puts-apart : (hidden : Time → Bool) (x : List (Event CounterOp R)) → HaveOwnTimes x → AreApart (puts_but counter_effect hidden x)
  puts-apart hidden [] own = tt
  puts-apart hidden (e ∷ x) own = at e.operation (hidden e.time) (puts-new hidden x e.time own.0) (puts-apart hidden x own.1)
    where
      at : (o : CounterOp) (p : Bool) → among (kept_times (puts_but counter_effect hidden x)) e.time ≡ false → AreApart (puts_but counter_effect hidden x)
          → AreApart (add_put (counter_effect o).puts p e.time (puts_but counter_effect hidden x))
      at (Add n) true new rest = rest
      at (Add n) false new rest = (new, rest)
      at Reset p new rest = rest

  -- what the events put adds up to their amounts
  sum-puts : (hidden cancelled : Time → Bool) (x : List (Event CounterOp R)) → ((t : Time) → cancelled t ≡ hidden t) → sum_but cancelled x ≡ sum_of (puts_but counter_effect hidden x)
  sum-puts hidden cancelled [] same = refl
  sum-puts hidden cancelled (e ∷ x) same = at e.operation (cancelled e.time) (hidden e.time) (same e.time) (sum-puts hidden cancelled x same)
    where
      at : (o : CounterOp) (p q : Bool) → p ≡ q → sum_but cancelled x ≡ sum_of (puts_but counter_effect hidden x)
          → cond p (pos 0) (amount o) +ℤ sum_but cancelled x ≡ sum_of (add_put (counter_effect o).puts q e.time (puts_but counter_effect hidden x))
      at (Add n) true true is rest = omega (arith, ints, rest)
      at (Add n) true false is rest = cc
      at (Add n) false true is rest = cc
      at (Add n) false false is rest = omega (arith, ints, rest)
      at Reset true q is rest = omega (arith, ints, rest)
      at Reset false q is rest = omega (arith, ints, rest)

  -- what a Reset has seen is hidden, and nothing else is
  cancelled-hidden : (x : List (Event CounterOp R)) (t : Time) → is_cancelled x t ≡ is_hidden counter_effect x t
  cancelled-hidden [] t = refl
  cancelled-hidden (e ∷ x) t = at e.operation (cancelled-hidden x t)
    where
      at : (o : CounterOp) → is_cancelled x t ≡ is_hidden counter_effect x t → ((is_reset o && among e.seen t) || is_cancelled x t) ≡ (((counter_effect o).hides && among e.seen t) || is_hidden counter_effect x t)
      at (Add n) rest = rest
      at Reset rest = ap (λ b. among e.seen t || b) rest

  pub value-live : (x : List (Event CounterOp R)) → HaveOwnTimes x → value_of x ≡ sum_of (live_of counter_effect x)
  value-live x own =
      let hidden = is_hidden counter_effect x in
      sum-puts hidden (is_cancelled x) x (cancelled-hidden x) ∙ sym (sum-by_time (puts_but counter_effect hidden x) (puts-apart hidden x own))
