-- How many entries are live, and what holds of each.
use Rattle.std.proofs.Common.{◌≡◌, ℕ, suc, ◌+◌, ◌≤◌, Bool, true, false, cond, Option, None, Some, List, [], ◌∷◌, length, refl, arith}
use Rattle.std.specs.List.{AllByRecursion}
use Rattle.mrdt_model.specs.declared.time.Time.{Time}
use Rattle.mrdt_model.specs.Times.{IsTime, same_time, is_earlier}
use Rattle.mrdt_model.specs.Executions.{Event, MayFollow, IsWellFormed}
use Rattle.live_set.specs.declared.kept.Kept.{Kept}
use Rattle.live_set.specs.Entries.{place, by_time}
use Rattle.live_set.specs.Effects.{Effect, is_hidden, add_put, puts_but, live_of}
use Rattle.live_set.proofs.Rising.{entry_of}

module _ {V : Type 0} where
  length-place : (k : Kept V) (ks : List (Kept V)) → length (place k ks) ≤ length ks + 1
  length-place k [] = omega arith
  length-place k (j ∷ ks) = at (is_earlier j.time k.time) (same_time j.time k.time) (length-place k ks)
    where
      at : (p q : Bool) → length (place k ks) ≤ length ks + 1 → length (cond p (j ∷ place k ks) (k ∷ cond q ks (j ∷ ks))) ≤ length (j ∷ ks) + 1
      at true q rest = omega arith
      at false true rest = omega arith
      at false false rest = omega arith

  pub length-by_time : (ks : List (Kept V)) → length (by_time ks) ≤ length ks
  length-by_time [] = omega arith
  length-by_time (k ∷ ks) = omega (arith, length-place k (by_time ks), length-by_time ks)

  length-add_put : (o : Option V) (h : Bool) (t : Time) (ks : List (Kept V)) → length (add_put o h t ks) ≤ length ks + 1
  length-add_put (Some v) true t ks = omega arith
  length-add_put (Some v) false t ks = omega arith
  length-add_put None h t ks = omega arith

  each-place : (P : Kept V → Type 0) (k : Kept V) (ks : List (Kept V)) → P k → AllByRecursion P ks → AllByRecursion P (place k ks)
  each-place P k [] here all = (here, tt)
  each-place P k (j ∷ ks) here all = at (is_earlier j.time k.time) (same_time j.time k.time) (each-place P k ks here all.1)
    where
      at : (p q : Bool) → AllByRecursion P (place k ks) → AllByRecursion P (cond p (j ∷ place k ks) (k ∷ cond q ks (j ∷ ks)))
      at true q rest = (all.0, rest)
      at false true rest = (here, all.1)
      at false false rest = (here, all)

  pub each-by_time : (P : Kept V → Type 0) (ks : List (Kept V)) → AllByRecursion P ks → AllByRecursion P (by_time ks)
  each-by_time P [] all = tt
  each-by_time P (k ∷ ks) all = each-place P k (by_time ks) all.0 (each-by_time P ks all.1)

  each-add_put : (P : Kept V → Type 0) (o : Option V) (h : Bool) (t : Time) (ks : List (Kept V)) → ((v : V) → o ≡ Some v → P (entry_of t v)) → AllByRecursion P ks → AllByRecursion P (add_put o h t ks)
  each-add_put P (Some v) true t ks here all = all
  each-add_put P (Some v) false t ks here all = (here v refl, all)
  each-add_put P None h t ks here all = all

module _ {O R V : Type 0} (effect : O → Effect V) where
  length-puts_but : (seen : Time → Bool) (x : List (Event O R)) → length (puts_but effect seen x) ≤ length x
  length-puts_but seen [] = omega arith
  length-puts_but seen (e ∷ x) = omega (arith, length-add_put (effect e.operation).puts (seen e.time) e.time (puts_but effect seen x), length-puts_but seen x)

  -- no more payloads are live than there are events
  pub length-live : (x : List (Event O R)) → length (live_of effect x) ≤ length x
  length-live x = omega (arith, length-by_time (puts_but effect (is_hidden effect x) x), length-puts_but (is_hidden effect x) x)

module _ {O R V : Type 0} (effect : O → Effect V) (is_op : O → Type 0) (is_reply : R → Type 0) (P : Kept V → Type 0) (given : (o : O) (t : Time) (v : V) → is_op o → IsTime t → (effect o).puts ≡ Some v → P (entry_of t v)) where
  each-puts_but : (seen : Time → Bool) (x : List (Event O R)) → IsWellFormed is_op is_reply x → AllByRecursion P (puts_but effect seen x)
  each-puts_but seen [] w = tt
  each-puts_but seen (e ∷ x) w = each-add_put P (effect e.operation).puts (seen e.time) e.time (puts_but effect seen x) (λ v is. given e.operation e.time v w.0.operation w.0.time is) (each-puts_but seen x w.1)

  -- what holds of each that an event puts holds of each that is live
  pub each-live : (x : List (Event O R)) → IsWellFormed is_op is_reply x → AllByRecursion P (live_of effect x)
  each-live x w = each-by_time P (puts_but effect (is_hidden effect x) x) (each-puts_but (is_hidden effect x) x w)
