-- The appends with one more that comes next.
use Rattle.std.proofs.Common.{◌≡◌, ℕ, Bool, true, false, cond, Option, None, Some, List, [], ◌∷◌, map, refl, ◌∙◌, ap, sym}
use Rattle.std.proofs.lemmas.Bool.{both_ways, false_from_ne_true}
use Rattle.mrdt_model.specs.declared.time.Time.{Time}
use Rattle.mrdt_model.specs.Times.{same_time, is_earlier, among}
use Rattle.mrdt_model.specs.Executions.{Event, times_of, IsAfter}
use Rattle.mrdt_model.proofs.TimeSets.{same_time-eq}
use Rattle.mrdt_model.proofs.Executions.{is_earlier-irrefl}
use Rattle.live_set.specs.declared.kept.Kept.{Kept}
use Rattle.live_set.specs.Entries.{kept_times, payload_at, staying, IsRising, MergesEntries}
use Rattle.live_set.proofs.Rising.{same_entries, payload-by_time, rising-by_time, payload-none}
use Rattle.mrdt_log.specs.declared.log.LogOp.{LogOp}
use Rattle.mrdt_log.specs.Log.{append_of, appends, payload_of}

module _ {R : Type 0} where
  abbrev puts : List (Event LogOp R) → List (Kept (List ℕ))
  puts x = map append_of x

  times_of-puts : (x : List (Event LogOp R)) → kept_times (puts x) ≡ times_of x
  times_of-puts [] = refl
  times_of-puts (e ∷ x) = ap (λ ts. e.time ∷ ts) (times_of-puts x)

  -- an append that comes next
  pub appends-next : (x : List (Event LogOp R)) (e : Event LogOp R) (merged : List (Kept (List ℕ))) → IsAfter x e.time → IsRising (kept_times merged) → MergesEntries [] (appends x) (append_of e ∷ []) merged → merged ≡ appends (e ∷ x)
  appends-next x e merged after rising is =
      same_entries merged (appends (e ∷ x)) rising (rising-by_time (puts (e ∷ x))) (λ t.
      is t ∙ ap (λ o. staying None o (payload_at (append_of e ∷ []) t)) (payload-by_time (puts x) t) ∙ at t (same_time t e.time) refl (payload_at (puts x) t) refl ∙ sym (payload-by_time (puts (e ∷ x)) t))
    where
      none : (t : Time) → same_time t e.time ≡ true → payload_at (puts x) t ≡ None
      none t same =
          let new : among (times_of x) e.time ≡ false = false_from_ne_true (among (times_of x) e.time) (λ m. both_ways (is_earlier e.time e.time) (is_earlier-irrefl e.time) (after e.time m)) in
          payload-none (puts x) t (ap (λ ts. among ts t) (times_of-puts x) ∙ ap (among (times_of x)) (same_time-eq t e.time same) ∙ new)

      at : (t : Time) (p : Bool) → same_time t e.time ≡ p → (o : Option (List ℕ)) → payload_at (puts x) t ≡ o → staying None o (cond p (Some (payload_of e.operation)) None) ≡ cond p (Some (payload_of e.operation)) o
      at t true same None found = refl
      at t true same (Some v) found = let clash : Some v ≡ None = sym found ∙ none t same in cc
      at t false same None found = refl
      at t false same (Some v) found = refl
