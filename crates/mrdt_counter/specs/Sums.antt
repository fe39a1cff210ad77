-- Sums of the Adds of an execution.
use Rattle.std.proofs.Common.{◌≡◌, ◌+ℤ◌, ◌-ℤ◌, Bool, true, false, cond, not, ◌&&◌, ◌||◌, Option, None, Some, is_some, List, [], ◌∷◌, refl, ◌∙◌, ap, sym, subst, arith}
use Rattle.std.proofs.lemmas.Bool.{and_right}
use Rattle.std.proofs.lemmas.Int.{ints}
use Rattle.mrdt_model.specs.declared.time.Time.{Time}
use Rattle.mrdt_model.specs.Times.{both, either, among, same_time}
use Rattle.mrdt_model.specs.Executions.{Event, times_of, restrict, IsWellFormed, event_at, AreSameEvent, HoldSameEvents}
use Rattle.mrdt_model.proofs.SameEvents.{HaveOwnTimes, own-times, among-event, event-first}
use Rattle.mrdt_model.proofs.TimeSets.{same_time-eq, same_time-refl, among-restrict}
use Rattle.mrdt_counter.specs.declared.sum.SumOp.{SumOp}
use Rattle.mrdt_counter.specs.Sum.{total, amount, IsAmount}
use Rattle.live_set.specs.UnitReply.{IsAnyReply}

at_event : {R : Type 0} (p q : Bool) (e : Event SumOp R) (l r m u : List (Event SumOp R)) → (total l +ℤ total r) -ℤ total m ≡ total u
    → (total (cond p (e ∷ l) l) +ℤ total (cond q (e ∷ r) r)) -ℤ total (cond (p && q) (e ∷ m) m) ≡ total (cond (p || q) (e ∷ u) u)
at_event true true e l r m u h = omega (arith, ints)
at_event true false e l r m u h = omega (arith, ints)
at_event false true e l r m u h = omega (arith, ints)
at_event false false e l r m u h = h

-- an event of the union is in one side, or in both and the base
pub total-union : {R : Type 0} (x : List (Event SumOp R)) (a b : Time → Bool) → (total (restrict a x) +ℤ total (restrict b x)) -ℤ total (restrict (both a b) x) ≡ total (restrict (either a b) x)
total-union [] a b = refl
total-union (e ∷ x) a b = at_event (a e.time) (b e.time) e (restrict a x) (restrict b x) (restrict (both a b) x) (restrict (either a b) x) (total-union x a b)

same_time-sym : (s t : Time) → same_time s t ≡ same_time t s
same_time-sym s t = at (same_time s t) (same_time t s) refl refl
  where
    at : (p q : Bool) → same_time s t ≡ p → same_time t s ≡ q → p ≡ q
    at true true h k = refl
    at true false h k = sym (ap (λ u. same_time u s) (sym (same_time-eq s t h)) ∙ same_time-refl s) ∙ k
    at false true h k = sym h ∙ ap (λ u. same_time s u) (same_time-eq t s k) ∙ same_time-refl s
    at false false h k = refl

-- all times but one
abbrev others : Time → Time → Bool
others t s = not (same_time t s)

module _ {R : Type 0} where
  step_own : (p : Bool) (a : Time → Bool) (e : Event SumOp R) (x : List (Event SumOp R)) → among (times_of x) e.time ≡ false → HaveOwnTimes (restrict a x) → HaveOwnTimes (cond p (e ∷ restrict a x) (restrict a x))
  step_own true a e x new own = (among-restrict a x e.time ∙ and_right (a e.time) (among (times_of x) e.time) new, own)
  step_own false a e x new own = own

  restrict_own : (a : Time → Bool) (x : List (Event SumOp R)) → HaveOwnTimes x → HaveOwnTimes (restrict a x)
  restrict_own a [] own = tt
  restrict_own a (e ∷ x) own = step_own (a e.time) a e x own.0 (restrict_own a x own.1)

  no_event : (p : Bool) (o : Option (Event SumOp R)) → o ≡ None → o ≡ cond p o None
  no_event true o none = refl
  no_event false o none = none

  step_at : (p q : Bool) (a : Time → Bool) (e : Event SumOp R) (o : Option (Event SumOp R)) (y : List (Event SumOp R)) (t : Time) → a e.time ≡ p → same_time t e.time ≡ q → event_at y t ≡ cond (a t) o None
      → event_at (cond p (e ∷ y) y) t ≡ cond (a t) (cond q (Some e) o) None
  step_at true true a e o y t is here h = let inside : a t ≡ true = ap a (same_time-eq t e.time here) ∙ is in rw (here, inside) refl
  step_at true false a e o y t is here h = rw here h
  step_at false true a e o y t is here h = let outside : a t ≡ false = ap a (same_time-eq t e.time here) ∙ is in rw outside (rw outside at h)
  step_at false false a e o y t is here h = h

  -- the event of a set at a time
  restrict_at : (a : Time → Bool) (x : List (Event SumOp R)) (t : Time) → event_at (restrict a x) t ≡ cond (a t) (event_at x t) None
  restrict_at a [] t = no_event (a t) None refl
  restrict_at a (e ∷ x) t = step_at (a e.time) (same_time t e.time) a e (event_at x t) (restrict a x) t refl refl (restrict_at a x t)

  -- there is none at a time that is not among those of the list
  none_at : (x : List (Event SumOp R)) (t : Time) → among (times_of x) t ≡ false → event_at x t ≡ None
  none_at x t out = none (event_at x t) (sym (among-event x t) ∙ out)
    where
      none : (o : Option (Event SumOp R)) → is_some o ≡ false → o ≡ None
      none None h = refl
      none (Some f) h = cc

  step_kept : (p q : Bool) (e : Event SumOp R) (x y : List (Event SumOp R)) → (p || q) ≡ false → (q ≡ false → y ≡ x) → cond (not p) (e ∷ y) y ≡ e ∷ x
  step_kept true q e x y out h = cc
  step_kept false q e x y out h = ap (λ z. e ∷ z) (h out)

  -- without a time that is not among those of the list
  kept_others : (x : List (Event SumOp R)) (t : Time) → among (times_of x) t ≡ false → restrict (others t) x ≡ x
  kept_others [] t out = refl
  kept_others (e ∷ x) t out = step_kept (same_time t e.time) (among (times_of x) t) e x (restrict (others t) x) out (kept_others x t)

  step_total : (p : Bool) (e f : Event SumOp R) (o : Option (Event SumOp R)) (x y : List (Event SumOp R)) → (p ≡ true → y ≡ x) → cond p (Some e) o ≡ Some f → (o ≡ Some f → total x ≡ amount f.operation +ℤ total y)
      → amount e.operation +ℤ total x ≡ amount f.operation +ℤ total (cond (not p) (e ∷ y) y)
  step_total true e f o x y same found rest = let own : e ≡ f = cc in rw (own, same refl) refl
  step_total false e f o x y same found rest = let sums = rest found in omega (arith, ints, sums)

  -- the sum is that of the event at a time and of all others
  total_others : (x : List (Event SumOp R)) (t : Time) (f : Event SumOp R) → HaveOwnTimes x → event_at x t ≡ Some f → total x ≡ amount f.operation +ℤ total (restrict (others t) x)
  total_others [] t f own found = cc
  total_others (e ∷ x) t f own found =
      step_total (same_time t e.time) e f (event_at x t) x (restrict (others t) x) (λ here. kept_others x t (ap (among (times_of x)) (same_time-eq t e.time here) ∙ own.0)) found (total_others x t f own.1)

  step_rest : (p : Bool) (e : Event SumOp R) (o q : Option (Event SumOp R)) → (p ≡ true → o ≡ None) → AreSameEvent (cond p (Some e) o) q → AreSameEvent o (cond (not p) q None)
  step_rest true e o q none same = subst (λ r. AreSameEvent r None) (sym (none refl)) tt
  step_rest false e o q none same = same

  -- without the newest event of the one
  rest_alike : (e : Event SumOp R) (x y : List (Event SumOp R)) → among (times_of x) e.time ≡ false → HoldSameEvents (e ∷ x) y → HoldSameEvents x (restrict (others e.time) y)
  rest_alike e x y new events t =
      subst (AreSameEvent (event_at x t)) (sym (restrict_at (others e.time) y t ∙ ap (λ p. cond (not p) (event_at y t) None) (same_time-sym e.time t)))
      (step_rest (same_time t e.time) e (event_at x t) (event_at y t) (λ here. ap (event_at x) (same_time-eq t e.time here) ∙ none_at x e.time new) (events t))

  step_alike : (e : Event SumOp R) (o : Option (Event SumOp R)) (x y rest : List (Event SumOp R)) → AreSameEvent (Some e) o → ((f : Event SumOp R) → o ≡ Some f → total y ≡ amount f.operation +ℤ total rest) → total x ≡ total rest → amount e.operation +ℤ total x ≡ total y
  step_alike e None x y rest same whole sums = absurd same
  step_alike e (Some f) x y rest same whole sums =
      let own : amount e.operation ≡ amount f.operation = ap amount same.operation in
      let all = whole f refl in
      omega (arith, ints, own, all, sums)

  total_alike : (x y : List (Event SumOp R)) → HaveOwnTimes x → HaveOwnTimes y → HoldSameEvents x y → total x ≡ total y
  total_alike [] [] own more events = refl
  total_alike [] (f ∷ y) own more events = absurd (subst (AreSameEvent None) (event-first f y) (events f.time))
  total_alike (e ∷ x) y own more events =
      let rest = restrict (others e.time) y in
      step_alike e (event_at y e.time) x y rest (subst (λ o. AreSameEvent o (event_at y e.time)) (event-first e x) (events e.time)) (λ f found. total_others y e.time f more found)
      (total_alike x rest own.1 (restrict_own (others e.time) y more) (rest_alike e x y own.0 events))

-- the order of the events does not show in the sum
pub total-any_order : (x y : List (Event SumOp (Unit {0}))) → IsWellFormed IsAmount IsAnyReply x → IsWellFormed IsAmount IsAnyReply y → HoldSameEvents x y → total x ≡ total y
total-any_order x y w v events = total_alike x y (own-times IsAmount IsAnyReply x w) (own-times IsAmount IsAnyReply y v) events
