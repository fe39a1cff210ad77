-- Some event puts a payload that no event that removes has seen, exactly where some payload is live.
use Rattle.std.proofs.Common.{◌≡◌, Bool, true, false, not, is_some, cond, ◌&&◌, ◌⊎◌, inl, inr, Option, None, Some, List, [], ◌∷◌, refl, ◌∙◌, ap, sym, subst, IsTrue, ⊎_elim}
use Rattle.std.specs.List.{list_any}
use Rattle.std.proofs.lemmas.Bool.{and_parts, and_from, and_right, or_cases, or_left, or_right, or_parts, or_from, both_ways, false_from_ne_true, not-true, not_from_false, and_left}
use Rattle.mrdt_model.specs.declared.time.Time.{Time}
use Rattle.mrdt_model.specs.Times.{same_time, among}
use Rattle.mrdt_model.specs.Executions.{Event, times_of, AllIn, IsClosed, IsWellFormed}
use Rattle.mrdt_model.proofs.TimeSets.{same_time-eq, same_time-refl}
use Rattle.mrdt_model.proofs.Parts.{AllSeenIn, all_seen}
use Rattle.mrdt_model.proofs.SameEvents.{HaveOwnTimes, own-times}
use Rattle.live_set.specs.declared.kept.Kept.{Kept}
use Rattle.live_set.specs.Entries.{payload_at}
use Rattle.live_set.specs.Effects.{Effect, removes, is_hidden, is_removed, holds_some, has_any, live_of}
use Rattle.live_set.proofs.Standing.{put_at, put_at-among, seen-among, live-at}

-- the event at a time has seen another time
abbrev sees_at : {O R : Type 0} → List (Event O R) → Time → Time → Bool
sees_at [] t u = false
sees_at (e ∷ x) t u = cond (same_time t e.time) (among e.seen u) (sees_at x t u)

module _ {O R : Type 0} where
  -- what is closed and holds an event's time holds what it has seen
  past-sees : (a : Time → Bool) (x : List (Event O R)) (t u : Time) → IsClosed a x → sees_at x t u ≡ true → a t ≡ true → a u ≡ true
  past-sees a [] t u closed sees has = cc
  past-sees a (e ∷ x) t u closed sees has = at (same_time t e.time) refl sees (past-sees a x t u closed.1)
    where
      at : (p : Bool) → same_time t e.time ≡ p → cond p (among e.seen u) (sees_at x t u) ≡ true → (sees_at x t u ≡ true → a t ≡ true → a u ≡ true) → a u ≡ true
      at true is here rest = closed.0 (ap a (sym (same_time-eq t e.time is)) ∙ has) u here
      at false is there rest = rest there has

-- a test that is true may be left out
and_true-left : (p q : Bool) → ((p && true) && q) ≡ false → (p && q) ≡ false
and_true-left true q h = h
and_true-left false q h = h

-- a put that none has seen, at a time or by an event that has seen that time
record Replaces {O R V : Type 0} (effect : O → Effect V) (x : List (Event O R)) (u : Time) : Type 0 where
  time : Time
  payload : V
  put : put_at effect x time ≡ Some payload
  unseen : is_hidden effect x time ≡ false
  after : (time ≡ u) ⊎ (sees_at x time u ≡ true)

module _ {O R V : Type 0} (effect : O → Effect V) where
  -- a new event's time is not seen by the events before it
  new_unseen : (x : List (Event O R)) (t : Time) → AllSeenIn (among (times_of x)) x → among (times_of x) t ≡ false → is_hidden effect x t ≡ false
  new_unseen x t all new = false_from_ne_true (is_hidden effect x t) (λ h. both_ways (among (times_of x) t) new (seen-among effect (among (times_of x)) x t all h))

  own_unseen : (e : Event O R) (x : List (Event O R)) → AllSeenIn (among (times_of x)) x → AllIn (among (times_of x)) e.seen → among (times_of x) e.time ≡ false → is_hidden effect (e ∷ x) e.time ≡ false
  own_unseen e x all after new =
      let blind : among e.seen e.time ≡ false = false_from_ne_true (among e.seen e.time) (λ m. both_ways (among (times_of x) e.time) new (after e.time m)) in
      or_from ((effect e.operation).hides && among e.seen e.time) (is_hidden effect x e.time) (and_right (effect e.operation).hides (among e.seen e.time) blind) (new_unseen x e.time all new)

  -- with an event at another time more
  other-put : (e : Event O R) (x : List (Event O R)) (t : Time) → same_time t e.time ≡ false → put_at effect (e ∷ x) t ≡ put_at effect x t
  other-put e x t other = ap (λ p. cond p (effect e.operation).puts (put_at effect x t)) other

  other-sees : (e : Event O R) (x : List (Event O R)) (t u : Time) → same_time t e.time ≡ false → sees_at (e ∷ x) t u ≡ sees_at x t u
  other-sees e x t u other = ap (λ p. cond p (among e.seen u) (sees_at x t u)) other

  -- an event that has not seen u leaves what replaces it
  kept-replaces : (e : Event O R) (x : List (Event O R)) (u : Time) → among (times_of x) e.time ≡ false → IsClosed (among e.seen) x → ((effect e.operation).hides && among e.seen u) ≡ false → Replaces effect x u → Replaces effect (e ∷ x) u
  kept-replaces e x u new past not_seen found =
      let t = found.time in
      let other : same_time t e.time ≡ false = false_from_ne_true (same_time t e.time) (λ s. both_ways (among (times_of x) e.time) new (subst (λ w. IsTrue (among (times_of x) w)) (same_time-eq t e.time s) (put_at-among effect x t found.payload found.put))) in
      let blind : ((effect e.operation).hides && among e.seen t) ≡ false = false_from_ne_true ((effect e.operation).hides && among e.seen t) (λ h.
      let p = and_parts (effect e.operation).hides (among e.seen t) h in
      let sees_u : among e.seen u ≡ true = ⊎_elim (λ is. subst (λ w. among e.seen w ≡ true) is p.1) (λ sees. past-sees (among e.seen) x t u past sees p.1) found.after in
      both_ways ((effect e.operation).hides && among e.seen u) not_seen (and_from (effect e.operation).hides (among e.seen u) p.0 sees_u)) in
      record {
        time = t;
        payload = found.payload;
        put = other-put e x t other ∙ found.put;
        unseen = or_from ((effect e.operation).hides && among e.seen t) (is_hidden effect x t) blind found.unseen;
        after = ⊎_elim (λ is. inl is) (λ sees. inr (other-sees e x t u other ∙ sees)) found.after;
      }

  -- an event that puts replaces itself, and what it has seen
  own-replaces : (e : Event O R) (x : List (Event O R)) (u : Time) (v : V) → (effect e.operation).puts ≡ Some v → AllSeenIn (among (times_of x)) x → AllIn (among (times_of x)) e.seen → among (times_of x) e.time ≡ false → (e.time ≡ u) ⊎ (among e.seen u ≡ true) → Replaces effect (e ∷ x) u
  own-replaces e x u v is all after new why = record {
    time = e.time;
    payload = v;
    put = ap (λ p. cond p (effect e.operation).puts (put_at effect x e.time)) (same_time-refl e.time) ∙ is;
    unseen = own_unseen e x all after new;
    after = ⊎_elim (λ same. inl same) (λ sees. inr (ap (λ p. cond p (among e.seen u) (sees_at x e.time u)) (same_time-refl e.time) ∙ sees)) why;
  }

module _ {O R V : Type 0} (effect : O → Effect V) (is_op : O → Type 0) (is_reply : R → Type 0) where
  -- a put that no event that removes has seen is replaced by one that none has seen
  replaced : (x : List (Event O R)) (u : Time) (v : V) → IsWellFormed is_op is_reply x → put_at effect x u ≡ Some v → is_removed effect x u ≡ false → Replaces effect x u
  replaced [] u v w put free = cc
  replaced (e ∷ x) u v w put free = at (same_time u e.time) refl put (λ there. replaced x u v w.1 there (or_parts (removes (effect e.operation) && among e.seen u) (is_removed effect x u) free).1)
    where
      there_at : (p : Option V) → (effect e.operation).puts ≡ p → (((effect e.operation).hides && not (is_some p)) && among e.seen u) ≡ false → Replaces effect x u → Replaces effect (e ∷ x) u
      there_at (Some p) is free found = sees_at_u (among e.seen u) refl
        where
          sees_at_u : (b : Bool) → among e.seen u ≡ b → Replaces effect (e ∷ x) u
          sees_at_u true sees = own-replaces effect e x u p is (all_seen is_op is_reply x w.1) w.0.after w.0.new (inr sees)
          sees_at_u false blind = kept-replaces effect e x u w.0.new w.0.past (and_right (effect e.operation).hides (among e.seen u) blind) found
      there_at None is free found = kept-replaces effect e x u w.0.new w.0.past (and_true-left (effect e.operation).hides (among e.seen u) free) found

      at : (b : Bool) → same_time u e.time ≡ b → cond b (effect e.operation).puts (put_at effect x u) ≡ Some v → (put_at effect x u ≡ Some v → Replaces effect x u) → Replaces effect (e ∷ x) u
      at true is here rest = own-replaces effect e x u v here (all_seen is_op is_reply x w.1) w.0.after w.0.new (inl (sym (same_time-eq u e.time is)))
      at false is there rest = there_at (effect e.operation).puts refl (or_parts (removes (effect e.operation) && among e.seen u) (is_removed effect x u) free).0 (rest there)

-- a put at a time that is not removed
record Held {O R V : Type 0} (effect : O → Effect V) (removed : Time → Bool) (x : List (Event O R)) : Type 0 where
  time : Time
  payload : V
  put : put_at effect x time ≡ Some payload
  free : removed time ≡ false

some-is_some : {V : Type 0} (o : Option V) (v : V) → o ≡ Some v → is_some o ≡ true
some-is_some None v h = cc
some-is_some (Some w) v h = refl

-- some event puts, at a time that is not removed
abbrev holds_but : {O R V : Type 0} → (O → Effect V) → (Time → Bool) → List (Event O R) → Bool
holds_but effect removed x = list_any (λ e. is_some (effect e.operation).puts && not (removed e.time)) x

module _ {O R V : Type 0} (effect : O → Effect V) where
  held-here : (removed : Time → Bool) (e : Event O R) (x : List (Event O R)) (o : Option V) → (effect e.operation).puts ≡ o → is_some o ≡ true → removed e.time ≡ false → Held effect removed (e ∷ x)
  held-here removed e x (Some v) is put free = record { time = e.time; payload = v; put = ap (λ p. cond p (effect e.operation).puts (put_at effect x e.time)) (same_time-refl e.time) ∙ is; free = free }
  held-here removed e x None is put free = cc

  held-from : (removed : Time → Bool) (x : List (Event O R)) → HaveOwnTimes x → holds_but effect removed x ≡ true → Held effect removed x
  held-from removed [] apart h = cc
  held-from removed (e ∷ x) apart h =
      ⊎_elim
      (λ here. let p = and_parts (is_some (effect e.operation).puts) (not (removed e.time)) here in held-here removed e x (effect e.operation).puts refl p.0 (not-true (removed e.time) p.1))
      (λ there.
      let found = held-from removed x apart.1 there in
      let other : same_time found.time e.time ≡ false = false_from_ne_true (same_time found.time e.time) (λ s. both_ways (among (times_of x) e.time) apart.0 (subst (λ w. IsTrue (among (times_of x) w)) (same_time-eq found.time e.time s) (put_at-among effect x found.time found.payload found.put))) in
      record { time = found.time; payload = found.payload; put = other-put effect e x found.time other ∙ found.put; free = found.free })
      (or_cases (is_some (effect e.operation).puts && not (removed e.time)) (holds_but effect removed x) h)

  held-to : (removed : Time → Bool) (x : List (Event O R)) (t : Time) (v : V) → put_at effect x t ≡ Some v → removed t ≡ false → holds_but effect removed x ≡ true
  held-to removed [] t v put free = cc
  held-to removed (e ∷ x) t v put free = at (same_time t e.time) refl put (λ there. held-to removed x t v there free)
    where
      at : (p : Bool) → same_time t e.time ≡ p → cond p (effect e.operation).puts (put_at effect x t) ≡ Some v → (put_at effect x t ≡ Some v → holds_but effect removed x ≡ true) → holds_but effect removed (e ∷ x) ≡ true
      at true is here rest =
          or_left (is_some (effect e.operation).puts && not (removed e.time)) (holds_but effect removed x) (and_from (is_some (effect e.operation).puts) (not (removed e.time)) (some-is_some (effect e.operation).puts v here) (not_from_false (removed e.time) (ap removed (sym (same_time-eq t e.time is)) ∙ free)))
      at false is there rest = or_right (is_some (effect e.operation).puts && not (removed e.time)) (holds_but effect removed x) (rest there)

  removed-seen : (x : List (Event O R)) (t : Time) → is_removed effect x t ≡ true → is_hidden effect x t ≡ true
  removed-seen [] t h = cc
  removed-seen (e ∷ x) t h =
      ⊎_elim
      (λ here. let p = and_parts (removes (effect e.operation)) (among e.seen t) here in or_left ((effect e.operation).hides && among e.seen t) (is_hidden effect x t) (and_from (effect e.operation).hides (among e.seen t) (and_parts (effect e.operation).hides (not (is_some (effect e.operation).puts)) p.0).0 p.1))
      (λ there. or_right ((effect e.operation).hides && among e.seen t) (is_hidden effect x t) (removed-seen x t there)) (or_cases (removes (effect e.operation) && among e.seen t) (is_removed effect x t) h)

live_some : {V : Type 0} (p : Bool) (o : Option V) (v : V) → cond p None o ≡ Some v → (p ≡ false) × (o ≡ Some v)
live_some true o v h = cc
live_some false o v h = (refl, h)

module _ {O R V : Type 0} (effect : O → Effect V) (is_op : O → Type 0) (is_reply : R → Type 0) where
  holds-given : (x : List (Event O R)) → IsWellFormed is_op is_reply x → holds_some effect x ≡ true → live_of effect x ≡ [] → ⊥
  holds-given x w h none =
      let held = held-from effect (is_removed effect x) x (own-times is_op is_reply x w) h in
      let found = replaced effect is_op is_reply x held.time held.payload w held.put held.free in
      let at_time = live-at effect x found.time (own-times is_op is_reply x w) in
      let some : payload_at (live_of effect x) found.time ≡ Some found.payload = at_time ∙ ap (λ p. cond p None (put_at effect x found.time)) found.unseen ∙ found.put in
      let clash : None ≡ Some found.payload = sym (ap (λ ks. payload_at ks found.time) none) ∙ some in
      cc

  holds-from : (x : List (Event O R)) (k : Kept V) (ks : List (Kept V)) → IsWellFormed is_op is_reply x → live_of effect x ≡ k ∷ ks → holds_some effect x ≡ true
  holds-from x k ks w is =
      let some : payload_at (live_of effect x) k.time ≡ Some k.payload = ap (λ js. payload_at js k.time) is ∙ ap (λ p. cond p (Some k.payload) (payload_at ks k.time)) (same_time-refl k.time) in
      let found = live_some (is_hidden effect x k.time) (put_at effect x k.time) k.payload (sym (live-at effect x k.time (own-times is_op is_reply x w)) ∙ some) in
      held-to effect (is_removed effect x) x k.time k.payload found.1 (false_from_ne_true (is_removed effect x k.time) (λ h. both_ways (is_hidden effect x k.time) found.0 (removed-seen effect x k.time h)))

  -- an event puts that none that removes has seen, exactly where some payload is live
  pub holds-live : (x : List (Event O R)) → IsWellFormed is_op is_reply x → holds_some effect x ≡ has_any (live_of effect x)
  holds-live x w = at (live_of effect x) refl
    where
      at : (ks : List (Kept V)) → live_of effect x ≡ ks → holds_some effect x ≡ has_any ks
      at [] is = false_from_ne_true (holds_some effect x) (λ h. holds-given x w h is)
      at (k ∷ ks) is = holds-from x k ks w is
