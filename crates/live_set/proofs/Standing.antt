-- What is live, at one time.
use Rattle.std.proofs.Common.{◌≡◌, Bool, true, false, cond, ◌&&◌, ◌||◌, Option, None, Some, List, [], ◌∷◌, ◌++◌, refl, ◌∙◌, ap, sym, subst, IsTrue, ⊎_elim}
use Rattle.std.proofs.lemmas.Bool.{and_parts, and_from, and_right, or_cases, or_left, or_right, or_parts, or_from, both_ways, false_from_ne_true}
use Rattle.mrdt_model.specs.declared.time.Time.{Time}
use Rattle.mrdt_model.specs.Times.{same_time, is_earlier, among, both, either}
use Rattle.mrdt_model.specs.Executions.{Event, times_of, restrict, AllIn, IsClosed, IsAfter, next_event}
use Rattle.mrdt_model.proofs.TimeSets.{same_time-eq, same_time-refl, among-restrict}
use Rattle.mrdt_model.proofs.Parts.{AllSeenIn}
use Rattle.mrdt_model.proofs.SameEvents.{HaveOwnTimes}
use Rattle.mrdt_model.proofs.Executions.{is_earlier-irrefl}
use Rattle.live_set.specs.declared.kept.Kept.{Kept}
use Rattle.live_set.specs.Entries.{kept_times, AllBefore, IsRising, payload_at, by_time, staying, MergesEntries, with_payload}
use Rattle.live_set.specs.Effects.{Effect, is_hidden, add_put, puts_but, live_of, live_after}
use Rattle.live_set.proofs.Rising.{entry_of, among-head, among-tail, all_in-cons, same_entries, payload-by_time, rising-by_time, all_in-by_time, place-last}

-- what the event at a time puts
abbrev pub put_at : {O R V : Type 0} → (O → Effect V) → List (Event O R) → Time → Option V
put_at effect [] t = None
put_at effect (e ∷ x) t = cond (same_time t e.time) (effect e.operation).puts (put_at effect x t)

cond_none : {V : Type 0} (p : Bool) → cond {A = Option V} p None None ≡ None
cond_none true = refl
cond_none false = refl

module _ {O R : Type 0} where
  own-step : (p : Bool) (a : Time → Bool) (e : Event O R) (x : List (Event O R)) → among (times_of x) e.time ≡ false → HaveOwnTimes (restrict a x) → HaveOwnTimes (cond p (e ∷ restrict a x) (restrict a x))
  own-step true a e x new rest = (among-restrict a x e.time ∙ and_right (a e.time) (among (times_of x) e.time) new, rest)
  own-step false a e x new rest = rest

  pub own-restrict : (a : Time → Bool) (x : List (Event O R)) → HaveOwnTimes x → HaveOwnTimes (restrict a x)
  own-restrict a [] apart = tt
  own-restrict a (e ∷ x) apart = own-step (a e.time) a e x apart.0 (own-restrict a x apart.1)

module _ {O R V : Type 0} (effect : O → Effect V) where
  pub put_at-none : (x : List (Event O R)) (t : Time) → among (times_of x) t ≡ false → put_at effect x t ≡ None
  put_at-none [] t h = refl
  put_at-none (e ∷ x) t h = let p = or_parts (same_time t e.time) (among (times_of x) t) h in rw p.0 (put_at-none x t p.1)

  -- what is put at a time is put by an event
  pub put_at-among : (x : List (Event O R)) (t : Time) (v : V) → put_at effect x t ≡ Some v → IsTrue (among (times_of x) t)
  put_at-among x t v h = at (among (times_of x) t) refl
    where
      at : (p : Bool) → among (times_of x) t ≡ p → IsTrue (among (times_of x) t)
      at true e = e
      at false e = let none = put_at-none x t e in absurd (clash none)
        where
          clash : put_at effect x t ≡ None → ⊥
          clash none = cc

module _ {V : Type 0} where
  add_put-at : (o : Option V) (h : Bool) (u : Time) (ks : List (Kept V)) (t : Time) (same : Bool) → same_time t u ≡ same → (same ≡ true → payload_at ks t ≡ None) → payload_at (add_put o h u ks) t ≡ cond same (cond h None o) (payload_at ks t)
  add_put-at (Some v) true u ks t true is none = none refl
  add_put-at (Some v) true u ks t false is none = refl
  add_put-at (Some v) false u ks t same is none = ap (λ p. cond p (Some v) (payload_at ks t)) is
  add_put-at None h u ks t true is none = none refl ∙ sym (cond_none h)
  add_put-at None h u ks t false is none = refl

module _ {O R V : Type 0} (effect : O → Effect V) where
  -- of what the events put, what is not in the set
  payload-puts_but : (seen : Time → Bool) (x : List (Event O R)) (t : Time) → HaveOwnTimes x → payload_at (puts_but effect seen x) t ≡ cond (seen t) None (put_at effect x t)
  payload-puts_but seen [] t apart = sym (cond_none (seen t))
  payload-puts_but seen (e ∷ x) t apart = at (same_time t e.time) refl (payload-puts_but seen x t apart.1)
    where
      at : (same : Bool) → same_time t e.time ≡ same → payload_at (puts_but effect seen x) t ≡ cond (seen t) None (put_at effect x t)
          → payload_at (puts_but effect seen (e ∷ x)) t ≡ cond (seen t) None (cond (same_time t e.time) (effect e.operation).puts (put_at effect x t))
      at true is rest =
          let u : t ≡ e.time = same_time-eq t e.time is in
          let none : payload_at (puts_but effect seen x) t ≡ None = rest ∙ ap (λ o. cond (seen t) None o) (put_at-none effect x t (subst (λ s. among (times_of x) s ≡ false) (sym u) apart.0)) ∙ cond_none (seen t) in
          add_put-at (effect e.operation).puts (seen e.time) e.time (puts_but effect seen x) t true is (λ _. none)
          ∙ ap (λ s. cond (seen s) None (effect e.operation).puts) (sym u)
          ∙ ap (λ p. cond (seen t) None (cond p (effect e.operation).puts (put_at effect x t))) (sym is)
      at false is rest =
          add_put-at (effect e.operation).puts (seen e.time) e.time (puts_but effect seen x) t false is (λ no. cc)
          ∙ rest ∙ ap (λ p. cond (seen t) None (cond p (effect e.operation).puts (put_at effect x t))) (sym is)

  -- what is live at a time is what is put there, unless it was seen
  pub live-at : (x : List (Event O R)) (t : Time) → HaveOwnTimes x → payload_at (live_of effect x) t ≡ cond (is_hidden effect x t) None (put_at effect x t)
  live-at x t apart = payload-by_time (puts_but effect (is_hidden effect x) x) t ∙ payload-puts_but (is_hidden effect x) x t apart

  pub live-rising : (x : List (Event O R)) → IsRising (kept_times (live_of effect x))
  live-rising x = rising-by_time (puts_but effect (is_hidden effect x) x)

  put_at-step : (p : Bool) (a : Time → Bool) (e : Event O R) (x y : List (Event O R)) (t : Time) → a e.time ≡ p → put_at effect y t ≡ cond (a t) (put_at effect x t) None
      → put_at effect (cond p (e ∷ y) y) t ≡ cond (a t) (cond (same_time t e.time) (effect e.operation).puts (put_at effect x t)) None
  put_at-step p a e x y t is rest = at p (same_time t e.time) refl is
    where
      at : (p same : Bool) → same_time t e.time ≡ same → a e.time ≡ p → put_at effect (cond p (e ∷ y) y) t ≡ cond (a t) (cond same (effect e.operation).puts (put_at effect x t)) None
      at true true h is = let in_a : a t ≡ true = ap a (same_time-eq t e.time h) ∙ is in rw (h, in_a) refl
      at true false h is = rw h rest
      at false true h is = let out : a t ≡ false = ap a (same_time-eq t e.time h) ∙ is in rw out (rw out at rest)
      at false false h is = rest

  pub put_at-restrict : (a : Time → Bool) (x : List (Event O R)) (t : Time) → put_at effect (restrict a x) t ≡ cond (a t) (put_at effect x t) None
  put_at-restrict a [] t = sym (cond_none (a t))
  put_at-restrict a (e ∷ x) t = put_at-step (a e.time) a e x (restrict a x) t refl (put_at-restrict a x t)

-- events that a test chooses, of those in sets of times
either_any : (p q h l r m : Bool) → m ≡ (l || r) → (((p || q) && h) || m) ≡ (((p && h) || l) || ((q && h) || r))
either_any true true true l r m is = refl
either_any true true false l r m is = is
either_any true false true l r m is = refl
either_any true false false l r m is = is
either_any false true true true r m is = refl
either_any false true true false r m is = refl
either_any false true false l r m is = is
either_any false false h l r m is = is

module _ {O R V : Type 0} (effect : O → Effect V) where
  -- an event of the set has seen the time
  abbrev seen_in : (Time → Bool) → List (Event O R) → Time → Bool
  seen_in a [] t = false
  seen_in a (e ∷ x) t = (a e.time && ((effect e.operation).hides && among e.seen t)) || seen_in a x t

  seen-step : (p : Bool) (e : Event O R) (y : List (Event O R)) (t : Time) (m : Bool) → is_hidden effect y t ≡ m → is_hidden effect (cond p (e ∷ y) y) t ≡ ((p && ((effect e.operation).hides && among e.seen t)) || m)
  seen-step true e y t m h = ap (λ b. ((effect e.operation).hides && among e.seen t) || b) h
  seen-step false e y t m h = h

  seen-restrict : (a : Time → Bool) (x : List (Event O R)) (t : Time) → is_hidden effect (restrict a x) t ≡ seen_in a x t
  seen-restrict a [] t = refl
  seen-restrict a (e ∷ x) t = seen-step (a e.time) e (restrict a x) t (seen_in a x t) (seen-restrict a x t)

  seen-either : (a b : Time → Bool) (x : List (Event O R)) (t : Time) → seen_in (either a b) x t ≡ (seen_in a x t || seen_in b x t)
  seen-either a b [] t = refl
  seen-either a b (e ∷ x) t = either_any (a e.time) (b e.time) ((effect e.operation).hides && among e.seen t) (seen_in a x t) (seen_in b x t) (seen_in (either a b) x t) (seen-either a b x t)

  seen-sub : (a b : Time → Bool) (x : List (Event O R)) (t : Time) → ((s : Time) → a s ≡ true → b s ≡ true) → seen_in a x t ≡ true → seen_in b x t ≡ true
  seen-sub a b [] t sub h = h
  seen-sub a b (e ∷ x) t sub h =
      let f = (effect e.operation).hides && among e.seen t in
      ⊎_elim (λ here. let p = and_parts (a e.time) f here in or_left (b e.time && f) (seen_in b x t) (and_from (b e.time) f (sub e.time p.0) p.1))
      (λ there. or_right (b e.time && f) (seen_in b x t) (seen-sub a b x t sub there)) (or_cases (a e.time && f) (seen_in a x t) h)

  seen-closed : (a : Time → Bool) (x : List (Event O R)) (t : Time) → IsClosed a x → seen_in a x t ≡ true → a t ≡ true
  seen-closed a [] t closed h = cc
  seen-closed a (e ∷ x) t closed h =
      let f = (effect e.operation).hides && among e.seen t in
      ⊎_elim (λ here. let p = and_parts (a e.time) f here in closed.0 p.0 t (and_parts (effect e.operation).hides (among e.seen t) p.1).1)
      (λ there. seen-closed a x t closed.1 there) (or_cases (a e.time && f) (seen_in a x t) h)

  pub seen-among : (a : Time → Bool) (x : List (Event O R)) (t : Time) → AllSeenIn a x → is_hidden effect x t ≡ true → a t ≡ true
  seen-among a [] t all h = cc
  seen-among a (e ∷ x) t all h =
      ⊎_elim (λ here. all.0 t (and_parts (effect e.operation).hides (among e.seen t) here).1) (λ there. seen-among a x t all.1 there)
      (or_cases ((effect e.operation).hides && among e.seen t) (is_hidden effect x t) h)

-- what stays at a time, where each side has seen it, has it, or neither
module _ {V : Type 0} where
  in_both : (o : Option V) (sa sb sm : Bool) → (sm ≡ true → sa ≡ true) → (sm ≡ true → sb ≡ true) → cond (sa || sb) None o ≡ staying (cond sm None o) (cond sa None o) (cond sb None o)
  in_both o true true true left right = refl
  in_both None true true false left right = refl
  in_both (Some v) true true false left right = refl
  in_both o true false true left right = absurd (both_ways false refl (right refl))
  in_both None true false false left right = refl
  in_both (Some v) true false false left right = refl
  in_both o false sb true left right = absurd (both_ways false refl (left refl))
  in_both None false true false left right = refl
  in_both (Some v) false true false left right = refl
  in_both None false false false left right = refl
  in_both (Some v) false false false left right = refl

  left_alone : (o : Option V) → o ≡ staying None o None
  left_alone None = refl
  left_alone (Some v) = refl

  right_alone : (o : Option V) → o ≡ staying None None o
  right_alone o = refl

  stays-at : (o : Option V) (a b sa sb sm : Bool) → (sm ≡ true → sa ≡ true) → (sm ≡ true → sb ≡ true) → (sa ≡ true → a ≡ true) → (sb ≡ true → b ≡ true)
      → cond (sa || sb) None (cond (a || b) o None) ≡ staying (cond sm None (cond (a && b) o None)) (cond sa None (cond a o None)) (cond sb None (cond b o None))
  stays-at o true true sa sb sm ml mr la lb = in_both o sa sb sm ml mr
  stays-at o true false sa true sm ml mr la lb = absurd (both_ways false refl (lb refl))
  stays-at o true false sa false true ml mr la lb = absurd (both_ways false refl (mr refl))
  stays-at o true false true false false ml mr la lb = refl
  stays-at o true false false false false ml mr la lb = left_alone o
  stays-at o false true true sb sm ml mr la lb = absurd (both_ways false refl (la refl))
  stays-at o false true false sb true ml mr la lb = absurd (both_ways false refl (ml refl))
  stays-at o false true false true false ml mr la lb = refl
  stays-at o false true false false false ml mr la lb = refl
  stays-at o false false true sb sm ml mr la lb = absurd (both_ways false refl (la refl))
  stays-at o false false false true sm ml mr la lb = absurd (both_ways false refl (lb refl))
  stays-at o false false false false true ml mr la lb = refl
  stays-at o false false false false false ml mr la lb = refl

module _ {O R V : Type 0} (effect : O → Effect V) where
  -- what is live in a set of times, at a time
  live-in : (a : Time → Bool) (x : List (Event O R)) (t : Time) → HaveOwnTimes x → payload_at (live_of effect (restrict a x)) t ≡ cond (seen_in effect a x t) None (cond (a t) (put_at effect x t) None)
  live-in a x t apart =
      live-at effect (restrict a x) t (own-restrict a x apart)
      ∙ ap (λ p. cond p None (put_at effect (restrict a x) t)) (seen-restrict effect a x t) ∙ ap (λ o. cond (seen_in effect a x t) None o) (put_at-restrict effect a x t)

  -- what stays of what is live on both sides is live in the union
  pub live-merges : (x : List (Event O R)) (a b : Time → Bool) → HaveOwnTimes x → IsClosed a x → IsClosed b x → MergesEntries (live_of effect (restrict (both a b) x)) (live_of effect (restrict a x)) (live_of effect (restrict b x)) (live_of effect (restrict (either a b) x))
  live-merges x a b apart closed_a closed_b t =
      let o = put_at effect x t in
      let sa = seen_in effect a x t in
      let sb = seen_in effect b x t in
      let sm = seen_in effect (both a b) x t in
      let ml : sm ≡ true → sa ≡ true = seen-sub effect (both a b) a x t (λ s h. (and_parts (a s) (b s) h).0) in
      let mr : sm ≡ true → sb ≡ true = seen-sub effect (both a b) b x t (λ s h. (and_parts (a s) (b s) h).1) in
      live-in (either a b) x t apart
      ∙ ap (λ p. cond p None (cond (a t || b t) o None)) (seen-either effect a b x t)
      ∙ stays-at o (a t) (b t) sa sb sm ml mr (seen-closed effect a x t closed_a) (seen-closed effect b x t closed_b)
      ∙ sym (rw (live-in (both a b) x t apart, live-in a x t apart, live-in b x t apart) refl)

  -- so a merge of what is live on both sides is what is live in the union
  pub merged-live : (x : List (Event O R)) (a b : Time → Bool) (base left right merged : List (Kept V)) → HaveOwnTimes x → IsClosed a x → IsClosed b x
      → base ≡ live_of effect (restrict (both a b) x) → left ≡ live_of effect (restrict a x) → right ≡ live_of effect (restrict b x) → IsRising (kept_times merged) → MergesEntries base left right merged → merged ≡ live_of effect (restrict (either a b) x)
  merged-live x a b base left right merged apart closed_a closed_b is_base is_left is_right rising merges =
      same_entries merged (live_of effect (restrict (either a b) x)) rising (live-rising effect (restrict (either a b) x))
      (λ t. rw (is_base, is_left, is_right) at (merges t) ∙ sym (live-merges x a b apart closed_a closed_b t))

  -- where all is hidden, nothing is left
  puts_but-none : (hidden : Time → Bool) (x : List (Event O R)) → AllIn hidden (times_of x) → puts_but effect hidden x ≡ []
  puts_but-none hidden [] all = refl
  puts_but-none hidden (e ∷ x) all = at (effect e.operation).puts (hidden e.time) (all e.time (among-head e.time (times_of x))) (puts_but-none hidden x (λ t m. all t (among-tail e.time t (times_of x) m)))
    where
      at : (o : Option V) (h : Bool) → h ≡ true → puts_but effect hidden x ≡ [] → add_put o h e.time (puts_but effect hidden x) ≡ []
      at (Some v) true is rest = rest
      at (Some v) false is rest = cc
      at None h is rest = rest

  -- what holds of all times holds of those where something is live
  all_in-puts_but : (a hidden : Time → Bool) (x : List (Event O R)) → AllIn a (times_of x) → AllIn a (kept_times (puts_but effect hidden x))
  all_in-puts_but a hidden [] all = all
  all_in-puts_but a hidden (e ∷ x) all = at (effect e.operation).puts (hidden e.time) (all_in-puts_but a hidden x (λ t m. all t (among-tail e.time t (times_of x) m)))
    where
      at : (o : Option V) (h : Bool) → AllIn a (kept_times (puts_but effect hidden x)) → AllIn a (kept_times (add_put o h e.time (puts_but effect hidden x)))
      at (Some v) true rest = rest
      at (Some v) false rest = all_in-cons a e.time (kept_times (puts_but effect hidden x)) (all e.time (among-head e.time (times_of x))) rest
      at None h rest = rest

  -- what is live with one more event that has seen all
  pub live-next : (x : List (Event O R)) (t : Time) (o : O) (r : R) → AllSeenIn (among (times_of x)) x → IsAfter x t → live_of effect (next_event x t o r ∷ x) ≡ live_after (effect o) t (live_of effect x)
  live-next x t o r all after =
      let new : among (times_of x) t ≡ false = false_from_ne_true (among (times_of x) t) (λ m. both_ways (is_earlier t t) (is_earlier-irrefl t) (after t m)) in
      let unseen : is_hidden effect x t ≡ false = false_from_ne_true (is_hidden effect x t) (λ h. both_ways (among (times_of x) t) new (seen-among effect (among (times_of x)) x t all h)) in
      at (effect o).puts (effect o).hides new unseen
    where
      hidden_by : Bool → Time → Bool
      hidden_by h s = (h && among (times_of x) s) || is_hidden effect x s

      left : Bool → List (Kept V)
      left h = puts_but effect (hidden_by h) x

      -- what it leaves, it leaves as it was
      left-is : (h : Bool) → by_time (left h) ≡ cond h [] (live_of effect x)
      left-is true = ap by_time (puts_but-none (hidden_by true) x (λ s m. or_left (among (times_of x) s) (is_hidden effect x s) m))
      left-is false = refl

      at : (p : Option V) (h : Bool) → among (times_of x) t ≡ false → is_hidden effect x t ≡ false → by_time (add_put p (hidden_by h t) t (left h)) ≡ with_payload (cond h [] (live_of effect x)) t p
      at None h new unseen = left-is h
      at (Some v) h new unseen =
          let seen : hidden_by h t ≡ false = or_from (h && among (times_of x) t) (is_hidden effect x t) (and_right h (among (times_of x) t) new) unseen in
          let before : AllBefore (kept_times (by_time (left h))) t = all_in-by_time (λ s. is_earlier s t) (left h) (all_in-puts_but (λ s. is_earlier s t) (hidden_by h) x after) in
          ap (λ s. by_time (cond s (left h) (entry_of t v ∷ left h))) seen ∙ place-last (entry_of t v) (by_time (left h)) before ∙ ap (λ ks. ks ++ entry_of t v ∷ []) (left-is h)
