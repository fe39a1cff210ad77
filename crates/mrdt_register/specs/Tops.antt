-- The write of the greatest time, among what is written at each time.
use Rattle.std.proofs.Common.{◌≡◌, ℕ, Bool, true, false, cond, ◌&&◌, ◌||◌, Option, None, Some, List, [], ◌∷◌, map, refl, ◌∙◌, ap, sym, subst, IsTrue}
use Rattle.std.proofs.lemmas.Bool.{both_ways, false_from_ne_true}
use Rattle.mrdt_model.specs.declared.time.Time.{Time}
use Rattle.mrdt_model.specs.Times.{both, either, same_time, is_earlier, among}
use Rattle.mrdt_model.specs.Executions.{Event, times_of, restrict, IsAfter, event_at, AreSameEvent, HoldSameEvents}
use Rattle.mrdt_model.proofs.TimeSets.{same_time-eq, same_time-refl, restrict-agree}
use Rattle.mrdt_model.proofs.Executions.{is_earlier-irrefl}
use Rattle.live_set.specs.declared.kept.Kept.{Kept}
use Rattle.live_set.specs.Entries.{kept_times, payload_at}
use Rattle.live_set.proofs.Order.{earlier-neither, earlier-other, earlier-not, not_earlier-trans, other-sym}
use Rattle.live_set.proofs.Rising.{entry_of, payload-among}
use Rattle.mrdt_register.specs.declared.op.RegisterOp.{RegisterOp}
use Rattle.mrdt_register.specs.Writes.{write_of, payload_of}
use Rattle.mrdt_register.specs.Lww.{later, latest}

abbrev Payloads : Type 0
Payloads = Time → Option (List ℕ)

-- of what is written at each time, nothing at a greater time, or nothing at all
abbrev IsTop : Option (Kept (List ℕ)) → Payloads → Type 0
IsTop None f = (t : Time) → f t ≡ None
IsTop (Some k) f = (f k.time ≡ Some k.payload) × ((t : Time) (v : List ℕ) → f t ≡ Some v → is_earlier k.time t ≡ false)

some_none : (v : List ℕ) (o : Option (List ℕ)) → o ≡ Some v → o ≡ None → ⊥
some_none v o is none = let clash : Some v ≡ None = sym is ∙ none in cc

same_kept : (j k : Kept (List ℕ)) → j.time ≡ k.time → j.payload ≡ k.payload → j ≡ k
same_kept j k p q = ap (λ t. entry_of t j.payload) p ∙ ap (λ v. entry_of k.time v) q

-- there is one
one_top : (o p : Option (Kept (List ℕ))) (f : Payloads) → IsTop o f → IsTop p f → o ≡ p
one_top None None f a b = refl
one_top None (Some k) f a b = absurd (some_none k.payload (f k.time) b.0 (a k.time))
one_top (Some j) None f a b = absurd (some_none j.payload (f j.time) a.0 (b j.time))
one_top (Some j) (Some k) f a b =
    let times : j.time ≡ k.time = same_time-eq j.time k.time (earlier-neither j.time k.time (a.1 k.time k.payload b.0) (b.1 j.time j.payload a.0)) in
    let here : Some j.payload ≡ Some k.payload = sym a.0 ∙ ap f times ∙ b.0 in
    let payloads : j.payload ≡ k.payload = cc in
    ap Some (same_kept j k times payloads)

-- not before j, which is not before t: so not before t
not_before-trans : (k j t : Time) → is_earlier k j ≡ false → is_earlier j t ≡ false → is_earlier k t ≡ false
not_before-trans k j t p q = false_from_ne_true (is_earlier k t) (λ h.
    let r : is_earlier t j ≡ false = not_earlier-trans k t j h p in
    let same : t ≡ j = same_time-eq t j (earlier-neither t j r q) in
    both_ways (is_earlier k j) p (subst (λ u. is_earlier k u ≡ true) same h))

abbrev with_first : Kept (List ℕ) → Payloads → Payloads
with_first k f t = cond (same_time t k.time) (Some k.payload) (f t)

first_found : (k : Kept (List ℕ)) (f : Payloads) → with_first k f k.time ≡ Some k.payload
first_found k f = ap (λ b. cond b (Some k.payload) (f k.time)) (same_time-refl k.time)

-- what holds at the first time and where something else is written
with_first-all : (k : Kept (List ℕ)) (f : Payloads) (s : Time) → is_earlier s k.time ≡ false → ((t : Time) (v : List ℕ) → f t ≡ Some v → is_earlier s t ≡ false) → (t : Time) (v : List ℕ) → with_first k f t ≡ Some v → is_earlier s t ≡ false
with_first-all k f s here rest t v h = at (same_time t k.time) refl h
  where
    at : (p : Bool) → same_time t k.time ≡ p → cond p (Some k.payload) (f t) ≡ Some v → is_earlier s t ≡ false
    at true is found = subst (λ u. is_earlier s u ≡ false) (sym (same_time-eq t k.time is)) here
    at false is found = rest t v found

-- one more write
top_more : (k : Kept (List ℕ)) (o : Option (Kept (List ℕ))) (f : Payloads) → IsTop o f → IsTop (later (Some k) o) (with_first k f)
top_more k None f a = (first_found k f, with_first-all k f k.time (is_earlier-irrefl k.time) (λ t v h. absurd (some_none v (f t) h (a t))))
top_more k (Some j) f a = at (is_earlier k.time j.time) refl
  where
    at : (p : Bool) → is_earlier k.time j.time ≡ p → IsTop (cond p (Some j) (Some k)) (with_first k f)
    at true is = (
      ap (λ b. cond b (Some k.payload) (f j.time)) (other-sym k.time j.time (earlier-other k.time j.time is)) ∙ a.0,
      with_first-all k f j.time (earlier-not k.time j.time is) a.1,
    )
    at false is = (first_found k f, with_first-all k f k.time (is_earlier-irrefl k.time) (λ t v h. not_before-trans k.time j.time t is (a.1 t v h)))

abbrev either_of : Option (List ℕ) → Option (List ℕ) → Option (List ℕ)
either_of None p = p
either_of (Some v) p = Some v

either_all : (f g : Payloads) (s : Time) → ((t : Time) (v : List ℕ) → f t ≡ Some v → is_earlier s t ≡ false) → ((t : Time) (v : List ℕ) → g t ≡ Some v → is_earlier s t ≡ false) → (t : Time) (v : List ℕ) → either_of (f t) (g t) ≡ Some v → is_earlier s t ≡ false
either_all f g s left right t v h = at (f t) refl h
  where
    at : (o : Option (List ℕ)) → f t ≡ o → either_of o (g t) ≡ Some v → is_earlier s t ≡ false
    at None is found = right t v found
    at (Some w) is found = left t w is

either_right : (f g : Payloads) (k : Kept (List ℕ)) → ((v : List ℕ) → f k.time ≡ Some v → ⊥) → g k.time ≡ Some k.payload → either_of (f k.time) (g k.time) ≡ Some k.payload
either_right f g k none found = at (f k.time) refl
  where
    at : (o : Option (List ℕ)) → f k.time ≡ o → either_of o (g k.time) ≡ Some k.payload
    at None is = found
    at (Some v) is = absurd (none v is)

-- of two sides the later one
top_either : (o p : Option (Kept (List ℕ))) (f g : Payloads) → IsTop o f → IsTop p g → IsTop (later o p) (λ t. either_of (f t) (g t))
top_either None None f g a b = λ t. ap (λ q. either_of q (g t)) (a t) ∙ b t
top_either None (Some k) f g a b = (ap (λ q. either_of q (g k.time)) (a k.time) ∙ b.0, either_all f g k.time (λ t v h. absurd (some_none v (f t) h (a t))) b.1)
top_either (Some j) None f g a b = (ap (λ q. either_of q (g j.time)) a.0, either_all f g j.time a.1 (λ t v h. absurd (some_none v (g t) h (b t))))
top_either (Some j) (Some k) f g a b = at (is_earlier j.time k.time) refl
  where
    at : (q : Bool) → is_earlier j.time k.time ≡ q → IsTop (cond q (Some k) (Some j)) (λ t. either_of (f t) (g t))
    at true is = (
      either_right f g k (λ v h. both_ways (is_earlier j.time k.time) (a.1 k.time v h) is) b.0,
      either_all f g k.time (λ t v h. not_before-trans k.time j.time t (earlier-not j.time k.time is) (a.1 t v h)) b.1,
    )
    at false is = (ap (λ q. either_of q (g j.time)) a.0, either_all f g j.time a.1 (λ t v h. not_before-trans j.time k.time t is (b.1 t v h)))

top_agree : (o : Option (Kept (List ℕ))) (f g : Payloads) → ((t : Time) → f t ≡ g t) → IsTop o f → IsTop o g
top_agree None f g same a = λ t. sym (same t) ∙ a t
top_agree (Some k) f g same a = (sym (same k.time) ∙ a.0, λ t v h. a.1 t v (same t ∙ h))

none_kept : (p : Bool) → cond {A = Option (List ℕ)} p None None ≡ None
none_kept true = refl
none_kept false = refl

within : (p q : Bool) → ((p && q) || q) ≡ q
within true true = refl
within true false = refl
within false q = refl

within_first : (p q : Bool) → (p || (p && q)) ≡ p
within_first true q = refl
within_first false q = refl

module _ {R : Type 0} where
  abbrev writes : List (Event RegisterOp R) → Payloads
  writes x t = payload_at (map write_of x) t

  top_latest : (x : List (Event RegisterOp R)) → IsTop (latest x) (writes x)
  top_latest [] = λ t. refl
  top_latest (e ∷ x) = top_more (write_of e) (latest x) (writes x) (top_latest x)

  at_event : (p q : Bool) (a : Time → Bool) (e : Event RegisterOp R) (x y : List (Event RegisterOp R)) (t : Time) → a e.time ≡ p → same_time t e.time ≡ q → writes y t ≡ cond (a t) (writes x t) None
      → writes (cond p (e ∷ y) y) t ≡ cond (a t) (cond (same_time t e.time) (Some (payload_of e.operation)) (writes x t)) None
  at_event true true a e x y t is same h = let in_a : a t ≡ true = ap a (same_time-eq t e.time same) ∙ is in rw (same, in_a) refl
  at_event true false a e x y t is same h = rw same h
  at_event false true a e x y t is same h = let out : a t ≡ false = ap a (same_time-eq t e.time same) ∙ is in h ∙ rw out refl
  at_event false false a e x y t is same h = rw same h

  writes-restrict : (a : Time → Bool) (x : List (Event RegisterOp R)) (t : Time) → writes (restrict a x) t ≡ cond (a t) (writes x t) None
  writes-restrict a [] t = sym (none_kept (a t))
  writes-restrict a (e ∷ x) t = at_event (a e.time) (same_time t e.time) a e x (restrict a x) t refl refl (writes-restrict a x t)

  -- of two sides that merge, the later one
  pub latest-union : (x : List (Event RegisterOp R)) (a b : Time → Bool) → later (latest (restrict a x)) (latest (restrict b x)) ≡ latest (restrict (either a b) x)
  latest-union x a b =
      one_top (later (latest (restrict a x)) (latest (restrict b x))) (latest (restrict (either a b) x)) (writes (restrict (either a b) x))
      (top_agree (later (latest (restrict a x)) (latest (restrict b x))) (λ t. either_of (writes (restrict a x) t) (writes (restrict b x) t)) (writes (restrict (either a b) x)) (λ t.
      rw (writes-restrict a x t, writes-restrict b x t) (union (a t) (b t) (writes x t)) ∙ sym (writes-restrict (either a b) x t))
      (top_either (latest (restrict a x)) (latest (restrict b x)) (writes (restrict a x)) (writes (restrict b x)) (top_latest (restrict a x)) (top_latest (restrict b x))))
      (top_latest (restrict (either a b) x))
    where
      union : (p q : Bool) (o : Option (List ℕ)) → either_of (cond p o None) (cond q o None) ≡ cond (p || q) o None
      union true true None = refl
      union true true (Some v) = refl
      union true false None = refl
      union true false (Some v) = refl
      union false true o = refl
      union false false o = refl

  times_of-writes : (x : List (Event RegisterOp R)) → kept_times (map write_of x) ≡ times_of x
  times_of-writes [] = refl
  times_of-writes (e ∷ x) = ap (λ ts. e.time ∷ ts) (times_of-writes x)

  -- a write that comes next
  pub latest-next : (x : List (Event RegisterOp R)) (e : Event RegisterOp R) → IsAfter x e.time → latest (e ∷ x) ≡ Some (write_of e)
  latest-next x e after =
      one_top (latest (e ∷ x)) (Some (write_of e)) (writes (e ∷ x)) (top_latest (e ∷ x)) (
        first_found (write_of e) (writes x),
        with_first-all (write_of e) (writes x) e.time (is_earlier-irrefl e.time) (λ t v h.
            earlier-not t e.time (after t (subst (λ ts. IsTrue (among ts t)) (times_of-writes x) (payload-among (map write_of x) t v h)))),
      )

  -- where the left's latest write is the base's, the right has that of the union
  pub latest-left_within : (x : List (Event RegisterOp R)) (a b : Time → Bool) → latest (restrict a x) ≡ latest (restrict (both a b) x) → latest (restrict b x) ≡ latest (restrict (either a b) x)
  latest-left_within x a b is =
      ap latest (sym (restrict-agree (either (both a b) b) b x (λ t m. within (a t) (b t)))) ∙ sym (latest-union x (both a b) b)
      ∙ ap (λ o. later o (latest (restrict b x))) (sym is) ∙ latest-union x a b

  -- and so for the other side
  pub latest-right_within : (x : List (Event RegisterOp R)) (a b : Time → Bool) → latest (restrict b x) ≡ latest (restrict (both a b) x) → latest (restrict a x) ≡ latest (restrict (either a b) x)
  latest-right_within x a b is =
      ap latest (sym (restrict-agree (either a (both a b)) a x (λ t m. within_first (a t) (b t)))) ∙ sym (latest-union x a (both a b))
      ∙ ap (later (latest (restrict a x))) (sym is) ∙ latest-union x a b

  -- what the event at a time has written
  abbrev written : Option (Event RegisterOp R) → Option (List ℕ)
  written None = None
  written (Some e) = Some (payload_of e.operation)

  writes-event : (x : List (Event RegisterOp R)) (t : Time) → writes x t ≡ written (event_at x t)
  writes-event [] t = refl
  writes-event (e ∷ x) t = at (same_time t e.time) (writes-event x t)
    where
      at : (p : Bool) → writes x t ≡ written (event_at x t) → cond p (Some (payload_of e.operation)) (writes x t) ≡ written (cond p (Some e) (event_at x t))
      at true rest = refl
      at false rest = rest

  written-alike : (o p : Option (Event RegisterOp R)) → AreSameEvent o p → written o ≡ written p
  written-alike None None same = refl
  written-alike None (Some f) same = absurd same
  written-alike (Some e) None same = absurd same
  written-alike (Some e) (Some f) same = ap (λ o. Some (payload_of o)) same.operation

  -- the order in which events are listed does not show
  pub latest-alike : (x y : List (Event RegisterOp R)) → HoldSameEvents x y → latest x ≡ latest y
  latest-alike x y same =
      one_top (latest x) (latest y) (writes y)
      (top_agree (latest x) (writes x) (writes y) (λ t. writes-event x t ∙ written-alike (event_at x t) (event_at y t) (same t) ∙ sym (writes-event y t)) (top_latest x)) (top_latest y)
