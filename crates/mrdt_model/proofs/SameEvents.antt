-- Executions that hold the same events, in any order: a test of some event, the times and the parts are the same.
use Rattle.std.proofs.Common.{◌≡◌, Bool, true, false, cond, ◌&&◌, ◌||◌, List, [], ◌∷◌, refl, ◌∙◌, ap, sym, subst, IsTrue, filter, Option, None, Some, ⊎_elim}
use Rattle.std.specs.Prelude.{is_some}
use Rattle.std.specs.List.{list_any}
use Rattle.std.proofs.lemmas.Bool.{or_cases, or_left, or_right, both_ways, false_from_ne_true}
use Rattle.mrdt_model.specs.declared.time.Time.{Time}
use Rattle.mrdt_model.specs.Times.{same_time, among}
use Rattle.mrdt_model.specs.Executions.{Event, times_of, AllIn, IsWellFormed, event_at, IsSameEvent, AreSameEvent, HoldSameEvents, add_part, part_of}
use Rattle.mrdt_model.proofs.TimeSets.{same_time-eq, same_time-refl, among-filter}
use Rattle.mrdt_model.proofs.Parts.{part-times, AllSeenIn, all_seen}

-- two tests of which each passes where the other does
both_pass : (p q : Bool) → (IsTrue p → IsTrue q) → (IsTrue q → IsTrue p) → p ≡ q
both_pass true q there back = sym (there refl)
both_pass false true there back = back refl
both_pass false false there back = refl

module _ {O R : Type 0} where
  -- no two events have one time
  abbrev pub HaveOwnTimes : List (Event O R) → Type 0
  HaveOwnTimes [] = Unit {0}
  HaveOwnTimes (e ∷ x) = (among (times_of x) e.time ≡ false) × HaveOwnTimes x

  pub own-times : (is_op : O → Type 0) (is_reply : R → Type 0) (x : List (Event O R)) → IsWellFormed is_op is_reply x → HaveOwnTimes x
  own-times is_op is_reply [] w = tt
  own-times is_op is_reply (e ∷ x) w = (w.0.new, own-times is_op is_reply x w.1)

  -- there is an event at the times of the list alone
  pub among-event : (x : List (Event O R)) (t : Time) → among (times_of x) t ≡ is_some (event_at x t)
  among-event [] t = refl
  among-event (e ∷ x) t = at (same_time t e.time) (among-event x t)
    where
      at : (b : Bool) → among (times_of x) t ≡ is_some (event_at x t) → (b || among (times_of x) t) ≡ is_some (cond b (Some e) (event_at x t))
      at true h = refl
      at false h = h

  pub event-first : (e : Event O R) (x : List (Event O R)) → event_at (e ∷ x) e.time ≡ Some e
  event-first e x = ap (λ b. cond b (Some e) (event_at x e.time)) (same_time-refl e.time)

  -- an event that is found behind a newer one is not at the newer one's time
  pub event-later : (e f : Event O R) (x : List (Event O R)) (t : Time) → among (times_of x) e.time ≡ false → event_at x t ≡ Some f → event_at (e ∷ x) t ≡ Some f
  event-later e f x t new is = ap (λ b. cond b (Some e) (event_at x t)) other ∙ is
    where
      other : same_time t e.time ≡ false
      other = false_from_ne_true (same_time t e.time) (λ s.
          let here : among (times_of x) t ≡ true = among-event x t ∙ ap is_some is in
          both_ways (among (times_of x) e.time) new (subst (λ u. IsTrue (among (times_of x) u)) (same_time-eq t e.time s) here))

  same_is_some : (o p : Option (Event O R)) → AreSameEvent o p → is_some o ≡ is_some p
  same_is_some None None same = refl
  same_is_some None (Some f) same = absurd same
  same_is_some (Some e) None same = absurd same
  same_is_some (Some e) (Some f) same = refl

  -- the times are the same
  pub times-alike : (x y : List (Event O R)) → HoldSameEvents x y → (t : Time) → among (times_of x) t ≡ among (times_of y) t
  times-alike x y same t = among-event x t ∙ same_is_some (event_at x t) (event_at y t) (same t) ∙ sym (among-event y t)

  pub same_back : (e f : Event O R) → IsSameEvent e f → IsSameEvent f e
  same_back e f same = record { time = sym same.time; operation = sym same.operation; reply = sym same.reply; seen = λ t. sym (same.seen t) }

  are_back : (o p : Option (Event O R)) → AreSameEvent o p → AreSameEvent p o
  are_back None None same = tt
  are_back None (Some f) same = absurd same
  are_back (Some e) None same = absurd same
  are_back (Some e) (Some f) same = same_back e f same

  pub hold-back : (x y : List (Event O R)) → HoldSameEvents x y → HoldSameEvents y x
  hold-back x y same = λ t. are_back (event_at x t) (event_at y t) (same t)

  -- an event of the list that passes a test, found at its time
  pub record FoundEvent (p : Event O R → Bool) (x : List (Event O R)) : Type 0 where
    pub event : Event O R
    pub time : Time
    pub at : event_at x time ≡ Some event
    pub passes : IsTrue (p event)

  pub found-event : (p : Event O R → Bool) (x : List (Event O R)) → HaveOwnTimes x → IsTrue (list_any p x) → FoundEvent p x
  found-event p [] own h = cc
  found-event p (e ∷ x) own h =
      ⊎_elim (λ is. record { event = e; time = e.time; at = event-first e x; passes = is })
      (λ m. let f = found-event p x own.1 m in record { event = f.event; time = f.time; at = event-later e f.event x f.time own.0 f.at; passes = f.passes })
      (or_cases (p e) (list_any p x) h)

  pub any-at : (p : Event O R → Bool) (x : List (Event O R)) (t : Time) (f : Event O R) → event_at x t ≡ Some f → IsTrue (p f) → IsTrue (list_any p x)
  any-at p [] t f h is = cc
  any-at p (e ∷ x) t f h is = at (same_time t e.time) h (λ there. any-at p x t f there is)
    where
      at : (b : Bool) → cond b (Some e) (event_at x t) ≡ Some f → (event_at x t ≡ Some f → IsTrue (list_any p x)) → IsTrue (p e || list_any p x)
      at true same rest = let e_is : e ≡ f = cc in or_left (p e) (list_any p x) (subst (λ g. IsTrue (p g)) (sym e_is) is)
      at false there rest = or_right (p e) (list_any p x) (rest there)

  any_there : (p q : Event O R → Bool) (x y : List (Event O R)) → HaveOwnTimes x → HoldSameEvents x y → ((e f : Event O R) → IsSameEvent e f → p e ≡ q f) → IsTrue (list_any p x) → IsTrue (list_any q y)
  any_there p q x y own same agree h =
      let f = found-event p x own h in
      at f.event f.time f.passes (event_at y f.time) refl (subst (λ o. AreSameEvent o (event_at y f.time)) f.at (same f.time))
    where
      at : (e : Event O R) (t : Time) → IsTrue (p e) → (o : Option (Event O R)) → event_at y t ≡ o → AreSameEvent (Some e) o → IsTrue (list_any q y)
      at e t is None at_t both = absurd both
      at e t is (Some g) at_t both = any-at q y t g at_t (sym (agree e g both) ∙ is)

  -- two tests that agree on the same events hold of some event of both or of none
  pub any-alike : (p q : Event O R → Bool) (x y : List (Event O R)) → HaveOwnTimes x → HaveOwnTimes y → HoldSameEvents x y → ((e f : Event O R) → IsSameEvent e f → p e ≡ q f) → list_any p x ≡ list_any q y
  any-alike p q x y own_x own_y same agree =
      both_pass (list_any p x) (list_any q y)
      (any_there p q x y own_x same agree)
      (any_there q p y x own_y (hold-back x y same) (λ e f both. sym (agree f e (same_back e f both))))

module _ {O R P S : Type 0} (pick : O → R → Option (P × S)) where
  -- an event of the part is what was chosen of an event, and has seen of it the times of the part
  pub record IsPicked (whole : List (Event O R)) (e : Event O R) (c : P × S) (f : Event P S) : Type 0 where
    pub time : f.time ≡ e.time
    pub operation : f.operation ≡ c.0
    pub reply : f.reply ≡ c.1
    pub seen : (t : Time) → among f.seen t ≡ (among (times_of (part_of pick whole)) t && among e.seen t)

  abbrev pub PickedAs : List (Event O R) → Event O R → Option (P × S) → Option (Event P S) → Type 0
  PickedAs whole e None None = Unit {0}
  PickedAs whole e None (Some f) = ⊥
  PickedAs whole e (Some c) None = ⊥
  PickedAs whole e (Some c) (Some f) = IsPicked whole e c f

  abbrev pub PartAt : List (Event O R) → Option (Event O R) → Option (Event P S) → Type 0
  PartAt whole None None = Unit {0}
  PartAt whole None (Some f) = ⊥
  PartAt whole (Some e) o = PickedAs whole e (pick e.operation e.reply) o

  abbrev is_picked : Option (Event O R) → Bool
  is_picked None = false
  is_picked (Some e) = is_some (pick e.operation e.reply)

  picked_some : (whole : List (Event O R)) (e : Event O R) (c : Option (P × S)) (o : Option (Event P S)) → PickedAs whole e c o → is_some o ≡ is_some c
  picked_some whole e None None h = refl
  picked_some whole e None (Some f) h = absurd h
  picked_some whole e (Some c) None h = absurd h
  picked_some whole e (Some c) (Some f) h = refl

  part_some : (whole : List (Event O R)) (o : Option (Event O R)) (p : Option (Event P S)) → PartAt whole o p → is_some p ≡ is_picked o
  part_some whole None None h = refl
  part_some whole None (Some f) h = absurd h
  part_some whole (Some e) p h = picked_some whole e (pick e.operation e.reply) p h

  -- with an event more, the older events of the part stay, since none of them has seen the newer
  more_picked : (g : Event O R) (x : List (Event O R)) (e : Event O R) (c : Option (P × S)) (o : Option (Event P S))
      → ((t : Time) → IsTrue (among e.seen t) → among (times_of (part_of pick (g ∷ x))) t ≡ among (times_of (part_of pick x)) t)
      → PickedAs x e c o → PickedAs (g ∷ x) e c o
  more_picked g x e None None agree h = tt
  more_picked g x e None (Some f) agree h = absurd h
  more_picked g x e (Some c) None agree h = absurd h
  more_picked g x e (Some c) (Some f) agree h =
      record { time = h.time; operation = h.operation; reply = h.reply; seen = λ t. h.seen t ∙ at (among e.seen t) (among (times_of (part_of pick x)) t) (among (times_of (part_of pick (g ∷ x))) t) (agree t) }
    where
      at : (seen old new : Bool) → (IsTrue seen → new ≡ old) → (old && seen) ≡ (new && seen)
      at true old new same = rw (same refl) refl
      at false true true same = refl
      at false true false same = refl
      at false false true same = refl
      at false false false same = refl

  added_times : (g : Event O R) (c : Option (P × S)) (y : List (Event P S)) (t : Time) → same_time t g.time ≡ false → among (times_of (add_part g c y)) t ≡ among (times_of y) t
  added_times g None y t other = refl
  added_times g (Some c) y t other = rw other refl

  -- the times of the part that the older events may have seen are those of the part of the older events
  older_times : (g : Event O R) (x : List (Event O R)) (t : Time) → among (times_of x) g.time ≡ false → IsTrue (among (times_of x) t) → among (times_of (part_of pick (g ∷ x))) t ≡ among (times_of (part_of pick x)) t
  older_times g x t new there = added_times g (pick g.operation g.reply) (part_of pick x) t (false_from_ne_true (same_time t g.time) (λ s. both_ways (among (times_of x) g.time) new (subst (λ u. IsTrue (among (times_of x) u)) (same_time-eq t g.time s) there)))

  seen_in : (a : Time → Bool) (x : List (Event O R)) (t : Time) (e : Event O R) → AllSeenIn a x → event_at x t ≡ Some e → AllIn a e.seen
  seen_in a [] t e all is = cc
  seen_in a (g ∷ x) t e all is = at (same_time t g.time) is (λ there. seen_in a x t e all.1 there)
    where
      at : (b : Bool) → cond b (Some g) (event_at x t) ≡ Some e → (event_at x t ≡ Some e → AllIn a e.seen) → AllIn a e.seen
      at true here rest = let g_is : g ≡ e = cc in subst (λ (f : Event O R). AllIn a f.seen) g_is all.0
      at false there rest = rest there

  more_part : (g : Event O R) (x : List (Event O R)) (t : Time) (o : Option (Event O R)) (p : Option (Event P S))
      → among (times_of x) g.time ≡ false → AllSeenIn (among (times_of x)) x → event_at x t ≡ o → PartAt x o p → PartAt (g ∷ x) o p
  more_part g x t None None new all is h = tt
  more_part g x t None (Some f) new all is h = absurd h
  more_part g x t (Some e) p new all is h =
      more_picked g x e (pick e.operation e.reply) p (λ u m. older_times g x u new (seen_in (among (times_of x)) x t e all is u m)) h

  none_there : (y : List (Event P S)) (t : Time) → among (times_of y) t ≡ false → event_at y t ≡ None
  none_there y t out = at (event_at y t) (sym (among-event y t) ∙ out)
    where
      at : (o : Option (Event P S)) → is_some o ≡ false → o ≡ None
      at None h = refl
      at (Some f) h = cc

  module _ (is_op : O → Type 0) (is_reply : R → Type 0) where
    first_picked : (g : Event O R) (x : List (Event O R)) (c : Option (P × S)) (t : Time) → same_time t g.time ≡ true → pick g.operation g.reply ≡ c → IsWellFormed is_op is_reply (g ∷ x)
        → PickedAs (g ∷ x) g c (event_at (add_part g c (part_of pick x)) t)
    first_picked g x None t here chosen w =
        let y = part_of pick x in
        let out : among (times_of y) t ≡ false =
        false_from_ne_true (among (times_of y) t) (λ m. both_ways (among (times_of x) g.time) w.0.new (subst (λ u. IsTrue (among (times_of x) u)) (same_time-eq t g.time here) (part-times pick x t m))) in
        subst (λ o. PickedAs (g ∷ x) g None o) (sym (none_there y t out)) tt
    first_picked g x (Some c) t here chosen w =
        let y = part_of pick x in
        let f = among (times_of y) in
        let made : Event P S = record { time = g.time; operation = c.0; reply = c.1; seen = filter f g.seen } in
        let at_t : event_at (made ∷ y) t ≡ Some made = ap (λ b. cond b (Some made) (event_at y t)) here in
        subst (λ o. PickedAs (g ∷ x) g (Some c) o) (sym at_t) (record {
          time = refl;
          operation = refl;
          reply = refl;
          seen = λ u. among-filter f g.seen u ∙ cut (among g.seen u) (f u) (among (times_of (part_of pick (g ∷ x))) u) (λ m. older_times g x u w.0.new (w.0.after u m));
        })
      where
        cut : (seen old new : Bool) → (IsTrue seen → new ≡ old) → (old && seen) ≡ (new && seen)
        cut true old new same = rw (same refl) refl
        cut false true true same = refl
        cut false true false same = refl
        cut false false true same = refl
        cut false false false same = refl

    -- the part's event at each time is what was chosen of the event there
    pub part-at : (x : List (Event O R)) (t : Time) → IsWellFormed is_op is_reply x → PartAt x (event_at x t) (event_at (part_of pick x) t)
    part-at [] t w = tt
    part-at (g ∷ x) t w = at (same_time t g.time) refl (part-at x t w.1)
      where
        behind : (c : Option (P × S)) (y : List (Event P S)) → same_time t g.time ≡ false → event_at (add_part g c y) t ≡ event_at y t
        behind None y other = refl
        behind (Some c) y other = rw other refl

        at : (b : Bool) → same_time t g.time ≡ b → PartAt x (event_at x t) (event_at (part_of pick x) t) → PartAt (g ∷ x) (cond b (Some g) (event_at x t)) (event_at (part_of pick (g ∷ x)) t)
        at true here h = first_picked g x (pick g.operation g.reply) t here refl w
        at false other h =
            subst (λ p. PartAt (g ∷ x) (event_at x t) p) (sym (behind (pick g.operation g.reply) (part_of pick x) other))
            (more_part g x t (event_at x t) (event_at (part_of pick x) t) w.0.new (all_seen is_op is_reply x w.1) refl h)

    picked_alike : (o p : Option (Event O R)) → AreSameEvent o p → is_picked o ≡ is_picked p
    picked_alike None None same = refl
    picked_alike None (Some f) same = absurd same
    picked_alike (Some e) None same = absurd same
    picked_alike (Some e) (Some f) same = ap (λ o. is_some (pick o e.reply)) same.operation ∙ ap (λ r. is_some (pick f.operation r)) same.reply

    -- the times of the parts are the same
    pub part-times-alike : (x y : List (Event O R)) → IsWellFormed is_op is_reply x → IsWellFormed is_op is_reply y → HoldSameEvents x y → (t : Time) → among (times_of (part_of pick x)) t ≡ among (times_of (part_of pick y)) t
    part-times-alike x y v w same t =
        among-event (part_of pick x) t
        ∙ part_some x (event_at x t) (event_at (part_of pick x) t) (part-at x t v)
        ∙ picked_alike (event_at x t) (event_at y t) (same t)
        ∙ sym (part_some y (event_at y t) (event_at (part_of pick y) t) (part-at y t w))
        ∙ sym (among-event (part_of pick y) t)

    same_picked : (x y : List (Event O R)) (e f : Event O R) (c : Option (P × S)) (o p : Option (Event P S))
        → ((t : Time) → among (times_of (part_of pick x)) t ≡ among (times_of (part_of pick y)) t) → IsSameEvent e f → PickedAs x e c o → PickedAs y f c p → AreSameEvent o p
    same_picked x y e f None None None times same h k = tt
    same_picked x y e f None None (Some b) times same h k = absurd k
    same_picked x y e f None (Some a) p times same h k = absurd h
    same_picked x y e f (Some c) None p times same h k = absurd h
    same_picked x y e f (Some c) (Some a) None times same h k = absurd k
    same_picked x y e f (Some c) (Some a) (Some b) times same h k =
        record {
          time = h.time ∙ same.time ∙ sym k.time;
          operation = h.operation ∙ sym k.operation;
          reply = h.reply ∙ sym k.reply;
          seen = λ t. h.seen t ∙ ap (λ q. q && among e.seen t) (times t) ∙ ap (λ q. among (times_of (part_of pick y)) t && q) (same.seen t) ∙ sym (k.seen t);
        }

    same_part : (x y : List (Event O R)) (d e : Option (Event O R)) (o p : Option (Event P S))
        → ((t : Time) → among (times_of (part_of pick x)) t ≡ among (times_of (part_of pick y)) t) → AreSameEvent d e → PartAt x d o → PartAt y e p → AreSameEvent o p
    same_part x y None None None None times same h k = tt
    same_part x y None None None (Some b) times same h k = absurd k
    same_part x y None None (Some a) p times same h k = absurd h
    same_part x y None (Some e) o p times same h k = absurd same
    same_part x y (Some d) None o p times same h k = absurd same
    same_part x y (Some d) (Some e) o p times same h k =
        let picks : pick d.operation d.reply ≡ pick e.operation e.reply = ap (λ q. pick q d.reply) same.operation ∙ ap (λ r. pick e.operation r) same.reply in
        same_picked x y d e (pick d.operation d.reply) o p times same h (subst (λ c. PickedAs y e c p) (sym picks) k)

    -- the parts of executions of the same events hold the same events
    pub part-alike : (x y : List (Event O R)) → IsWellFormed is_op is_reply x → IsWellFormed is_op is_reply y → HoldSameEvents x y → HoldSameEvents (part_of pick x) (part_of pick y)
    part-alike x y v w same = λ t.
        same_part x y (event_at x t) (event_at y t) (event_at (part_of pick x) t) (event_at (part_of pick y) t) (part-times-alike x y v w same) (same t) (part-at x t v) (part-at y t w)
