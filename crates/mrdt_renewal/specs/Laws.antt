-- Renewed events keep the laws: they are lawful, at the same times, and hold the same events where the old ones do.
use Rattle.std.proofs.Common.{◌≡◌, ℕ, suc, Bool, true, false, cond, Option, None, Some, List, [], ◌∷◌, length, refl, ◌∙◌, ap, sym, subst, arith}
use Rattle.mrdt_model.specs.declared.time.Time.{Time}
use Rattle.mrdt_model.specs.Times.{same_time, among, both, either}
use Rattle.mrdt_model.specs.Executions.{Event, times_of, restrict, IsClosed, MayFollow, IsWellFormed, IsFaithful, IsAfter, next_event, event_at, AreSameEvent, HoldSameEvents}
use Rattle.mrdt_model.specs.Laws.{Meaning, KeepsLaws, Lawful, Applies, Merges, StandsAsWell, Answers}
use Rattle.mrdt_model.proofs.Executions.{restrict-well_formed, restrict-faithful, restrict-length}
use Rattle.mrdt_renewal.specs.Renewals.{renewed_event, renewed_events, Renews, meaning_through}

module _ {O1 O2 R : Type 0} (f : O1 → O2) where
  -- the times are the same
  pub renewed-times : (x : List (Event O1 R)) → times_of (renewed_events f x) ≡ times_of x
  renewed-times [] = refl
  renewed-times (e ∷ x) = ap (λ ts. e.time ∷ ts) (renewed-times x)

  pub renewed-length : (x : List (Event O1 R)) → length (renewed_events f x) ≡ length x
  renewed-length [] = refl
  renewed-length (e ∷ x) = ap suc (renewed-length x)

  step-restrict : (p : Bool) (e : Event O1 R) (x : List (Event O1 R)) (y : List (Event O2 R)) → y ≡ renewed_events f x → cond p (renewed_event f e ∷ y) y ≡ renewed_events f (cond p (e ∷ x) x)
  step-restrict true e x y is = ap (λ z. renewed_event f e ∷ z) is
  step-restrict false e x y is = is

  -- what a set holds of renewed events
  pub renewed-restrict : (a : Time → Bool) (x : List (Event O1 R)) → restrict a (renewed_events f x) ≡ renewed_events f (restrict a x)
  renewed-restrict a [] = refl
  renewed-restrict a (e ∷ x) = step-restrict (a e.time) e (restrict a x) (restrict a (renewed_events f x)) (renewed-restrict a x)

  pub renewed-closed : (a : Time → Bool) (x : List (Event O1 R)) → IsClosed a x → IsClosed a (renewed_events f x)
  renewed-closed a [] closed = tt
  renewed-closed a (e ∷ x) closed = (closed.0, renewed-closed a x closed.1)

  pub renewed-after : (x : List (Event O1 R)) (t : Time) → IsAfter x t → IsAfter (renewed_events f x) t
  renewed-after x t after = rw (renewed-times x) after

  -- the next event of all that was seen
  pub renewed-next : (x : List (Event O1 R)) (t : Time) (o : O1) (r : R) → next_event (renewed_events f x) t (f o) r ≡ renewed_event f (next_event x t o r)
  renewed-next x t o r = rw (renewed-times x) refl

  renewed_option : Option (Event O1 R) → Option (Event O2 R)
  renewed_option None = None
  renewed_option (Some e) = Some (renewed_event f e)

  step-event : (p : Bool) (e : Event O1 R) (o : Option (Event O1 R)) (q : Option (Event O2 R)) → q ≡ renewed_option o → cond p (Some (renewed_event f e)) q ≡ renewed_option (cond p (Some e) o)
  unfolding renewed_option
  step-event true e o q is = refl
  step-event false e o q is = is

  event-renewed : (x : List (Event O1 R)) (t : Time) → event_at (renewed_events f x) t ≡ renewed_option (event_at x t)
  unfolding renewed_option
  event-renewed [] t = refl
  event-renewed (e ∷ x) t = step-event (same_time t e.time) e (event_at x t) (event_at (renewed_events f x) t) (event-renewed x t)

  option-alike : (o p : Option (Event O1 R)) → AreSameEvent o p → AreSameEvent (renewed_option o) (renewed_option p)
  unfolding renewed_option
  option-alike None None same = tt
  option-alike None (Some e) same = absurd same
  option-alike (Some d) None same = absurd same
  option-alike (Some d) (Some e) same = record { time = same.time; operation = ap f same.operation; reply = same.reply; seen = same.seen }

  -- events that are the same are so after they are renewed
  pub renewed-alike : (x y : List (Event O1 R)) → HoldSameEvents x y → HoldSameEvents (renewed_events f x) (renewed_events f y)
  renewed-alike x y same t = rw (event-renewed x t, event-renewed y t) (option-alike (event_at x t) (event_at y t) (same t))

-- events that are renewed twice are renewed by both one after the other
pub renewed-twice : {O1 O2 O3 R : Type 0} (f : O1 → O2) (g : O2 → O3) (x : List (Event O1 R)) → renewed_events g (renewed_events f x) ≡ renewed_events (λ o. g (f o)) x
renewed-twice f g [] = refl
renewed-twice f g (e ∷ x) = ap (λ y. renewed_event (λ o. g (f o)) e ∷ y) (renewed-twice f g x)

-- events whose operations stay are themselves
pub renewed-itself : {O R : Type 0} (x : List (Event O R)) → renewed_events (λ o. o) x ≡ x
renewed-itself [] = refl
renewed-itself (e ∷ x) = ap (λ y. e ∷ y) (renewed-itself x)

module _ {S1 O1 S2 O2 R Q A : Type 0} (old : Meaning S1 O1 R Q A) (new : Meaning S2 O2 R Q A) (f : O1 → O2) (renews : Renews old new f) where
  may-follow : (x : List (Event O1 R)) (e : Event O1 R) → MayFollow old.is_op old.is_reply x e → MayFollow new.is_op new.is_reply (renewed_events f x) (renewed_event f e)
  may-follow x e may = record {
    time = may.time;
    operation = renews.ops e.operation may.operation;
    reply = renews.in_range e.reply may.reply;
    new = rw (renewed-times f x) may.new;
    after = rw (renewed-times f x) may.after;
    later = may.later;
    past = renewed-closed f (among e.seen) x may.past;
  }

  renewed-well_formed : (x : List (Event O1 R)) → IsWellFormed old.is_op old.is_reply x → IsWellFormed new.is_op new.is_reply (renewed_events f x)
  renewed-well_formed [] w = tt
  renewed-well_formed (e ∷ x) w = (may-follow x e w.0, renewed-well_formed x w.1)

  -- what an event of a lawful execution has seen is lawful
  seen-lawful : (e : Event O1 R) (x : List (Event O1 R)) → Lawful old (e ∷ x) → Lawful old (restrict (among e.seen) x)
  seen-lawful e x l =
      let few = l.few in
      let short = restrict-length (among e.seen) x in
      record {
        well_formed = restrict-well_formed old.is_op old.is_reply old.reply_of (among e.seen) x l.well_formed.0.past l.well_formed.1;
        faithful = restrict-faithful old.is_op old.is_reply old.reply_of (among e.seen) x l.well_formed.0.past l.faithful.1;
        few = omega (arith, few, short);
      }

  rest-lawful : (e : Event O1 R) (x : List (Event O1 R)) → Lawful old (e ∷ x) → Lawful old x
  rest-lawful e x l = let few = l.few in record { well_formed = l.well_formed.1; faithful = l.faithful.1; few = omega (arith, few) }

  renewed-faithful : (x : List (Event O1 R)) → Lawful old x → IsFaithful new.reply_of (renewed_events f x)
  renewed-faithful [] l = tt
  renewed-faithful (e ∷ x) l = (
    l.faithful.0
        ∙ sym (renews.replies (restrict (among e.seen) x) (seen-lawful e x l) e.operation l.well_formed.0.operation)
        ∙ ap (λ y. new.reply_of y (f e.operation)) (sym (renewed-restrict f (among e.seen) x)),
    renewed-faithful x (rest-lawful e x l),
  )

  -- renewed events are lawful where the old ones are
  pub renewed-lawful : (x : List (Event O1 R)) → Lawful old x → Lawful new (renewed_events f x)
  renewed-lawful x l = record {
    well_formed = renewed-well_formed x l.well_formed;
    faithful = renewed-faithful x l;
    few = rw (renewed-length f x) l.few;
  }

-- each type renews itself
pub renews-itself : {S O R Q A : Type 0} (m : Meaning S O R Q A) → Renews m m (λ o. o)
renews-itself m = record {
  ops = λ o known. known;
  in_range = λ r known. known;
  spelled = λ o. refl;
  reply_spelled = λ r. refl;
  replies = λ x l o known. ap (λ y. m.reply_of y o) (renewed-itself x);
  answers = λ x l q. ap (λ y. m.answer_of y q) (renewed-itself x);
}

-- a type renews what means through it
pub renews-through : {S O1 O2 R Q A : Type 0} (new : Meaning S O2 R Q A) (f : O1 → O2) (is_op_spelling : List ℕ → Type 0) → Renews (meaning_through new f is_op_spelling) new f
renews-through new f is_op_spelling = record {
  ops = λ o known. known;
  in_range = λ r known. known;
  spelled = λ o. refl;
  reply_spelled = λ r. refl;
  replies = λ x l o known. refl;
  answers = λ x l q. refl;
}

module _ {S O1 O2 R Q A : Type 0} (m : Meaning S O2 R Q A) (f : O1 → O2) (is_op_spelling : List ℕ → Type 0) where
  pub through-lawful : (x : List (Event O1 R)) → Lawful (meaning_through m f is_op_spelling) x → Lawful m (renewed_events f x)
  through-lawful x l = renewed-lawful (meaning_through m f is_op_spelling) m f (renews-through m f is_op_spelling) x l

  pub through-applies : (old : S) (o : O1) (t : Time) (new : S) (r : R) → Applies m old (f o) t new r → Applies (meaning_through m f is_op_spelling) old o t new r
  through-applies old o t new r applies x l is after =
      let made = applies (renewed_events f x) (through-lawful x l) is (renewed-after f x t after) in
      (made.0, subst (λ e. m.stands new (e ∷ renewed_events f x)) (renewed-next f x t o r) made.1)

  pub through-merges : (base left right new : S) → Merges m base left right new → Merges (meaning_through m f is_op_spelling) base left right new
  through-merges base left right new merge x a b l closed_a closed_b is_base is_left is_right =
      subst (m.stands new) (renewed-restrict f (either a b) x)
      (merge (renewed_events f x) a b (through-lawful x l) (renewed-closed f a x closed_a) (renewed-closed f b x closed_b)
      (subst (m.stands base) (sym (renewed-restrict f (both a b) x)) is_base)
      (subst (m.stands left) (sym (renewed-restrict f a x)) is_left)
      (subst (m.stands right) (sym (renewed-restrict f b x)) is_right))

  pub through-stands : (s t : S) → StandsAsWell m s t → StandsAsWell (meaning_through m f is_op_spelling) s t
  through-stands s t more x l is = more (renewed_events f x) (through-lawful x l) is

  pub through-answers : (s : S) (q : Q) (a : A) → Answers m s q a → Answers (meaning_through m f is_op_spelling) s q a
  through-answers s q a answers x l is = answers (renewed_events f x) (through-lawful x l) is

  -- where no two operations are renewed to one, and the grammar has the spelling of each
  module _ (laws : KeepsLaws m) (one : (o p : O1) → f o ≡ f p → o ≡ p) (inside : (o : O1) → m.is_op (f o) → is_op_spelling (m.op_spelling (f o))) where
    pub through_laws : KeepsLaws (meaning_through m f is_op_spelling)
    through_laws = record {
      one_spelling = λ s x l is. laws.one_spelling s (renewed_events f x) (through-lawful x l) is;
      replies_in_range = λ x o l known. laws.replies_in_range (renewed_events f x) (f o) (through-lawful x l) known;
      spelling_inside = λ x l short. laws.spelling_inside (renewed_events f x) (through-lawful x l) short;
      op_inside = λ o known short. inside o known;
      reply_inside = laws.reply_inside;
      one_op = λ o p known also short is. one o p (laws.one_op (f o) (f p) known also short is);
      one_reply = laws.one_reply;
      same_spelling = laws.same_spelling;
      same_stands = λ s t same. (through-stands s t (laws.same_stands s t same).0, through-stands t s (laws.same_stands s t same).1);
      unchanged_left = λ base left right same. through-merges base left right right (laws.unchanged_left base left right same);
      unchanged_right = λ base left right same. through-merges base left right left (laws.unchanged_right base left right same);
      any_order = λ x y l k same.
          let shown = laws.any_order (renewed_events f x) (renewed_events f y) (through-lawful x l) (through-lawful y k) (renewed-alike f x y same) in
          record { replies = λ o. shown.replies (f o); answers = shown.answers; spellings = shown.spellings };
    }
