-- The rows that stand for executions.
use Rattle.std.proofs.Common.{◌≡◌, ℕ, ◌+◌, ◌<◌, ◌≤◌, ◌^◌, ◌==◌, max, Bool, true, false, cond, ◌&&◌, ◌||◌, Option, None, Some, List, [], ◌∷◌, ◌++◌, length, get_or, replicate, refl, ◌∙◌, ap, sym, subst, arith}
use Rattle.std.proofs.lemmas.Bool.{eqb-true, eqb-false}
use Rattle.mrdt_model.specs.declared.time.Time.{Time}
use Rattle.mrdt_model.specs.Times.{among, both, either, same_time}
use Rattle.mrdt_model.specs.Executions.{Event, times_of, restrict, IsWellFormed, IsLawful, IsAfter, next_event, event_at, IsSameEvent, AreSameEvent, HoldSameEvents}
use Rattle.mrdt_model.specs.Laws.{Merges, StandsAsWell, KeepsLaws}
use Rattle.mrdt_model.proofs.TimeSets.{restrict-agree}
use Rattle.mrdt_model.proofs.SameEvents.{HaveOwnTimes, own-times, event-first, event-later, hold-back}
use Rattle.live_set.specs.UnitReply.{IsAnyReply, no_reply}
use Rattle.greatest_row.specs.declared.mark.Mark.{Mark}
use Rattle.branch_wire.specs.Fields.{number}
use Rattle.branch_wire.proofs.Numbers.{number-same}
use Rattle.branch_wire.proofs.OneWay.{numbers}
use Rattle.greatest_row.specs.Rows.{join, one, row_spelling, AreNumbers, highest, IsHighest, mark_spelling, InRange}
use Rattle.greatest_row.specs.Marks.{Marks, KeepsMarks, greatest, row_of, row_meaning, marks_in}
use Rattle.greatest_row.proofs.Joins.{join-nil, join-comm, join-assoc, join-own, join-swap, join-twice, join-at, one-here, one-other, join-numbers, one-numbers}
use Rattle.greatest_row.proofs.Reading.{highest-is}

within : (p q : Bool) → ((p && q) || q) ≡ q
within true true = refl
within true false = refl
within false q = refl

within_first : (p q : Bool) → (p || (p && q)) ≡ p
within_first true q = refl
within_first false q = refl

join_again : (u r : List ℕ) → join u (join u r) ≡ join u r
join_again u r = sym (join-assoc u u r) ∙ ap (λ t. join t r) (join-own u)

step_at : (b : Bool) (m : Mark) (place rest here : ℕ) → (m.place == place) ≡ b → here ≡ rest → max (get_or (one m) place 0) here ≡ cond b (max m.number rest) rest
step_at true m place rest here is h =
    let own : get_or (one m) place 0 ≡ m.number = ap (λ k. get_or (one m) k 0) (sym (eqb-true m.place place is)) ∙ one-here m.place m.number in
    omega (arith, own, h)
step_at false m place rest here is h =
    let none : get_or (one m) place 0 ≡ 0 = one-other m.place m.number place (λ same. eqb-false m.place place is (sym same)) in
    omega (arith, none, h)

module _ {O R : Type 0} (mark : O → Mark) where
  -- each place of the row has the greatest number that was raised there
  pub row-at : (x : List (Event O R)) (place : ℕ) → get_or (row_of mark x) place 0 ≡ greatest mark x place
  row-at [] place = refl
  row-at (e ∷ x) place =
      join-at (one (mark e.operation)) (row_of mark x) place
      ∙ step_at ((mark e.operation).place == place) (mark e.operation) place (greatest mark x place) (get_or (row_of mark x) place 0) refl (row-at x place)

  step_union : (p q : Bool) (e : Event O R) (y z w : List (Event O R)) → join (row_of mark y) (row_of mark z) ≡ row_of mark w
      → join (row_of mark (cond p (e ∷ y) y)) (row_of mark (cond q (e ∷ z) z)) ≡ row_of mark (cond (p || q) (e ∷ w) w)
  step_union true true e y z w h = join-twice (one (mark e.operation)) (row_of mark y) (row_of mark z) ∙ ap (join (one (mark e.operation))) h
  step_union true false e y z w h = join-assoc (one (mark e.operation)) (row_of mark y) (row_of mark z) ∙ ap (join (one (mark e.operation))) h
  step_union false true e y z w h = join-swap (row_of mark y) (one (mark e.operation)) (row_of mark z) ∙ ap (join (one (mark e.operation))) h
  step_union false false e y z w h = h

  -- the row of what is in either set is the join of the two
  pub row-union : (x : List (Event O R)) (a b : Time → Bool) → join (row_of mark (restrict a x)) (row_of mark (restrict b x)) ≡ row_of mark (restrict (either a b) x)
  row-union [] a b = refl
  row-union (e ∷ x) a b = step_union (a e.time) (b e.time) e (restrict a x) (restrict b x) (restrict (either a b) x) (row-union x a b)

  -- where the left's row is the base's, the right has that of the union
  pub row-left_within : (x : List (Event O R)) (a b : Time → Bool) → row_of mark (restrict a x) ≡ row_of mark (restrict (both a b) x) → row_of mark (restrict b x) ≡ row_of mark (restrict (either a b) x)
  row-left_within x a b is =
      ap (row_of mark) (sym (restrict-agree (either (both a b) b) b x (λ t m. within (a t) (b t)))) ∙ sym (row-union x (both a b) b)
      ∙ ap (λ r. join r (row_of mark (restrict b x))) (sym is) ∙ row-union x a b

  -- and the other way round
  pub row-right_within : (x : List (Event O R)) (a b : Time → Bool) → row_of mark (restrict b x) ≡ row_of mark (restrict (both a b) x) → row_of mark (restrict a x) ≡ row_of mark (restrict (either a b) x)
  row-right_within x a b is =
      ap (row_of mark) (sym (restrict-agree (either a (both a b)) a x (λ t m. within_first (a t) (b t)))) ∙ sym (row-union x a (both a b))
      ∙ ap (join (row_of mark (restrict a x))) (sym is) ∙ row-union x a b

  step_held : (b : Bool) (e f : Event O R) (o : Option (Event O R)) (r : List ℕ) → cond b (Some e) o ≡ Some f → (o ≡ Some f → join (one (mark f.operation)) r ≡ r)
      → join (one (mark f.operation)) (join (one (mark e.operation)) r) ≡ join (one (mark e.operation)) r
  step_held true e f o r found rest = let own : e ≡ f = cc in ap (λ g. join (one (mark f.operation)) (join (one (mark g.operation)) r)) own ∙ join_again (one (mark f.operation)) r ∙ ap (λ g. join (one (mark g.operation)) r) (sym own)
  step_held false e f o r found rest = join-swap (one (mark f.operation)) (one (mark e.operation)) r ∙ ap (join (one (mark e.operation))) (rest found)

  -- an event that is in the list adds nothing to its row
  held : (y : List (Event O R)) (t : Time) (f : Event O R) → event_at y t ≡ Some f → join (one (mark f.operation)) (row_of mark y) ≡ row_of mark y
  held [] t f found = cc
  held (e ∷ y) t f found = step_held (same_time t e.time) e f (event_at y t) (row_of mark y) found (held y t f)

  -- a row to which no event adds anything
  below : (x : List (Event O R)) (s : List ℕ) → HaveOwnTimes x → ((t : Time) (f : Event O R) → event_at x t ≡ Some f → join (one (mark f.operation)) s ≡ s) → join (row_of mark x) s ≡ s
  below [] s own adds = refl
  below (e ∷ x) s own adds =
      join-assoc (one (mark e.operation)) (row_of mark x) s
      ∙ ap (join (one (mark e.operation))) (below x s own.1 (λ t f found. adds t f (event-later e f x t own.0 found)))
      ∙ adds e.time e (event-first e x)

  held_alike : (f : Event O R) (y : List (Event O R)) (t : Time) (o : Option (Event O R)) → event_at y t ≡ o → AreSameEvent (Some f) o → join (one (mark f.operation)) (row_of mark y) ≡ row_of mark y
  held_alike f y t None found same = absurd same
  held_alike f y t (Some g) found same = ap (λ o. join (one (mark o)) (row_of mark y)) same.operation ∙ held y t g found

  below_alike : (x y : List (Event O R)) → HaveOwnTimes x → HoldSameEvents x y → join (row_of mark x) (row_of mark y) ≡ row_of mark y
  below_alike x y own same = below x (row_of mark y) own (λ t f found. held_alike f y t (event_at y t) refl (subst (λ o. AreSameEvent o (event_at y t)) found (same t)))

  -- the order of the events does not show in the row
  pub row-alike : (x y : List (Event O R)) → HaveOwnTimes x → HaveOwnTimes y → HoldSameEvents x y → row_of mark x ≡ row_of mark y
  row-alike x y own_x own_y same =
      sym (below_alike y x own_y (hold-back x y same)) ∙ join-comm (row_of mark y) (row_of mark x) ∙ below_alike x y own_x same

module _ {O Q A : Type 0} (m : Marks O) (keeps : KeepsMarks m) (answer : List ℕ → Q → A) where
  numbers_in : (x : List (Event O (Unit {0}))) → IsWellFormed m.is_op IsAnyReply x → AreNumbers (row_of m.mark x)
  numbers_in [] w = tt
  numbers_in (e ∷ x) w =
      join-numbers (one (m.mark e.operation)) (row_of m.mark x) (one-numbers (m.mark e.operation).place (m.mark e.operation).number (keeps.numbers e.operation w.0.operation)) (numbers_in x w.1)

  -- the laws of the type
  pub row_laws : KeepsLaws (row_meaning m answer)
  row_laws = record {
    one_spelling = λ s x l is. ap row_spelling is;
    replies_in_range = λ x o l known. tt;
    spelling_inside = λ x l short. (row_of m.mark x, numbers_in x l.well_formed, refl);
    op_inside = λ o known short. keeps.inside o known;
    reply_inside = λ r known short. refl;
    one_op = λ o p known fits short is. keeps.one_op o p known fits is;
    one_reply = λ r s known fits short is. refl;
    same_spelling = λ s t is. ap row_spelling is;
    same_stands = λ s t is. (λ x l stands. sym is ∙ stands, λ x l stands. is ∙ stands);
    unchanged_left = λ base left right same x a b l closed_a closed_b is_base is_left is_right. is_right ∙ row-left_within m.mark x a b (sym is_left ∙ sym same ∙ is_base);
    unchanged_right = λ base left right same x a b l closed_a closed_b is_base is_left is_right. is_left ∙ row-right_within m.mark x a b (sym is_right ∙ sym same ∙ is_base);
    any_order = λ x y l k same.
        let rows = row-alike m.mark x y (own-times m.is_op IsAnyReply x l.well_formed) (own-times m.is_op IsAnyReply y k.well_formed) same in
        record { replies = λ o. refl; answers = λ query. ap (λ row. answer row query) rows; spellings = ap row_spelling rows };
  }

  -- the join of two sides is their merge
  pub row_merges : (base left right merged : List ℕ) → merged ≡ join left right → Merges (row_meaning m answer) base left right merged
  row_merges base left right merged is x a b l closed_a closed_b is_base is_left is_right =
      is ∙ ap (λ r. join r right) is_left ∙ ap (join (row_of m.mark (restrict a x))) is_right ∙ row-union m.mark x a b

  -- a row that is spelled with the bytes of another stands for what that one does
  pub row_stands : (bytes row other : List ℕ) → ((r : List ℕ) → AreNumbers r → row_spelling r ≡ bytes → row ≡ r) → row_spelling other ≡ bytes → StandsAsWell (row_meaning m answer) other row
  row_stands bytes row other reads spelled x l is = reads other (subst AreNumbers (sym is) (numbers_in x l.well_formed)) spelled ∙ is

abbrev mark_at : ℕ → ℕ → Mark
mark_at place n = record { place = place; number = n }

-- marks that are spelled alike are one
pub same_mark : (a b : Mark) → a.place < 2 ^ 64 → b.place < 2 ^ 64 → a.number < 2 ^ 64 → b.number < 2 ^ 64 → mark_spelling a ≡ mark_spelling b → a ≡ b
same_mark a b p q r s is =
    let first = numbers.one a.place b.place (number a.number) (number b.number) p q is in
    let second : a.number ≡ b.number = number-same a.number b.number r s first.1 in
    ap (λ k. mark_at k a.number) first.0 ∙ ap (mark_at b.place) second

pub keeps_range : (places least most : ℕ) → places ≤ 2 ^ 64 → most < 2 ^ 64 → KeepsMarks (marks_in places least most)
keeps_range places least most few fits = record {
  numbers = λ o known. let below = known.2 in omega arith;
  inside = λ o known. (o, known, refl);
  one_op = λ o p known more is.
      let a = known.0 in
      let b = more.0 in
      let m = known.2 in
      let n = more.2 in
      same_mark o p (omega arith) (omega arith) (omega arith) (omega arith) is;
}

-- the highest of the row of events is the greatest number that they raise, at the least place of it
pub highest_of_events : {O R : Type 0} (mark : O → Mark) (x : List (Event O R)) → IsHighest (greatest mark x) (highest (row_of mark x))
highest_of_events mark x =
    let own = highest-is (row_of mark x) in
    record {
      there = sym (row-at mark x (highest (row_of mark x)).place) ∙ own.there;
      greatest = λ place. subst (λ n. n ≤ (highest (row_of mark x)).number) (row-at mark x place) (own.greatest place);
      least = λ place before. subst (λ n. n < (highest (row_of mark x)).number) (row-at mark x place) (own.least place before);
    }
