-- The laws of a product, from those of its sides.
use Rattle.std.proofs.Common.{◌≡◌, ◌+◌, ◌^◌, ◌<◌, ℕ, Bool, Option, List, ◌++◌, length, refl, ◌∙◌, ap, sym, subst, arith, length-append, inl, inr}
use Rattle.mrdt_model.specs.declared.time.Time.{Time}
use Rattle.mrdt_model.specs.Times.{both, either}
use Rattle.mrdt_model.specs.Executions.{Event, restrict, IsClosed, part_of, HoldSameEvents}
use Rattle.mrdt_model.specs.Laws.{Meaning, KeepsLaws, Lawful, Merges, StandsAsWell, ShowTheSame}
use Rattle.mrdt_model.proofs.Parts.{part-restrict, part-closed}
use Rattle.mrdt_model.proofs.Executions.{closed_both, closed_either}
use Rattle.mrdt_model.proofs.SameEvents.{part-alike}
use Rattle.branch_wire.specs.Fields.{field}
use Rattle.branch_wire.proofs.Numbers.{length-field}
use Rattle.mrdt_both.specs.declared.both.Side.{Side}
use Rattle.mrdt_both.specs.declared.both.Side.TheVariants.{First, Second}
use Rattle.mrdt_both.specs.Sides.{OnSides, AreSameSides, at_first, at_second, first_part, second_part, by_side, side_spelling, IsSideSpelling, both_meaning}
use Rattle.mrdt_both.specs.SideParts.{first-lawful, second-lawful}

-- a merge of values that stand for the part of what each set holds
module _ {O P R S V Q A : Type 0} (pick : O → R → Option (P × S)) (t : Meaning V P S Q A) where
  part_merges : (base left right new : V) → Merges t base left right new → (x : List (Event O R)) (a b : Time → Bool) → Lawful t (part_of pick x) → IsClosed a x → IsClosed b x
      → t.stands base (part_of pick (restrict (both a b) x)) → t.stands left (part_of pick (restrict a x)) → t.stands right (part_of pick (restrict b x)) → t.stands new (part_of pick (restrict (either a b) x))
  part_merges base left right new merge x a b l in_a in_b is_base is_left is_right =
      let cut = λ (c : Time → Bool) (closed : IsClosed c x). part-restrict pick c x closed in
      subst (t.stands new) (sym (cut (either a b) (closed_either a b x in_a in_b)))
      (merge (part_of pick x) a b l (part-closed pick a x in_a) (part-closed pick b x in_b)
      (subst (t.stands base) (cut (both a b) (closed_both a b x in_a in_b)) is_base)
      (subst (t.stands left) (cut a in_a) is_left)
      (subst (t.stands right) (cut b in_b) is_right))

module _ {V W O P R S Q T A B : Type 0} (m : Meaning V O R Q A) (n : Meaning W P S T B) where
  pub first_lawful : (x : List (Event (Side O P) (Side R S))) → Lawful (both_meaning m n) x → Lawful m (first_part x)
  first_lawful x l = first-lawful m.is_op n.is_op m.is_reply n.is_reply m.reply_of n.reply_of x l

  pub second_lawful : (x : List (Event (Side O P) (Side R S))) → Lawful (both_meaning m n) x → Lawful n (second_part x)
  second_lawful x l = second-lawful m.is_op n.is_op m.is_reply n.is_reply m.reply_of n.reply_of x l

  pub merges : (base left right new : V × W) → Merges m base.0 left.0 right.0 new.0 → Merges n base.1 left.1 right.1 new.1 → Merges (both_meaning m n) base left right new
  merges base left right new first second x a b l in_a in_b is_base is_left is_right = (
    part_merges at_first m base.0 left.0 right.0 new.0 first x a b (first_lawful x l) in_a in_b is_base.0 is_left.0 is_right.0,
    part_merges at_second n base.1 left.1 right.1 new.1 second x a b (second_lawful x l) in_a in_b is_base.1 is_left.1 is_right.1,
  )

  pair_length : (first second : List ℕ) → length (field first ++ second) ≡ 8 + length first + length second
  pair_length first second = length-append (field first) second ∙ ap (λ k. k + length second) (length-field first)

  module _ (laws : KeepsLaws m) (more : KeepsLaws n) where
    replies : (x : List (Event (Side O P) (Side R S))) (o : Side O P) → Lawful (both_meaning m n) x → OnSides m.is_op n.is_op o → OnSides m.is_reply n.is_reply (by_side m.reply_of n.reply_of x o)
    replies x (First o) l known = laws.replies_in_range (first_part x) o (first_lawful x l) known
    replies x (Second o) l known = more.replies_in_range (second_part x) o (second_lawful x l) known

    ops_inside : (o : Side O P) → OnSides m.is_op n.is_op o → length (side_spelling m.op_spelling n.op_spelling o) < 2 ^ 64 → IsSideSpelling m.is_op_spelling n.is_op_spelling (side_spelling m.op_spelling n.op_spelling o)
    ops_inside (First o) known short = inl (m.op_spelling o, laws.op_inside o known (omega arith), refl)
    ops_inside (Second o) known short = inr (n.op_spelling o, more.op_inside o known (omega arith), refl)

    replies_inside : (r : Side R S) → OnSides m.is_reply n.is_reply r → length (side_spelling m.reply_spelling n.reply_spelling r) < 2 ^ 64 → IsSideSpelling m.is_reply_spelling n.is_reply_spelling (side_spelling m.reply_spelling n.reply_spelling r)
    replies_inside (First r) known short = inl (m.reply_spelling r, laws.reply_inside r known (omega arith), refl)
    replies_inside (Second r) known short = inr (n.reply_spelling r, more.reply_inside r known (omega arith), refl)

    one_op : (o p : Side O P) → OnSides m.is_op n.is_op o → OnSides m.is_op n.is_op p → length (side_spelling m.op_spelling n.op_spelling o) < 2 ^ 64 → side_spelling m.op_spelling n.op_spelling o ≡ side_spelling m.op_spelling n.op_spelling p → o ≡ p
    one_op (First o) (First p) fits known short is = let e : m.op_spelling o ≡ m.op_spelling p = cc is in ap First (laws.one_op o p fits known (omega arith) e)
    one_op (First o) (Second p) fits known short is = absurd (cc is)
    one_op (Second o) (First p) fits known short is = absurd (cc is)
    one_op (Second o) (Second p) fits known short is = let e : n.op_spelling o ≡ n.op_spelling p = cc is in ap Second (more.one_op o p fits known (omega arith) e)

    one_reply : (r s : Side R S) → OnSides m.is_reply n.is_reply r → OnSides m.is_reply n.is_reply s → length (side_spelling m.reply_spelling n.reply_spelling r) < 2 ^ 64 → side_spelling m.reply_spelling n.reply_spelling r ≡ side_spelling m.reply_spelling n.reply_spelling s → r ≡ s
    one_reply (First r) (First s) fits known short is = let e : m.reply_spelling r ≡ m.reply_spelling s = cc is in ap First (laws.one_reply r s fits known (omega arith) e)
    one_reply (First r) (Second s) fits known short is = absurd (cc is)
    one_reply (Second r) (First s) fits known short is = absurd (cc is)
    one_reply (Second r) (Second s) fits known short is = let e : n.reply_spelling r ≡ n.reply_spelling s = cc is in ap Second (more.one_reply r s fits known (omega arith) e)

    same_stands : (p q : V × W) → AreSameSides m.is_same n.is_same p q → StandsAsWell (both_meaning m n) p q × StandsAsWell (both_meaning m n) q p
    same_stands p q same =
        let first = laws.same_stands p.0 q.0 same.0 in
        let second = more.same_stands p.1 q.1 same.1 in (
          λ x l is. (first.0 (first_part x) (first_lawful x l) is.0, second.0 (second_part x) (second_lawful x l) is.1),
          λ x l is. (first.1 (first_part x) (first_lawful x l) is.0, second.1 (second_part x) (second_lawful x l) is.1),
        )

    module _ (x y : List (Event (Side O P) (Side R S))) (l : Lawful (both_meaning m n) x) (k : Lawful (both_meaning m n) y) (events : HoldSameEvents x y) where
      shown_first : ShowTheSame m (first_part x) (first_part y)
      shown_first =
          laws.any_order (first_part x) (first_part y) (first_lawful x l) (first_lawful y k) (part-alike at_first (OnSides {X = O} {Y = P} m.is_op n.is_op) (OnSides {X = R} {Y = S} m.is_reply n.is_reply) x y l.well_formed k.well_formed events)

      shown_second : ShowTheSame n (second_part x) (second_part y)
      shown_second =
          more.any_order (second_part x) (second_part y) (second_lawful x l) (second_lawful y k) (part-alike at_second (OnSides {X = O} {Y = P} m.is_op n.is_op) (OnSides {X = R} {Y = S} m.is_reply n.is_reply) x y l.well_formed k.well_formed events)

      same_replies : (o : Side O P) → by_side m.reply_of n.reply_of x o ≡ by_side m.reply_of n.reply_of y o
      same_replies (First o) = ap First (shown_first.replies o)
      same_replies (Second p) = ap Second (shown_second.replies p)

      same_answers : (q : Side Q T) → by_side m.answer_of n.answer_of x q ≡ by_side m.answer_of n.answer_of y q
      same_answers (First q) = ap First (shown_first.answers q)
      same_answers (Second t) = ap Second (shown_second.answers t)

      any_order : ShowTheSame (both_meaning m n) x y
      any_order = record {
        replies = same_replies;
        answers = same_answers;
        spellings = ap (λ first. field first ++ n.spelling_of (second_part x)) shown_first.spellings ∙ ap (λ second. field (m.spelling_of (first_part y)) ++ second) shown_second.spellings;
      }

    -- the laws of a product
    pub both_laws : KeepsLaws (both_meaning m n)
    both_laws = record {
      one_spelling = λ s x l is.
          ap (λ first. field first ++ n.state_spelling s.1) (laws.one_spelling s.0 (first_part x) (first_lawful x l) is.0)
          ∙ ap (λ second. field (m.spelling_of (first_part x)) ++ second) (more.one_spelling s.1 (second_part x) (second_lawful x l) is.1);
      replies_in_range = replies;
      spelling_inside = λ x l short.
          let first = m.spelling_of (first_part x) in
          let second = n.spelling_of (second_part x) in
          let size = pair_length first second in
          let first_short : length first < 2 ^ 64 = omega (arith, size, short) in
          let second_short : length second < 2 ^ 64 = omega (arith, size, short) in
          (first, second, first_short, laws.spelling_inside (first_part x) (first_lawful x l) first_short, more.spelling_inside (second_part x) (second_lawful x l) second_short, refl);
      op_inside = ops_inside;
      reply_inside = replies_inside;
      one_op = one_op;
      one_reply = one_reply;
      same_spelling = λ p q same.
          ap (λ first. field first ++ n.state_spelling p.1) (laws.same_spelling p.0 q.0 same.0)
          ∙ ap (λ second. field (m.state_spelling q.0) ++ second) (more.same_spelling p.1 q.1 same.1);
      same_stands = same_stands;
      unchanged_left = λ base left right same. merges base left right right (laws.unchanged_left base.0 left.0 right.0 same.0) (more.unchanged_left base.1 left.1 right.1 same.1);
      unchanged_right = λ base left right same. merges base left right left (laws.unchanged_right base.0 left.0 right.0 same.0) (more.unchanged_right base.1 left.1 right.1 same.1);
      any_order = any_order;
    }
