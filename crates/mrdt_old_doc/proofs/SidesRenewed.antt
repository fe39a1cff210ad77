-- A product renews a product whose sides its own renew.
use Rattle.std.proofs.Common.{◌≡◌, ℕ, Option, None, Some, List, [], ◌∷◌, refl, ◌∙◌, ap}
use Rattle.mrdt_model.specs.Executions.{Event, add_part}
use Rattle.mrdt_model.specs.Laws.{Meaning, Lawful}
use Rattle.mrdt_renewal.specs.Renewals.{renewed_event, renewed_events, Renews}
use Rattle.mrdt_both.specs.declared.both.Side.{Side}
use Rattle.mrdt_both.specs.declared.both.Side.TheVariants.{First, Second}
use Rattle.mrdt_both.specs.Sides.{OnSides, at_first, at_second, first_part, second_part, by_side, side_spelling, both_meaning}
use Rattle.mrdt_both.specs.SidesLaws.{first_lawful, second_lawful}
use Rattle.mrdt_old_doc.specs.OldDocument.{renewed_side}
use Rattle.mrdt_old_doc.proofs.MapsRenewed.{add-renewed}

module _ {O1 P1 O2 P2 R S : Type 0} (f : O1 → O2) (g : P1 → P2) where
  step-first : (o : Side O1 P1) (r : Side R S) (e : Event (Side O1 P1) (Side R S)) (y : List (Event O1 R)) (z : List (Event O2 R)) → z ≡ renewed_events f y
      → add_part (renewed_event (renewed_side f g) e) (at_first (renewed_side f g o) r) z ≡ renewed_events f (add_part e (at_first o r) y)
  step-first (First o) (First r) e y z is = add-renewed f (renewed_event (renewed_side f g) e) e (o, r) y z refl refl is
  step-first (First o) (Second s) e y z is = is
  step-first (Second p) r e y z is = is

  step-second : (o : Side O1 P1) (r : Side R S) (e : Event (Side O1 P1) (Side R S)) (y : List (Event P1 S)) (z : List (Event P2 S)) → z ≡ renewed_events g y
      → add_part (renewed_event (renewed_side f g) e) (at_second (renewed_side f g o) r) z ≡ renewed_events g (add_part e (at_second o r) y)
  step-second (Second p) (Second s) e y z is = add-renewed g (renewed_event (renewed_side f g) e) e (p, s) y z refl refl is
  step-second (Second p) (First r) e y z is = is
  step-second (First o) r e y z is = is

  first-renewed : (x : List (Event (Side O1 P1) (Side R S))) → first_part (renewed_events (renewed_side f g) x) ≡ renewed_events f (first_part x)
  first-renewed [] = refl
  first-renewed (e ∷ x) = step-first e.operation e.reply e (first_part x) (first_part (renewed_events (renewed_side f g) x)) (first-renewed x)

  second-renewed : (x : List (Event (Side O1 P1) (Side R S))) → second_part (renewed_events (renewed_side f g) x) ≡ renewed_events g (second_part x)
  second-renewed [] = refl
  second-renewed (e ∷ x) = step-second e.operation e.reply e (second_part x) (second_part (renewed_events (renewed_side f g) x)) (second-renewed x)

module _ {V1 O1 V2 O2 R Q A W1 P1 W2 P2 S T B : Type 0} (old : Meaning V1 O1 R Q A) (new : Meaning V2 O2 R Q A) (f : O1 → O2) (renews : Renews old new f) (old_other : Meaning W1 P1 S T B) (new_other : Meaning W2 P2 S T B) (g : P1 → P2) (other : Renews old_other new_other g) where
  ops : (o : Side O1 P1) → OnSides old.is_op old_other.is_op o → OnSides new.is_op new_other.is_op (renewed_side f g o)
  ops (First o) known = renews.ops o known
  ops (Second p) known = other.ops p known

  in_range : (r : Side R S) → OnSides old.is_reply old_other.is_reply r → OnSides new.is_reply new_other.is_reply r
  in_range (First r) known = renews.in_range r known
  in_range (Second s) known = other.in_range s known

  spelled : (o : Side O1 P1) → side_spelling new.op_spelling new_other.op_spelling (renewed_side f g o) ≡ side_spelling old.op_spelling old_other.op_spelling o
  spelled (First o) = ap (λ bytes. 1 ∷ bytes) (renews.spelled o)
  spelled (Second p) = ap (λ bytes. 2 ∷ bytes) (other.spelled p)

  reply_spelled : (r : Side R S) → side_spelling new.reply_spelling new_other.reply_spelling r ≡ side_spelling old.reply_spelling old_other.reply_spelling r
  reply_spelled (First r) = ap (λ bytes. 1 ∷ bytes) (renews.reply_spelled r)
  reply_spelled (Second s) = ap (λ bytes. 2 ∷ bytes) (other.reply_spelled s)

  replies : (x : List (Event (Side O1 P1) (Side R S))) → Lawful (both_meaning old old_other) x → (o : Side O1 P1) → OnSides old.is_op old_other.is_op o
      → by_side new.reply_of new_other.reply_of (renewed_events (renewed_side f g) x) (renewed_side f g o) ≡ by_side old.reply_of old_other.reply_of x o
  replies x l (First o) known = ap (λ y. First (new.reply_of y (f o))) (first-renewed f g x) ∙ ap First (renews.replies (first_part x) (first_lawful old old_other x l) o known)
  replies x l (Second p) known = ap (λ y. Second (new_other.reply_of y (g p))) (second-renewed f g x) ∙ ap Second (other.replies (second_part x) (second_lawful old old_other x l) p known)

  answers : (x : List (Event (Side O1 P1) (Side R S))) → Lawful (both_meaning old old_other) x → (q : Side Q T)
      → by_side new.answer_of new_other.answer_of (renewed_events (renewed_side f g) x) q ≡ by_side old.answer_of old_other.answer_of x q
  answers x l (First q) = ap (λ y. First (new.answer_of y q)) (first-renewed f g x) ∙ ap First (renews.answers (first_part x) (first_lawful old old_other x l) q)
  answers x l (Second q) = ap (λ y. Second (new_other.answer_of y q)) (second-renewed f g x) ∙ ap Second (other.answers (second_part x) (second_lawful old old_other x l) q)

  pub renews_both : Renews (both_meaning old old_other) (both_meaning new new_other) (renewed_side f g)
  renews_both = record {
    ops = ops;
    in_range = in_range;
    spelled = spelled;
    reply_spelled = reply_spelled;
    replies = replies;
    answers = answers;
  }
