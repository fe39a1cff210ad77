-- A map renews a map whose values its own renew.
use Rattle.std.proofs.Common.{◌≡◌, ℕ, Bool, true, false, cond, Option, None, Some, List, [], ◌∷◌, ◌++◌, filter, refl, ◌∙◌, ap, sym}
use Rattle.mrdt_model.specs.declared.time.Time.{Time}
use Rattle.mrdt_model.specs.Times.{among}
use Rattle.mrdt_model.specs.Executions.{Event, times_of, add_part}
use Rattle.mrdt_model.specs.Laws.{Meaning, Lawful}
use Rattle.mrdt_renewal.specs.Renewals.{renewed_event, renewed_events, Renews}
use Rattle.mrdt_renewal.specs.Laws.{renewed-times}
use Rattle.branch_wire.specs.Fields.{field}
use Rattle.mrdt_map.specs.declared.map.OnKey.{OnKey}
use Rattle.mrdt_map.specs.declared.map.MapQuery.{MapQuery}
use Rattle.mrdt_map.specs.declared.map.MapQuery.TheVariants.{AtKey, Keys}
use Rattle.mrdt_map.specs.declared.map.MapAnswer.TheVariants.{OnValue, OnKeys}
use Rattle.mrdt_map.specs.Keyed.{same_key, on_key, insert_key, touched, key_answer, map_meaning}
use Rattle.mrdt_map.specs.Keys.{on_key-lawful}
use Rattle.mrdt_old_doc.specs.OldDocument.{renewed_on_key}

module _ {O1 O2 R : Type 0} (f : O1 → O2) where
  -- the part of what is renewed, where one more event is chosen or not
  pub add-renewed : {O P T : Type 0} (d : Event O T) (e : Event P T) (c : O1 × R) (y : List (Event O1 R)) (z : List (Event O2 R)) → d.time ≡ e.time → d.seen ≡ e.seen → z ≡ renewed_events f y
      → add_part d (Some (f c.0, c.1)) z ≡ renewed_events f (add_part e (Some c) y)
  add-renewed d e c y z times seen is = rw (is, renewed-times f y, times, seen) refl

  step-on_key : (p : Bool) (e : Event (OnKey O1) R) (y : List (Event O1 R)) (z : List (Event O2 R)) → z ≡ renewed_events f y
      → add_part (renewed_event (renewed_on_key f) e) (cond p (Some (f e.operation.operation, e.reply)) None) z ≡ renewed_events f (add_part e (cond p (Some (e.operation.operation, e.reply)) None) y)
  step-on_key true e y z is = add-renewed (renewed_event (renewed_on_key f) e) e (e.operation.operation, e.reply) y z refl refl is
  step-on_key false e y z is = is

  -- the renewed events on a key
  on_key-renewed : (k : List ℕ) (x : List (Event (OnKey O1) R)) → on_key k (renewed_events (renewed_on_key f) x) ≡ renewed_events f (on_key k x)
  on_key-renewed k [] = refl
  on_key-renewed k (e ∷ x) = step-on_key (same_key k e.operation.key) e (on_key k x) (on_key k (renewed_events (renewed_on_key f) x)) (on_key-renewed k x)

  touched-renewed : (x : List (Event (OnKey O1) R)) → touched (renewed_events (renewed_on_key f) x) ≡ touched x
  touched-renewed [] = refl
  touched-renewed (e ∷ x) = ap (insert_key e.operation.key) (touched-renewed x)

module _ {S1 O1 S2 O2 R Q A : Type 0} (old : Meaning S1 O1 R Q A) (new : Meaning S2 O2 R Q A) (f : O1 → O2) (renews : Renews old new f) where
  answers : (x : List (Event (OnKey O1) R)) → Lawful (map_meaning old) x → (q : MapQuery Q) → key_answer new.answer_of (renewed_events (renewed_on_key f) x) q ≡ key_answer old.answer_of x q
  answers x l (AtKey k q) = ap (λ y. OnValue (new.answer_of y q)) (on_key-renewed f k x) ∙ ap OnValue (renews.answers (on_key k x) (on_key-lawful old.is_op old.is_reply old.reply_of k x l) q)
  answers x l Keys = ap OnKeys (touched-renewed f x)

  pub renews_map : Renews (map_meaning old) (map_meaning new) (renewed_on_key f)
  renews_map = record {
    ops = λ o known. (known.0, renews.ops o.operation known.1);
    in_range = renews.in_range;
    spelled = λ o. ap (λ rest. field o.key ++ rest) (renews.spelled o.operation);
    reply_spelled = renews.reply_spelled;
    replies = λ x l o known. ap (λ y. new.reply_of y (f o.operation)) (on_key-renewed f o.key x) ∙ renews.replies (on_key o.key x) (on_key-lawful old.is_op old.is_reply old.reply_of o.key x l) o.operation known.1;
    answers = answers;
  }
