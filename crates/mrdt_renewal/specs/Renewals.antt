-- Renewals: the operations of an old type are carried over to a new one, which replies and answers the same to them.
use Rattle.std.specs.Prelude.{◌≡◌, ℕ, List, map}
use Rattle.mrdt_model.specs.Executions.{Event}
use Rattle.mrdt_model.specs.Laws.{Meaning, Lawful}

-- the renewed event: its operation is carried over, and its time, its reply and what it has seen are kept
abbrev pub renewed_event : {O1 O2 R : Type 0} → (O1 → O2) → Event O1 R → Event O2 R
renewed_event f e = record { time = e.time; operation = f e.operation; reply = e.reply; seen = e.seen }

abbrev pub renewed_events : {O1 O2 R : Type 0} → (O1 → O2) → List (Event O1 R) → List (Event O2 R)
renewed_events f x = map (renewed_event f) x

-- The new type renews the old one: over renewed events it replies to renewed operations, and answers to each
-- query, as the old one does over the old events. Operations and replies are spelled as before; values need not be.
pub record Renews {S1 O1 S2 O2 R Q A : Type 0} (old : Meaning S1 O1 R Q A) (new : Meaning S2 O2 R Q A) (f : O1 → O2) : Type 0 where
  -- what is in the old ranges is in the new ones
  pub ops : (o : O1) → old.is_op o → new.is_op (f o)
  pub in_range : (r : R) → old.is_reply r → new.is_reply r
  pub spelled : (o : O1) → new.op_spelling (f o) ≡ old.op_spelling o
  pub reply_spelled : (r : R) → new.reply_spelling r ≡ old.reply_spelling r
  pub replies : (x : List (Event O1 R)) → Lawful old x → (o : O1) → old.is_op o
      → new.reply_of (renewed_events f x) (f o) ≡ old.reply_of x o
  pub answers : (x : List (Event O1 R)) → Lawful old x → (q : Q)
      → new.answer_of (renewed_events f x) q ≡ old.answer_of x q

-- The meaning of an old type whose values are those of a new one: it means over events what the new type means over
-- the renewed ones. The grammar of its operations is its own.
abbrev pub meaning_through : {S O1 O2 R Q A : Type 0} → Meaning S O2 R Q A → (O1 → O2) → (List ℕ → Type 0) → Meaning S O1 R Q A
meaning_through new f is_op_spelling = record {
  is_op = λ o. new.is_op (f o);
  is_reply = new.is_reply;
  reply_of = λ x o. new.reply_of (renewed_events f x) (f o);
  answer_of = λ x q. new.answer_of (renewed_events f x) q;
  spelling_of = λ x. new.spelling_of (renewed_events f x);
  stands = λ s x. new.stands s (renewed_events f x);
  is_same = new.is_same;
  state_spelling = new.state_spelling;
  op_spelling = λ o. new.op_spelling (f o);
  reply_spelling = new.reply_spelling;
  is_state_spelling = new.is_state_spelling;
  is_op_spelling = is_op_spelling;
  is_reply_spelling = new.is_reply_spelling;
}
