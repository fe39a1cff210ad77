-- What a register of several values means.
use Rattle.std.specs.Prelude.{◌≡◌, ℕ, List, map}
use Rattle.mrdt_model.specs.Spelled.{IsBytes}
use Rattle.mrdt_model.specs.Executions.{Event}
use Rattle.mrdt_model.specs.Laws.{Meaning}
use Rattle.branch_wire.specs.Fields.{field}
use Rattle.live_set.specs.declared.kept.Kept.{Kept}
use Rattle.live_set.specs.Effects.{Effect, replacing, live_of}
use Rattle.live_set.specs.Payloads.{IsShortText}
use Rattle.live_set.specs.Spelling.{live_spelling, IsLiveSpelling}
use Rattle.mrdt_register.specs.declared.op.RegisterOp.{RegisterOp}
use Rattle.mrdt_register.specs.declared.multi.MultiQuery.{MultiQuery}
use Rattle.live_set.specs.UnitReply.{IsAnyReply, no_reply, unit_spelling, IsUnitSpelling}
use Rattle.mrdt_register.specs.Writes.{payload_of, IsWrite}

-- a write puts its payload in place of all that it has seen
abbrev pub write_effect : RegisterOp → Effect (List ℕ)
write_effect op = replacing (payload_of op)

-- the writes that no write has seen, by rising time
abbrev pub unseen : List (Event RegisterOp (Unit {0})) → List (Kept (List ℕ))
unseen x = live_of write_effect x

abbrev pub StandsForUnseen : List (Kept (List ℕ)) → List (Event RegisterOp (Unit {0})) → Type 0
StandsForUnseen entries x = entries ≡ unseen x

abbrev pub multi_meaning : Meaning (List (Kept (List ℕ))) RegisterOp (Unit {0}) MultiQuery (List (List ℕ))
multi_meaning = record {
  is_op = IsWrite;
  is_reply = IsAnyReply;
  reply_of = no_reply;
  answer_of = λ x query. map (λ k. k.payload) (unseen x);
  spelling_of = λ x. live_spelling field (unseen x);
  stands = StandsForUnseen;
  is_same = λ s t. s ≡ t;
  state_spelling = live_spelling field;
  op_spelling = payload_of;
  reply_spelling = unit_spelling;
  is_state_spelling = IsLiveSpelling IsShortText field;
  is_op_spelling = IsBytes;
  is_reply_spelling = IsUnitSpelling;
}
