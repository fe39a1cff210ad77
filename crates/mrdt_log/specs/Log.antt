-- What a log means.
use Rattle.std.specs.Prelude.{◌≡◌, ℕ, List, length, map, reverse}
use Rattle.mrdt_model.specs.Spelled.{IsBytes}
use Rattle.mrdt_model.specs.Executions.{Event}
use Rattle.mrdt_model.specs.Laws.{Meaning}
use Rattle.branch_wire.specs.Fields.{field}
use Rattle.live_set.specs.declared.kept.Kept.{Kept}
use Rattle.live_set.specs.Entries.{by_time}
use Rattle.live_set.specs.Payloads.{IsShortText}
use Rattle.live_set.specs.Spelling.{live_spelling, IsLiveSpelling}
use Rattle.live_set.specs.UnitReply.{IsAnyReply, no_reply, unit_spelling, IsUnitSpelling}
use Rattle.mrdt_log.specs.declared.log.LogOp.{LogOp}
use Rattle.mrdt_log.specs.declared.log.LogOp.TheVariants.{Append}
use Rattle.mrdt_log.specs.declared.log.LogQuery.{LogQuery}
use Rattle.mrdt_log.specs.declared.log.LogQuery.TheVariants.{Read, Length}
use Rattle.mrdt_log.specs.declared.log.LogAnswer.{LogAnswer}
use Rattle.mrdt_log.specs.declared.log.LogAnswer.TheVariants.{OnEntries, OnLength}

abbrev pub payload_of : LogOp → List ℕ
payload_of (Append payload) = payload

-- the payload is one of bytes
abbrev pub IsAppend : LogOp → Type 0
IsAppend op = IsBytes (payload_of op)

-- an append with its time
abbrev pub append_of : {R : Type 0} → Event LogOp R → Kept (List ℕ)
append_of e = record { time = e.time; payload = payload_of e.operation }

-- the appends, by rising time
abbrev pub appends : {R : Type 0} → List (Event LogOp R) → List (Kept (List ℕ))
appends x = by_time (map append_of x)

-- the appends, the newest time first, or their number
abbrev pub log_answer : {R : Type 0} → List (Event LogOp R) → LogQuery → LogAnswer
log_answer x Read = OnEntries (reverse (appends x))
log_answer x Length = OnLength (length (appends x))

abbrev pub StandsFor : List (Kept (List ℕ)) → List (Event LogOp (Unit {0})) → Type 0
StandsFor entries x = entries ≡ appends x

abbrev pub log_meaning : Meaning (List (Kept (List ℕ))) LogOp (Unit {0}) LogQuery LogAnswer
log_meaning = record {
  is_op = IsAppend;
  is_reply = IsAnyReply;
  reply_of = no_reply;
  answer_of = log_answer;
  spelling_of = λ x. live_spelling field (appends x);
  stands = StandsFor;
  is_same = λ s t. s ≡ t;
  state_spelling = live_spelling field;
  op_spelling = payload_of;
  reply_spelling = unit_spelling;
  is_state_spelling = IsLiveSpelling IsShortText field;
  is_op_spelling = IsBytes;
  is_reply_spelling = IsUnitSpelling;
}
