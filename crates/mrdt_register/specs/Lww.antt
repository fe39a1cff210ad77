-- What a register that keeps the last write means.
use Rattle.std.specs.Prelude.{◌≡◌, ℕ, if◌then◌else◌, Option, None, Some, List, [], ◌∷◌, ◌++◌}
use Rattle.std.specs.Option.{option_map}
use Rattle.mrdt_model.specs.Times.{IsTime, is_earlier}
use Rattle.mrdt_model.specs.Spelled.{IsBytes}
use Rattle.mrdt_model.specs.Executions.{Event}
use Rattle.mrdt_model.specs.Laws.{Meaning}
use Rattle.branch_wire.specs.Fields.{time_field, field}
use Rattle.live_set.specs.declared.kept.Kept.{Kept}
use Rattle.live_set.specs.Payloads.{IsShortText}
use Rattle.mrdt_register.specs.declared.op.RegisterOp.{RegisterOp}
use Rattle.mrdt_register.specs.declared.lww.LwwQuery.{LwwQuery}
use Rattle.live_set.specs.UnitReply.{IsAnyReply, no_reply, unit_spelling, IsUnitSpelling}
use Rattle.mrdt_register.specs.Writes.{payload_of, IsWrite, write_of}

-- the one of the greater time; of two of one time, the left one
abbrev pub later : Option (Kept (List ℕ)) → Option (Kept (List ℕ)) → Option (Kept (List ℕ))
later None right = right
later (Some j) None = Some j
later (Some j) (Some k) = if is_earlier j.time k.time then Some k else Some j

-- the write of the greatest time
abbrev pub latest : {R : Type 0} → List (Event RegisterOp R) → Option (Kept (List ℕ))
latest [] = None
latest (e ∷ x) = later (Some (write_of e)) (latest x)

-- the time's numbers and the payload's bytes lie in their ranges, and its length is below 2 ^ 64
abbrev pub IsLast : Kept (List ℕ) → Type 0
IsLast k = IsTime k.time × IsShortText k.payload

-- a byte that tells whether a payload was written, and behind it its time, and it behind its length
abbrev pub lww_spelling : Option (Kept (List ℕ)) → List ℕ
lww_spelling None = 0 ∷ []
lww_spelling (Some k) = 1 ∷ (time_field k.time ++ field k.payload)

abbrev pub IsLwwState : Option (Kept (List ℕ)) → Type 0
IsLwwState None = Unit {0}
IsLwwState (Some k) = IsLast k

abbrev pub IsLwwSpelling : List ℕ → Type 0
IsLwwSpelling bytes = (last : Option (Kept (List ℕ))) × IsLwwState last × (bytes ≡ lww_spelling last)

abbrev pub StandsForLatest : Option (Kept (List ℕ)) → List (Event RegisterOp (Unit {0})) → Type 0
StandsForLatest last x = last ≡ latest x

abbrev pub lww_meaning : Meaning (Option (Kept (List ℕ))) RegisterOp (Unit {0}) LwwQuery (Option (List ℕ))
lww_meaning = record {
  is_op = IsWrite;
  is_reply = IsAnyReply;
  reply_of = no_reply;
  answer_of = λ x query. option_map (λ k. k.payload) (latest x);
  spelling_of = λ x. lww_spelling (latest x);
  stands = StandsForLatest;
  is_same = λ s t. s ≡ t;
  state_spelling = lww_spelling;
  op_spelling = payload_of;
  reply_spelling = unit_spelling;
  is_state_spelling = IsLwwSpelling;
  is_op_spelling = IsBytes;
  is_reply_spelling = IsUnitSpelling;
}
