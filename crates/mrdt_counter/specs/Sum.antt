-- What a sum means.
use Rattle.std.specs.Prelude.{◌≡◌, ℤ, pos, ◌+ℤ◌, List, [], ◌∷◌, FitsSigned}
use Rattle.std.specs.Int.{w64}
use Rattle.mrdt_model.specs.Executions.{Event}
use Rattle.mrdt_model.specs.Laws.{Meaning}
use Rattle.branch_wire.specs.Fields.{signed_number, wide_signed_number}
use Rattle.branch_wire.specs.Reading.{HasLength}
use Rattle.live_set.specs.UnitReply.{IsAnyReply, no_reply, unit_spelling, IsUnitSpelling}
use Rattle.mrdt_counter.specs.declared.sum.SumOp.{SumOp}
use Rattle.mrdt_counter.specs.declared.sum.SumOp.TheVariants.{Add}
use Rattle.mrdt_counter.specs.declared.counter.CounterQuery.{CounterQuery}

abbrev pub amount : SumOp → ℤ
amount (Add n) = n

-- the sum of the Adds
abbrev pub total : {R : Type 0} → List (Event SumOp R) → ℤ
total [] = pos 0
total (e ∷ x) = amount e.operation +ℤ total x

abbrev pub IsAmount : SumOp → Type 0
IsAmount op = FitsSigned w64 (amount op)

abbrev pub StandsFor : ℤ → List (Event SumOp (Unit {0})) → Type 0
StandsFor c x = c ≡ total x

abbrev pub sum_meaning : Meaning ℤ SumOp (Unit {0}) CounterQuery ℤ
sum_meaning = record {
  is_op = IsAmount;
  is_reply = IsAnyReply;
  reply_of = no_reply;
  answer_of = λ x query. total x;
  spelling_of = λ x. wide_signed_number (total x);
  stands = StandsFor;
  is_same = λ c d. c ≡ d;
  state_spelling = wide_signed_number;
  op_spelling = λ op. signed_number (amount op);
  reply_spelling = unit_spelling;
  is_state_spelling = HasLength 16;
  is_op_spelling = HasLength 8;
  is_reply_spelling = IsUnitSpelling;
}
