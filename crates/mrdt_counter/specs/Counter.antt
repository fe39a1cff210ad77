-- What a counter means.
use Rattle.std.specs.Prelude.{◌≡◌, ℕ, ℤ, pos, ◌+ℤ◌, Bool, true, false, ◌&&◌, ◌⊎◌, if◌then◌else◌, List, [], ◌∷◌}
use Rattle.std.specs.List.{list_any}
use Rattle.mrdt_model.specs.declared.time.Time.{Time}
use Rattle.mrdt_model.specs.Times.{among}
use Rattle.mrdt_model.specs.Executions.{Event}
use Rattle.mrdt_model.specs.Laws.{Meaning}
use Rattle.branch_wire.specs.Fields.{signed_number}
use Rattle.branch_wire.specs.Reading.{HasLength}
use Rattle.live_set.specs.declared.kept.Kept.{Kept}
use Rattle.live_set.specs.Effects.{Effect, adding, removing, live_of}
use Rattle.live_set.specs.Payloads.{IsAmount}
use Rattle.live_set.specs.Spelling.{live_spelling, IsLiveSpelling}
use Rattle.live_set.specs.UnitReply.{IsAnyReply, no_reply, unit_spelling, IsUnitSpelling}
use Rattle.mrdt_counter.specs.declared.counter.CounterOp.{CounterOp}
use Rattle.mrdt_counter.specs.declared.counter.CounterOp.TheVariants.{Add, Reset}
use Rattle.mrdt_counter.specs.declared.counter.CounterQuery.{CounterQuery}

-- an Add puts its amount beside all others, and a Reset takes away all that it has seen
abbrev pub counter_effect : CounterOp → Effect ℤ
counter_effect (Add n) = adding n
counter_effect Reset = removing

-- what an operation adds
abbrev pub amount : CounterOp → ℤ
amount (Add n) = n
amount Reset = pos 0

abbrev pub is_reset : CounterOp → Bool
is_reset (Add n) = false
is_reset Reset = true

abbrev pub IsCounterOp : CounterOp → Type 0
IsCounterOp op = IsAmount (amount op)

-- some Reset of x has seen the time
abbrev pub is_cancelled : {R : Type 0} → List (Event CounterOp R) → Time → Bool
is_cancelled x t = list_any (λ e. is_reset e.operation && among e.seen t) x

-- the sum of the amounts of the events at times that are not in the set
abbrev pub sum_but : {R : Type 0} → (Time → Bool) → List (Event CounterOp R) → ℤ
sum_but cancelled [] = pos 0
sum_but cancelled (e ∷ x) = (if cancelled e.time then pos 0 else amount e.operation) +ℤ sum_but cancelled x

-- the sum of the Adds that no Reset has seen
abbrev pub value_of : {R : Type 0} → List (Event CounterOp R) → ℤ
value_of x = sum_but (is_cancelled x) x

-- by rising time, the Adds that no Reset has seen
abbrev pub adds_of : {R : Type 0} → List (Event CounterOp R) → List (Kept ℤ)
adds_of x = live_of counter_effect x

-- the sum of the amounts of entries
abbrev pub sum_of : List (Kept ℤ) → ℤ
sum_of [] = pos 0
sum_of (k ∷ ks) = k.payload +ℤ sum_of ks

abbrev pub StandsFor : List (Kept ℤ) → List (Event CounterOp (Unit {0})) → Type 0
StandsFor counter x = counter ≡ adds_of x

-- an Add is its amount, and a Reset is no bytes
abbrev pub op_spelling : CounterOp → List ℕ
op_spelling (Add n) = signed_number n
op_spelling Reset = []

-- a count, and that many times and amounts, times rising
abbrev pub counter_spelling : List (Kept ℤ) → List ℕ
counter_spelling counter = live_spelling signed_number counter

abbrev pub IsCounterSpelling : List ℕ → Type 0
IsCounterSpelling bytes = IsLiveSpelling IsAmount signed_number bytes

abbrev pub IsOpSpelling : List ℕ → Type 0
IsOpSpelling bytes = HasLength 8 bytes ⊎ (bytes ≡ [])

abbrev pub counter_meaning : Meaning (List (Kept ℤ)) CounterOp (Unit {0}) CounterQuery ℤ
counter_meaning = record {
  is_op = IsCounterOp;
  is_reply = IsAnyReply;
  reply_of = no_reply;
  answer_of = λ x query. value_of x;
  spelling_of = λ x. counter_spelling (adds_of x);
  stands = StandsFor;
  is_same = λ s t. s ≡ t;
  state_spelling = counter_spelling;
  op_spelling = op_spelling;
  reply_spelling = unit_spelling;
  is_state_spelling = IsCounterSpelling;
  is_op_spelling = IsOpSpelling;
  is_reply_spelling = IsUnitSpelling;
}
