-- What a flag means.
use Rattle.std.specs.Prelude.{◌≡◌, ℕ, Bool, ◌⊎◌, List, [], ◌∷◌}
use Rattle.mrdt_model.specs.Executions.{Event}
use Rattle.mrdt_model.specs.Laws.{Meaning}
use Rattle.live_set.specs.declared.kept.Kept.{Kept}
use Rattle.live_set.specs.Effects.{Effect, replacing, removing, holds_some, live_of}
use Rattle.live_set.specs.Payloads.{IsNothing, nothing_spelling}
use Rattle.live_set.specs.Spelling.{live_spelling, IsLiveSpelling}
use Rattle.live_set.specs.UnitReply.{IsAnyReply, no_reply, unit_spelling, IsUnitSpelling}
use Rattle.mrdt_flag.specs.declared.flag.FlagOp.{FlagOp}
use Rattle.mrdt_flag.specs.declared.flag.FlagOp.TheVariants.{Enable, Disable}
use Rattle.mrdt_flag.specs.declared.flag.FlagQuery.{FlagQuery}

-- an Enable puts its time, with nothing beside it, in place of all that it has seen, and a Disable takes that away
abbrev pub flag_effect : FlagOp → Effect (Unit {0})
flag_effect Enable = replacing tt
flag_effect Disable = removing

abbrev pub IsAnyOp : FlagOp → Type 0
IsAnyOp op = Unit {0}

-- some Enable has been seen by no Disable
abbrev pub is_on : List (Event FlagOp (Unit {0})) → Bool
is_on x = holds_some flag_effect x

-- by rising time, the Enables that no operation has seen
abbrev pub enables : List (Event FlagOp (Unit {0})) → List (Kept (Unit {0}))
enables x = live_of flag_effect x

abbrev pub StandsFor : List (Kept (Unit {0})) → List (Event FlagOp (Unit {0})) → Type 0
StandsFor flag x = flag ≡ enables x

abbrev pub op_spelling : FlagOp → List ℕ
op_spelling Enable = 1 ∷ []
op_spelling Disable = 2 ∷ []

-- a count, and that many times, rising
abbrev pub flag_spelling : List (Kept (Unit {0})) → List ℕ
flag_spelling flag = live_spelling nothing_spelling flag

abbrev pub IsFlagSpelling : List ℕ → Type 0
IsFlagSpelling bytes = IsLiveSpelling IsNothing nothing_spelling bytes

-- byte 1 or byte 2
abbrev pub IsOpSpelling : List ℕ → Type 0
IsOpSpelling bytes = (bytes ≡ 1 ∷ []) ⊎ (bytes ≡ 2 ∷ [])

abbrev pub flag_meaning : Meaning (List (Kept (Unit {0}))) FlagOp (Unit {0}) FlagQuery Bool
flag_meaning = record {
  is_op = IsAnyOp;
  is_reply = IsAnyReply;
  reply_of = no_reply;
  answer_of = λ x query. is_on x;
  spelling_of = λ x. flag_spelling (enables x);
  stands = StandsFor;
  is_same = λ s t. s ≡ t;
  state_spelling = flag_spelling;
  op_spelling = op_spelling;
  reply_spelling = unit_spelling;
  is_state_spelling = IsFlagSpelling;
  is_op_spelling = IsOpSpelling;
  is_reply_spelling = IsUnitSpelling;
}
