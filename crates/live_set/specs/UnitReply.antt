-- The reply of operations that tell nothing.
use Rattle.std.specs.Prelude.{ℕ, List, []}
use Rattle.mrdt_model.specs.Executions.{Event}
use Rattle.branch_wire.specs.Reading.{HasLength}

abbrev pub IsAnyReply : Unit {0} → Type 0
IsAnyReply reply = Unit {0}

-- whatever an operation has seen, it replies nothing
abbrev pub no_reply : {O : Type 0} → List (Event O (Unit {0})) → O → Unit {0}
no_reply x op = tt

-- it is spelled by no bytes
abbrev pub unit_spelling : Unit {0} → List ℕ
unit_spelling reply = []

abbrev pub IsUnitSpelling : List ℕ → Type 0
IsUnitSpelling bytes = HasLength 0 bytes
