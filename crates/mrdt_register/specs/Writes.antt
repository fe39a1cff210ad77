-- What is written to a register.
use Rattle.std.specs.Prelude.{ℕ, List}
use Rattle.mrdt_model.specs.Spelled.{IsBytes}
use Rattle.mrdt_model.specs.Executions.{Event}
use Rattle.live_set.specs.declared.kept.Kept.{Kept}
use Rattle.mrdt_register.specs.declared.op.RegisterOp.{RegisterOp}
use Rattle.mrdt_register.specs.declared.op.RegisterOp.TheVariants.{Set}

abbrev pub payload_of : RegisterOp → List ℕ
payload_of (Set payload) = payload

-- the payload is one of bytes
abbrev pub IsWrite : RegisterOp → Type 0
IsWrite op = IsBytes (payload_of op)

-- a payload with the time when it was written
abbrev pub write_of : {R : Type 0} → Event RegisterOp R → Kept (List ℕ)
write_of e = record { time = e.time; payload = payload_of e.operation }
