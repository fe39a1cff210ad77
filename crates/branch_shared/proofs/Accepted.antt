-- What is said of an answer that is there.
use Rattle.std.proofs.Common.{◌≡◌, true}
use Rattle.std.specs.Prelude.{Result, Ok, Err, IfOk, is_ok}

pub accepted : {T E : Type 0} {P : T → Type 0} (result : Result T E) → IfOk result P → is_ok result ≡ true → (value : T) × P value
accepted (Ok value) said is = (value, said)
accepted (Err refusal) said is = absurd (cc is)
