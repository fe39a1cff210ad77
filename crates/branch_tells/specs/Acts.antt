-- The plain forms of what the commits of a history do.
use Rattle.std.specs.Prelude.{◌≡◌, Some}
use Rattle.branch_doc.specs.declared.plain.PlainOp.{PlainOp}
use Rattle.branch_doc.specs.Types.{PlainForms}

-- of each operation of a type the plain form that stands for it
abbrev pub ArePlainOps : {O Q R A : Type 0} → PlainForms O Q R A → (O → PlainOp) → Type 0
ArePlainOps {O} forms plain_op = (op : O) → forms.op (plain_op op) ≡ Some op
