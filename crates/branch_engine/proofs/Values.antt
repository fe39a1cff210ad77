-- What is fixed for stores of a type, but for their terms.
use Rattle.std.specs.Prelude.{ℕ, List}
use Rattle.mrdt_model.specs.Laws.{Meaning}
use Rattle.branch_names.specs.declared.terms.Terms.{Terms}
use Rattle.branch_machine.specs.Fixed.{Fixed, fix}
use Rattle.branch_doc.specs.Types.{PlainForms}

-- what the values mean, their plain forms, and the function that gives bytes an address
pub record Values (S O R Q A : Type 0) : Type 1 where
  pub meaning : Meaning S O R Q A
  pub forms : PlainForms O Q R A
  pub address : List ℕ → List ℕ

abbrev pub values_of : {S O R Q A : Type 0} → Meaning S O R Q A → PlainForms O Q R A → (List ℕ → List ℕ) → Values S O R Q A
values_of meaning forms address = record { meaning = meaning; forms = forms; address = address }

-- what is fixed for a store under these terms
abbrev pub fixed_of : {S O R Q A : Type 0} → Values S O R Q A → Terms → Fixed S O R Q A
fixed_of values terms = fix values.meaning terms values.address
