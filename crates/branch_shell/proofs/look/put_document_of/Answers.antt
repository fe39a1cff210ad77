-- The value stands for what is visible at the commit, which is lawful.
use Rattle.branch_machine.specs.Fixed.{fix}
use Rattle.branch_machine.proofs.Valid.{valid-before}
use Rattle.branch_shell.proofs.look.put_document_of.Goals as goal

pub invariant_of-document-clause-stands : goal.invariant_of-document-clause-stands
invariant_of-document-clause-stands g c = ∣ c.value_at-value.ensures.stands ∣₁

pub invariant_of-document-clause-lawful : goal.invariant_of-document-clause-lawful
invariant_of-document-clause-lawful g c =
    let core = c.args.core.now in
    ∣ (c.sees_closed_parts.ensures core.terms core.history (valid-before (fix g.T.Mrdt.meaning core.terms g.A.Address.address) core.history c.moves.ensures.valid) c.args.commit).1 ∣₁

pub invariant_of-document-else-is_json-clause-stands : goal.invariant_of-document-else-is_json-clause-stands
invariant_of-document-else-is_json-clause-stands g c = ∣ c.value_at-value.ensures.stands ∣₁

pub invariant_of-document-else-is_json-clause-lawful : goal.invariant_of-document-else-is_json-clause-lawful
invariant_of-document-else-is_json-clause-lawful g c =
    let core = c.args.core.now in
    ∣ (c.sees_closed_parts.ensures core.terms core.history (valid-before (fix g.T.Mrdt.meaning core.terms g.A.Address.address) core.history c.moves.ensures.valid) c.args.commit).1 ∣₁
