use Rattle.std.proofs.Common.{rules, ◌≡◌, ◌∷◌, inl, inr}
use Rattle.mrdt_old_doc.proofs.elements.get_op.Goals as goal

pub returns-in_err-whole_text-in-Some-eq1-default-clause-refused : goal.returns-in_err-whole_text-in-Some-eq1-default-clause-refused
returns-in_err-whole_text-in-Some-eq1-default-clause-refused c outside =
    let spelled : c.args.bytes.now ≡ 1 ∷ c.in-Some-eq1-default.rest.now = search rules in
    absurd (outside (c.in-Some-eq1-default.rest.now, c.whole_text.ensures.in_range.0, inl spelled))

pub returns-in_err-whole_text-in-Some-eq2-default-clause-refused : goal.returns-in_err-whole_text-in-Some-eq2-default-clause-refused
returns-in_err-whole_text-in-Some-eq2-default-clause-refused c outside =
    let spelled : c.args.bytes.now ≡ 2 ∷ c.in-Some-eq2-default.rest.now = search rules in
    absurd (outside (c.in-Some-eq2-default.rest.now, c.whole_text-in-Some-eq2-default.ensures.in_range.0, inr spelled))
