use Rattle.std.proofs.Common.{rules, ◌≡◌, ◌∷◌}
use Rattle.mrdt_queue.specs.declared.op.QueueOp.TheVariants.{Enqueue}
use Rattle.mrdt_queue.proofs.spelling.get_op.Goals as goal

pub returns-in_err-whole_text-in-Some-eq1-default-clause-refused : goal.returns-in_err-whole_text-in-Some-eq1-default-clause-refused
returns-in_err-whole_text-in-Some-eq1-default-clause-refused c outside =
    let spelled : c.args.bytes.now ≡ 1 ∷ c.in-Some-eq1-default.rest.now = search rules in
    absurd (outside (Enqueue c.in-Some-eq1-default.rest.now, c.whole_text.ensures.in_range.0, spelled))

pub returns-in_ok-whole_text-in-Some-eq1-default-clause-inside : goal.returns-in_ok-whole_text-in-Some-eq1-default-clause-inside
returns-in_ok-whole_text-in-Some-eq1-default-clause-inside c =
    let spelled : c.args.bytes.now ≡ 1 ∷ c.in-Some-eq1-default.rest.now = search rules in
    (Enqueue c.in-Some-eq1-default.rest.now, c.whole_text.ensures.in_range.0, spelled)

pub returns-in_ok-whole_text-in-Some-eq1-default-clause-refused : goal.returns-in_ok-whole_text-in-Some-eq1-default-clause-refused
returns-in_ok-whole_text-in-Some-eq1-default-clause-refused c outside =
    let spelled : c.args.bytes.now ≡ 1 ∷ c.in-Some-eq1-default.rest.now = search rules in
    absurd (outside (Enqueue c.in-Some-eq1-default.rest.now, c.whole_text.ensures.in_range.0, spelled))
