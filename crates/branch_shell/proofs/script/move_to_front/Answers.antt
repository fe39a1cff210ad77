use Rattle.std.proofs.Common.{◌∙◌, ◌-◌, ap, take}
use Rattle.branch_shell.proofs.Pieces.{front_moved, front_still}
use Rattle.branch_shell.proofs.script.move_to_front.Goals as goal

pub returns-then-start-eq0-clause-moved : goal.returns-then-start-eq0-clause-moved
returns-then-start-eq0-clause-moved c = front_still c.args.buffer.now c.args.start c.args.end c.if-start-eq0.true

pub returns-clause-moved : goal.returns-clause-moved
returns-clause-moved c = ap (take (c.args.end - c.args.start)) c.copy_within.ensures.after ∙ front_moved c.args.buffer.now c.args.start c.args.end c.requires.order c.requires.within
