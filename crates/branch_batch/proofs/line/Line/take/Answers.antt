-- What is taken rises, and so does what is left.
use Rattle.std.proofs.Common.{rules, ◌≤◌, ◌^◌, length, map, sym, subst}
use Rattle.branch_batch.specs.Lists.{RisesFrom}
use Rattle.branch_batch.specs.Lines.{number_of, batch_of}
use Rattle.branch_batch.proofs.Rising.{rises_higher}
use Rattle.branch_batch.proofs.Taking.{batch_few, batch_rises, left_rises}
use Rattle.branch_batch.proofs.line.Line.take.Goals as goal

pub invariant_of-self : goal.invariant_of-self
invariant_of-self g c = (
  c.self.invariant.0,
  subst (λ js. RisesFrom 0 (map number_of js) c.self.inside.count) (sym c.move_batch.ensures.waiting) (left_rises c.args.own c.self.inside.waiting.items c.self.inside.count c.self.invariant.1),
)

pub returns-clause-few : goal.returns-clause-few
returns-clause-few g c = subst (λ js. length js ≤ 64) (sym c.move_batch.ensures.batch) (batch_few c.args.own c.self.inside.waiting.items)

pub returns-clause-order : goal.returns-clause-order
returns-clause-order g c =
    let jobs = c.self.inside.waiting.items in
    let below : c.self.inside.count ≤ 2 ^ 64 = search rules in
    subst (λ js. RisesFrom 0 (map number_of js) (2 ^ 64)) (sym c.move_batch.ensures.batch)
    (rises_higher 0 (map number_of (batch_of c.args.own jobs)) c.self.inside.count (2 ^ 64) below (batch_rises c.args.own jobs c.self.inside.count c.self.invariant.1))
