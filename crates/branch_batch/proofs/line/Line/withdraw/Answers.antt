-- The jobs that are left still rise.
use Rattle.std.proofs.Common.{map, sym, subst}
use Rattle.branch_batch.specs.Lists.{RisesFrom}
use Rattle.branch_batch.specs.Lines.{number_of}
use Rattle.branch_batch.proofs.Rising.{rises_but}
use Rattle.branch_batch.proofs.line.Line.withdraw.Goals as goal

pub invariant_of-self : goal.invariant_of-self
invariant_of-self g c = (
  c.self.invariant.0,
  subst (λ js. RisesFrom 0 (map number_of js) c.self.inside.count) (sym c.take_at.ensures.waiting) (rises_but number_of _ 0 c.self.inside.waiting.items c.self.inside.count c.self.invariant.1),
)

pub invariant_of-self-2 : goal.invariant_of-self-2
invariant_of-self-2 g c = (
  c.self.invariant.0,
  subst (λ js. RisesFrom 0 (map number_of js) c.self.inside.count) (sym c.take_at.ensures.waiting) (rises_but number_of _ 0 c.self.inside.waiting.items c.self.inside.count c.self.invariant.1),
)
