use Rattle.std.proofs.Common.{◌∙◌, sym}
use Rattle.branch_graph.proofs.Painted.{none-weighs}
use Rattle.branch_graph.proofs.waiting.Waiting.take.Goals as goal

pub returns-then-self-eq0-clause-none : goal.returns-then-self-eq0-clause-none
returns-then-self-eq0-clause-none g c n = rw (← c.self.view_is) (none-weighs n c.self.inside.paints.entries (sym c.self.invariant ∙ c.if-self-eq0.true))
