use Rattle.std.proofs.Common.{rules}
use Rattle.std.proofs.lemmas.Int.{wraps}
use Rattle.mrdt_counter.proofs.sum.Sum.merged.Goals as goal

pub returns : goal.returns
returns c = rw (← c.left.view_is, ← c.right.view_is, ← c.base.view_is) (search (rules, wraps))
