use Rattle.std.proofs.Common.{arith}
use Rattle.branch_wire.proofs.Lists.{length-counted}
use Rattle.mrdt_set.specs.Members.{member_spelling}
use Rattle.mrdt_set.proofs.Writing.{sizes}
use Rattle.mrdt_set.proofs.spelled.members_length.Goals as goal

pub returns : goal.returns
returns c = omega (arith, sizes c.args.members.now, length-counted member_spelling c.args.members.now, c.weight.ensures, c.saturating_add.ensures)
