use Rattle.std.proofs.Common.{arith}
use Rattle.branch_wire.proofs.Lists.{length-counted}
use Rattle.live_set.specs.Spelling.{kept_spelling}
use Rattle.live_set.proofs.live.Live.spelled_length.Goals as goal

pub returns : goal.returns
returns g c = omega (arith, c.entries_length.ensures, c.saturating_add.ensures, length-counted (kept_spelling g.V.Payload.spelling) c.args.self.now)
