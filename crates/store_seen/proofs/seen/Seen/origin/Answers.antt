-- The origins of all branches that there may be are numbers of 32 bits.
use Rattle.std.proofs.Common.{arith}
use Rattle.store_seen.proofs.Looks.{seen-small}
use Rattle.store_seen.proofs.seen.Seen.origin.Goals as goal

pub overflow_add-result : goal.overflow_add-result
overflow_add-result g c =
    let laws = (g.met.T.Mrdt g.world.𝓛 g.world.𝓜 g.world.𝓡 ((λ s x. x), (λ x. x), (λ x. x), λ x. x)).laws in
    let small = seen-small g.T.Mrdt.meaning laws _ c.self.invariant.look in
    omega (arith, small)
