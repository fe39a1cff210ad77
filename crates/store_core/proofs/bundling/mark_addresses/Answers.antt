-- What is found stands there.
use Rattle.std.proofs.Common.{sym, arith}
use Rattle.branch_machine.specs.Fixed.{fix}
use Rattle.store_core.proofs.Bundled.{address-within}
use Rattle.store_core.proofs.bundling.mark_addresses.Goals as goal

pub mark-requires : goal.mark-requires
mark-requires g c =
    let r = c.args.recorded.now in
    let within = address-within (fix g.T.Mrdt.meaning r.terms g.A.Address.address) r.written _ c.in-Some.number (sym c.in-Some.ensures) in
    let size = c.loop-address.invariant.0 in
    let count = c.requires.count in
    omega (arith, within, size, count)
