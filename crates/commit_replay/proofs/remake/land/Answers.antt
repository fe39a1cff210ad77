-- The pending move is the one that was prepared.
use Rattle.std.proofs.Common.{ap, subst}
use Rattle.branch_machine.specs.Fixed.{fix}
use Rattle.recorded_history.specs.Machine.{LandsAs}
use Rattle.commit_replay.proofs.Remade.{kept-made}
use Rattle.commit_replay.proofs.remake.land.Goals as goal

pub returns-in-Ok : goal.returns-in-Ok
returns-in-Ok g c =
    let r = c.args.recorded.now in
    let made = subst (λ p. LandsAs (fix g.T.Mrdt.meaning r.terms g.A.Address.address) p r c.land.new.self c.in-Ok.made) c.later.ensures c.in-Ok.ensures.made in
    kept-made g.T.Mrdt.meaning g.A.Address.address r c.keep_if_same.new.recorded _ _ c.args.next.now c.args.bytes.now c.requires.settled (ap (λ t. t.made) made.turn_is)
    c.land.new.self made.pending c.in-Ok.made.record made.recorded c.moves-moves.ensures.valid c.keep_if_same.result c.keep_if_same.ensures
