-- The branch to fork from has its name, and the pending move is the fork.
use Rattle.std.proofs.Common.{ap}
use Rattle.commit_replay.proofs.Remade.{kept-made}
use Rattle.commit_replay.proofs.remake.fork.Goals as goal

pub returns-in-Ok : goal.returns-in-Ok
returns-in-Ok g c =
    let made = c.in-Ok.ensures.forked.1 in (
      c.branch_at-source.result.0,
      c.branch_at-source.ensures.named,
      kept-made g.T.Mrdt.meaning g.A.Address.address c.args.recorded.now c.keep_if_same.new.recorded _ _ c.args.next.now _ c.requires.settled (ap (λ t. t.made) made.turn_is)
          c.fork.new.self made.pending c.in-Ok.branched.record made.recorded c.moves-moves.ensures.valid c.keep_if_same.result c.keep_if_same.ensures,
    )
