-- The limit of moves leaves a number for one more, and what may not come today may not come in the version.
use Rattle.std.proofs.Common.{ℕ, ◌+◌, ◌++◌, length, ◌∙◌, ap, arith}
use Rattle.std.proofs.lemmas.Bool.{both_ways}
use Rattle.branch_machine.specs.Fixed.{fix}
use Rattle.commit_replay.proofs.Looked.{settled-moves}
use Rattle.commit_replay.proofs.Steps.{few-moves}
use Rattle.commit_replay.proofs.Versions.{bad-own}
use Rattle.commit_replay.proofs.walk.replay_record.Goals as goal

pub overflow_add-result : goal.overflow_add-result
overflow_add-result g c =
    let r = c.args.recorded.now in
    let laws = (g.met.T.Mrdt g.world.𝓛 g.world.𝓜 g.world.𝓡 ((λ s x. x), (λ x. x), (λ x. x), λ x. x)).laws in
    omega (arith, c.moves.ensures.moves, few-moves (fix g.T.Mrdt.meaning r.terms g.A.Address.address) laws (r.written ++ r.pending) c.moves.ensures.valid)

pub returns-then-not-may-clause-stops : goal.returns-then-not-may-clause-stops
returns-then-not-may-clause-stops g c =
    let r = c.args.recorded.now in λ _ _. (
      ap (λ (n : ℕ). n + 1) (c.moves.ensures.moves ∙ ap length (settled-moves r.written r.pending c.requires.settled)),
      bad-own g.T.Mrdt.meaning r.terms g.A.Address.address c.args.version r.written c.args.next.now
          (λ may. both_ways c.in-Ok.may c.if-not-may.true (c.in-Ok.ensures.1 may)),
    )
