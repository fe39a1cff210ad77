-- The terms and the moves are those of the store, and behind no bytes the text is the log.
use Rattle.std.proofs.lemmas.Result.{on_ok_weaker}
use Rattle.branch_machine.specs.Fixed.{fix}
use Rattle.branch_machine.proofs.Valid.{valid-before}
use Rattle.branch_shell.proofs.look.put_log_of.Goals as goal

pub put_log-requires-clause-valid : goal.put_log-requires-clause-valid
put_log-requires-clause-valid g c κs within =
    let core = c.args.core.now in
    rw (c.terms.ensures, c.history.ensures) (valid-before (fix g.T.Mrdt.meaning core.terms g.A.Address.address) core.history c.moves.ensures.valid)

pub put_log-requires-clause-there : goal.put_log-requires-clause-there
put_log-requires-clause-there g c κs within = rw (c.terms.ensures, c.history.ensures) c.requires.there

pub returns : goal.returns
returns g c =
    let plain_ops = (g.met.T.Tells g.world.𝓛 g.world.𝓜 g.world.𝓡 ((λ s x. x), (λ x. x), (λ x. x), λ x. x)).are_plain_ops in
    let put = rw (c.terms.ensures, c.history.ensures, c.requires.empty) at c.put_log.ensures in
    on_ok_weaker c.put_log.result (λ is. (g.T.Tells.plain_op, plain_ops, is)) put
