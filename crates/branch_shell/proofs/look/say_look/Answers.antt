-- The text is put where nothing was, and is said.
use Rattle.branch_shell.specs.Stores.{Stored}
use Rattle.branch_shell.specs.Values.{value_type}
use Rattle.branch_shell.specs.Looks.{IsLookText}
use Rattle.branch_shell.proofs.Once.{said_done}
use Rattle.branch_shell.proofs.look.say_look.Goals as goal

pub returns-in-Ok-clause-wrote : goal.returns-in-Ok-clause-wrote
returns-in-Ok-clause-wrote g c =
    let of = value_type g.T.Mrdt.meaning g.T.Forms.forms g.T.Kinded.KIND in
    let store : Stored _ _ = record { terms = c.args.core.now.terms; history = c.args.core.now.history } in
    said_done (IsLookText of g.A.Address.address store c.args.look.now c.args.commit) (λ whole. ⊥) c.put_look.new.out.items c.say.result (g.K.Sink.given c.args.sink.now) (g.K.Sink.given c.say.new.sink)
    (g.K.Sink.faults c.args.sink.now) (g.K.Sink.faults c.say.new.sink) c.in-Ok.ensures (rw c.deref.ensures.value at c.say.ensures)
