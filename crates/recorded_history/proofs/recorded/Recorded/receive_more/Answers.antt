-- Where memory is short, what was pending is undone.
use Rattle.branch_machine.specs.Fixed.{fix}
use Rattle.recorded_history.proofs.Taken.{item-undone}
use Rattle.recorded_history.proofs.recorded.Recorded.receive_more.Goals as goal

pub returns-in-Err-Memory-clause-receives : goal.returns-in-Err-Memory-clause-receives
returns-in-Err-Memory-clause-receives g c =
    let r = c.args.self.now in
    item-undone (fix g.T.Mrdt.meaning r.terms g.A.Address.address) _ r c.receive_behind.new.self c.undo.new.self c.in-Err-Memory.ensures.receives.rest c.undo.ensures
