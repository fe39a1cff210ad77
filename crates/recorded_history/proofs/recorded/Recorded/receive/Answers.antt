-- Behind no pending moves.
use Rattle.std.proofs.Common.{ap}
use Rattle.std.proofs.lemmas.Result.{IfOk-weaker}
use Rattle.branch_machine.specs.Fixed.{fix}
use Rattle.branch_machine.specs.Objects.{Pair}
use Rattle.recorded_history.proofs.Taken.{received-alone, record-alone}
use Rattle.recorded_history.proofs.recorded.Recorded.receive.Goals as goal

pub returns-clause-receives : goal.returns-clause-receives
returns-clause-receives g c =
    let r = c.args.self.now in
    received-alone (fix g.T.Mrdt.meaning r.terms g.A.Address.address) _ r c.receive_more.new.self c.requires.settled c.receive_more.result c.receive_more.ensures.receives c.receive_more.ensures.short

pub returns-clause-recorded : goal.returns-clause-recorded
returns-clause-recorded g c =
    let r = c.args.self.now in
    let item : Pair = record { value = c.args.value.now; commit = c.args.commit.now } in
    IfOk-weaker c.receive_more.result _ _ (λ got is. record-alone (fix g.T.Mrdt.meaning r.terms g.A.Address.address) item r c.receive_more.new.self c.requires.settled (ap (λ v. v.written) c.receive_more.ensures.receives.rest) got is) c.receive_more.ensures.recorded
