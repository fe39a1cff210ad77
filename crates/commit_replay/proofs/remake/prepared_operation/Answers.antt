-- What is not prepared, the machine does not make.
use Rattle.std.proofs.Common.{subst}
use Rattle.branch_history.specs.History.{store_of}
use Rattle.branch_history.specs.Steps as machine
use Rattle.branch_names.specs.Heads.{head_of}
use Rattle.store_seen.specs.Turns.{PrepareRefusedAs}
use Rattle.commit_replay.proofs.Looked.{unprepared}
use Rattle.commit_replay.proofs.remake.prepared_operation.Goals as goal

pub returns-in-Err-Exhausted-clause-none : goal.returns-in-Err-Exhausted-clause-none
returns-in-Err-Exhausted-clause-none g c none =
    let r = c.args.recorded.now in
    let refused = subst (PrepareRefusedAs g.T.Mrdt.meaning c.in_ok-seen.seen c.args.op) c.in-Err-Exhausted.field-0-is c.in-Err-Exhausted.ensures.refused in
    unprepared g.T.Mrdt.meaning g.A.Address.address r.terms r.written c.args.branch (head_of (store_of r.terms.origin r.written).branches c.args.branch) c.in_ok-seen.seen c.args.op (machine.Exhausted c.in-Err-Exhausted.field-0-0) c.in_ok-seen.ensures refused

pub returns-in-Err-ValueTooLarge-clause-none : goal.returns-in-Err-ValueTooLarge-clause-none
returns-in-Err-ValueTooLarge-clause-none g c none =
    let r = c.args.recorded.now in
    let refused = subst (PrepareRefusedAs g.T.Mrdt.meaning c.in_ok-seen.seen c.args.op) c.in-Err-ValueTooLarge.field-0-is c.in-Err-ValueTooLarge.ensures.refused in
    unprepared g.T.Mrdt.meaning g.A.Address.address r.terms r.written c.args.branch (head_of (store_of r.terms.origin r.written).branches c.args.branch) c.in_ok-seen.seen c.args.op (machine.ValueTooLarge c.in-Err-ValueTooLarge.field-0-0) c.in_ok-seen.ensures refused
