-- What was prepared of a group, or why nothing was.
use Rattle.std.proofs.Common.{sym, subst}
use Rattle.branch_shared.specs.Passes.{seen_by}
use Rattle.parallel_clients.specs.Sessions.{IsJoinUnready}
use Rattle.parallel_clients.proofs.Joinings.{join-ungrouped}
use Rattle.parallel_clients.proofs.client.Client.prepare_join.Goals as goal

pub returns-in-Err-clause-unready : goal.returns-in-Err-clause-unready
returns-in-Err-clause-unready g c =
    let core = seen_by c.group.new.pass g.N.Named.terms in
    subst (IsJoinUnready g.T.Mrdt.meaning core c.args.seen.now c.args.from.now) (sym c.ungrouped.ensures)
    (join-ungrouped g.T.Mrdt.meaning core c.args.seen.now c.args.from.now c.in-Err.refused c.in-Err.ensures.refused)

pub returns-in-Ok-prepare-clause-ready : goal.returns-in-Ok-prepare-clause-ready
returns-in-Ok-prepare-clause-ready g c = record { group = c.in-Ok.group; grouped = c.in-Ok.ensures.grouped; is = c.in-Ok-prepare.ensures.step }

pub returns-in-Err-ValueTooLarge-clause-unready : goal.returns-in-Err-ValueTooLarge-clause-unready
returns-in-Err-ValueTooLarge-clause-unready g c =
    let refused = rw c.in-Err-ValueTooLarge.field-0-is at c.in-Err-ValueTooLarge.ensures.refused in
    record { group = c.in-Ok.group; grouped = c.in-Ok.ensures.grouped; refused = refused }
