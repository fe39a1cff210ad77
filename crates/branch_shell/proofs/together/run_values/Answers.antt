-- Clients over values of either type.
use Rattle.std.proofs.Common.{refl}
use Rattle.std.specs.Prelude.{None}
use Rattle.branch_command.specs.Work.{Clients}
use Rattle.branch_shell.specs.Documents.{SaysUnopened}
use Rattle.branch_shell.specs.Together.{SaysTogether}
use Rattle.branch_shell.specs.Values.{documents, documents_with_sequences}
use Rattle.branch_shell.proofs.Runs.{once_usage}
use denote.Param.Send.{sendable}
use Rattle.documents_cross.proofs.Crosses.{Doc-send, Doc-sync, Wide-send, Wide-sync}
use Rattle.branch_shell.proofs.together.run_values.Goals as goal

pub returns-in-Documents-clause-ran : goal.returns-in-Documents-clause-ran
returns-in-Documents-clause-ran g c left which other =
    let e = c.run_together.ensures.ran left in
    rw c.in-Documents.is (e.0, e.1, e.2, e.3, (e.4, refl))

pub returns-in-Documents-clause-usage : goal.returns-in-Documents-clause-usage
returns-in-Documents-clause-usage g c usage =
    let told = g.D.Disk.contents c.args.disk in
    let clients : Clients = record { count = c.args.work.count; work = record { steps = c.args.work.steps; number = c.args.work.number } } in
    let e = c.run_together.ensures.ran None in
    once_usage (SaysTogether documents g.A.Address.address told clients) (SaysUnopened documents g.A.Address.address told) c.run_together.result.0 e.1 e.4.wrote.1 usage

pub returns-in-WithSequences-clause-ran : goal.returns-in-WithSequences-clause-ran
returns-in-WithSequences-clause-ran g c left which other =
    let e = c.run_together-in-WithSequences.ensures.ran left in
    rw c.in-WithSequences.is (e.0, e.1, e.2, e.3, (e.4, refl))

pub returns-in-WithSequences-clause-usage : goal.returns-in-WithSequences-clause-usage
returns-in-WithSequences-clause-usage g c usage =
    let told = g.D.Disk.contents c.args.disk in
    let clients : Clients = record { count = c.args.work.count; work = record { steps = c.args.work.steps; number = c.args.work.number } } in
    let e = c.run_together-in-WithSequences.ensures.ran None in
    once_usage (SaysTogether documents_with_sequences g.A.Address.address told clients) (SaysUnopened documents_with_sequences g.A.Address.address told) c.run_together-in-WithSequences.result.0 e.1 e.4.wrote.1 usage

pub run_together-requires-send-T : goal.run_together-requires-send-T
run_together-requires-send-T g c κs within = let d = Doc-send in search sendable

pub run_together-requires-sync-T : goal.run_together-requires-sync-T
run_together-requires-sync-T g c κs within = let d = Doc-sync in search sendable

pub run_together-requires-in-WithSequences-send-T : goal.run_together-requires-in-WithSequences-send-T
run_together-requires-in-WithSequences-send-T g c κs within = let d = Wide-send in search sendable

pub run_together-requires-in-WithSequences-sync-T : goal.run_together-requires-in-WithSequences-sync-T
run_together-requires-in-WithSequences-sync-T g c κs within = let d = Wide-sync in search sendable
