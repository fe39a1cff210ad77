-- Each command on the disk that was chosen.
use Rattle.std.proofs.Common.{◌≡◌, [], refl, inl}
use Rattle.std.proofs.KnownBytes.{Consumes-nil}
use Rattle.branch_command.specs.Work.{Work}
use Rattle.branch_command.specs.Commands.{Script}
use Rattle.branch_shell.specs.declared.status.Status.TheVariants.{DiskFault}
use Rattle.branch_shell.specs.Generated.{SaysWork}
use Rattle.branch_shell.specs.Reading.{Exchanges}
use Rattle.branch_shell.specs.Statuses.{WroteOf}
use Rattle.branch_shell.specs.Documents.{SaysUnopened}
use Rattle.branch_shell.specs.Upgrading.{SaysUpgraded, SaysNotUpgraded}
use Rattle.branch_shell.specs.Compacting.{SaysCompacted}
use Rattle.mrdt_old_doc.specs.OldDocument.{old_document}
use Rattle.branch_shell.specs.Looks.{SaysLook, SaysNoLook}
use Rattle.branch_shell.specs.Values.{value_type}
use Rattle.branch_shell.proofs.Said.{script_said, look_said, generate_said, upgrade_said, compact_said, receive_said}
use Rattle.branch_shell.proofs.Runs.{no_usage, once_usage, look_ran, both_behind}
use Rattle.branch_shell.proofs.Received.{receive_usage}
use Rattle.branch_shell.proofs.Outcomes.{never_usage}
use denote.Param.Send.{sendable}
use Rattle.documents_cross.proofs.Crosses.{Doc1-send, Doc1-sync}
use Rattle.branch_shell.proofs.current.run_chosen.Goals as goal

pub returns-in-Script-clause-ran : goal.returns-in-Script-clause-ran
returns-in-Script-clause-ran g c said means =
    let e = c.run_script-status.ensures.ran in
    rw (script_said said c.args.command c.in-Script.is means) (e.0, e.1, e.2, e.3, (e.4, refl))

pub returns-in-Script-clause-usage : goal.returns-in-Script-clause-usage
returns-in-Script-clause-usage g c usage =
    let of = value_type g.T.Mrdt.meaning g.T.Forms.forms g.T.Kinded.KIND in
    let e = c.run_script-status.ensures.ran in
    no_usage of g.A.Address.address (g.D.Disk.contents c.args.held) (g.S.Source.left c.run_script-status.new.source) c.run_script-status.result.0 e.0 e.1 e.4.wrote usage

pub returns-in-Script-clause-reason : goal.returns-in-Script-clause-reason
returns-in-Script-clause-reason g c = inl (c.run_script-status.ensures.reason, refl)

pub returns-in-Script-clause-behind_source : goal.returns-in-Script-clause-behind_source
returns-in-Script-clause-behind_source g c said means fault = rw (script_said said c.args.command c.in-Script.is means) (c.run_script-status.ensures.behind_source fault)

pub returns-in-Script-clause-behind_disk : goal.returns-in-Script-clause-behind_disk
returns-in-Script-clause-behind_disk g c said means fault =
    let of = value_type g.T.Mrdt.meaning g.T.Forms.forms g.T.Kinded.KIND in
    let run = c.run_script-status in
    rw (script_said said c.args.command c.in-Script.is means)
    (both_behind (g.D.Disk.faults run.result.1 ≡ g.D.Disk.faults c.args.held) (g.D.Disk.faults c.args.other ≡ g.D.Disk.faults c.args.other)
    (Exchanges (g.S.Source.left c.args.source.now) (g.S.Source.left run.new.source) (g.K.Sink.given c.args.sink.now) (g.K.Sink.given run.new.sink)
    (WroteOf of g.A.Address.address Script (g.D.Disk.contents c.args.held) (g.S.Source.left run.new.source) DiskFault)) refl (run.ensures.behind_disk fault))

pub returns-in-Look-clause-ran : goal.returns-in-Look-clause-ran
returns-in-Look-clause-ran g c said means =
    let of = value_type g.T.Mrdt.meaning g.T.Forms.forms g.T.Kinded.KIND in
    let run = c.run_look-status in
    rw (look_said said c.args.command c.in-Look.look c.in-Look.is means)
    (look_ran of g.A.Address.address g.D.Disk c.args.which c.args.held run.result.1 c.args.other run.result.0 (g.S.Source.left c.args.source.now) (g.K.Sink.given c.args.sink.now) (g.K.Sink.given run.new.sink) c.in-Look.look run.ensures.wrote
    (record { any_moment = run.ensures.any_moment; keeps = λ done store holds. run.ensures.keeps done holds.files store holds.told holds.reads }))

pub returns-in-Look-clause-usage : goal.returns-in-Look-clause-usage
returns-in-Look-clause-usage g c usage =
    let of = value_type g.T.Mrdt.meaning g.T.Forms.forms g.T.Kinded.KIND in
    let told = g.D.Disk.contents c.args.held in
    let run = c.run_look-status in
    never_usage (SaysLook of g.A.Address.address told c.in-Look.look) (SaysNoLook of old_document g.A.Address.address told c.in-Look.look) run.result.0 (g.K.Sink.given c.args.sink.now) (g.K.Sink.given run.new.sink) run.ensures.wrote usage

pub returns-in-Look-clause-reason : goal.returns-in-Look-clause-reason
returns-in-Look-clause-reason g c = inl (c.run_look-status.ensures.reason (g.S.Source.faults c.args.source.now), refl)

pub returns-in-Look-clause-behind_source : goal.returns-in-Look-clause-behind_source
returns-in-Look-clause-behind_source g c said means fault = inl refl

pub returns-in-Look-clause-behind_disk : goal.returns-in-Look-clause-behind_disk
returns-in-Look-clause-behind_disk g c said means fault = inl (c.run_look-status.ensures.no_fault fault, refl)

pub returns-in-Generate-clause-ran : goal.returns-in-Generate-clause-ran
returns-in-Generate-clause-ran g c said means =
    let e = c.run_generate-status.ensures.ran (g.S.Source.left c.args.source.now) in
    rw (generate_said said c.args.command c.in-Generate.steps c.in-Generate.number c.in-Generate.is means) (e.0, e.1, e.2, e.3, (e.4, refl))

pub returns-in-Generate-clause-usage : goal.returns-in-Generate-clause-usage
returns-in-Generate-clause-usage g c usage =
    let of = value_type g.T.Mrdt.meaning g.T.Forms.forms g.T.Kinded.KIND in
    let told = g.D.Disk.contents c.args.held in
    let work : Work = record { steps = c.in-Generate.steps; number = c.in-Generate.number } in
    let e = c.run_generate-status.ensures.ran (g.S.Source.left c.args.source.now) in
    once_usage (SaysWork of g.A.Address.address told work) (SaysUnopened of g.A.Address.address told) c.run_generate-status.result.0 e.1 e.4.wrote.1 usage

pub returns-in-Generate-clause-reason : goal.returns-in-Generate-clause-reason
returns-in-Generate-clause-reason g c = inl (c.run_generate-status.ensures.reason (g.S.Source.faults c.args.source.now), refl)

pub returns-in-Generate-clause-behind_source : goal.returns-in-Generate-clause-behind_source
returns-in-Generate-clause-behind_source g c said means fault = inl refl

pub returns-in-Generate-clause-behind_disk : goal.returns-in-Generate-clause-behind_disk
returns-in-Generate-clause-behind_disk g c said means fault = inl (c.run_generate-status.ensures.no_fault fault, refl)

pub returns-in-Upgrade-clause-ran : goal.returns-in-Upgrade-clause-ran
returns-in-Upgrade-clause-ran g c said means =
    let did = c.run_upgrade.ensures.ran in
    rw (upgrade_said said c.args.command c.in-Upgrade.is means) ([], did.0, Consumes-nil (g.S.Source.left c.args.source.now), did.1, (refl, did.2))

pub returns-in-Upgrade-clause-usage : goal.returns-in-Upgrade-clause-usage
returns-in-Upgrade-clause-usage g c usage =
    let run = c.run_upgrade in
    let did = run.ensures.ran in
    once_usage (SaysUpgraded g.D.Disk g.A.Address.address c.args.held c.args.other run.result.2) (SaysNotUpgraded g.D.Disk g.A.Address.address c.args.held c.args.other run.result.2) run.result.0 did.0 did.2.wrote usage

pub returns-in-Upgrade-clause-reason : goal.returns-in-Upgrade-clause-reason
returns-in-Upgrade-clause-reason g c = c.run_upgrade.ensures.reason (g.S.Source.faults c.args.source.now)

pub returns-in-Upgrade-clause-behind_source : goal.returns-in-Upgrade-clause-behind_source
returns-in-Upgrade-clause-behind_source g c said means fault = inl refl

pub returns-in-Upgrade-clause-behind_disk : goal.returns-in-Upgrade-clause-behind_disk
returns-in-Upgrade-clause-behind_disk g c said means fault = inl (c.run_upgrade.ensures.no_fault fault)

pub returns-in-Compact-clause-ran : goal.returns-in-Compact-clause-ran
returns-in-Compact-clause-ran g c said means =
    let did = c.run_compact.ensures.ran in
    rw (compact_said said c.args.command c.in-Compact.is means) ([], did.0, Consumes-nil (g.S.Source.left c.args.source.now), did.1, (refl, did.2))

pub returns-in-Compact-clause-usage : goal.returns-in-Compact-clause-usage
returns-in-Compact-clause-usage g c usage =
    let of = value_type g.T.Mrdt.meaning g.T.Forms.forms g.T.Kinded.KIND in
    let told = g.D.Disk.contents c.args.held in
    let did = c.run_compact.ensures.ran in
    once_usage (SaysCompacted of g.A.Address.address told) (SaysUnopened of g.A.Address.address told) c.run_compact.result.0 did.0 did.2.wrote usage

pub returns-in-Compact-clause-reason : goal.returns-in-Compact-clause-reason
returns-in-Compact-clause-reason g c = c.run_compact.ensures.reason (g.S.Source.faults c.args.source.now)

pub returns-in-Compact-clause-behind_source : goal.returns-in-Compact-clause-behind_source
returns-in-Compact-clause-behind_source g c said means fault = inl refl

pub returns-in-Compact-clause-behind_disk : goal.returns-in-Compact-clause-behind_disk
returns-in-Compact-clause-behind_disk g c said means fault = inl (c.run_compact.ensures.no_fault fault)

pub returns-in-Receive-clause-ran : goal.returns-in-Receive-clause-ran
returns-in-Receive-clause-ran g c said means =
    let e = c.run_receive-status.ensures.ran in
    rw (receive_said said c.args.command c.in-Receive.named c.in-Receive.is means) (e.0, e.1, e.2, e.3, (e.4, refl))

pub returns-in-Receive-clause-usage : goal.returns-in-Receive-clause-usage
returns-in-Receive-clause-usage g c usage =
    let of = value_type g.T.Mrdt.meaning g.T.Forms.forms g.T.Kinded.KIND in
    let run = c.run_receive-status in
    let e = run.ensures.ran in
    receive_usage g.D.Disk of.kind of.meaning old_document g.A.Address.address c.in-Receive.named.name c.args.held run.result.1 (g.S.Source.left run.new.source) run.result.0 e.0 e.1 e.4 usage

pub returns-in-Receive-clause-reason : goal.returns-in-Receive-clause-reason
returns-in-Receive-clause-reason g c = inl (c.run_receive-status.ensures.reason, refl)

pub returns-in-Receive-clause-behind_source : goal.returns-in-Receive-clause-behind_source
returns-in-Receive-clause-behind_source g c said means fault = inl (c.run_receive-status.ensures.no_fault fault).0

pub returns-in-Receive-clause-behind_disk : goal.returns-in-Receive-clause-behind_disk
returns-in-Receive-clause-behind_disk g c said means fault = inl ((c.run_receive-status.ensures.no_fault fault).1, refl)

pub run_look-status-requires-send-U : goal.run_look-status-requires-send-U
run_look-status-requires-send-U g c κs within = let d = Doc1-send in search sendable

pub run_look-status-requires-sync-U : goal.run_look-status-requires-sync-U
run_look-status-requires-sync-U g c κs within = let d = Doc1-sync in search sendable

pub run_receive-status-requires-send-U : goal.run_receive-status-requires-send-U
run_receive-status-requires-send-U g c κs within = let d = Doc1-send in search sendable

pub run_receive-status-requires-sync-U : goal.run_receive-status-requires-sync-U
run_receive-status-requires-sync-U g c κs within = let d = Doc1-sync in search sendable
