use Rattle.std.proofs.Common.{◌≡◌, ◌⊎◌, [], refl, inl, subst}
use Rattle.std.specs.Prelude.{Some}
use Rattle.std.proofs.KnownBytes.{Consumes-nil}
use Rattle.mrdt_old_doc.specs.OldDocument.{old_document}
use Rattle.branch_shell.specs.declared.status.Status.TheVariants.{ReadFault, DiskFault}
use Rattle.branch_shell.specs.Refusals.{unopened_text}
use Rattle.branch_shell.specs.Reading.{Exchanges}
use Rattle.branch_shell.specs.Stores.{Stored, IsOpenedAs}
use Rattle.branch_shell.specs.Documents.{SaysUnopened}
use Rattle.branch_shell.specs.Statuses.{Runs}
use Rattle.branch_shell.proofs.Once.{answers_map, says_refused, reason_opening, not_behind}
use Rattle.branch_shell.proofs.Scripts.{script_opened, script_refused, wrote_opened}
use Rattle.branch_shell.specs.Values.{value_type}
use denote.Param.Send.{sendable}
use Rattle.documents_cross.proofs.Crosses.{Doc1-send, Doc1-sync}
use Rattle.branch_shell.proofs.script.run_script.Goals as goal

pub returns-in-Ok-clause-ran : goal.returns-in-Ok-clause-ran
returns-in-Ok-clause-ran g c =
    let d = g.D.Disk in
    let laws = g.met.D.Disk in
    let address = g.A.Address.address in
    let of = value_type g.T.Mrdt.meaning g.T.Forms.forms g.T.Kinded.KIND in
    let core = c.in-Ok.core in
    let opened = c.in-Ok.ensures in
    let found : Stored _ _ = record { terms = core.terms; history = core.history } in
    let is : IsOpenedAs of.kind of.meaning address (d.contents c.args.disk) found = record { valid = opened.valid; kind_is = opened.kind; reads = opened.reads; only = opened.only } in
    let left = g.S.Source.left c.run_opened.new.source in
    let e = c.run_opened.ensures.ran in
    (e.0, e.1, e.2, e.3, script_opened of address d laws.counts_now laws.only_now c.args.disk core.disk c.run_opened.result.1 found left c.run_opened.result.0 e.0 e.1 is opened.any_moment e.4)

pub returns-in-Ok-clause-behind_source : goal.returns-in-Ok-clause-behind_source
returns-in-Ok-clause-behind_source g c fault =
    let d = g.D.Disk in
    let address = g.A.Address.address in
    let of = value_type g.T.Mrdt.meaning g.T.Forms.forms g.T.Kinded.KIND in
    let core = c.in-Ok.core in
    let opened = c.in-Ok.ensures in
    let found : Stored _ _ = record { terms = core.terms; history = core.history } in
    let is : IsOpenedAs of.kind of.meaning address (d.contents c.args.disk) found = record { valid = opened.valid; kind_is = opened.kind; reads = opened.reads; only = opened.only } in
    let left = g.S.Source.left c.run_opened.new.source in
    wrote_opened of address d.may_leave d.moment d.left_since (d.contents c.args.disk) found is core.disk c.run_opened.result.1 (g.S.Source.left c.args.source.now) left (g.K.Sink.given c.args.sink.now) (g.K.Sink.given c.run_opened.new.sink) ReadFault
    (g.S.Source.faults c.run_opened.new.source ≡ g.S.Source.faults c.args.source.now) (c.run_opened.ensures.behind_source fault)

pub returns-in-Ok-clause-behind_disk : goal.returns-in-Ok-clause-behind_disk
returns-in-Ok-clause-behind_disk g c fault =
    let d = g.D.Disk in
    let address = g.A.Address.address in
    let of = value_type g.T.Mrdt.meaning g.T.Forms.forms g.T.Kinded.KIND in
    let core = c.in-Ok.core in
    let opened = c.in-Ok.ensures in
    let found : Stored _ _ = record { terms = core.terms; history = core.history } in
    let is : IsOpenedAs of.kind of.meaning address (d.contents c.args.disk) found = record { valid = opened.valid; kind_is = opened.kind; reads = opened.reads; only = opened.only } in
    let left = g.S.Source.left c.run_opened.new.source in
    wrote_opened of address d.may_leave d.moment d.left_since (d.contents c.args.disk) found is core.disk c.run_opened.result.1 (g.S.Source.left c.args.source.now) left (g.K.Sink.given c.args.sink.now) (g.K.Sink.given c.run_opened.new.sink) DiskFault
    (d.faults c.run_opened.result.1 ≡ d.faults c.args.disk) (subst (λ n. (d.faults c.run_opened.result.1 ≡ n) ⊎ Exchanges (g.S.Source.left c.args.source.now) left (g.K.Sink.given c.args.sink.now) (g.K.Sink.given c.run_opened.new.sink) (Runs d.may_leave d.moment d.left_since of address found core.disk c.run_opened.result.1 left DiskFault)) opened.no_cause (c.run_opened.ensures.behind_disk fault))

pub returns-in-Err-clause-ran : goal.returns-in-Err-clause-ran
returns-in-Err-clause-ran g c =
    let d = g.D.Disk in
    let laws = g.met.D.Disk in
    let told = d.contents c.args.disk in
    let address = g.A.Address.address in
    let of = value_type g.T.Mrdt.meaning g.T.Forms.forms g.T.Kinded.KIND in
    let left = g.S.Source.left c.args.source.now in
    let w = answers_map (λ whole. ⊥) (λ whole. unopened_text c.in-Err.why ≡ Some whole) (λ whole. ⊥) (SaysUnopened of address told) (λ whole no. no)
    (says_refused of.kind of.meaning old_document address told c.in-Err.why c.in-Err.ensures.refused c.in-Err.ensures.refused_only) c.refuse.result (g.K.Sink.given c.args.sink.now) (g.K.Sink.given c.refuse.new.sink) c.refuse.ensures.wrote in
    ([], w.0, Consumes-nil left, w.1, script_refused of address d laws.counts_now laws.only_now c.args.disk c.in-Err.disk left c.refuse.result w.0 c.in-Err.ensures.any_moment_err w.2)

pub returns-in-Err-clause-reason : goal.returns-in-Err-clause-reason
returns-in-Err-clause-reason g c =
    reason_opening (λ whole. ⊥) (λ whole. unopened_text c.in-Err.why ≡ Some whole) (g.S.Source.faults c.args.source.now) (g.K.Sink.faults c.args.sink.now) (g.K.Sink.faults c.refuse.new.sink) (g.D.Disk.faults c.args.disk) (g.D.Disk.faults c.in-Err.disk)
    (g.K.Sink.given c.args.sink.now) (g.K.Sink.given c.refuse.new.sink) c.in-Err.why c.refuse.result c.refuse.ensures.wrote c.in-Err.ensures.cause c.refuse.ensures.fault c.refuse.ensures.reason

pub returns-in-Err-clause-behind_source : goal.returns-in-Err-clause-behind_source
returns-in-Err-clause-behind_source g c = λ fault. inl refl

pub returns-in-Err-clause-behind_disk : goal.returns-in-Err-clause-behind_disk
returns-in-Err-clause-behind_disk g c = λ fault. inl (not_behind (g.D.Disk.faults c.args.disk) (g.D.Disk.faults c.in-Err.disk) c.in-Err.why c.refuse.result c.in-Err.ensures.cause c.refuse.ensures.fault fault)

pub open_store-requires-send-U : goal.open_store-requires-send-U
open_store-requires-send-U g c κs within = let d = Doc1-send in search sendable

pub open_store-requires-sync-U : goal.open_store-requires-sync-U
open_store-requires-sync-U g c κs within = let d = Doc1-sync in search sendable
