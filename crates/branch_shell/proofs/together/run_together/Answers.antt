-- Clients over the store that opening found, and what is left of files that are no store.
use Rattle.std.proofs.Common.{◌≡◌, ℕ, [], subst}
use Rattle.std.specs.Prelude.{Some}
use Rattle.std.proofs.KnownBytes.{Consumes-nil}
use Rattle.mrdt_old_doc.specs.OldDocument.{old_document}
use Rattle.branch_command.specs.Work.{Clients}
use Rattle.branch_shell.specs.Counts.{HasReason}
use Rattle.branch_shell.specs.Refusals.{unopened_text}
use Rattle.branch_shell.specs.Stores.{Stored, IsOpenedAs}
use Rattle.branch_shell.specs.Documents.{SaysUnopened}
use Rattle.branch_shell.proofs.Clients.{clients_opened, clients_refused}
use Rattle.branch_shell.proofs.Once.{answers_map, says_refused, not_behind}
use Rattle.branch_shell.specs.Values.{value_type}
use denote.Param.Send.{sendable}
use Rattle.documents_cross.proofs.Crosses.{Doc1-send, Doc1-sync}
use Rattle.branch_shell.proofs.together.run_together.Goals as goal

pub returns-in-Ok-clause-ran : goal.returns-in-Ok-clause-ran
returns-in-Ok-clause-ran g c left =
    let d = g.D.Disk in
    let laws = g.met.D.Disk g.world.𝓛 g.world.𝓜 g.world.𝓡 ((λ s x. x), (λ x. x), (λ x. x), λ x. x) in
    let address = g.A.Address.address in
    let of = value_type g.T.Mrdt.meaning g.T.Forms.forms g.T.Kinded.KIND in
    let core = c.in-Ok.core in
    let opened = c.in-Ok.ensures in
    let found : Stored _ _ = record { terms = core.terms; history = core.history } in
    let clients : Clients = record { count = c.args.work.count; work = record { steps = c.args.work.steps; number = c.args.work.number } } in
    let is : IsOpenedAs of.kind of.meaning address (d.contents c.args.disk) found = record { valid = opened.valid; kind_is = opened.kind; reads = opened.reads; only = opened.only } in
    let w = c.together_over.ensures.wrote in
    ([], w.0, Consumes-nil left, w.1, clients_opened of address d clients laws.counts_now laws.only_now left c.args.disk core.disk c.together_over.result.1 found c.together_over.result.0 w.0 is opened.any_moment c.together_over.ensures.survives w.2)

pub returns-in-Ok-clause-reason : goal.returns-in-Ok-clause-reason
returns-in-Ok-clause-reason g c n =
    let faults = g.D.Disk.faults in
    subst (λ (k : ℕ). HasReason (record { source = n; sink = g.K.Sink.faults c.args.sink.now; disk = k })
    (record { source = n; sink = g.K.Sink.faults c.together_over.new.sink; disk = faults c.together_over.result.1 }) c.together_over.result.0) c.in-Ok.ensures.no_cause (c.together_over.ensures.reason n)

pub returns-in-Err-clause-ran : goal.returns-in-Err-clause-ran
returns-in-Err-clause-ran g c left =
    let d = g.D.Disk in
    let laws = g.met.D.Disk g.world.𝓛 g.world.𝓜 g.world.𝓡 ((λ s x. x), (λ x. x), (λ x. x), λ x. x) in
    let told = d.contents c.args.disk in
    let address = g.A.Address.address in
    let of = value_type g.T.Mrdt.meaning g.T.Forms.forms g.T.Kinded.KIND in
    let clients : Clients = record { count = c.args.work.count; work = record { steps = c.args.work.steps; number = c.args.work.number } } in
    let w = answers_map (λ whole. ⊥) (λ whole. unopened_text c.in-Err.why ≡ Some whole) (λ whole. ⊥) (SaysUnopened of address told) (λ whole no. no)
    (says_refused of.kind of.meaning old_document address told c.in-Err.why c.in-Err.ensures.refused c.in-Err.ensures.refused_only) c.refuse.result (g.K.Sink.given c.args.sink.now) (g.K.Sink.given c.refuse.new.sink) c.refuse.ensures.wrote in
    ([], w.0, Consumes-nil left, w.1, clients_refused of address d clients laws.counts_now laws.only_now left c.args.disk c.in-Err.disk c.refuse.result w.0 c.in-Err.ensures.any_moment_err w.2)

pub returns-in-Err-clause-no_fault : goal.returns-in-Err-clause-no_fault
returns-in-Err-clause-no_fault g c = not_behind (g.D.Disk.faults c.args.disk) (g.D.Disk.faults c.in-Err.disk) c.in-Err.why c.refuse.result c.in-Err.ensures.cause c.refuse.ensures.fault

pub open_store-requires-send-U : goal.open_store-requires-send-U
open_store-requires-send-U g c κs within = let d = Doc1-send in search sendable

pub open_store-requires-sync-U : goal.open_store-requires-sync-U
open_store-requires-sync-U g c κs within = let d = Doc1-sync in search sendable
