use Rattle.std.proofs.Common.{◌≡◌, refl, subst}
use Rattle.branch_print.specs.Reports.{ready_text, not_empty_text}
use Rattle.branch_shell.specs.Stores.{AreThese, SaysReady, SaysNotEmpty}
use Rattle.store_core.specs.Inits.{InitRefusedAs}
use Rattle.branch_shell.proofs.Once.{said_done, said_refused}
use Rattle.branch_shell.proofs.Inits.{has_bytes, made_empty, empty_store}
use Rattle.branch_shell.proofs.answer.make_store.Goals as goal

pub returns-in-Ok-clause-any_moment : goal.returns-in-Ok-clause-any_moment
returns-in-Ok-clause-any_moment g c empty =
    let d = g.D.Disk in
    let terms = c.args.terms in
    let same = c.close.ensures.same in
    rw same (made_empty g.T.Mrdt.meaning g.A.Address.address c.reads_what_stands.ensures c.reads_as_no_store.ensures c.reads_as_today.ensures d.may_leave d.moment d.left_since terms (AreThese terms) refl c.args.disk c.in-Ok.core.disk
    (c.in-Ok.ensures.any_moment empty))

pub returns-in-Ok-clause-made : goal.returns-in-Ok-clause-made
returns-in-Ok-clause-made g c done f left =
    let d = g.D.Disk in
    let terms = c.args.terms in
    empty_store g.T.Mrdt.meaning g.A.Address.address c.reads_what_stands.ensures c.reads_as_no_store.ensures c.reads_as_today.ensures terms (AreThese terms) refl (d.may_leave c.in-Ok.core.disk) c.in-Ok.ensures.stands f (subst (λ d'. d.may_leave d' f) c.close.ensures.same left)

pub returns-in-Err-NotEmpty-default-clause-wrote : goal.returns-in-Err-NotEmpty-default-clause-wrote
returns-in-Err-NotEmpty-default-clause-wrote g c =
    let told = g.D.Disk.contents c.args.disk in
    let s = c.say-in-Err-NotEmpty-default in
    said_refused (SaysReady told) (SaysNotEmpty told) not_empty_text s.result (g.K.Sink.given c.args.sink.now) (g.K.Sink.given s.new.sink) (g.K.Sink.faults c.args.sink.now) (g.K.Sink.faults s.new.sink)
    (λ f is. has_bytes c.in-Err-NotEmpty-default.field-0-0-0 f (subst (λ r. InitRefusedAs r f) c.in-Err-NotEmpty-default.field-0-0-is (c.in-Err-NotEmpty-default.ensures.refused f is)), refl) s.ensures

pub returns-in-Err-NotEmpty-default-clause-any_moment : goal.returns-in-Err-NotEmpty-default-clause-any_moment
returns-in-Err-NotEmpty-default-clause-any_moment g c empty =
    let d = g.D.Disk in
    let terms = c.args.terms in
    made_empty g.T.Mrdt.meaning g.A.Address.address c.reads_what_stands.ensures c.reads_as_no_store.ensures c.reads_as_today.ensures d.may_leave d.moment d.left_since terms (AreThese terms) refl c.args.disk c.in-Err-NotEmpty-default.disk
    (c.in-Err-NotEmpty-default.ensures.any_moment_err empty)

pub returns-in-Err-DiskFault-default-clause-any_moment : goal.returns-in-Err-DiskFault-default-clause-any_moment
returns-in-Err-DiskFault-default-clause-any_moment g c empty =
    let d = g.D.Disk in
    let terms = c.args.terms in
    made_empty g.T.Mrdt.meaning g.A.Address.address c.reads_what_stands.ensures c.reads_as_no_store.ensures c.reads_as_today.ensures d.may_leave d.moment d.left_since terms (AreThese terms) refl c.args.disk c.in-Err-DiskFault-default.disk
    (c.in-Err-DiskFault-default.ensures.any_moment_err empty)

pub returns-in-Err-Memory-default-clause-any_moment : goal.returns-in-Err-Memory-default-clause-any_moment
returns-in-Err-Memory-default-clause-any_moment g c empty =
    let d = g.D.Disk in
    let terms = c.args.terms in
    made_empty g.T.Mrdt.meaning g.A.Address.address c.reads_what_stands.ensures c.reads_as_no_store.ensures c.reads_as_today.ensures d.may_leave d.moment d.left_since terms (AreThese terms) refl c.args.disk c.in-Err-Memory-default.disk
    (c.in-Err-Memory-default.ensures.any_moment_err empty)

pub returns-in-Ok-clause-wrote : goal.returns-in-Ok-clause-wrote
returns-in-Ok-clause-wrote g c =
    let told = g.D.Disk.contents c.args.disk in
    said_done (SaysReady told) (SaysNotEmpty told) ready_text c.say.result (g.K.Sink.given c.args.sink.now) (g.K.Sink.given c.say.new.sink) (g.K.Sink.faults c.args.sink.now) (g.K.Sink.faults c.say.new.sink)
    (c.in-Ok.ensures.empty, refl) c.say.ensures
