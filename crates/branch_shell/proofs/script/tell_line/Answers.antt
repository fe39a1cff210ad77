use Rattle.std.proofs.Common.{◌++◌, refl, ap, subst, ◌∙◌}
use Rattle.std.specs.Io.KnownBytes.{Appends}
use Rattle.branch_engine.specs.Play.{line_told}
use Rattle.branch_shell.specs.declared.status.Status.TheVariants.{DiskFault, Memory}
use Rattle.branch_shell.specs.Reading.{GivesPart}
use Rattle.branch_shell.proofs.Told.{line_tells, line_stops, line_cut}
use Rattle.branch_shell.specs.Values.{value_type}
use Rattle.branch_shell.specs.Documents.{fixed_under}
use Rattle.branch_shell.proofs.script.tell_line.Goals as goal

pub returns-in-Err-DiskFault-clause-err : goal.returns-in-Err-DiskFault-clause-err
returns-in-Err-DiskFault-clause-err g c terms p at =
    let of = value_type g.T.Mrdt.meaning g.T.Forms.forms g.T.Kinded.KIND in
    let d = g.D.Disk in
    let laws = g.met.D.Disk in
    line_stops d.may_leave d.moment d.left_since laws.counts_now laws.only_now c.args.line.now c.args.engine.now c.tell.new.self of.forms (fixed_under of g.A.Address.address terms) p (c.tell.ensures.moments terms p at) (g.K.Sink.given c.args.sink.now) DiskFault refl

pub returns-in-Err-Memory-clause-err : goal.returns-in-Err-Memory-clause-err
returns-in-Err-Memory-clause-err g c terms p at =
    let of = value_type g.T.Mrdt.meaning g.T.Forms.forms g.T.Kinded.KIND in
    let d = g.D.Disk in
    let laws = g.met.D.Disk in
    line_stops d.may_leave d.moment d.left_since laws.counts_now laws.only_now c.args.line.now c.args.engine.now c.tell.new.self of.forms (fixed_under of g.A.Address.address terms) p (c.tell.ensures.moments terms p at) (g.K.Sink.given c.args.sink.now) Memory refl

pub returns-in-Ok-give_all-clause-ok : goal.returns-in-Ok-give_all-clause-ok
returns-in-Ok-give_all-clause-ok g c terms p at =
    let of = value_type g.T.Mrdt.meaning g.T.Forms.forms g.T.Kinded.KIND in
    let d = g.D.Disk in
    let laws = g.met.D.Disk in
    let forms = of.forms in
    let fixed = fixed_under of g.A.Address.address terms in
    let told = c.in-Ok.ensures.ok terms p at in
    line_tells d.may_leave d.moment d.left_since laws.counts_now laws.only_now c.args.line.now c.args.engine.now c.tell.new.self forms fixed p (c.tell.ensures.moments terms p at) (g.K.Sink.given c.args.sink.now) (g.K.Sink.given c.give_all.new.sink) told.0
    (subst (Appends (g.K.Sink.given c.args.sink.now) (g.K.Sink.given c.give_all.new.sink)) (c.deref.ensures.value ∙ told.1 ∙ ap (λ xs. xs ++ (line_told forms fixed p c.args.line.now).text) c.new-reply.ensures.items) c.in-Ok-give_all.ensures.ok)

pub returns-clause-err : goal.returns-clause-err
returns-clause-err g c terms p at =
    let of = value_type g.T.Mrdt.meaning g.T.Forms.forms g.T.Kinded.KIND in
    let d = g.D.Disk in
    let laws = g.met.D.Disk in
    let forms = of.forms in
    let fixed = fixed_under of g.A.Address.address terms in
    let told = c.in-Ok.ensures.ok terms p at in
    line_cut d.may_leave d.moment d.left_since laws.counts_now laws.only_now c.args.line.now c.args.engine.now c.tell.new.self forms fixed p (c.tell.ensures.moments terms p at) (g.K.Sink.given c.args.sink.now) (g.K.Sink.given c.give_all.new.sink) told.0
    (subst (GivesPart (g.K.Sink.given c.args.sink.now) (g.K.Sink.given c.give_all.new.sink)) (c.deref.ensures.value ∙ told.1 ∙ ap (λ xs. xs ++ (line_told forms fixed p c.args.line.now).text) c.new-reply.ensures.items) c.in-Err.ensures.err)
