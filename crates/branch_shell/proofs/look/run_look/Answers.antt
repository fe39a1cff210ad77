use Rattle.std.proofs.Common.{◌≡◌, sym, subst, ap, ◌∙◌, inl, inr}
use Rattle.std.specs.Prelude.{Some}
use Rattle.branch_files.specs.Reading.{Opens, Answer}
use Rattle.branch_shell.specs.Refusals.{unopened_text}
use Rattle.branch_shell.specs.Stores.{Stored, IsOpenedAs}
use Rattle.branch_shell.specs.Values.{value_type}
use Rattle.branch_shell.specs.Looks.{TellsLook, TellsNowhere, SaysLook, SaysNoLook}
use Rattle.branch_shell.proofs.Once.{answers_map, says_refused, not_behind, reason_said}
use Rattle.branch_shell.proofs.look.run_look.Goals as goal

pub returns-in-Ok-clause-wrote : goal.returns-in-Ok-clause-wrote
returns-in-Ok-clause-wrote g c =
    let told = g.D.Disk.contents c.args.disk in
    let core = c.in-Ok.core in
    let opened = c.in-Ok.ensures in
    let m = g.T.Mrdt.meaning in
    let address = g.A.Address.address in
    let look = c.args.look.now in
    let of = value_type g.T.Mrdt.meaning g.T.Forms.forms g.T.Kinded.KIND in
    let store : Stored _ _ = record { terms = core.terms; history = core.history } in
    let is : IsOpenedAs of.kind of.meaning address told store = record { valid = opened.valid; kind_is = opened.kind; reads = opened.reads; only = opened.only } in
    answers_map (TellsLook of address look store) (TellsNowhere look store) (SaysLook of address told look) (SaysNoLook of g.U.Mrdt.meaning address told look)
    (λ whole tells. (store, is, tells)) (λ whole tells. inr (store, is, tells))
    c.tell_look.result (g.K.Sink.given c.args.sink.now) (g.K.Sink.given c.tell_look.new.sink) c.tell_look.ensures.wrote

pub returns-in-Ok-clause-keeps : goal.returns-in-Ok-clause-keeps
returns-in-Ok-clause-keeps g c done f store told reads i left =
    let m = g.T.Mrdt.meaning in
    let address = g.A.Address.address in
    let core = c.in-Ok.core in
    let opened = c.in-Ok.ensures in
    let image = c.reads_what_stands.ensures core.terms address core.history i opened.valid (opened.stands i (subst (λ d. g.D.Disk.may_leave d i) c.close.ensures.same left)) in
    subst (λ (a : Answer _ _). Rattle.branch_files.specs.Reading.ReadsAs m address i a) (sym (opened.only f told (Opens store.terms store.history) reads)) image

pub returns-in-Err-clause-wrote : goal.returns-in-Err-clause-wrote
returns-in-Err-clause-wrote g c =
    let told = g.D.Disk.contents c.args.disk in
    let m = g.T.Mrdt.meaning in
    let address = g.A.Address.address in
    let look = c.args.look.now in
    let of = value_type g.T.Mrdt.meaning g.T.Forms.forms g.T.Kinded.KIND in
    answers_map (λ whole. ⊥) (λ whole. unopened_text c.in-Err.why ≡ Some whole) (SaysLook of address told look) (SaysNoLook of g.U.Mrdt.meaning address told look)
    (λ whole no. absurd no) (λ whole says. inl (says_refused g.T.Kinded.KIND m g.U.Mrdt.meaning address told c.in-Err.why c.in-Err.ensures.refused c.in-Err.ensures.refused_only whole says))
    c.refuse.result (g.K.Sink.given c.args.sink.now) (g.K.Sink.given c.refuse.new.sink) c.refuse.ensures.wrote

pub returns-in-Err-clause-no_fault : goal.returns-in-Err-clause-no_fault
returns-in-Err-clause-no_fault g c = not_behind (g.D.Disk.faults c.args.disk) (g.D.Disk.faults c.in-Err.disk) c.in-Err.why c.refuse.result c.in-Err.ensures.cause c.refuse.ensures.fault

pub returns-in-Ok-clause-reason : goal.returns-in-Ok-clause-reason
returns-in-Ok-clause-reason g c n =
    let faults = g.D.Disk.faults in
    let store : Stored _ _ = record { terms = c.in-Ok.core.terms; history = c.in-Ok.core.history } in
    let look = c.args.look.now in
    let of = value_type g.T.Mrdt.meaning g.T.Forms.forms g.T.Kinded.KIND in
    reason_said (TellsLook of g.A.Address.address look store) (TellsNowhere look store) n (g.K.Sink.faults c.args.sink.now) (g.K.Sink.faults c.tell_look.new.sink) (faults c.args.disk) (faults c.close.result)
    (g.K.Sink.given c.args.sink.now) (g.K.Sink.given c.tell_look.new.sink) c.tell_look.result c.tell_look.ensures.wrote (ap faults c.close.ensures.same ∙ c.in-Ok.ensures.no_cause) c.tell_look.ensures.other c.tell_look.ensures.reason
