use Rattle.std.proofs.Common.{subst}
use Rattle.branch_engine.specs.Engines.{Store}
use Rattle.branch_shell.specs.Reading.{Exchanges}
use Rattle.branch_shell.specs.Counts.{StopsAtFault}
use Rattle.branch_shell.specs.declared.status.Status.{Status}
use Rattle.branch_shell.specs.Statuses.{Runs, status_of}
use Rattle.branch_shell.proofs.Scripts.{finished, unfinished}
use Rattle.branch_shell.proofs.Finish.{reason_finished, reason_unfinished, behind_source, behind_disk}
use Rattle.branch_shell.specs.Values.{value_type}
use Rattle.branch_shell.specs.Stores.{Stored}
use Rattle.branch_shell.proofs.script.run_opened.Goals as goal

pub returns-in-Ok-clause-ran : goal.returns-in-Ok-clause-ran
returns-in-Ok-clause-ran g c =
    let d = g.D.Disk in
    let laws = g.met.D.Disk in
    let address = g.A.Address.address in
    let of = value_type g.T.Mrdt.meaning g.T.Forms.forms g.T.Kinded.KIND in
    let store : Stored _ _ = record { terms = c.args.core.terms; history = c.args.core.history } in
    let l0 = g.S.Source.left c.args.source.now in
    let l1 = g.S.Source.left c.tell_all-outcome.new.source in
    let g0 = g.K.Sink.given c.args.sink.now in
    let g1 = g.K.Sink.given c.tell_all-outcome.new.sink in
    let g2 = g.K.Sink.given c.finish.new.self in
    let core_is = c.new-engine.ensures.core in
    let disk = c.args.core.disk in
    let last = c.tell_all-outcome.new.engine.core.disk in
    let status = status_of c.tell_all-outcome.result in
    let began = c.new-engine.ensures.begins c.requires.working in
    let ran = subst (λ (k : Store _ _ _). Exchanges l0 l1 g0 g1 (Runs d.may_leave d.moment d.left_since of address store k.disk last l1 status)) core_is (c.tell_all-outcome.ensures.ran store began) in
    let reason = subst (λ (k : Store _ _ _). StopsAtFault (record { source = g.S.Source.faults c.args.source.now; sink = g.K.Sink.faults c.args.sink.now; disk = d.faults k.disk })
    (record { source = g.S.Source.faults c.tell_all-outcome.new.source; sink = g.K.Sink.faults c.tell_all-outcome.new.sink; disk = d.faults last }) status) core_is c.tell_all-outcome.ensures.reason in
    let all = finished of address d.contents d.may_leave d.moment d.left_since laws.counts_now store disk last l0 l1 g0 g1 g2 status c.in-Ok.ensures.bytes ran in
    rw (c.ended.ensures, c.close.ensures) all

pub returns-in-Ok-clause-reason : goal.returns-in-Ok-clause-reason
returns-in-Ok-clause-reason g c =
    let d = g.D.Disk in
    let laws = g.met.D.Disk in
    let address = g.A.Address.address in
    let of = value_type g.T.Mrdt.meaning g.T.Forms.forms g.T.Kinded.KIND in
    let store : Stored _ _ = record { terms = c.args.core.terms; history = c.args.core.history } in
    let l0 = g.S.Source.left c.args.source.now in
    let l1 = g.S.Source.left c.tell_all-outcome.new.source in
    let g0 = g.K.Sink.given c.args.sink.now in
    let g1 = g.K.Sink.given c.tell_all-outcome.new.sink in
    let g2 = g.K.Sink.given c.finish.new.self in
    let core_is = c.new-engine.ensures.core in
    let disk = c.args.core.disk in
    let last = c.tell_all-outcome.new.engine.core.disk in
    let status = status_of c.tell_all-outcome.result in
    let began = c.new-engine.ensures.begins c.requires.working in
    let ran = subst (λ (k : Store _ _ _). Exchanges l0 l1 g0 g1 (Runs d.may_leave d.moment d.left_since of address store k.disk last l1 status)) core_is (c.tell_all-outcome.ensures.ran store began) in
    let reason = subst (λ (k : Store _ _ _). StopsAtFault (record { source = g.S.Source.faults c.args.source.now; sink = g.K.Sink.faults c.args.sink.now; disk = d.faults k.disk })
    (record { source = g.S.Source.faults c.tell_all-outcome.new.source; sink = g.K.Sink.faults c.tell_all-outcome.new.sink; disk = d.faults last }) status) core_is c.tell_all-outcome.ensures.reason in
    let all = reason_finished (g.S.Source.faults c.args.source.now) (g.S.Source.faults c.tell_all-outcome.new.source) (g.K.Sink.faults c.args.sink.now) (g.K.Sink.faults c.tell_all-outcome.new.sink) (d.faults disk) (d.faults last) (g.K.Sink.faults c.finish.new.self) status reason c.in-Ok.ensures.cause.succeeded in
    rw (c.ended.ensures, c.close.ensures) all

pub returns-in-Ok-clause-behind_source : goal.returns-in-Ok-clause-behind_source
returns-in-Ok-clause-behind_source g c = λ is.
    let d = g.D.Disk in
    let laws = g.met.D.Disk in
    let address = g.A.Address.address in
    let of = value_type g.T.Mrdt.meaning g.T.Forms.forms g.T.Kinded.KIND in
    let store : Stored _ _ = record { terms = c.args.core.terms; history = c.args.core.history } in
    let l0 = g.S.Source.left c.args.source.now in
    let l1 = g.S.Source.left c.tell_all-outcome.new.source in
    let g0 = g.K.Sink.given c.args.sink.now in
    let g1 = g.K.Sink.given c.tell_all-outcome.new.sink in
    let g2 = g.K.Sink.given c.finish.new.self in
    let core_is = c.new-engine.ensures.core in
    let disk = c.args.core.disk in
    let last = c.tell_all-outcome.new.engine.core.disk in
    let status = status_of c.tell_all-outcome.result in
    let began = c.new-engine.ensures.begins c.requires.working in
    let ran = subst (λ (k : Store _ _ _). Exchanges l0 l1 g0 g1 (Runs d.may_leave d.moment d.left_since of address store k.disk last l1 status)) core_is (c.tell_all-outcome.ensures.ran store began) in
    let reason = subst (λ (k : Store _ _ _). StopsAtFault (record { source = g.S.Source.faults c.args.source.now; sink = g.K.Sink.faults c.args.sink.now; disk = d.faults k.disk })
    (record { source = g.S.Source.faults c.tell_all-outcome.new.source; sink = g.K.Sink.faults c.tell_all-outcome.new.sink; disk = d.faults last }) status) core_is c.tell_all-outcome.ensures.reason in
    let all = behind_source (g.S.Source.faults c.args.source.now) (g.S.Source.faults c.tell_all-outcome.new.source) (g.K.Sink.faults c.args.sink.now) (g.K.Sink.faults c.tell_all-outcome.new.sink) (d.faults disk) (d.faults last) (λ (s : Status). Exchanges l0 l1 g0 g2 (Runs d.may_leave d.moment d.left_since of address store disk last l1 s)) status reason
    (finished of address d.contents d.may_leave d.moment d.left_since laws.counts_now store disk last l0 l1 g0 g1 g2 status c.in-Ok.ensures.bytes ran) in
    rw c.close.ensures all

pub returns-in-Ok-clause-behind_disk : goal.returns-in-Ok-clause-behind_disk
returns-in-Ok-clause-behind_disk g c = λ is.
    let d = g.D.Disk in
    let laws = g.met.D.Disk in
    let address = g.A.Address.address in
    let of = value_type g.T.Mrdt.meaning g.T.Forms.forms g.T.Kinded.KIND in
    let store : Stored _ _ = record { terms = c.args.core.terms; history = c.args.core.history } in
    let l0 = g.S.Source.left c.args.source.now in
    let l1 = g.S.Source.left c.tell_all-outcome.new.source in
    let g0 = g.K.Sink.given c.args.sink.now in
    let g1 = g.K.Sink.given c.tell_all-outcome.new.sink in
    let g2 = g.K.Sink.given c.finish.new.self in
    let core_is = c.new-engine.ensures.core in
    let disk = c.args.core.disk in
    let last = c.tell_all-outcome.new.engine.core.disk in
    let status = status_of c.tell_all-outcome.result in
    let began = c.new-engine.ensures.begins c.requires.working in
    let ran = subst (λ (k : Store _ _ _). Exchanges l0 l1 g0 g1 (Runs d.may_leave d.moment d.left_since of address store k.disk last l1 status)) core_is (c.tell_all-outcome.ensures.ran store began) in
    let reason = subst (λ (k : Store _ _ _). StopsAtFault (record { source = g.S.Source.faults c.args.source.now; sink = g.K.Sink.faults c.args.sink.now; disk = d.faults k.disk })
    (record { source = g.S.Source.faults c.tell_all-outcome.new.source; sink = g.K.Sink.faults c.tell_all-outcome.new.sink; disk = d.faults last }) status) core_is c.tell_all-outcome.ensures.reason in
    let all = behind_disk (g.S.Source.faults c.args.source.now) (g.S.Source.faults c.tell_all-outcome.new.source) (g.K.Sink.faults c.args.sink.now) (g.K.Sink.faults c.tell_all-outcome.new.sink) (d.faults disk) (d.faults last) (λ (s : Status). Exchanges l0 l1 g0 g2 (Runs d.may_leave d.moment d.left_since of address store disk last l1 s)) status reason
    (finished of address d.contents d.may_leave d.moment d.left_since laws.counts_now store disk last l0 l1 g0 g1 g2 status c.in-Ok.ensures.bytes ran) in
    rw c.close.ensures all

pub returns-in-Err-clause-ran : goal.returns-in-Err-clause-ran
returns-in-Err-clause-ran g c =
    let d = g.D.Disk in
    let laws = g.met.D.Disk in
    let address = g.A.Address.address in
    let of = value_type g.T.Mrdt.meaning g.T.Forms.forms g.T.Kinded.KIND in
    let store : Stored _ _ = record { terms = c.args.core.terms; history = c.args.core.history } in
    let l0 = g.S.Source.left c.args.source.now in
    let l1 = g.S.Source.left c.tell_all-outcome.new.source in
    let g0 = g.K.Sink.given c.args.sink.now in
    let g1 = g.K.Sink.given c.tell_all-outcome.new.sink in
    let g2 = g.K.Sink.given c.finish.new.self in
    let core_is = c.new-engine.ensures.core in
    let disk = c.args.core.disk in
    let last = c.tell_all-outcome.new.engine.core.disk in
    let status = status_of c.tell_all-outcome.result in
    let began = c.new-engine.ensures.begins c.requires.working in
    let ran = subst (λ (k : Store _ _ _). Exchanges l0 l1 g0 g1 (Runs d.may_leave d.moment d.left_since of address store k.disk last l1 status)) core_is (c.tell_all-outcome.ensures.ran store began) in
    let reason = subst (λ (k : Store _ _ _). StopsAtFault (record { source = g.S.Source.faults c.args.source.now; sink = g.K.Sink.faults c.args.sink.now; disk = d.faults k.disk })
    (record { source = g.S.Source.faults c.tell_all-outcome.new.source; sink = g.K.Sink.faults c.tell_all-outcome.new.sink; disk = d.faults last }) status) core_is c.tell_all-outcome.ensures.reason in
    let all = unfinished of address d.contents d.may_leave d.moment d.left_since laws.counts_now store disk last l0 l1 g0 g1 g2 status c.in-Err.ensures.bytes ran in
    rw c.close-in-Err.ensures all

pub returns-in-Err-clause-reason : goal.returns-in-Err-clause-reason
returns-in-Err-clause-reason g c =
    let d = g.D.Disk in
    let laws = g.met.D.Disk in
    let address = g.A.Address.address in
    let of = value_type g.T.Mrdt.meaning g.T.Forms.forms g.T.Kinded.KIND in
    let store : Stored _ _ = record { terms = c.args.core.terms; history = c.args.core.history } in
    let l0 = g.S.Source.left c.args.source.now in
    let l1 = g.S.Source.left c.tell_all-outcome.new.source in
    let g0 = g.K.Sink.given c.args.sink.now in
    let g1 = g.K.Sink.given c.tell_all-outcome.new.sink in
    let g2 = g.K.Sink.given c.finish.new.self in
    let core_is = c.new-engine.ensures.core in
    let disk = c.args.core.disk in
    let last = c.tell_all-outcome.new.engine.core.disk in
    let status = status_of c.tell_all-outcome.result in
    let began = c.new-engine.ensures.begins c.requires.working in
    let ran = subst (λ (k : Store _ _ _). Exchanges l0 l1 g0 g1 (Runs d.may_leave d.moment d.left_since of address store k.disk last l1 status)) core_is (c.tell_all-outcome.ensures.ran store began) in
    let reason = subst (λ (k : Store _ _ _). StopsAtFault (record { source = g.S.Source.faults c.args.source.now; sink = g.K.Sink.faults c.args.sink.now; disk = d.faults k.disk })
    (record { source = g.S.Source.faults c.tell_all-outcome.new.source; sink = g.K.Sink.faults c.tell_all-outcome.new.sink; disk = d.faults last }) status) core_is c.tell_all-outcome.ensures.reason in
    let all = reason_unfinished (g.S.Source.faults c.args.source.now) (g.S.Source.faults c.tell_all-outcome.new.source) (g.K.Sink.faults c.args.sink.now) (g.K.Sink.faults c.tell_all-outcome.new.sink) (d.faults disk) (d.faults last) (g.K.Sink.faults c.finish.new.self) status reason c.in-Err.ensures.cause.later c.in-Err.ensures.cause.failed in
    rw c.close-in-Err.ensures all

pub returns-in-Err-clause-behind_source : goal.returns-in-Err-clause-behind_source
returns-in-Err-clause-behind_source g c = λ is.
    let d = g.D.Disk in
    let laws = g.met.D.Disk in
    let address = g.A.Address.address in
    let of = value_type g.T.Mrdt.meaning g.T.Forms.forms g.T.Kinded.KIND in
    let store : Stored _ _ = record { terms = c.args.core.terms; history = c.args.core.history } in
    let l0 = g.S.Source.left c.args.source.now in
    let l1 = g.S.Source.left c.tell_all-outcome.new.source in
    let g0 = g.K.Sink.given c.args.sink.now in
    let g1 = g.K.Sink.given c.tell_all-outcome.new.sink in
    let g2 = g.K.Sink.given c.finish.new.self in
    let core_is = c.new-engine.ensures.core in
    let disk = c.args.core.disk in
    let last = c.tell_all-outcome.new.engine.core.disk in
    let status = status_of c.tell_all-outcome.result in
    let began = c.new-engine.ensures.begins c.requires.working in
    let ran = subst (λ (k : Store _ _ _). Exchanges l0 l1 g0 g1 (Runs d.may_leave d.moment d.left_since of address store k.disk last l1 status)) core_is (c.tell_all-outcome.ensures.ran store began) in
    let reason = subst (λ (k : Store _ _ _). StopsAtFault (record { source = g.S.Source.faults c.args.source.now; sink = g.K.Sink.faults c.args.sink.now; disk = d.faults k.disk })
    (record { source = g.S.Source.faults c.tell_all-outcome.new.source; sink = g.K.Sink.faults c.tell_all-outcome.new.sink; disk = d.faults last }) status) core_is c.tell_all-outcome.ensures.reason in
    let all = behind_source (g.S.Source.faults c.args.source.now) (g.S.Source.faults c.tell_all-outcome.new.source) (g.K.Sink.faults c.args.sink.now) (g.K.Sink.faults c.tell_all-outcome.new.sink) (d.faults disk) (d.faults last) (λ (s : Status). Exchanges l0 l1 g0 g2 (Runs d.may_leave d.moment d.left_since of address store disk last l1 s)) status reason
    (finished of address d.contents d.may_leave d.moment d.left_since laws.counts_now store disk last l0 l1 g0 g1 g2 status c.in-Err.ensures.bytes ran) in
    rw c.close-in-Err.ensures all

pub returns-in-Err-clause-behind_disk : goal.returns-in-Err-clause-behind_disk
returns-in-Err-clause-behind_disk g c = λ is.
    let d = g.D.Disk in
    let laws = g.met.D.Disk in
    let address = g.A.Address.address in
    let of = value_type g.T.Mrdt.meaning g.T.Forms.forms g.T.Kinded.KIND in
    let store : Stored _ _ = record { terms = c.args.core.terms; history = c.args.core.history } in
    let l0 = g.S.Source.left c.args.source.now in
    let l1 = g.S.Source.left c.tell_all-outcome.new.source in
    let g0 = g.K.Sink.given c.args.sink.now in
    let g1 = g.K.Sink.given c.tell_all-outcome.new.sink in
    let g2 = g.K.Sink.given c.finish.new.self in
    let core_is = c.new-engine.ensures.core in
    let disk = c.args.core.disk in
    let last = c.tell_all-outcome.new.engine.core.disk in
    let status = status_of c.tell_all-outcome.result in
    let began = c.new-engine.ensures.begins c.requires.working in
    let ran = subst (λ (k : Store _ _ _). Exchanges l0 l1 g0 g1 (Runs d.may_leave d.moment d.left_since of address store k.disk last l1 status)) core_is (c.tell_all-outcome.ensures.ran store began) in
    let reason = subst (λ (k : Store _ _ _). StopsAtFault (record { source = g.S.Source.faults c.args.source.now; sink = g.K.Sink.faults c.args.sink.now; disk = d.faults k.disk })
    (record { source = g.S.Source.faults c.tell_all-outcome.new.source; sink = g.K.Sink.faults c.tell_all-outcome.new.sink; disk = d.faults last }) status) core_is c.tell_all-outcome.ensures.reason in
    let all = behind_disk (g.S.Source.faults c.args.source.now) (g.S.Source.faults c.tell_all-outcome.new.source) (g.K.Sink.faults c.args.sink.now) (g.K.Sink.faults c.tell_all-outcome.new.sink) (d.faults disk) (d.faults last) (λ (s : Status). Exchanges l0 l1 g0 g2 (Runs d.may_leave d.moment d.left_since of address store disk last l1 s)) status reason
    (finished of address d.contents d.may_leave d.moment d.left_since laws.counts_now store disk last l0 l1 g0 g1 g2 status c.in-Err.ensures.bytes ran) in
    rw c.close-in-Err.ensures all
