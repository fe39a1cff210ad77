-- What was received is said, and is on the disk.
use Rattle.std.proofs.Common.{◌≡◌, ◌∙◌, ap, refl}
use Rattle.std.specs.Prelude.{Some}
use Rattle.branch_bundle_laws.specs.Receiving.{Placed as PlacedAs}
use Rattle.branch_shell.specs.Stores.{Stored}
use Rattle.branch_shell.specs.Bundling.{receipt_text, not_received_text, IsSuccess, IsRefusal, SaysReceipt}
use Rattle.branch_shell.proofs.Once.{answers_map, reason_said}
use Rattle.branch_shell.proofs.Received.{on-the-way, success-said, refusal-said, reason_received, not_behind_received}
use Rattle.branch_shell.proofs.receive.receive_read.Goals as goal

pub returns-in-Ok-clause-wrote : goal.returns-in-Ok-clause-wrote
returns-in-Ok-clause-wrote g c =
    let m = g.T.Mrdt.meaning in
    let address = g.A.Address.address in
    let old = c.args.core in
    let store : Stored _ _ = record { terms = old.terms; history = old.history } in
    let images = g.D.Disk.may_leave c.close.result in
    let p = c.in-Ok.placed in
    answers_map (λ whole. whole ≡ receipt_text (PlacedAs p.count p.branch p.head)) (λ whole. ⊥) (SaysReceipt m address store c.args.bytes.items c.args.name images IsSuccess) (SaysReceipt m address store c.args.bytes.items c.args.name images IsRefusal)
    (success-said m address c.reads_what_stands.ensures c.keeps_received.ensures c.accepts_sent.ensures g.met.A.Address.size c.args.bytes.items c.args.name old c.receive_bytes.new.core c.moves-moves.ensures.valid c.requires.free c.requires.few images p c.in-Ok.ensures.received c.close.ensures.valid c.close.ensures.stands c.requires.working)
    (λ whole no. absurd no) c.say_received.result (g.K.Sink.given c.args.sink.now) (g.K.Sink.given c.say_received.new.sink) c.say_received.ensures.wrote

pub returns-in-Ok-clause-moments : goal.returns-in-Ok-clause-moments
returns-in-Ok-clause-moments g c =
    let old = c.args.core in
    on-the-way g.T.Mrdt.meaning g.A.Address.address c.reads_what_stands.ensures c.keeps_on_the_way.ensures (record { terms = old.terms; history = old.history }) c.args.bytes.items c.args.name g.D.Disk old.disk c.receive_bytes.new.core.disk c.close.result
    c.close.ensures.same c.moves-moves.ensures.valid c.in-Ok.ensures.moments

pub returns-in-Ok-clause-reason : goal.returns-in-Ok-clause-reason
returns-in-Ok-clause-reason g c n =
    let faults = g.D.Disk.faults in
    let p = c.in-Ok.placed in
    reason_said (λ whole. whole ≡ receipt_text (PlacedAs p.count p.branch p.head)) (λ whole. ⊥) n (g.K.Sink.faults c.args.sink.now) (g.K.Sink.faults c.say_received.new.sink) (faults c.args.core.disk) (faults c.close.result)
    (g.K.Sink.given c.args.sink.now) (g.K.Sink.given c.say_received.new.sink) c.say_received.result c.say_received.ensures.wrote
    (ap faults c.close.ensures.same ∙ c.in-Ok.ensures.cause.others (λ is. absurd (cc))) c.say_received.ensures.other c.say_received.ensures.reason

pub returns-in-Ok-clause-no_fault : goal.returns-in-Ok-clause-no_fault
returns-in-Ok-clause-no_fault g c fault = ap g.D.Disk.faults c.close.ensures.same ∙ c.in-Ok.ensures.cause.others (λ is. absurd (cc))

pub returns-in-Err-clause-wrote : goal.returns-in-Err-clause-wrote
returns-in-Err-clause-wrote g c =
    let m = g.T.Mrdt.meaning in
    let address = g.A.Address.address in
    let old = c.args.core in
    let store : Stored _ _ = record { terms = old.terms; history = old.history } in
    let images = g.D.Disk.may_leave c.close-in-Err.result in
    answers_map (λ whole. ⊥) (λ whole. not_received_text c.in-Err.why ≡ Some whole) (SaysReceipt m address store c.args.bytes.items c.args.name images IsSuccess) (SaysReceipt m address store c.args.bytes.items c.args.name images IsRefusal)
    (λ whole no. absurd no)
    (refusal-said m address c.reads_what_stands.ensures c.keeps_received.ensures c.accepts_sent.ensures g.met.A.Address.size c.args.bytes.items c.args.name old c.receive_bytes.new.core c.moves-moves.ensures.valid c.requires.free c.requires.few images c.in-Err.why c.in-Err.ensures.refused c.close-in-Err.ensures.valid c.close-in-Err.ensures.stands c.requires.working)
    c.refuse_received.result (g.K.Sink.given c.args.sink.now) (g.K.Sink.given c.refuse_received.new.sink) c.refuse_received.ensures.wrote

pub returns-in-Err-clause-moments : goal.returns-in-Err-clause-moments
returns-in-Err-clause-moments g c =
    let old = c.args.core in
    on-the-way g.T.Mrdt.meaning g.A.Address.address c.reads_what_stands.ensures c.keeps_on_the_way.ensures (record { terms = old.terms; history = old.history }) c.args.bytes.items c.args.name g.D.Disk old.disk c.receive_bytes.new.core.disk c.close-in-Err.result
    c.close-in-Err.ensures.same c.moves-moves.ensures.valid c.in-Err.ensures.moments

pub returns-in-Err-clause-reason : goal.returns-in-Err-clause-reason
returns-in-Err-clause-reason g c n =
    let faults = g.D.Disk.faults in
    rw (ap faults c.close-in-Err.ensures.same)
    (reason_received (λ whole. ⊥) (λ whole. not_received_text c.in-Err.why ≡ Some whole) n (g.K.Sink.faults c.args.sink.now) (g.K.Sink.faults c.refuse_received.new.sink) (faults c.args.core.disk) (faults c.receive_bytes.new.core.disk)
    (g.K.Sink.given c.args.sink.now) (g.K.Sink.given c.refuse_received.new.sink) c.in-Err.why c.refuse_received.result c.refuse_received.ensures.wrote c.in-Err.ensures.cause c.refuse_received.ensures.fault c.refuse_received.ensures.reason)

pub returns-in-Err-clause-no_fault : goal.returns-in-Err-clause-no_fault
returns-in-Err-clause-no_fault g c fault =
    ap g.D.Disk.faults c.close-in-Err.ensures.same ∙ not_behind_received (g.D.Disk.faults c.args.core.disk) (g.D.Disk.faults c.receive_bytes.new.core.disk) c.in-Err.why c.refuse_received.result c.in-Err.ensures.cause c.refuse_received.ensures.fault fault
