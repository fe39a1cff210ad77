-- The source is read, and what it holds is received.
use Rattle.std.proofs.Common.{◌≡◌, [], ap, subst, inl, inr}
use Rattle.std.proofs.KnownBytes.{Appends-nil}
use Rattle.branch_shell.specs.Counts.{HasReason}
use Rattle.branch_shell.specs.Stores.{Stored}
use Rattle.branch_shell.proofs.Received.{stays, wrote-read, never-unread, wrote-unread, unread_reason, never_write_fault}
use Rattle.branch_shell.proofs.receive.receive_from.Goals as goal

pub receive_read-requires-clause-few : goal.receive_read-requires-clause-few
receive_read-requires-clause-few g c κs within = c.in-Ok.ensures.few

pub returns-in-Ok-clause-ran : goal.returns-in-Ok-clause-ran
returns-in-Ok-clause-ran g c =
    let m = g.T.Mrdt.meaning in
    let address = g.A.Address.address in
    let core = c.args.core in
    let store : Stored _ _ = record { terms = core.terms; history = core.history } in
    let run = c.receive_read in
    let bytes = c.in-Ok.bytes.items in
    let left = g.S.Source.left c.read_all.new.source in
    let images = g.D.Disk.may_leave run.result.1 in
    let w = run.ensures.wrote in (
      bytes,
      w.0,
      c.in-Ok.ensures.read,
      w.1,
      record {
        free = c.requires.free;
        wrote = wrote-read m address store c.args.name images left bytes run.result.0 w.0 c.in-Ok.ensures.end c.in-Ok.ensures.few w.2;
        moments = run.ensures.moments;
        unread = never-unread m address store c.args.name images left bytes (run.result.1 ≡ core.disk) run.result.0 w.0 w.2;
        untouched = inl c.in-Ok.ensures.end;
      },
    )

pub returns-in-Ok-clause-reason : goal.returns-in-Ok-clause-reason
returns-in-Ok-clause-reason g c =
    let run = c.receive_read in
    let now = g.S.Source.faults c.read_all.new.source in
    subst (λ n. HasReason (record { source = n; sink = g.K.Sink.faults c.args.sink.now; disk = g.D.Disk.faults c.args.core.disk })
    (record { source = now; sink = g.K.Sink.faults run.new.sink; disk = g.D.Disk.faults run.result.1 }) run.result.0) c.in-Ok.ensures.same (run.ensures.reason now)

pub returns-in-Ok-clause-no_fault : goal.returns-in-Ok-clause-no_fault
returns-in-Ok-clause-no_fault g c fault = (c.in-Ok.ensures.same, c.receive_read.ensures.no_fault fault)

pub returns-in-Err-clause-ran : goal.returns-in-Err-clause-ran
returns-in-Err-clause-ran g c =
    let m = g.T.Mrdt.meaning in
    let address = g.A.Address.address in
    let core = c.args.core in
    let store : Stored _ _ = record { terms = core.terms; history = core.history } in
    let left = g.S.Source.left c.read_all.new.source in
    let images = g.D.Disk.may_leave c.close.result in
    let stopped = c.in-Err.ensures.stopped in
    let input = stopped.0 in (
      input,
      [],
      stopped.1,
      Appends-nil (g.K.Sink.given c.args.sink.now),
      record {
        free = c.requires.free;
        wrote = wrote-unread m address store c.args.name images left input c.in-Err.status stopped.2;
        moments = stays m address c.reads_what_stands.ensures store input c.args.name g.D.Disk core.disk c.close.result c.close.ensures.same c.close.ensures.valid (c.close.ensures.stands c.requires.working) g.met.D.Disk.only_now;
        unread = λ un. c.close.ensures.same;
        untouched = inr c.close.ensures.same;
      },
    )

pub returns-in-Err-clause-reason : goal.returns-in-Err-clause-reason
returns-in-Err-clause-reason g c =
    let stopped = c.in-Err.ensures.stopped in
    rw (ap g.D.Disk.faults c.close.ensures.same)
    (unread_reason stopped.0 (g.S.Source.faults c.args.source.now) (g.S.Source.faults c.read_all.new.source) (g.K.Sink.faults c.args.sink.now) (g.D.Disk.faults c.args.core.disk) c.in-Err.status stopped.2 c.in-Err.ensures.cause)

pub returns-in-Err-clause-no_fault : goal.returns-in-Err-clause-no_fault
returns-in-Err-clause-no_fault g c fault =
    let stopped = c.in-Err.ensures.stopped in
    never_write_fault stopped.0 _ c.in-Err.status stopped.2 fault
