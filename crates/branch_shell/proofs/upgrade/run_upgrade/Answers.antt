use Rattle.std.proofs.Common.{◌≡◌, inl, inr}
use Rattle.std.specs.Prelude.{Some}
use Rattle.branch_print.specs.Reports.{upgraded_text}
use Rattle.branch_shell.specs.Upgrading.{upgrade_refusal_text}
use Rattle.branch_shell.proofs.Once.{reason_said}
use Rattle.branch_shell.proofs.Upgraded.{second_left, says_upgraded, says_not_upgraded, no_disk_failed, upgrade_reason}
use Rattle.branch_shell.proofs.upgrade.run_upgrade.Goals as goal

pub returns-in-Ok-clause-ran : goal.returns-in-Ok-clause-ran
returns-in-Ok-clause-ran g c =
    let up = c.in-Ok.ensures.upgraded in
    let w = says_upgraded g.D.Disk g.A.Address.address c.args.held c.args.other c.in-Ok.other c.in-Ok.moves up c.say_upgraded.result
    (g.K.Sink.given c.args.sink.now) (g.K.Sink.given c.say_upgraded.new.sink) c.say_upgraded.ensures.wrote in (
      w.0,
      w.1,
      record {
        wrote = w.2;
        same = c.upgrade.ensures.same;
        kept = c.upgrade.ensures.any_moment;
        begun = inr up.begun;
        full = λ files told some. absurd (some (up.empty files told));
      },
    )

pub returns-in-Ok-clause-reason : goal.returns-in-Ok-clause-reason
returns-in-Ok-clause-reason g c n =
    let same = c.in-Ok.ensures.no_cause in
    inl (
      reason_said (λ whole. whole ≡ upgraded_text c.in-Ok.moves) (λ whole. ⊥) n (g.K.Sink.faults c.args.sink.now) (g.K.Sink.faults c.say_upgraded.new.sink)
          (g.D.Disk.faults c.args.held) (g.D.Disk.faults c.upgrade.new.first) (g.K.Sink.given c.args.sink.now) (g.K.Sink.given c.say_upgraded.new.sink)
          c.say_upgraded.result c.say_upgraded.ensures.wrote same.0 c.say_upgraded.ensures.other c.say_upgraded.ensures.reason,
      same.1,
    )

pub returns-in-Ok-clause-no_fault : goal.returns-in-Ok-clause-no_fault
returns-in-Ok-clause-no_fault g c fault = c.in-Ok.ensures.no_cause

pub returns-in-Err-clause-ran : goal.returns-in-Err-clause-ran
returns-in-Err-clause-ran g c =
    let refused = c.in-Err.ensures.refused in
    let w = says_not_upgraded g.D.Disk g.A.Address.address c.args.held c.args.other c.in-Err.other c.in-Err.why refused c.refuse_upgrade.result
    (g.K.Sink.given c.args.sink.now) (g.K.Sink.given c.refuse_upgrade.new.sink) c.refuse_upgrade.ensures.wrote in (
      w.0,
      w.1,
      record {
        wrote = w.2;
        same = c.upgrade.ensures.same;
        kept = c.upgrade.ensures.any_moment;
        begun = second_left g.D.Disk g.A.Address.address c.args.held c.args.other c.in-Err.other c.in-Err.why refused;
        full = c.in-Err.ensures.kept;
      },
    )

pub returns-in-Err-clause-reason : goal.returns-in-Err-clause-reason
returns-in-Err-clause-reason g c n =
    upgrade_reason n (g.K.Sink.faults c.args.sink.now) (g.K.Sink.faults c.refuse_upgrade.new.sink) (g.D.Disk.faults c.args.held) (g.D.Disk.faults c.upgrade.new.first)
    (g.D.Disk.faults c.args.other) (g.D.Disk.faults c.in-Err.other) c.in-Err.why c.in-Err.ensures.cause (λ whole. ⊥) (λ whole. upgrade_refusal_text c.in-Err.why ≡ Some whole) c.refuse_upgrade.result
    (g.K.Sink.given c.args.sink.now) (g.K.Sink.given c.refuse_upgrade.new.sink) c.refuse_upgrade.ensures.wrote c.refuse_upgrade.ensures.fault c.refuse_upgrade.ensures.reason

pub returns-in-Err-clause-no_fault : goal.returns-in-Err-clause-no_fault
returns-in-Err-clause-no_fault g c fault =
    no_disk_failed (g.K.Sink.faults c.args.sink.now) (g.K.Sink.faults c.args.sink.now) (g.K.Sink.faults c.refuse_upgrade.new.sink) (g.D.Disk.faults c.args.held) (g.D.Disk.faults c.upgrade.new.first)
    (g.D.Disk.faults c.args.other) (g.D.Disk.faults c.in-Err.other) c.in-Err.why c.in-Err.ensures.cause c.refuse_upgrade.result c.refuse_upgrade.ensures.fault (λ e. cc (e, fault))
