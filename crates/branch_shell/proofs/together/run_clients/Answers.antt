-- Which disk was chosen, and the clients on it.
use Rattle.std.proofs.Common.{◌≡◌, [], refl, inl, inr, subst, ◌∙◌}
use Rattle.std.proofs.KnownBytes.{Consumes-nil, Appends-nil}
use Rattle.store_compact.specs.declared.answers.Which.{Which}
use Rattle.store_compact.specs.declared.answers.Which.TheVariants.{First, Second}
use Rattle.branch_shell.specs.Disks.{Disks, AreChosen}
use Rattle.branch_shell.proofs.Chosen.{reason_from}
use Rattle.branch_shell.proofs.Compactions.{one_failed}
use Rattle.branch_shell.proofs.together.run_clients.Goals as goal

pub returns-in-First-clause-ran : goal.returns-in-First-clause-ran
returns-in-First-clause-ran g c left =
    let d = g.D.Disk in
    let old : Disks _ = record { first = c.args.first; second = c.args.second } in
    let between : Disks _ = record { first = c.choose.new.first; second = c.choose.new.second } in
    let run = c.run_values-status in
    let values = c.in-Ok.chosen.values in
    let chosen = subst (λ (w : Which). AreChosen d old between w values) c.in-First.is c.in-Ok.ensures.chosen in
    let e = run.ensures.ran left First between.second in
    (e.0, e.1, e.2, e.3, inr (record { which = First; values = values; between = between; chosen = chosen; ran = e.4 }))

pub returns-in-First-clause-usage : goal.returns-in-First-clause-usage
returns-in-First-clause-usage g c usage = absurd (c.run_values-status.ensures.usage usage)

pub returns-in-First-clause-reason : goal.returns-in-First-clause-reason
returns-in-First-clause-reason g c n =
    let f = g.D.Disk.faults in
    let run = c.run_values-status in
    let none = c.in-Ok.ensures.no_cause in
    reason_from n (g.K.Sink.faults c.args.sink.now) (f c.choose.new.first) (f c.choose.new.second) (f c.args.first) (f c.args.second)
    n (g.K.Sink.faults run.new.sink) (f run.result.1) (f c.choose.new.second) run.result.0 none.0 none.1 (inl (run.ensures.reason n, refl))

pub returns-in-First-clause-no_fault : goal.returns-in-First-clause-no_fault
returns-in-First-clause-no_fault g c fault =
    let run = c.run_values-status in
    let none = c.in-Ok.ensures.no_cause in
    (run.ensures.no_fault fault ∙ none.0, none.1)

pub returns-in-Second-clause-ran : goal.returns-in-Second-clause-ran
returns-in-Second-clause-ran g c left =
    let d = g.D.Disk in
    let old : Disks _ = record { first = c.args.first; second = c.args.second } in
    let between : Disks _ = record { first = c.choose.new.first; second = c.choose.new.second } in
    let run = c.run_values-status-in-Second in
    let values = c.in-Ok.chosen.values in
    let chosen = subst (λ (w : Which). AreChosen d old between w values) c.in-Second.is c.in-Ok.ensures.chosen in
    let e = run.ensures.ran left Second between.first in
    (e.0, e.1, e.2, e.3, inr (record { which = Second; values = values; between = between; chosen = chosen; ran = e.4 }))

pub returns-in-Second-clause-usage : goal.returns-in-Second-clause-usage
returns-in-Second-clause-usage g c usage = absurd (c.run_values-status-in-Second.ensures.usage usage)

pub returns-in-Second-clause-reason : goal.returns-in-Second-clause-reason
returns-in-Second-clause-reason g c n =
    let f = g.D.Disk.faults in
    let run = c.run_values-status-in-Second in
    let none = c.in-Ok.ensures.no_cause in
    reason_from n (g.K.Sink.faults c.args.sink.now) (f c.choose.new.first) (f c.choose.new.second) (f c.args.first) (f c.args.second)
    n (g.K.Sink.faults run.new.sink) (f c.choose.new.first) (f run.result.1) run.result.0 none.0 none.1 (inr (run.ensures.reason n, refl))

pub returns-in-Second-clause-no_fault : goal.returns-in-Second-clause-no_fault
returns-in-Second-clause-no_fault g c fault =
    let run = c.run_values-status-in-Second in
    let none = c.in-Ok.ensures.no_cause in
    (none.0, run.ensures.no_fault fault ∙ none.1)

pub returns-in-Err-clause-ran : goal.returns-in-Err-clause-ran
returns-in-Err-clause-ran g c left = (
  [],
  [],
  Consumes-nil left,
  Appends-nil (g.K.Sink.given c.args.sink.now),
  inl (record { why = inl refl; no_input = refl; no_text = refl; first = c.choose.ensures.first; second = c.choose.ensures.second }),
)

pub returns-in-Err-clause-usage : goal.returns-in-Err-clause-usage
returns-in-Err-clause-usage g c usage = cc usage

pub returns-in-Err-clause-reason : goal.returns-in-Err-clause-reason
returns-in-Err-clause-reason g c n =
    let f = g.D.Disk.faults in
    one_failed n (g.K.Sink.faults c.args.sink.now) (f c.args.first) (f c.choose.new.first) (f c.args.second) (f c.choose.new.second) c.in-Err.ensures.cause

pub returns-in-Err-clause-no_fault : goal.returns-in-Err-clause-no_fault
returns-in-Err-clause-no_fault g c fault = absurd (cc fault)
