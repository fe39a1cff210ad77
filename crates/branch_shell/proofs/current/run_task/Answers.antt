-- Which disk was chosen, and the command on it.
use Rattle.std.proofs.Common.{◌≡◌, ◌⊎◌, [], refl, inl, inr, subst, ◌∙◌}
use Rattle.std.proofs.KnownBytes.{Consumes-nil, Appends-nil}
use Rattle.store_compact.specs.declared.answers.Which.{Which}
use Rattle.store_compact.specs.declared.answers.Which.TheVariants.{First, Second}
use Rattle.branch_shell.specs.declared.status.Status.TheVariants.{ReadFault, DiskFault}
use Rattle.branch_shell.specs.Disks.{Disks, AreChosen}
use Rattle.branch_shell.proofs.Chosen.{behind_told, over_both, reason_from, reason_swapped, aside_second}
use Rattle.branch_shell.proofs.Compactions.{one_failed}
use Rattle.branch_shell.proofs.current.run_task.Goals as goal

pub returns-in-First-clause-ran : goal.returns-in-First-clause-ran
returns-in-First-clause-ran g c said means =
    let old : Disks _ = record { first = c.args.first; second = c.args.second } in
    let between : Disks _ = record { first = c.choose.new.first; second = c.choose.new.second } in
    let run = c.run_values in
    let new : Disks _ = record { first = run.result.1; second = run.result.2 } in
    let values = c.in-Ok.chosen.values in
    let chosen = subst (λ (w : Which). AreChosen g.D.Disk old between w values) c.in-First.is c.in-Ok.ensures.chosen in
    let e = run.ensures.ran said means in (
      e.0,
      e.1,
      e.2,
      e.3,
      over_both g.D.Disk g.A.Address.address said c.args.command c.requires.works means old new (g.S.Source.left run.new.source) run.result.0 e.0 e.1
          (inr (record { which = First; values = values; between = between; chosen = chosen; ran = e.4 })),
    )

pub returns-in-Second-clause-ran : goal.returns-in-Second-clause-ran
returns-in-Second-clause-ran g c said means =
    let old : Disks _ = record { first = c.args.first; second = c.args.second } in
    let between : Disks _ = record { first = c.choose.new.first; second = c.choose.new.second } in
    let run = c.run_values-status in
    let new : Disks _ = record { first = run.result.2; second = run.result.1 } in
    let values = c.in-Ok.chosen.values in
    let chosen = subst (λ (w : Which). AreChosen g.D.Disk old between w values) c.in-Second.is c.in-Ok.ensures.chosen in
    let e = run.ensures.ran said means in (
      e.0,
      e.1,
      e.2,
      e.3,
      over_both g.D.Disk g.A.Address.address said c.args.command c.requires.works means old new (g.S.Source.left run.new.source) run.result.0 e.0 e.1
          (inr (record { which = Second; values = values; between = between; chosen = chosen; ran = e.4 })),
    )

pub returns-in-Err-clause-ran : goal.returns-in-Err-clause-ran
returns-in-Err-clause-ran g c said means =
    let old : Disks _ = record { first = c.args.first; second = c.args.second } in
    let now : Disks _ = record { first = c.choose.new.first; second = c.choose.new.second } in
    let left = g.S.Source.left c.args.source.now in
    let given = g.K.Sink.given c.args.sink.now in (
      [],
      [],
      Consumes-nil left,
      Appends-nil given,
      over_both g.D.Disk g.A.Address.address said c.args.command c.requires.works means old now left DiskFault [] []
          (inl (record { why = inl refl; no_input = refl; no_text = refl; first = c.choose.ensures.first; second = c.choose.ensures.second })),
    )

pub returns-in-First-clause-reason : goal.returns-in-First-clause-reason
returns-in-First-clause-reason g c =
    let f = g.D.Disk.faults in
    let run = c.run_values in
    let none = c.in-Ok.ensures.no_cause in
    reason_from (g.S.Source.faults c.args.source.now) (g.K.Sink.faults c.args.sink.now) (f c.choose.new.first) (f c.choose.new.second) (f c.args.first) (f c.args.second)
    (g.S.Source.faults run.new.source) (g.K.Sink.faults run.new.sink) (f run.result.1) (f run.result.2) run.result.0 none.0 none.1 run.ensures.reason

pub returns-in-Second-clause-reason : goal.returns-in-Second-clause-reason
returns-in-Second-clause-reason g c =
    let f = g.D.Disk.faults in
    let run = c.run_values-status in
    let none = c.in-Ok.ensures.no_cause in
    reason_from (g.S.Source.faults c.args.source.now) (g.K.Sink.faults c.args.sink.now) (f c.choose.new.first) (f c.choose.new.second) (f c.args.first) (f c.args.second)
    (g.S.Source.faults run.new.source) (g.K.Sink.faults run.new.sink) (f run.result.2) (f run.result.1) run.result.0 none.0 none.1
    (reason_swapped (g.S.Source.faults c.args.source.now) (g.K.Sink.faults c.args.sink.now) (f c.choose.new.second) (f c.choose.new.first)
    (g.S.Source.faults run.new.source) (g.K.Sink.faults run.new.sink) (f run.result.1) (f run.result.2) run.result.0 run.ensures.reason)

pub returns-in-Err-clause-reason : goal.returns-in-Err-clause-reason
returns-in-Err-clause-reason g c =
    let f = g.D.Disk.faults in
    one_failed (g.S.Source.faults c.args.source.now) (g.K.Sink.faults c.args.sink.now) (f c.args.first) (f c.choose.new.first) (f c.args.second) (f c.choose.new.second) c.in-Err.ensures.cause

pub returns-in-Err-clause-usage : goal.returns-in-Err-clause-usage
returns-in-Err-clause-usage g c usage = cc usage

pub returns-in-First-clause-usage : goal.returns-in-First-clause-usage
returns-in-First-clause-usage g c = c.run_values.ensures.usage

pub returns-in-First-clause-behind_source : goal.returns-in-First-clause-behind_source
returns-in-First-clause-behind_source g c said means fault =
    let old : Disks _ = record { first = c.args.first; second = c.args.second } in
    let between : Disks _ = record { first = c.choose.new.first; second = c.choose.new.second } in
    let run = c.run_values in
    let values = c.in-Ok.chosen.values in
    let chosen = subst (λ (w : Which). AreChosen g.D.Disk old between w values) c.in-First.is c.in-Ok.ensures.chosen in
    behind_told g.D.Disk g.met.D.Disk.all_tell First values old between chosen g.A.Address.address said ReadFault
    (g.S.Source.left c.args.source.now) (g.S.Source.left run.new.source) (g.K.Sink.given c.args.sink.now) (g.K.Sink.given run.new.sink)
    (g.S.Source.faults run.new.source ≡ g.S.Source.faults c.args.source.now) (run.ensures.behind_source said means fault)

pub returns-in-First-clause-behind_disk : goal.returns-in-First-clause-behind_disk
returns-in-First-clause-behind_disk g c said means fault =
    let f = g.D.Disk.faults in
    let old : Disks _ = record { first = c.args.first; second = c.args.second } in
    let between : Disks _ = record { first = c.choose.new.first; second = c.choose.new.second } in
    let run = c.run_values in
    let values = c.in-Ok.chosen.values in
    let chosen = subst (λ (w : Which). AreChosen g.D.Disk old between w values) c.in-First.is c.in-Ok.ensures.chosen in
    let none = c.in-Ok.ensures.no_cause in
    behind_told g.D.Disk g.met.D.Disk.all_tell First values old between chosen g.A.Address.address said DiskFault
    (g.S.Source.left c.args.source.now) (g.S.Source.left run.new.source) (g.K.Sink.given c.args.sink.now) (g.K.Sink.given run.new.sink)
    ((f run.result.1 ≡ f c.args.first) × (f run.result.2 ≡ f c.args.second))
    (elim (run.ensures.behind_disk said means fault) [ inl same ↦ inl (same.0 ∙ none.0, same.1 ∙ none.1) | inr e ↦ inr e ])

pub returns-in-Second-clause-usage : goal.returns-in-Second-clause-usage
returns-in-Second-clause-usage g c = c.run_values-status.ensures.usage

pub returns-in-Second-clause-behind_source : goal.returns-in-Second-clause-behind_source
returns-in-Second-clause-behind_source g c said means fault =
    let old : Disks _ = record { first = c.args.first; second = c.args.second } in
    let between : Disks _ = record { first = c.choose.new.first; second = c.choose.new.second } in
    let run = c.run_values-status in
    let values = c.in-Ok.chosen.values in
    let chosen = subst (λ (w : Which). AreChosen g.D.Disk old between w values) c.in-Second.is c.in-Ok.ensures.chosen in
    behind_told g.D.Disk g.met.D.Disk.all_tell Second values old between chosen g.A.Address.address said ReadFault
    (g.S.Source.left c.args.source.now) (g.S.Source.left run.new.source) (g.K.Sink.given c.args.sink.now) (g.K.Sink.given run.new.sink)
    (g.S.Source.faults run.new.source ≡ g.S.Source.faults c.args.source.now) (run.ensures.behind_source said means fault)

pub returns-in-Second-clause-behind_disk : goal.returns-in-Second-clause-behind_disk
returns-in-Second-clause-behind_disk g c said means fault =
    let f = g.D.Disk.faults in
    let old : Disks _ = record { first = c.args.first; second = c.args.second } in
    let between : Disks _ = record { first = c.choose.new.first; second = c.choose.new.second } in
    let run = c.run_values-status in
    let values = c.in-Ok.chosen.values in
    let chosen = subst (λ (w : Which). AreChosen g.D.Disk old between w values) c.in-Second.is c.in-Ok.ensures.chosen in
    let none = c.in-Ok.ensures.no_cause in
    behind_told g.D.Disk g.met.D.Disk.all_tell Second values old between chosen g.A.Address.address said DiskFault
    (g.S.Source.left c.args.source.now) (g.S.Source.left run.new.source) (g.K.Sink.given c.args.sink.now) (g.K.Sink.given run.new.sink)
    ((f run.result.2 ≡ f c.args.first) × (f run.result.1 ≡ f c.args.second))
    (elim (run.ensures.behind_disk said means fault) [ inl same ↦ inl (same.1 ∙ none.0, same.0 ∙ none.1) | inr e ↦ inr e ])

pub run_values-status-requires-clause-aside : goal.run_values-status-requires-clause-aside
run_values-status-requires-clause-aside g c is f told =
    let old : Disks _ = record { first = c.args.first; second = c.args.second } in
    let between : Disks _ = record { first = c.choose.new.first; second = c.choose.new.second } in
    let values = c.in-Ok.chosen.values in
    aside_second g.D.Disk values old between (subst (λ (w : Which). AreChosen g.D.Disk old between w values) c.in-Second.is c.in-Ok.ensures.chosen) f told
