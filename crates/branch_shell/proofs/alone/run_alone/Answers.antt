-- Each command that needs no threads, by the words that say it.
use Rattle.std.proofs.Common.{◌≡◌, map, refl, inl}
use Rattle.std.specs.String.{string_bytes}
use Rattle.branch_command.specs.Terms.{kind_number}
use Rattle.branch_shell.specs.Stores.{AreThese}
use Rattle.branch_shell.specs.Alone.{command_alone}
use Rattle.branch_shell.specs.Disks.{Disks}
use Rattle.branch_shell.proofs.Said.{init_said, help_said, means_said, same_numbers, works_else}
use Rattle.branch_shell.proofs.Runs.{init_ran, help_ran, both_memory}
use Rattle.branch_shell.proofs.alone.run_alone.Goals as goal

pub returns-in-Ok-Init-clause-ran : goal.returns-in-Ok-Init-clause-ran
returns-in-Ok-Init-clause-ran g c command is =
    let words = command_alone (map string_bytes c.args.words.now) in
    let terms = c.in-Ok-Init.terms in
    let means = means_said words c.in-Ok-Init.field-0 c.in-Ok-Init.ensures.read command is in
    let said = init_said command c.in-Ok-Init.field-0 terms c.in-Ok-Init.field-0-is means in
    let numbers = said.0 in
    let run = c.init_for in
    let old : Disks _ = record { first = c.args.disk; second = c.args.second } in
    let new : Disks _ = record { first = run.result.1; second = run.result.2 } in
    let left = g.S.Source.left c.args.source.now in
    let kind : terms.kind ≡ kind_number numbers.sequences = said.2.kind in
    rw said.1
    (init_ran g.A.Address.address g.D.Disk numbers (AreThese terms) (λ made these. same_numbers numbers terms made said.2 these) old new run.result.0
    left (g.K.Sink.given c.args.sink.now) (g.K.Sink.given run.new.sink) (run.ensures.ran left numbers.sequences kind))

pub returns-in-Ok-Init-clause-usage : goal.returns-in-Ok-Init-clause-usage
returns-in-Ok-Init-clause-usage g c usage = absurd (c.init_for.ensures.usage usage)

pub returns-in-Ok-Init-clause-reason : goal.returns-in-Ok-Init-clause-reason
returns-in-Ok-Init-clause-reason g c = c.init_for.ensures.reason (g.S.Source.faults c.args.source.now)

pub returns-in-Ok-Init-clause-behind_source : goal.returns-in-Ok-Init-clause-behind_source
returns-in-Ok-Init-clause-behind_source g c command is fault = inl refl

pub returns-in-Ok-Init-clause-behind_disk : goal.returns-in-Ok-Init-clause-behind_disk
returns-in-Ok-Init-clause-behind_disk g c command is fault = inl (c.init_for.ensures.no_fault fault)

pub returns-in-Ok-Tell-clause-ran : goal.returns-in-Ok-Tell-clause-ran
returns-in-Ok-Tell-clause-ran g c command is =
    let words = command_alone (map string_bytes c.args.words.now) in
    let means = means_said words c.in-Ok-Tell.field-0 c.in-Ok-Tell.ensures.read command is in
    let disks : Disks _ = record { first = c.args.disk; second = c.args.second } in
    rw (help_said command c.in-Ok-Tell.field-0 c.in-Ok-Tell.text c.in-Ok-Tell.field-0-is means)
    (help_ran g.A.Address.address g.D.Disk disks c.as_bytes.result.now c.say.result (g.S.Source.left c.args.source.now)
    (g.K.Sink.given c.args.sink.now) (g.K.Sink.given c.say.new.sink) (g.K.Sink.faults c.args.sink.now) (g.K.Sink.faults c.say.new.sink) c.say.ensures)

pub returns-in-Ok-clause-ran : goal.returns-in-Ok-clause-ran
returns-in-Ok-clause-ran g c command is =
    c.run_task.ensures.ran command (means_said (command_alone (map string_bytes c.args.words.now)) c.in-Ok.command c.in-Ok.ensures.read command is)

pub returns-in-Ok-clause-usage : goal.returns-in-Ok-clause-usage
returns-in-Ok-clause-usage g c usage = absurd (c.run_task.ensures.usage usage)

pub returns-in-Ok-clause-behind_source : goal.returns-in-Ok-clause-behind_source
returns-in-Ok-clause-behind_source g c command is fault =
    c.run_task.ensures.behind_source command (means_said (command_alone (map string_bytes c.args.words.now)) c.in-Ok.command c.in-Ok.ensures.read command is) fault

pub returns-in-Ok-clause-behind_disk : goal.returns-in-Ok-clause-behind_disk
returns-in-Ok-clause-behind_disk g c command is fault =
    c.run_task.ensures.behind_disk command (means_said (command_alone (map string_bytes c.args.words.now)) c.in-Ok.command c.in-Ok.ensures.read command is) fault

pub returns-in-Err-Memory-clause-ran : goal.returns-in-Err-Memory-clause-ran
returns-in-Err-Memory-clause-ran g c command is =
    both_memory g.A.Address.address g.D.Disk g.met.D.Disk.only_now (record { first = c.args.disk; second = c.args.second })
    (g.S.Source.left c.args.source.now) (g.K.Sink.given c.args.sink.now) command
