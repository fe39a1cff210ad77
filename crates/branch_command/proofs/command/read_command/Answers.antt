use Rattle.std.proofs.Common.{◌∙◌, map}
use Rattle.std.specs.String.{string_bytes}
use Rattle.clap.specs.Simple.{subcommand_of}
use Rattle.clap.specs.Walk.{rows_of}
use Rattle.clap.specs.Matches.{found_of}
use Rattle.clap.specs.Values.{kind_of}
use Rattle.clap.specs.Faults.{fault_of}
use Rattle.branch_command.specs.Commands.{Answers, command_of, said_by}
use Rattle.branch_command.specs.Program.{program}
use Rattle.branch_command.proofs.Heard.{as_said, command_of-is, heard, said_by_name, said_by_none, said_of_some}
use Rattle.branch_command.proofs.Sure.{program_sure}
use Rattle.branch_command.proofs.command.read_command.Goals as goal

err : (c : goal.After-told) → Answers (command_of (map string_bytes c.args.words.now)) c.told.result
err c =
    let words = map string_bytes c.args.words.now in
    heard (fault_of program words) c.in-Err.answer (command_of words) c.told.result (program_sure words) c.in-Err.ensures.kinds
    (λ here. command_of-is words ∙ said_of_some (fault_of program words) (kind_of c.in-Err.answer) (subcommand_of program words) here)
    c.told.ensures.told c.told.ensures.usage

pub returns-in-Err-clause-read : goal.returns-in-Err-clause-read
returns-in-Err-clause-read c = (err c).0

pub returns-in-Err-clause-usage : goal.returns-in-Err-clause-usage
returns-in-Err-clause-usage c = (err c).1

some : (c : goal.Joined-matches) → Answers (command_of (map string_bytes c.args.words.now)) c.command_named.result
some c =
    let words = map string_bytes c.args.words.now in
    let rows = rows_of (found_of c.in-Some.given.now) in
    as_said (command_of words) (said_by c.in-Some.name.now rows) c.command_named.result
    (said_by_name words c.in-Ok.matches c.in-Some.name.now rows c.in-Ok.ensures.kinds c.in-Ok.ensures.found c.in-Some.ensures.name c.in-Some.ensures.rows)
    c.command_named.ensures

pub returns-in-Some-clause-read : goal.returns-in-Some-clause-read
returns-in-Some-clause-read c = (some c).0

pub returns-in-Some-clause-usage : goal.returns-in-Some-clause-usage
returns-in-Some-clause-usage c = (some c).1

pub returns-clause-usage : goal.returns-clause-usage
returns-clause-usage c = λ u.
    said_by_none (map string_bytes c.args.words.now) c.in-Ok.matches c.in-Ok.ensures.kinds c.in-Ok.ensures.found c.in-None.ensures.name
