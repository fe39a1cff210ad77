use Rattle.std.proofs.Common.{◌∙◌, ap}
use Rattle.clap.specs.Matches.{found_of}
use Rattle.clap.proofs.WalkLemmas.{first_value-rows}
use Rattle.branch_command.specs.Work.{given_count}
use Rattle.branch_command.proofs.work.read_count.Goals as goal

pub returns-in-Some : goal.returns-in-Some
returns-in-Some c = c.read_number.ensures ∙ ap (given_count c.args.most) (c.in-Some.ensures ∙ first_value-rows (found_of c.args.given.now) c.args.name.now)

pub returns-in-None : goal.returns-in-None
returns-in-None c = ap (given_count c.args.most) (c.in-None.ensures ∙ first_value-rows (found_of c.args.given.now) c.args.name.now)
