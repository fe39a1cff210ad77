use Rattle.std.proofs.Common.{◌∙◌, ap}
use Rattle.clap.specs.Matches.{found_of}
use Rattle.clap.proofs.WalkLemmas.{first_value-rows}
use Rattle.branch_command.specs.Numbers.{number_or}
use Rattle.branch_command.proofs.limits.read_option.Goals as goal

pub returns-in-Some : goal.returns-in-Some
returns-in-Some c = c.read_number.ensures ∙ ap (number_or c.args.most c.args.usual) (c.in-Some.ensures ∙ first_value-rows (found_of c.args.given.now) c.args.option.now)

pub returns-in-None : goal.returns-in-None
returns-in-None c = ap (number_or c.args.most c.args.usual) (c.in-None.ensures ∙ first_value-rows (found_of c.args.given.now) c.args.option.now)
