use Rattle.std.proofs.Common.{◌∙◌, ap, codes}
use Rattle.clap.specs.Matches.{found_of}
use Rattle.clap.proofs.WalkLemmas.{first_value-rows}
use Rattle.branch_command.specs.Looks.{given_at}
use Rattle.branch_command.proofs.look.read_at.Goals as goal

pub returns-in-Some : goal.returns-in-Some
returns-in-Some c = c.at_in.ensures ∙ ap given_at (c.in-Some.ensures ∙ first_value-rows (found_of c.args.given.now) (codes "at"))

pub returns-in-None : goal.returns-in-None
returns-in-None c = ap given_at (c.in-None.ensures ∙ first_value-rows (found_of c.args.given.now) (codes "at"))
