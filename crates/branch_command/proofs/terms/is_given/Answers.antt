use Rattle.std.proofs.Common.{◌∙◌, ap}
use Rattle.clap.specs.Matches.{found_of}
use Rattle.clap.proofs.WalkLemmas.{first_value-rows}
use Rattle.branch_command.specs.Terms.{is_given}
use Rattle.branch_command.proofs.terms.is_given.Goals as goal

pub returns-in-Some : goal.returns-in-Some
returns-in-Some c = c.eq.ensures ∙ ap is_given (c.in-Some.ensures ∙ first_value-rows (found_of c.args.given.now) c.args.flag.now)

pub returns-in-None : goal.returns-in-None
returns-in-None c = ap is_given (c.in-None.ensures ∙ first_value-rows (found_of c.args.given.now) c.args.flag.now)
