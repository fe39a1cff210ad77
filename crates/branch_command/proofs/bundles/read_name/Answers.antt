use Rattle.std.proofs.Common.{◌∙◌, ap}
use Rattle.clap.specs.Matches.{found_of}
use Rattle.clap.proofs.WalkLemmas.{first_value-rows}
use Rattle.branch_command.specs.Bundles.{name_of}
use Rattle.branch_command.proofs.bundles.read_name.Goals as goal

pub returns-in-Some : goal.returns-in-Some
returns-in-Some c = c.name_in.ensures ∙ ap name_of (c.in-Some.ensures ∙ first_value-rows (found_of c.args.given.now) c.args.word.now)

pub returns-in-None : goal.returns-in-None
returns-in-None c = ap name_of (c.in-None.ensures ∙ first_value-rows (found_of c.args.given.now) c.args.word.now)
