use Rattle.std.proofs.Common.{◌∙◌, ap, codes}
use Rattle.clap.specs.Matches.{found_of}
use Rattle.clap.proofs.WalkLemmas.{first_value-rows}
use Rattle.branch_command.specs.Terms.{origin_or}
use Rattle.branch_command.proofs.terms.read_origin.Goals as goal

pub returns-in-None : goal.returns-in-None
returns-in-None c = ap origin_or (c.in-None.ensures ∙ first_value-rows (found_of c.args.given.now) (codes "origin"))

pub returns-in_ok-read_whole_number-in-Some : goal.returns-in_ok-read_whole_number-in-Some
returns-in_ok-read_whole_number-in-Some c =
    c.in_ok-read_whole_number-in-Some.ensures ∙ ap origin_or (c.in-Some.ensures ∙ first_value-rows (found_of c.args.given.now) (codes "origin"))

pub returns-in_err-read_whole_number-in-Some : goal.returns-in_err-read_whole_number-in-Some
returns-in_err-read_whole_number-in-Some c =
    c.from_residual.ensures ∙ c.in_err-read_whole_number-in-Some.ensures ∙ ap origin_or (c.in-Some.ensures ∙ first_value-rows (found_of c.args.given.now) (codes "origin"))
