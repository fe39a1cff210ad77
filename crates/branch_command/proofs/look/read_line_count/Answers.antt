use Rattle.std.proofs.Common.{◌∙◌, Some, option_map, ap, codes}
use Rattle.clap.specs.Matches.{found_of}
use Rattle.clap.proofs.WalkLemmas.{first_value-rows}
use Rattle.branch_command.specs.Looks.{line_count_of}
use Rattle.branch_command.proofs.look.read_line_count.Goals as goal

pub returns-in_err-read_whole_number-in-Some : goal.returns-in_err-read_whole_number-in-Some
returns-in_err-read_whole_number-in-Some c =
    c.from_residual.ensures ∙ ap (option_map Some) c.in_err-read_whole_number-in-Some.ensures
    ∙ ap line_count_of (c.in-Some.ensures ∙ first_value-rows (found_of c.args.given.now) (codes "count"))

pub returns-in_ok-read_whole_number-in-Some : goal.returns-in_ok-read_whole_number-in-Some
returns-in_ok-read_whole_number-in-Some c =
    ap (option_map Some) c.in_ok-read_whole_number-in-Some.ensures
    ∙ ap line_count_of (c.in-Some.ensures ∙ first_value-rows (found_of c.args.given.now) (codes "count"))

pub returns-in-None : goal.returns-in-None
returns-in-None c = ap line_count_of (c.in-None.ensures ∙ first_value-rows (found_of c.args.given.now) (codes "count"))
