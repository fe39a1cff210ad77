use Rattle.std.proofs.Common.{◌∙◌, None, option_map, ap, arith, sym}
use Rattle.std.proofs.lemmas.Str.Pattern.{strip_prefix_char}
use Rattle.branch_command.specs.declared.look.At.TheVariants.{Branch}
use Rattle.branch_command.proofs.Looks.{at_a_branch}
use Rattle.branch_command.proofs.look.at_in.Goals as goal

pub returns-in_err-name_in-in-None : goal.returns-in_err-name_in-in-None
returns-in_err-name_in-in-None c =
    c.from_residual-in_err-name_in-in-None.ensures ∙ ap (option_map Branch) c.in_err-name_in-in-None.ensures
    ∙ sym (at_a_branch c.args.word.now (strip_prefix_char 35 c.args.word.now None c.in-None.ensures.cases (omega arith)))
