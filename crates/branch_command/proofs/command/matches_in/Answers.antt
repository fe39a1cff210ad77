use Rattle.std.proofs.Common.{◌≡◌, ◌∙◌, true, refl, ap, map, subst}
use Rattle.std.proofs.lemmas.Result.{IfOk-weaker}
use Rattle.clap.specs.Simple.{App, is_simple, subcommand_of}
use Rattle.clap.specs.Kinds.{FailsBy}
use Rattle.clap.specs.Faults.{fault_of, is_simple_and_free}
use Rattle.branch_command.specs.Program.{program}
use Rattle.branch_command.proofs.command.matches_in.Goals as goal

is_plain : is_simple_and_free program ≡ true
unfolding program
is_plain = refl

is_simple_program : is_simple program ≡ true
unfolding program
is_simple_program = refl

pub returns-clause-kinds : goal.returns-clause-kinds
returns-clause-kinds g c =
    let is = c.in_ok-program.ensures in
    subst (λ (a : App). FailsBy (fault_of a (map g.S.AsStr.text c.args.words.now)) c.try_get_matches_from.result) is
    (c.try_get_matches_from.ensures.kinds (ap is_simple_and_free is ∙ is_plain))

pub returns-clause-found : goal.returns-clause-found
returns-clause-found g c =
    let is = c.in_ok-program.ensures in
    IfOk-weaker c.try_get_matches_from.result _ _
    (λ m h. (h (ap is_simple is ∙ is_simple_program)).1 ∙ ap (λ (a : App). subcommand_of a (map g.S.AsStr.text c.args.words.now)) is)
    c.try_get_matches_from.ensures.matches
