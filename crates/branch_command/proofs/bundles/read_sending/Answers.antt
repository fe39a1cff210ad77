use Rattle.std.proofs.Common.{◌≡◌, ◌∙◌, Some, None, Err, ap, sym}
use Rattle.clap.specs.Matches.{found_of}
use Rattle.clap.specs.Walk.{texts}
use Rattle.branch_command.specs.Bundles.{sending_with}
use Rattle.branch_command.specs.declared.command.CommandRefused.TheVariants.{Usage}
use Rattle.branch_command.proofs.Sendings.{sent}
use Rattle.branch_command.proofs.bundles.read_sending.Goals as goal

pub returns-in-Ok-clause-read : goal.returns-in-Ok-clause-read
returns-in-Ok-clause-read c =
    sent (found_of c.args.given.now) c.in-Some.branch (Some (texts c.in-Some-get_strs.words.now)) c.in-Some.ensures c.in-Some-get_strs.ensures
    ∙ ap (sending_with (Some c.in-Some.branch)) c.in-Ok.ensures.read

pub returns-in-Err-clause-usage : goal.returns-in-Err-clause-usage
returns-in-Err-clause-usage c = λ u.
    let same : c.in-Err.refused ≡ Usage = cc u in
    sent (found_of c.args.given.now) c.in-Some.branch (Some (texts c.in-Some-get_strs.words.now)) c.in-Some.ensures c.in-Some-get_strs.ensures
    ∙ ap (sending_with (Some c.in-Some.branch)) (c.in-Err.ensures.usage (ap Err same))

pub returns-in-None-clause-read : goal.returns-in-None-clause-read
returns-in-None-clause-read c =
    sent (found_of c.args.given.now) c.in-Some.branch None c.in-Some.ensures c.in-None.ensures
    ∙ ap (λ here. sending_with (Some c.in-Some.branch) (Some here)) (sym c.new.ensures.items ∙ sym c.from_vec.ensures)
