use Rattle.std.proofs.Common.{ap, map, refl}
use Rattle.clap.specs.Faults.{fault_of}
use Rattle.branch_command.specs.Commands.{asked_by}
use Rattle.branch_command.specs.Program.{program}
use Rattle.branch_command.proofs.Heard.{heard}
use Rattle.branch_command.proofs.Sure.{program_sure}
use Rattle.branch_command.proofs.command.tell.Goals as goal

pub returns-in-Ok : goal.returns-in-Ok
returns-in-Ok g c = (tt, λ u. ap asked_by c.in-Ok.ensures.kinds)

pub returns : goal.returns
returns g c =
    let ks = fault_of program (map g.S.AsStr.text c.args.words.now) in
    heard ks c.in-Err.answer (asked_by ks) c.told.result (program_sure _) c.in-Err.ensures.kinds (λ here. refl) c.told.ensures.told c.told.ensures.usage
