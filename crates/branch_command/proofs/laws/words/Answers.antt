use Rattle.std.proofs.Common.{refl}
use Rattle.hex.specs.Hex.{decode_pairs}
use Rattle.clap.proofs.OnLiterals.{clap_on_literals}
use Rattle.branch_command.specs.Commands.{command_of}
use Rattle.branch_command.specs.Program.{program}
use Rattle.branch_command.proofs.laws.words.Goals as goal

pub returns-clause-send_here : goal.returns-clause-send_here
unfolding command_of program decode_pairs clap_on_literals
returns-clause-send_here c = refl
