-- The commands that need no threads, and those of them that work on the current one of two disks.
use Rattle.std.specs.Prelude.{ℕ, List, Some, None}
use Rattle.std.specs.declared.option.Option.{Option}
use Rattle.branch_command.specs.Commands.{Said, Clients, command_of}
use Rattle.branch_command.specs.declared.command.Command.{Command}
use Rattle.branch_command.specs.declared.command.Command.TheVariants as read

-- the command, if it needs no threads
abbrev pub alone : Option Said → Option Said
alone (Some (Clients clients)) = None
alone said = said

-- the command that words say, if it needs no threads
abbrev pub command_alone : List (List ℕ) → Option Said
command_alone words = alone (command_of words)

-- the command that was read works on the current disk: all but `init`, clients, and telling a text
abbrev pub WorksOnCurrent : Command → Type 0
WorksOnCurrent (read.Init terms) = ⊥
WorksOnCurrent (read.Clients count steps number) = ⊥
WorksOnCurrent (read.Tell text) = ⊥
WorksOnCurrent command = Unit {0}
