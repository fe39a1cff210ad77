-- What the words of a command line ask for.
use Rattle.std.specs.Prelude.{◌≡◌, Bool, true, false, Result, Err, IfOk, codes, Some, None, List, [], ◌∷◌, ◌++◌, map, if◌then◌else◌, bytes_eq}
use Rattle.std.specs.declared.option.Option.{Option}
use Rattle.std.specs.Option.{option_map}
use Rattle.clap.specs.Walk.{Row, Text, first_of}
use Rattle.clap.specs.Simple.{subcommand_of}
use Rattle.clap.specs.Kinds.{Kinds}
use Rattle.clap.specs.Faults.{fault_of}
use Rattle.clap.specs.declared.error.kind.ErrorKind.{ErrorKind}
use Rattle.clap.specs.declared.error.kind.ErrorKind.TheVariants.{DisplayHelp, DisplayVersion}
use Rattle.branch_command.specs.Terms.{TermNumbers, terms_of, AreTerms}
use Rattle.branch_command.specs.Work.{Work, work_of, Clients as ClientsGiven, clients_of}
use Rattle.branch_command.specs.Bundles.{name_of}
use Rattle.branch_command.specs.Looks.{look_by}
use Rattle.branch_command.specs.Program.{program}
use Rattle.branch_command.specs.declared.command.Command.{Command}
use Rattle.branch_command.specs.declared.command.Command.TheVariants as read
use Rattle.branch_command.specs.declared.look.Look.{Look as LookGiven}
use Rattle.branch_command.specs.declared.command.CommandRefused.{CommandRefused}
use Rattle.branch_command.specs.declared.command.CommandRefused.TheVariants.{Usage}

pub data Said : Type 0 where
  -- make a store of terms with these numbers
  Init : TermNumbers → Said
  Script : Said
  -- run the script that is drawn from a number
  Generate : Work → Said
  -- run so many clients side by side
  Clients : ClientsGiven → Said
  -- make of a store of version 1 one of today's version, on the other disk
  Upgrade : Said
  -- make the store of the compact history on the other disk, and switch to it
  Compact : Said
  -- read this of the store, and write it
  Look : LookGiven → Said
  -- receive a bundle as a new branch of this name
  Receive : Text → Said
  -- tell the text of help or of the version
  Help : Said

-- help or the version was asked for
abbrev pub is_request : ErrorKind → Bool
is_request DisplayHelp = true
is_request DisplayVersion = true
is_request kind = false

-- what words ask for that clap answers by an error: a text, or nothing
abbrev pub asked_by : Kinds → Option Said
asked_by [] = None
asked_by (kind ∷ kinds) = if is_request kind then Some Help else None

-- `help NAME` asks for what `NAME --help` does, and `help` alone for what `--help` does
abbrev pub help_words : Option Text → List Text
help_words None = codes "--help" ∷ []
help_words (Some name) = name ∷ codes "--help" ∷ []

-- what a command of a name asks for, by what was given to it
abbrev pub said_by : Text → List Row → Option Said
said_by name given =
    if bytes_eq name (codes "init") then option_map Init (terms_of given)
    else if bytes_eq name (codes "script") then Some Script
    else if bytes_eq name (codes "generate") then option_map Generate (work_of given)
    else if bytes_eq name (codes "clients") then option_map Clients (clients_of given)
    else if bytes_eq name (codes "upgrade") then Some Upgrade
    else if bytes_eq name (codes "compact") then Some Compact
    else if bytes_eq name (codes "receive") then option_map Receive (name_of (first_of (codes "name") given))
    else if bytes_eq name (codes "help") then asked_by (fault_of program (help_words (first_of (codes "command") given)))
    else option_map Look (look_by name given)

-- what words ask for, by the kinds of error that clap has for them, and by the command that it finds where it has none
abbrev pub said_of : Kinds → Option (Text × List Row) → Option Said
said_of [] (Some command) = said_by command.0 command.1
said_of [] None = None
said_of (kind ∷ kinds) command = asked_by (kind ∷ kinds)

-- what the words behind PATH ask for; none where they say no command
unfoldable pub command_of : List Text → Option Said
command_of words = said_of (fault_of program words) (subcommand_of program words)

-- the words `--NAME=WORD ..`, and those of `init` with them
abbrev pub option_word : Text × Text → Text
option_word option = codes "--" ++ option.0 ++ codes "=" ++ option.1

abbrev pub options_words : List (Text × Text) → List Text
options_words options = map option_word options

abbrev pub init_with : List (Text × Text) → List Text
init_with options = codes "init" ∷ options_words options

-- the command that was read is the one that was said; the text of help is left open
abbrev pub Means : Said → Command → Type 0
Means (Init n) (read.Init terms) = AreTerms n terms
Means Script read.Script = Unit {0}
Means (Generate work) (read.Generate steps number) = work ≡ record { steps = steps; number = number }
Means (Clients given) (read.Clients count steps number) = given ≡ record { count = count; work = record { steps = steps; number = number } }
Means Upgrade read.Upgrade = Unit {0}
Means Compact read.Compact = Unit {0}
Means (Look said) (read.Look look) = said ≡ look
Means (Receive branch) (read.Receive named) = branch ≡ named.name
Means Help (read.Tell text) = Unit {0}
Means said command = ⊥

-- the result is the command that was said; `Usage` comes only where none was said
abbrev pub Answers : Option Said → Result Command CommandRefused → Type 0
Answers said result = IfOk result (λ command. (s : Said) × (said ≡ Some s) × Means s command) × (result ≡ Err Usage → said ≡ None)
