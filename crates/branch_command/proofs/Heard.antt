-- From what clap answers to what the words ask for.
use Rattle.std.proofs.Common.{◌≡◌, ◌∙◌, cond, true, false, refl, sym, ap, ap₂, subst, List, [], ◌∷◌, Option, Some, None, Result, Err, IfOk, inl, inr}
use Rattle.std.specs.Option.{option_map}
use Rattle.std.proofs.lemmas.Result.{IfOk-weaker}
use Rattle.clap.specs.Values.{kind_of}
use Rattle.std.specs.Prelude.{Box}
use Rattle.std.specs.Box.{box_value}
use Rattle.clap.specs.Matches.{found_of, subcommand_name_of}
use Rattle.clap.specs.declared.parser.matches.ArgMatches.{ArgMatches}
use Rattle.clap.specs.declared.parser.matches.ArgMatches.TheViews.{out-ArgMatches, out-SubCommand}
use Rattle.clap.specs.declared.parser.matches.SubCommand.{SubCommand}
use Rattle.clap.specs.Walk.{Row, Text, rows_of}
use Rattle.clap.specs.Simple.{subcommand_of, subcommand_rows, subcommand_rows_of}
use Rattle.clap.specs.Kinds.{HasKind, IsAmong, Kinds}
use Rattle.clap.specs.Faults.{fault_of}
use Rattle.clap.specs.declared.error.Error.{Error}
use Rattle.clap.specs.declared.error.kind.ErrorKind.{ErrorKind}
use Rattle.clap.specs.declared.error.kind.ErrorKind.TheVariants.{OutOfMemory}
use Rattle.branch_command.specs.Commands.{Said, Help, Means, Answers, is_request, asked_by, said_of, said_by, command_of}
use Rattle.branch_command.specs.Program.{program}
use Rattle.branch_command.specs.declared.command.Command.{Command}
use Rattle.branch_command.specs.declared.command.CommandRefused.{CommandRefused}
use Rattle.branch_command.specs.declared.command.CommandRefused.TheVariants.{Usage}
use Rattle.branch_command.proofs.Sure.{IsSure, asked_by_one}

-- an error of clap answers what its kinds ask for
pub heard : (ks : Kinds) (e : Error) (said : Option Said) (r : Result Command CommandRefused) → IsSure ks → HasKind ks e
    → (IsAmong (kind_of e) ks → said ≡ asked_by ks)
    → IfOk r (λ command. Means Help command × (is_request (kind_of e) ≡ true))
    → (r ≡ Err Usage → (is_request (kind_of e) ≡ false) × (kind_of e ≡ OutOfMemory → ⊥))
    → Answers said r
heard ks e said r sure has is told usage = elim has [
  | inl memory ↦ (
    IfOk-weaker r _ _ (λ command h. let bad : false ≡ true = sym (ap is_request memory) ∙ h.1 in cc) told,
    λ u. absurd ((usage u).1 memory),
  )
  | inr among ↦
      let one : said ≡ cond (is_request (kind_of e)) (Some Help) None = is among ∙ asked_by_one ks (kind_of e) sure among in (
        IfOk-weaker r _ _ (λ command h. (Help, one ∙ ap (λ b. cond b (Some Help) None) h.1, h.0)) told,
        λ u. one ∙ ap (λ b. cond b (Some Help) None) (usage u).0,
      )
]

pub said_of_some : (ks : Kinds) (k : ErrorKind) (o : Option (Text × List Row)) → IsAmong k ks → said_of ks o ≡ asked_by ks
said_of_some [] k o here = absurd here
said_of_some (x ∷ xs) k o here = refl

pub command_of-is : (words : List Text) → command_of words ≡ said_of (fault_of program words) (subcommand_of program words)
unfolding command_of
command_of-is words = refl

parts : {Z : Type 0} (x : Option (Box SubCommand Z)) (name : Text) (rows : List Row)
    → Some name ≡ option_map (λ b. (out-SubCommand (box_value b)).name.now) x → Some rows ≡ option_map (λ p. p.1) (subcommand_rows x)
    → subcommand_rows x ≡ Some (name, rows)
parts None name rows named given = cc
parts (Some b) name rows named given =
    let e : (out-SubCommand (box_value b)).name.now ≡ name = cc in
    let f : rows_of (found_of (out-SubCommand (box_value b)).matches) ≡ rows = cc in
    ap₂ (λ (n : Text) (rs : List Row). Some (n, rs)) e f

no_parts : {Z : Type 0} (x : Option (Box SubCommand Z)) → None ≡ option_map (λ b. (out-SubCommand (box_value b)).name.now) x → subcommand_rows x ≡ None
no_parts None named = refl
no_parts (Some b) named = cc

-- where clap has matches, the command that it found says what is asked for
pub said_by_name : (words : List Text) (m : ArgMatches) (name : Text) (rows : List Row) → fault_of program words ≡ []
    → subcommand_rows_of m ≡ subcommand_of program words → Some name ≡ subcommand_name_of m
    → Some rows ≡ option_map (λ p. p.1) (subcommand_rows (out-ArgMatches m).subcommand) → command_of words ≡ said_by name rows
said_by_name words m name rows none found named given =
    command_of-is words ∙ ap₂ said_of none (sym found ∙ parts (out-ArgMatches m).subcommand name rows named given)

pub said_by_none : (words : List Text) (m : ArgMatches) → fault_of program words ≡ []
    → subcommand_rows_of m ≡ subcommand_of program words → None ≡ subcommand_name_of m → command_of words ≡ None
said_by_none words m none found named =
    command_of-is words ∙ ap₂ said_of none (sym found ∙ no_parts (out-ArgMatches m).subcommand named)

-- an answer to what is asked for under another name of it
pub as_said : (a b : Option Said) (r : Result Command CommandRefused) → a ≡ b → Answers b r → Answers a r
as_said a b r same answers = subst (λ (o : Option Said). Answers o r) (sym same) answers
