use Rattle.std.proofs.Common.{◌≡◌, ◌∙◌, ap, sym, codes, refl, Option, Some, Err}
use Rattle.std.specs.Option.{option_map}
use Rattle.clap.specs.Matches.{found_of}
use Rattle.clap.specs.Walk.{Text, rows_of}
use Rattle.clap.specs.Faults.{fault_of}
use Rattle.clap.proofs.WalkLemmas.{first_value-rows}
use Rattle.branch_command.specs.Work.{Work, Clients as ClientsGiven}
use Rattle.branch_command.specs.Commands.{Init, Script, Generate, Clients, Upgrade, Compact, Look, Receive, asked_by, help_words, said_by}
use Rattle.branch_command.specs.Program.{program}
use Rattle.branch_command.specs.declared.command.CommandRefused.TheVariants.{Usage}
use Rattle.branch_command.proofs.Heard.{as_said}
use Rattle.branch_command.proofs.Looks.{else_read}
use Rattle.branch_command.proofs.command.command_named.Goals as goal

pub returns-in-Some : goal.returns-in-Some
returns-in-Some c =
    let rows = rows_of (found_of c.args.given.now) in
    let found = c.in-Some.ensures.some in
    let is : said_by c.args.name.now rows ≡ Some (Init found.0) = ap (λ (n : Text). said_by n rows) c.in-init.is ∙ ap (option_map Init) found.1 in
    ((Init found.0, is, found.2), λ u. cc)

pub returns-in-script : goal.returns-in-script
returns-in-script c =
    let rows = rows_of (found_of c.args.given.now) in
    ((Script, ap (λ (n : Text). said_by n rows) c.in-script.is, tt), λ u. cc)

pub returns-in-upgrade : goal.returns-in-upgrade
returns-in-upgrade c =
    let rows = rows_of (found_of c.args.given.now) in
    ((Upgrade, ap (λ (n : Text). said_by n rows) c.in-upgrade.is, tt), λ u. cc)

pub returns-in-compact : goal.returns-in-compact
returns-in-compact c =
    let rows = rows_of (found_of c.args.given.now) in
    ((Compact, ap (λ (n : Text). said_by n rows) c.in-compact.is, tt), λ u. cc)

pub returns-in-Some-read_work : goal.returns-in-Some-read_work
returns-in-Some-read_work c =
    let rows = rows_of (found_of c.args.given.now) in
    let work : Work = record { steps = c.in-Some-read_work.steps; number = c.in-Some-read_work.number } in
    let is : said_by c.args.name.now rows ≡ Some (Generate work) = ap (λ (n : Text). said_by n rows) c.in-generate.is ∙ ap (option_map Generate) c.in-Some-read_work.ensures.some in
    ((Generate work, is, refl), λ u. cc)

pub returns-in-Some-read_clients : goal.returns-in-Some-read_clients
returns-in-Some-read_clients c =
    let rows = rows_of (found_of c.args.given.now) in
    let work : Work = record { steps = c.in-Some-read_clients.steps; number = c.in-Some-read_clients.number } in
    let clients : ClientsGiven = record { count = c.in-Some-read_clients.count; work = work } in
    let is : said_by c.args.name.now rows ≡ Some (Clients clients) = ap (λ (n : Text). said_by n rows) c.in-clients.is ∙ ap (option_map Clients) c.in-Some-read_clients.ensures.some in
    ((Clients clients, is, refl), λ u. cc)

pub returns-in-Some-read_name : goal.returns-in-Some-read_name
returns-in-Some-read_name c =
    let rows = rows_of (found_of c.args.given.now) in
    let name : Text = c.in-Some-read_name.name in
    let is : said_by c.args.name.now rows ≡ Some (Receive name) = ap (λ (n : Text). said_by n rows) c.in-receive.is ∙ ap (option_map Receive) (sym c.in-Some-read_name.ensures) in
    ((Receive name, is, refl), λ u. cc)

pub returns-in-Ok : goal.returns-in-Ok
returns-in-Ok c =
    let rows = rows_of (found_of c.args.given.now) in
    let other = c.in_default in
    let is : said_by c.args.name.now rows ≡ Some (Look c.in-Ok.look) =
    else_read c.args.name.now rows other.not-init other.not-script other.not-generate other.not-clients other.not-upgrade other.not-compact
    other.not-receive other.not-help ∙ ap (option_map Look) c.in-Ok.ensures.read in
    ((Look c.in-Ok.look, is, refl), λ u. cc)

pub returns-in-Err : goal.returns-in-Err
returns-in-Err c =
    let rows = rows_of (found_of c.args.given.now) in
    let other = c.in_default in (
      tt,
      λ u.
          let same : c.in-Err.refused ≡ Usage = cc u in
          else_read c.args.name.now rows other.not-init other.not-script other.not-generate other.not-clients other.not-upgrade other.not-compact
          other.not-receive other.not-help ∙ ap (option_map Look) (c.in-Err.ensures.usage (ap Err same)),
    )

pub returns-in-help : goal.returns-in-help
returns-in-help c =
    let rows = rows_of (found_of c.args.given.now) in
    let topic = c.get_str.ensures ∙ first_value-rows (found_of c.args.given.now) (codes "command") in
    as_said (said_by c.args.name.now rows) (asked_by (fault_of program (help_words (option_map (λ s. s.now) c.get_str.result)))) c.tell_help.result
    (ap (λ (n : Text). said_by n rows) c.in-help.is ∙ ap (λ (o : Option Text). asked_by (fault_of program (help_words o))) (sym topic))
    c.tell_help.ensures
