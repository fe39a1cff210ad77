-- A command that was read, and what it means.
use Rattle.std.proofs.Common.{◌≡◌, ℕ, refl, sym, subst, ap}
use Rattle.std.specs.Prelude.{Option, Some, IfSome, String}
use Rattle.std.specs.declared.alloc.Global.{Global}
use Rattle.branch_names.specs.declared.terms.Terms.{Terms}
use Rattle.branch_command.specs.declared.command.Command.{Command}
use Rattle.branch_command.specs.declared.command.Command.TheVariants as read
use Rattle.branch_command.specs.declared.command.Named.{Named}
use Rattle.branch_command.specs.declared.look.Look.{Look as Looked}
use Rattle.branch_command.specs.Terms.{TermNumbers, AreTerms}
use Rattle.branch_command.specs.Commands.{Said, Init, Script, Look, Generate, Upgrade, Compact, Receive, Help, Means}
use Rattle.branch_shell.specs.Alone.{WorksOnCurrent}
use Rattle.branch_shell.specs.Stores.{AreThese}

-- what a command means that was read
pub script_said : (said : Said) (command : Command) → command ≡ read.Script → Means said command → said ≡ Script
script_said Script command is means = refl
script_said said command is means = absurd (subst (Means said) is means)

pub look_said : (said : Said) (command : Command) (look : Looked) → command ≡ read.Look look → Means said command → said ≡ Look look
look_said (Look this) command look is means = ap Look (subst (Means (Look this)) is means)
look_said said command look is means = absurd (subst (Means said) is means)

pub generate_said : (said : Said) (command : Command) (steps number : ℕ) → command ≡ read.Generate steps number → Means said command
    → said ≡ Generate (record { steps = steps; number = number })
generate_said (Generate work) command steps number is means = ap Generate (subst (Means (Generate work)) is means)
generate_said said command steps number is means = absurd (subst (Means said) is means)

pub upgrade_said : (said : Said) (command : Command) → command ≡ read.Upgrade → Means said command → said ≡ Upgrade
upgrade_said Upgrade command is means = refl
upgrade_said said command is means = absurd (subst (Means said) is means)

pub compact_said : (said : Said) (command : Command) → command ≡ read.Compact → Means said command → said ≡ Compact
compact_said Compact command is means = refl
compact_said said command is means = absurd (subst (Means said) is means)

pub receive_said : (said : Said) (command : Command) (named : Named) → command ≡ read.Receive named → Means said command → said ≡ Receive named.name
receive_said (Receive name) command named is means = ap Receive (subst (Means (Receive name)) is means)
receive_said said command named is means = absurd (subst (Means said) is means)

pub help_said : (said : Said) (command : Command) (text : String Global) → command ≡ read.Tell text → Means said command → said ≡ Help
help_said Help command text is means = refl
help_said said command text is means = absurd (subst (Means said) is means)

pub init_said : (said : Said) (command : Command) (terms : Terms) → command ≡ read.Init terms → Means said command
    → (n : TermNumbers) × (said ≡ Init n) × AreTerms n terms
init_said (Init n) command terms is means = (n, refl, subst (Means (Init n)) is means)
init_said said command terms is means = absurd (subst (Means said) is means)

-- what the words say, that is what the command means that was read of them
pub means_said : (words : Option Said) (command : Command) → (read : Said) × (words ≡ Some read) × Means read command
    → (said : Said) → words ≡ Some said → Means said command
means_said words command r said is =
    let same : r.0 ≡ said = cc (r.1, is) in
    subst (λ (s : Said). Means s command) same r.2

-- terms that are those of the command have the numbers that it means
pub same_numbers : (n : TermNumbers) (given terms : Terms) → AreTerms n given → AreThese given terms → AreTerms n terms
same_numbers n given terms are these = subst (AreTerms n) (sym these) are

-- all but three commands work on the current disk
pub works_else : (command : Command) → ((terms : Terms) → command ≡ read.Init terms → ⊥)
    → ((count steps number : ℕ) → command ≡ read.Clients count steps number → ⊥)
    → ((text : String Global) → command ≡ read.Tell text → ⊥) → WorksOnCurrent command
works_else (read.Init terms) no_init no_clients no_text = no_init terms refl
works_else (read.Clients count steps number) no_init no_clients no_text = no_clients count steps number refl
works_else (read.Tell text) no_init no_clients no_text = no_text text refl
works_else command no_init no_clients no_text = tt

-- what holds of what was read
pub some_holds : {X : Type 0} (read : Option X) (P : X → Type 0) (x : X) → read ≡ Some x → IfSome read P → P x
some_holds read P x is holds = subst (λ o. IfSome o P) is holds
