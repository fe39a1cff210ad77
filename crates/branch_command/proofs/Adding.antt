-- What a command is for a parse, as it is built.
use Rattle.std.proofs.Common.{◌≡◌, ◌∙◌, ◌||◌, false, ap, ap₂}
use Rattle.clap.specs.Walk.{Rule, rule_of}
use Rattle.clap.specs.Simple.{App, Shape, app_of, app_of_fields, on_top, shape_of, with_rule, with_subcommand}
use Rattle.clap.specs.Built.{AddsArg, AddsSubcommand}
use Rattle.clap.specs.declared.builder.arg.Arg.{Arg}
use Rattle.clap.specs.declared.builder.command.Command.{Command}
use Rattle.clap.specs.declared.builder.command.Command.TheOpen.{Command-F}
use Rattle.clap.specs.declared.builder.command.Command.TheViews.{out-Command}

-- a command for the parse, with no global argument
pub record Is (a : App) (c : Command) : Type 0 where
  pub app : app_of c ≡ a
  pub local : (out-Command c).has_globals ≡ false

pub with_arg : (old new : Command) (a : Arg) (app : App) (r : Rule) → Is app old → AddsArg old a new → rule_of a ≡ r → a.global ≡ false → Is (with_rule app r) new
with_arg old new a app r is adds rule global = record {
  app = adds.shape global ∙ ap₂ with_rule is.app rule;
  local = adds.globals ∙ ap₂ (λ x y. x || y) is.local global;
}

pub with_leaf : (old new sub : Command) (app : App) (s : Shape) → app_of old ≡ app → AddsSubcommand old sub new → shape_of sub ≡ s
    → (out-Command sub).has_globals ≡ false → app_of new ≡ with_subcommand app s
with_leaf old new sub app s is adds shape local = adds.shape local ∙ ap₂ with_subcommand is shape

-- a setting of the top command
pub with_setting : (f : Shape → Shape) (old new : Command) (v : Command-F Command) (app : App) → app_of old ≡ app → out-Command new ≡ v
    → app_of_fields v ≡ on_top f (app_of old) → app_of new ≡ on_top f app
with_setting f old new v app is fields same = ap app_of_fields fields ∙ same ∙ ap (on_top f) is
