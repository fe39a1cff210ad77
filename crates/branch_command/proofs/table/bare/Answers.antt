use Rattle.std.proofs.Common.{◌∙◌, refl, true, ap₂}
use Rattle.std.proofs.lemmas.Result.{IfOk-weaker}
use Rattle.clap.specs.Simple.{with_rule}
use Rattle.branch_command.proofs.Adding.{with_setting}
use Rattle.branch_command.proofs.table.bare.Goals as goal

pub returns : goal.returns
returns c =
    let named = with_setting (λ s. s) _ _ _ _ c.new.ensures.app c.in_ok-bin_name.ensures.0 refl in
    let told = with_setting (λ s. s) _ _ _ _ named c.about.ensures refl in
    let numbered = with_setting (λ s. s) _ _ _ _ told c.after_help.ensures refl in
    let dated = with_setting (λ s. record s { has_version = true }) _ _ _ _ numbered c.version.ensures refl in
    let shared = with_setting (λ s. record s { propagate_version = true }) _ _ _ _ dated c.propagate_version.ensures refl in
    let own_version = with_setting (λ s. record s { disable_version_flag = true }) _ _ _ _ shared c.disable_version_flag.ensures refl in
    let own_help = with_setting (λ s. record s { disable_help_subcommand = true }) _ _ _ _ own_version c.disable_help_subcommand.ensures refl in
    let bare = with_setting (λ s. record s { no_binary_name = true }) _ _ _ _ own_help c.no_binary_name.ensures refl in
    let wants = with_setting (λ s. record s { subcommand_required = true }) _ _ _ _ bare c.subcommand_required.ensures refl in
    IfOk-weaker c.arg.result _ _ (λ r adds. adds.shape c.version-2.ensures.1 ∙ ap₂ with_rule wants c.version-2.ensures.0) c.arg.ensures
