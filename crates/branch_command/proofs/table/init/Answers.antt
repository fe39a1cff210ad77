use Rattle.std.proofs.Common.{◌∙◌, codes, ap, refl}
use Rattle.std.proofs.lemmas.Result.{IfOk-weaker}
use Rattle.clap.specs.Simple.{App, new_app}
use Rattle.clap.specs.declared.builder.command.Command.{Command}
use Rattle.clap.specs.declared.builder.command.Command.TheOpen.{Command-F}
use Rattle.branch_command.proofs.Adding.{Is, with_arg, with_setting}
use Rattle.branch_command.proofs.table.init.Goals as goal

pub returns : goal.returns
returns c =
    let none : Is (new_app (codes "init")) c.about.result = record { app = with_setting (λ s. s) _ _ _ _ c.new.ensures.app c.about.ensures refl; local = ap (λ (v : Command-F Command). v.has_globals) c.about.ensures ∙ c.new.ensures.local } in
    let clock = with_arg _ _ _ _ _ none c.in_ok-arg.ensures c.limit-clock.ensures.0 c.limit-clock.ensures.1 in
    let commits = with_arg _ _ _ _ _ clock c.in_ok-arg-2.ensures c.limit-commits.ensures.0 c.limit-commits.ensures.1 in
    let branches = with_arg _ _ _ _ _ commits c.in_ok-arg-3.ensures c.limit-branches.ensures.0 c.limit-branches.ensures.1 in
    let value = with_arg _ _ _ _ _ branches c.in_ok-arg-4.ensures c.limit-value.ensures.0 c.limit-value.ensures.1 in
    let moves = with_arg _ _ _ _ _ value c.in_ok-arg-5.ensures c.limit-moves.ensures.0 c.limit-moves.ensures.1 in
    let origin = with_arg _ _ _ _ _ moves c.in_ok-arg-6.ensures c.limit-origin.ensures.0 c.limit-origin.ensures.1 in
    let sequences = with_arg _ _ _ _ _ origin c.in_ok-arg-7.ensures c.flag-sequences.ensures.0 c.flag-sequences.ensures.1 in
    let changes = with_arg _ _ _ _ _ sequences c.in_ok-arg-8.ensures c.flag-changes.ensures.0 c.flag-changes.ensures.1 in
    IfOk-weaker c.arg-9.result _ _ (λ r adds.
    let all = with_arg _ _ _ _ _ changes adds c.version.ensures.0 c.version.ensures.1 in
    (ap (λ (a : App). a.top) all.app, all.local)) c.arg-9.ensures
