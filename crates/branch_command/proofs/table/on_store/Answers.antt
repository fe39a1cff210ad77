use Rattle.std.proofs.lemmas.Result.{IfOk-weaker}
use Rattle.branch_command.proofs.Adding.{with_leaf}
use Rattle.branch_command.proofs.table.on_store.Goals as goal

pub returns : goal.returns
returns c =
    let init = with_leaf _ _ _ _ _ c.in_ok-bare.ensures c.in_ok-subcommand.ensures c.in_ok-init.ensures.0 c.in_ok-init.ensures.1 in
    let script = with_leaf _ _ _ _ _ init c.in_ok-subcommand-2.ensures c.in_ok-script.ensures.0 c.in_ok-script.ensures.1 in
    let check = with_leaf _ _ _ _ _ script c.in_ok-subcommand-3.ensures c.in_ok-check.ensures.0 c.in_ok-check.ensures.1 in
    let generate = with_leaf _ _ _ _ _ check c.in_ok-subcommand-4.ensures c.in_ok-generate.ensures.0 c.in_ok-generate.ensures.1 in
    let clients = with_leaf _ _ _ _ _ generate c.in_ok-subcommand-5.ensures c.in_ok-clients.ensures.0 c.in_ok-clients.ensures.1 in
    let upgrade = with_leaf _ _ _ _ _ clients c.in_ok-subcommand-6.ensures c.in_ok-upgrade.ensures.0 c.in_ok-upgrade.ensures.1 in
    IfOk-weaker c.subcommand-7.result _ _ (λ r adds. with_leaf _ _ _ _ _ upgrade adds c.in_ok-compact.ensures.0 c.in_ok-compact.ensures.1) c.subcommand-7.ensures
