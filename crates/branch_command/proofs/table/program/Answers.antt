use Rattle.std.proofs.lemmas.Result.{IfOk-weaker}
use Rattle.branch_command.specs.Program.{program}
use Rattle.branch_command.proofs.Adding.{with_leaf}
use Rattle.branch_command.proofs.table.program.Goals as goal

pub returns : goal.returns
unfolding program
returns c =
    let address = with_leaf _ _ _ _ _ c.in_ok-on_store.ensures c.in_ok-subcommand.ensures c.in_ok-address.ensures.0 c.in_ok-address.ensures.1 in
    let send = with_leaf _ _ _ _ _ address c.in_ok-subcommand-2.ensures c.in_ok-send.ensures.0 c.in_ok-send.ensures.1 in
    let receive = with_leaf _ _ _ _ _ send c.in_ok-subcommand-3.ensures c.in_ok-receive.ensures.0 c.in_ok-receive.ensures.1 in
    let log = with_leaf _ _ _ _ _ receive c.in_ok-subcommand-4.ensures c.in_ok-log.ensures.0 c.in_ok-log.ensures.1 in
    let show = with_leaf _ _ _ _ _ log c.in_ok-subcommand-5.ensures c.in_ok-show.ensures.0 c.in_ok-show.ensures.1 in
    let graph = with_leaf _ _ _ _ _ show c.in_ok-subcommand-6.ensures c.in_ok-graph.ensures.0 c.in_ok-graph.ensures.1 in
    IfOk-weaker c.subcommand-7.result _ _ (λ r adds. with_leaf _ _ _ _ _ graph adds c.in_ok-help.ensures.0 c.in_ok-help.ensures.1) c.subcommand-7.ensures
