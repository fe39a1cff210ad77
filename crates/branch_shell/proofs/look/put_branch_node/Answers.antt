use Rattle.std.proofs.Common.{sym, ◌∙◌}
use Rattle.std.specs.Prelude.{slice_get}
use Rattle.std.proofs.lemmas.Result.{on_ok_weaker}
use Rattle.branch_history.specs.History.{store_of}
use Rattle.branch_shell.proofs.Nodes.{dropped_node, kept_node}
use Rattle.branch_shell.proofs.look.put_branch_node.Goals as goal

pub returns-then-is_dropped : goal.returns-then-is_dropped
returns-then-is_dropped g c =
    let branches = (store_of c.args.core.now.terms.origin c.args.core.now.history).branches in
    dropped_node c.args.number (slice_get branches c.args.number) c.args.out.now.items (sym c.is_dropped.ensures ∙ c.if-is_dropped.true)

pub returns : goal.returns
returns g c =
    let branches = (store_of c.args.core.now.terms.origin c.args.core.now.history).branches in
    on_ok_weaker c.put_branch.result
    (kept_node c.args.number (slice_get branches c.args.number) c.unwrap-name.result c.args.out.now.items c.put_branch.new.out.items (sym c.is_dropped.ensures ∙ c.if-is_dropped.false) (sym c.branch-core.ensures.found ∙ c.unwrap-name.ensures))
    c.put_branch.ensures
