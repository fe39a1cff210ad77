-- The commits and the branches are those of the store.
use Rattle.std.proofs.lemmas.Result.{on_ok_weaker}
use Rattle.branch_history.specs.History.{store_of}
use Rattle.branch_machine.specs.Fixed.{fix}
use Rattle.branch_machine.proofs.Valid.{valid-before}
use Rattle.branch_shell.proofs.Nodes.{whole_graph}
use Rattle.branch_shell.proofs.look.put_graph.Goals as goal

pub put_commits-requires-after_bounds : goal.put_commits-requires-after_bounds
put_commits-requires-after_bounds g c κs within =
    let core = c.args.core.now in
    rw (c.terms.ensures, c.history.ensures) (valid-before (fix g.T.Mrdt.meaning core.terms g.A.Address.address) core.history c.moves.ensures.valid)

pub returns : goal.returns
returns g c =
    let core = c.args.core.now in
    let commits = rw (c.terms.ensures, c.history.ensures) at c.in_ok-put_commits.ensures in
    on_ok_weaker c.put_text-2.result
    (whole_graph (store_of core.terms.origin core.history) c.args.out.now.items c.put_text.new.out.items c.put_commits.new.out.items c.put_branches.new.out.items c.put_text-2.new.out.items
    c.in_ok-put_text.ensures.ok commits c.in_ok-put_branches.ensures)
    c.put_text-2.ensures.ok
