-- Each commit is written as it is told.
use Rattle.std.proofs.Common.{◌∙◌, ◌++◌, ap, arith, refl}
use Rattle.branch_history.specs.History.{store_of}
use Rattle.branch_log.specs.Graphs.{commit_node}
use Rattle.branch_log.proofs.Told.{counts, counts-graph, node-told, numbered-more, numbered-all}
use Rattle.branch_log.proofs.graph.put_commits.Goals as goal

pub loop-number-init : goal.loop-number-init
loop-number-init g c = refl

pub put_commit-requires-clause-made : goal.put_commit-requires-clause-made
put_commit-requires-clause-made g c =
    let moves = c.args.moves.now in
    omega (arith, c.count-number-end.ensures.count, counts-graph moves (store_of c.args.terms.origin moves).commits _ _ c.in_ok-commits.ensures)

pub loop-number-preserved : goal.loop-number-preserved
loop-number-preserved g c =
    let moves = c.args.moves.now in
    let commits = (store_of c.args.terms.origin moves).commits in
    let n = c.loop-number.number in
    numbered-more commit_node n commits c.loop-number.out.items c.put_commit.new.out.items _ c.loop-number.invariant
    (c.in_ok-put_commit.ensures ∙ ap (λ text. c.loop-number.out.items ++ text) (node-told moves commits _ _ c.in_ok-commits.ensures n))

pub returns : goal.returns
returns g c =
    let moves = c.args.moves.now in
    let commits = (store_of c.args.terms.origin moves).commits in
    let size = counts moves commits _ _ c.in_ok-commits.ensures in
    let graph = counts-graph moves commits _ _ c.in_ok-commits.ensures in
    numbered-all commit_node c.loop-number.number commits c.loop-number.out.items _ (omega (arith, size, graph, c.count-number-end.ensures.count)) c.loop-number.invariant
