-- Each move of a valid history makes the next commit of the store.
use Rattle.std.proofs.Common.{◌+◌, length, take, ap, arith}
use Rattle.branch_history.proofs.Grown.{length-graph}
use Rattle.branch_history.specs.History.{store_of}
use Rattle.branch_compact.proofs.Read.{next-valid}
use Rattle.branch_compact.proofs.Made.{few-commits}
use Rattle.branch_log.proofs.Made.{made-none, next-room, next-fits, next-kept, all-kept}
use Rattle.branch_log.proofs.reading.read_commits.Goals as goal

pub loop-place-init : goal.loop-place-init
loop-place-init g c = made-none c.args.moves.now c.args.terms.origin _ c.in_ok-made.ensures

pub read_move-requires-clause-few : goal.read_move-requires-clause-few
read_move-requires-clause-few g c =
    let few = few-commits c.args.terms c.args.moves.now (c.keeps_limits.ensures c.args.terms c.args.moves.now c.requires) in
    omega (arith, few, ap length c.in_ok-graph.ensures, length-graph (store_of c.args.terms.origin c.args.moves.now).commits)

pub read_move-requires-clause-room : goal.read_move-requires-clause-room
read_move-requires-clause-room g c =
    next-room c.args.terms c.args.moves.now c.in_ok-graph.graph.commits c.in_ok-graph.ensures c.loop-place.place c.index-moves-place.result c.loop-place-test.true c.index-moves-place.is c.loop-place.made.items c.loop-place.invariant

pub read_move-requires-clause-fits : goal.read_move-requires-clause-fits
read_move-requires-clause-fits g c =
    let terms = c.args.terms in
    let moves = c.args.moves.now in
    let i = c.loop-place.place in
    let m = c.index-moves-place.result in
    let valid = next-valid g.T.Mrdt.meaning terms moves i m c.loop-place-test.true c.index-moves-place.is c.requires in
    next-fits terms moves c.in_ok-graph.graph.commits c.in_ok-graph.ensures i m c.loop-place-test.true c.index-moves-place.is c.loop-place.made.items c.loop-place.invariant
    (c.keeps_limits.ensures terms (take (i + 1) moves) valid) (c.keeps_order.ensures terms (take (i + 1) moves) valid)

pub loop-place-preserved : goal.loop-place-preserved
loop-place-preserved g c =
    next-kept c.args.terms c.args.moves.now c.in_ok-graph.graph.commits c.in_ok-graph.ensures c.loop-place.place c.index-moves-place.result c.loop-place-test.true c.index-moves-place.is c.loop-place.made.items c.loop-place.invariant
    _ c.in_ok-read_move.ensures

pub returns : goal.returns
returns g c = record {
  parents = c.in_ok-graph.ensures;
  kept = all-kept c.args.terms.origin c.args.moves.now c.loop-place.place c.loop-place.made.items c.loop-place-test.false c.loop-place.invariant;
}
