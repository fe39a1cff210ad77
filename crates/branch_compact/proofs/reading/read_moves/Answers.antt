-- Each move of a valid history names what is there, and there is room for its commit.
use Rattle.std.proofs.Common.{◌+◌, ◌<◌, ◌∙◌, length, take, ap, arith}
use Rattle.branch_graph.specs.Graph.{Ancestry}
use Rattle.branch_compact.proofs.Read.{read-none, parts-read, first-valid, next-valid, next-accepted, next-room, next-read}
use Rattle.branch_compact.proofs.reading.read_moves.Goals as goal

pub loop-made-init : goal.loop-made-init
loop-made-init g c =
    (read-none c.args.terms.origin _ _ (ap (λ (graph : Ancestry). graph.commits) c.in_ok-read.ensures.graph) c.in_ok-read.ensures.branches, ap (λ (graph : Ancestry). graph.limit) c.in_ok-read.ensures.graph)

pub read_move-requires-clause-there : goal.read_move-requires-clause-there
read_move-requires-clause-there g c =
    let m = g.T.Mrdt.meaning in
    let moves = c.args.moves.now in
    let i = c.loop-made.made-index in
    let lt : i < length moves = omega arith in
    parts-read m c.args.terms (take i moves) (c.keeps_order.ensures c.args.terms (take i moves) (first-valid m c.args.terms moves i c.made-item.result lt c.made-item.is c.requires))
    c.loop-made.read.graph.commits c.loop-made.read.branches.items c.made-item.result c.loop-made.invariant.0 (next-accepted m c.args.terms moves i c.made-item.result lt c.made-item.is c.requires)

pub read_move-requires-clause-room : goal.read_move-requires-clause-room
read_move-requires-clause-room g c =
    let m = g.T.Mrdt.meaning in
    let moves = c.args.moves.now in
    let i = c.loop-made.made-index in
    let lt : i < length moves = omega arith in
    let within = (c.keeps_limits.ensures c.args.terms (take (i + 1) moves) (next-valid m c.args.terms moves i c.made-item.result lt c.made-item.is c.requires)).commits in
    let room = next-room m c.args.terms moves i c.made-item.result lt c.made-item.is c.requires c.loop-made.read.graph.commits c.loop-made.read.branches.items c.loop-made.invariant.0 within in
    omega (arith, room, c.loop-made.invariant.1)

pub loop-made-preserved : goal.loop-made-preserved
loop-made-preserved g c =
    let moves = c.args.moves.now in
    let i = c.loop-made.made-index in
    let lt : i < length moves = omega arith in (
      next-read g.T.Mrdt.meaning c.args.terms moves i c.made-item.result lt c.made-item.is c.requires c.loop-made.read.graph.commits _ c.loop-made.read.branches.items _ c.loop-made.invariant.0 c.in_ok-read_move.ensures.parents c.in_ok-read_move.ensures.branches,
      c.in_ok-read_move.ensures.limit ∙ c.loop-made.invariant.1,
    )
