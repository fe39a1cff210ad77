-- The live commits are marked.
use Rattle.std.proofs.Common.{refl, ◌∙◌}
use Rattle.branch_compact.proofs.Read.{heads-there}
use Rattle.branch_compact.proofs.Made.{marked-live, graph-count}
use Rattle.branch_compact.proofs.making.live_commits.Goals as goal

pub mark_live-requires : goal.mark_live-requires
mark_live-requires g c =
    heads-there c.args.terms c.args.moves.now c.args.moves.now refl (c.keeps_order.ensures c.args.terms c.args.moves.now c.requires) c.in_ok-read.read.graph.commits c.in_ok-read.read.branches.items _ c.in_ok-read.ensures c.deref.ensures.value

pub returns-clause-count : goal.returns-clause-count
returns-clause-count g c =
    c.in_ok-marks.ensures.count ∙ graph-count c.args.terms c.args.moves.now c.args.moves.now refl c.in_ok-read.read.graph.commits c.in_ok-read.read.branches.items c.in_ok-read.ensures

pub returns-clause-live : goal.returns-clause-live
returns-clause-live g c =
    marked-live c.args.terms c.args.moves.now c.args.moves.now refl c.in_ok-read.read.graph.commits c.in_ok-read.read.branches.items c.in_ok-read.ensures _ c.in_ok-marks.marks.items c.deref.ensures.value c.in_ok-marks.ensures.live
