-- The maximal common ancestors of the list and itself are its maximal commits.
use Rattle.std.proofs.Common.{◌∙◌, List, ℕ, length, subst}
use Rattle.branch_graph.specs.Graph.{IsRanked}
use Rattle.virtual_base.specs.Nodes.{NodesView, IsFold}
use Rattle.virtual_base.proofs.Folded.{maximal-fold}
use Rattle.virtual_base.proofs.Maximal.{maximal-common}
use Rattle.virtual_base.proofs.nodes.Nodes.maximal.Goals as goal

pub returns-clause-maximal : goal.returns-clause-maximal
returns-clause-maximal g c =
    let ranked = subst (λ (nodes : NodesView g.row.T.Denot). IsRanked nodes.graph.commits) c.self.view_is c.count-count.ensures.ranked in
    c.in_ok-maximal.ensures.bases ∙ maximal-common c.args.self.now.graph.commits ranked c.args.commits.now c.requires

pub returns-clause-rising : goal.returns-clause-rising
returns-clause-rising g c = (c.in_ok-maximal.ensures.lower (length c.args.self.now.graph.commits) c.requires).rising

pub returns-clause-there : goal.returns-clause-there
returns-clause-there g c = (c.in_ok-maximal.ensures.lower (length c.args.self.now.graph.commits) c.requires).there

pub returns-clause-folded : goal.returns-clause-folded
returns-clause-folded g c = λ value fold.
    maximal-fold g.T.Mrdt.meaning c.args.self.now c.sees_bases.ensures c.sees_closed_parts_at_all.ensures c.args.commits.now value
    (subst (λ (ns : List ℕ). IsFold g.T.Mrdt.meaning c.args.self.now ns value) c.in_ok-maximal.ensures.bases fold)
