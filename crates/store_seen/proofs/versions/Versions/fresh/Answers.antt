-- `main` at commit 0, which has no parents.
use Rattle.std.proofs.Common.{◌≡◌, ◌∷◌, [], ◌++◌, List, ℕ, ap, ◌∙◌}
use Rattle.branch_graph.specs.Graph.{Ancestry}
use Rattle.virtual_base.specs.Nodes.{NodesView}
use Rattle.store_seen.proofs.Cores.{core-fresh}
use Rattle.store_seen.proofs.versions.Versions.fresh.Goals as goal

pub invariant_of-result : goal.invariant_of-result
invariant_of-result g c =
    let clocks : c.push.new.self.items ≡ 0 ∷ [] = c.in_ok-push.ensures.items ∙ ap (λ (l : List ℕ). l ++ 0 ∷ []) c.new-clocks.ensures.items in
    let none = c.in_ok-nodes.ensures in
    let pushed = c.in_ok-push-2.ensures in
    let graph = ap (λ n. n.graph) pushed.pushed ∙ ap (λ (n : NodesView g.row.T.Denot). let a : Ancestry = record { limit = n.graph.limit; commits = n.graph.commits ++ [] ∷ [] } in a) none in
    let values = ap (λ n. n.values) pushed.pushed ∙ ap (λ (n : NodesView g.row.T.Denot). n.values ++ c.initial.result ∷ []) none in
    rw (c.new-3.ensures, clocks, values) (core-fresh g.T.Mrdt.meaning c.args.terms c.in_ok-heads.heads c.push-2.new.self.graph c.initial.result c.in_ok-heads.ensures.limit c.in_ok-heads.ensures.branches graph c.initial.ensures)
