-- The index of all commits is one of the first ones.
use Rattle.std.proofs.Common.{◌-◌, ◌<◌, ◌≤◌, ℕ, List, Option, length, ap, sym, subst, ◌∙◌, arith}
use Rattle.std.specs.Arc.{arc_value}
use Rattle.std.specs.Str.{bytes_eq}
use Rattle.std.proofs.lemmas.List.{length-take-le}
use Rattle.indexmap.specs.IndexMap.{get}
use Rattle.virtual_base.specs.Nodes.{without_last}
use Rattle.store_seen.specs.Nodes.{first_nodes, FindsCommits}
use Rattle.store_seen.proofs.Addressed.{finds-first}
use Rattle.store_seen.proofs.Firsts.{first_nodes-fewer, first_nodes-popped}
use Rattle.store_seen.proofs.shared.SharedNodes.pop.Goals as goal

pub invariant_of-self : goal.invariant_of-self
invariant_of-self g c =
    let nodes = arc_value c.self.inside.nodes in
    let count : ℕ = c.self.inside.count in
    let find : List ℕ → Option ℕ = get bytes_eq c.self.inside.index in
    let less : count - 1 ≤ count = omega arith in
    let fewer = finds-first (first_nodes count nodes).addresses (count - 1) find c.self.invariant.2 in
    (c.cut_own.ensures.there, tt, subst (λ n. FindsCommits n.addresses find) (first_nodes-fewer nodes (count - 1) count less ∙ sym c.cut_own.ensures.first) fewer)

pub returns : goal.returns
returns g c =
    let nodes = arc_value c.self.inside.nodes in
    let count : ℕ = c.self.inside.count in
    let le : count ≤ length nodes.graph.commits = c.self.invariant.0 in
    let size = length-take-le count nodes.graph.commits le in
    let there = subst (λ v. 0 < length v.graph.commits) (sym c.self.view_is) c.requires in
    let some : 0 < count = omega (arith, size, there) in
    c.cut_own.ensures.first ∙ sym (first_nodes-popped nodes count some le) ∙ ap without_last c.self.view_is
