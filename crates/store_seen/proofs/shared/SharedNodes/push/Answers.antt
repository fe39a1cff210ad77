-- The folds that are kept are those of the longer nodes, and the index finds the new commit.
use Rattle.std.proofs.Common.{◌≡◌, ◌∙◌, ℕ, List, Option, length, sym, subst, arith}
use Rattle.std.specs.Arc.{arc_value}
use Rattle.std.specs.Str.{bytes_eq}
use Rattle.indexmap.specs.IndexMap.{get}
use Rattle.virtual_base.specs.Nodes.{with_node}
use Rattle.store_seen.specs.Nodes.{first_nodes, commit_at, FindsCommits}
use Rattle.store_seen.proofs.Addressed.{finds-same, noted-kept, noted-grown}
use Rattle.store_seen.proofs.Firsts.{first_nodes-all}
use Rattle.store_seen.proofs.Folds.{folds-same, folds-grown}
use Rattle.store_seen.proofs.shared.SharedNodes.push.Goals as goal

pub invariant_of-self : goal.invariant_of-self
invariant_of-self g c =
    let old = first_nodes c.self.inside.count (arc_value c.self.inside.nodes) in
    let before : List ℕ → Option ℕ = get bytes_eq c.self.inside.index in
    let after : List ℕ → Option ℕ = get bytes_eq c.note.new.index in
    (c.self.invariant.0, c.self.invariant.1, finds-same old.addresses before after c.in_err-note.ensures.kept c.self.invariant.2)

pub invariant_of-self-in-Err-Memory : goal.invariant_of-self-in-Err-Memory
invariant_of-self-in-Err-Memory g c =
    let m = g.T.Mrdt.meaning in
    let old = first_nodes c.self.inside.count (arc_value c.self.inside.nodes) in
    let before : List ℕ → Option ℕ = get bytes_eq c.self.inside.index in
    let after : List ℕ → Option ℕ = get bytes_eq c.note.new.index in
    let earlier : Option ℕ = c.commit_at-earlier.result in
    let is : earlier ≡ commit_at old.addresses c.args.address = subst (λ v. earlier ≡ commit_at v.addresses c.args.address) (sym c.self.view_is) c.commit_at-earlier.ensures in
    let new = first_nodes c.self.inside.count (arc_value c.push_behind.new.nodes) in
    let same : new ≡ old = c.in-Err-Memory.ensures.kept in
    let finds = noted-kept old.addresses c.args.address c.count-next.result before after c.self.invariant.2 earlier is c.in_ok-note.ensures.noted in
    (c.in-Err-Memory.ensures.there, folds-same m old new c.self.inside.folds same c.self.invariant.1, subst (λ n. FindsCommits n.addresses after) (sym same) finds)

pub invariant_of-self-in-Ok : goal.invariant_of-self-in-Ok
invariant_of-self-in-Ok g c =
    let m = g.T.Mrdt.meaning in
    let old = first_nodes c.self.inside.count (arc_value c.self.inside.nodes) in
    let before : List ℕ → Option ℕ = get bytes_eq c.self.inside.index in
    let after : List ℕ → Option ℕ = get bytes_eq c.note.new.index in
    let earlier : Option ℕ = c.commit_at-earlier.result in
    let is : earlier ≡ commit_at old.addresses c.args.address = subst (λ v. earlier ≡ commit_at v.addresses c.args.address) (sym c.self.view_is) c.commit_at-earlier.ensures in
    let new = arc_value c.push_behind.new.nodes in
    let longer = with_node old c.args.parents.now c.args.value c.args.address in
    let count = c.count-self-inside.result in
    let counted : count ≡ length new.graph.commits = rw c.deref.ensures at c.count-self-inside.ensures.count in
    let all = first_nodes-all new count counted (rw c.deref.ensures at c.count-self-inside.ensures.valued) (rw c.deref.ensures at c.count-self-inside.ensures.addressed) in
    let valued = subst (λ v. length v.values ≡ length v.graph.commits) (sym c.self.view_is) c.count-next.ensures.valued in
    let next : c.count-next.result ≡ length old.addresses = subst (λ v. c.count-next.result ≡ length v.addresses) (sym c.self.view_is) (c.count-next.ensures.count ∙ sym c.count-next.ensures.addressed) in
    let grown = folds-grown m old c.keeps_memos.ensures valued c.args.parents.now c.args.value c.args.address c.self.inside.folds c.self.invariant.1 in
    let finds = noted-grown old.addresses c.args.address c.count-next.result before after c.self.invariant.2 earlier is c.in_ok-note.ensures.noted next in
    let same : first_nodes count new ≡ longer = all ∙ c.in-Ok.ensures.pushed in
    (omega (arith, counted), folds-same m longer (first_nodes count new) c.self.inside.folds same grown, subst (λ n. FindsCommits n.addresses after) (sym same) finds)
