-- The commits are those of the nodes.
use Rattle.std.proofs.Common.{◌≡◌, ◌<◌, length, ap, sym, ◌∙◌, subst, All}
use Rattle.branch_history.specs.History.{store_of}
use Rattle.branch_history.proofs.Grown.{length-graph}
use Rattle.store_seen.proofs.group.Group.brought.Goals as goal

pub brought_of-requires-clause-others : goal.brought_of-requires-clause-others
brought_of-requires-clause-others g c κs within =
    let now = c.args.self.now in
    let seen = c.self.inside.seen in
    let size : length c.deref.result.now.graph.commits ≡ length (store_of now.terms.origin now.history).commits =
    ap (λ n. length n.graph.commits) c.deref.ensures ∙ ap length c.self.invariant.nodes_are.parents ∙ length-graph (store_of seen.terms.origin seen.history).commits ∙ ap (λ v. length (store_of v.terms.origin v.history).commits) c.self.view_is in
    subst (λ l. All (λ n. n < length c.deref.result.now.graph.commits) l) (sym (c.deref-2.ensures.value ∙ c.in_ok-others.ensures)) (subst (λ k. All (λ n. n < k) now.others) (sym size) c.head-head.ensures.there)
