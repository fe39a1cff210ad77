-- The nodes are those of the history.
use Rattle.std.proofs.Common.{◌≡◌, ◌<◌, ◌∷◌, length, ap, sym, ◌∙◌, subst, All}
use Rattle.std.proofs.lemmas.List.Elements.{All-cons}
use Rattle.branch_history.specs.Commits.{visible_at_all}
use Rattle.branch_history.specs.History.{store_of}
use Rattle.store_seen.proofs.Cores.{core-count, core-nodes}
use Rattle.store_seen.proofs.versions.Versions.value_at_all.Goals as goal

pub value_at_all-requires-after_bounds : goal.value_at_all-requires-after_bounds
value_at_all-requires-after_bounds g c κs within =
    let laws = (g.met.T.Mrdt g.world.𝓛 g.world.𝓜 g.world.𝓡 ((λ s x. x), (λ x. x), (λ x. x), λ x. x)).laws in
    let inside = c.self.inside in
    let core = c.args.self.now.core in
    let commits = (store_of core.terms.origin core.history).commits in
    let parents = c.args.head ∷ c.args.commits.now in
    let size : length inside.nodes.graph.commits ≡ length commits =
    core-count g.T.Mrdt.meaning laws inside.terms inside.moves.items inside.heads inside.nodes.graph inside.clocks.items inside.nodes.values c.self.invariant ∙ ap (λ v. length (store_of v.core.terms.origin v.core.history).commits) c.self.view_is in
    subst (λ l. All (λ n. n < length inside.nodes.graph.commits) l) (sym (c.deref.ensures.value ∙ c.in_ok-parents.ensures))
    (subst (λ k. All (λ n. n < k) parents) (sym size) (All-cons (λ n. n < length commits) c.args.head c.args.commits.now c.requires.head c.requires.commits))

pub returns-clause-value : goal.returns-clause-value
returns-clause-value g c =
    let laws = (g.met.T.Mrdt g.world.𝓛 g.world.𝓜 g.world.𝓡 ((λ s x. x), (λ x. x), (λ x. x), λ x. x)).laws in
    let m = g.T.Mrdt.meaning in
    let inside = c.self.inside in
    let are = core-nodes m laws inside.terms inside.moves.items inside.heads inside.nodes.graph inside.clocks.items inside.nodes.values c.self.invariant inside.nodes.addresses in
    let stands = c.in_ok-value.ensures.folded.stands inside.terms inside.moves.items c.self.invariant.valid are in
    rw (← c.self.view_is) (subst (λ l. m.stands c.in_ok-value.value (visible_at_all (store_of inside.terms.origin inside.moves.items).commits l)) (c.deref.ensures.value ∙ c.in_ok-parents.ensures) stands)
