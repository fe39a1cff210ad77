-- What is brought, and of one alone whether it lies above.
use Rattle.std.proofs.Common.{◌≡◌, ◌-◌, ◌<◌, length, drop, get_or, ap, sym, ◌∙◌, subst, arith, IsTrue, IfOk, ◌∷◌}
use Rattle.std.specs.Prelude.{◌↔◌, List, ℕ}
use Rattle.std.proofs.lemmas.List.Elements.{All-get_or, All-take, All-drop}
use Rattle.branch_graph.specs.Graph.{reaches}
use Rattle.branch_history.specs.Commits.{graph_of}
use Rattle.branch_history.specs.History.{store_of}
use Rattle.branch_history.specs.Merging.{brought, AreApart}
use Rattle.store_seen.proofs.Apart.{rest_of, unequal, equal, told-other, told-one, told-several}
use Rattle.store_seen.proofs.Cores.{core-count}
use Rattle.store_seen.proofs.versions.Versions.are_apart.Goals as goal
use Rattle.store_seen.proofs.versions.Versions.are_apart.Goals.{in_default, in_default-2}

pub returns-then-ne : goal.returns-then-ne
returns-then-ne g c =
    let core = c.args.self.now.core in
    let graph = graph_of (store_of core.terms.origin core.history).commits in
    let kept = c.deref.result.now.graph.commits in
    let same : kept ≡ graph =
    ap (λ n. n.graph.commits) (c.deref.ensures ∙ c.in_ok-nodes.ensures) ∙ ap (λ a. a.commits) c.self.invariant.parents ∙ ap (λ v. graph_of (store_of v.core.terms.origin v.core.history).commits) c.self.view_is in
    let parents = c.args.parents.now in
    let found = c.as_slice.result.now in
    let is : found ≡ brought kept (get_or parents 0 0) (rest_of parents) = c.as_slice.ensures.value ∙ c.in_ok-brought_of.ensures in
    λ h ms e. told-other graph kept same parents found is h ms e (unequal found (rest_of parents) c.ne.result c.ne.ensures c.if-ne.true)

pub reaches-requires-clause-above : goal.reaches-requires-clause-above
reaches-requires-clause-above g c κs within =
    let laws = (g.met.T.Mrdt g.world.𝓛 g.world.𝓜 g.world.𝓡 ((λ s x. x), (λ x. x), (λ x. x), λ x. x)).laws in
    let m = g.T.Mrdt.meaning in
    let inside = c.self.inside in
    let core = c.args.self.now.core in
    let parents = c.args.parents.now in
    let commits = (store_of core.terms.origin core.history).commits in
    let size : length c.deref-in-len1.result.now.graph.commits ≡ length commits =
    ap (λ n. length n.graph.commits) (c.deref-in-len1.ensures ∙ c.in_ok-nodes.ensures) ∙ core-count m laws inside.terms inside.moves.items inside.heads inside.nodes.graph inside.clocks.items inside.nodes.values c.self.invariant ∙ ap (λ v. length (store_of v.core.terms.origin v.core.history).commits) c.self.view_is in
    let some : 0 < length (rest_of parents) = c.in-len1.len_at_least in
    subst (λ k. get_or (rest_of parents) 0 0 < k) (sym size)
    (All-get_or (λ n. n < length commits) (rest_of parents) 0 0 some (All-take (λ n. n < length commits) (length parents - 1) (drop 1 parents) (All-drop (λ n. n < length commits) 1 parents c.requires.there)))

pub reaches-requires-clause-below : goal.reaches-requires-clause-below
reaches-requires-clause-below g c κs within =
    let laws = (g.met.T.Mrdt g.world.𝓛 g.world.𝓜 g.world.𝓡 ((λ s x. x), (λ x. x), (λ x. x), λ x. x)).laws in
    let m = g.T.Mrdt.meaning in
    let inside = c.self.inside in
    let core = c.args.self.now.core in
    let parents = c.args.parents.now in
    let commits = (store_of core.terms.origin core.history).commits in
    let size : length c.deref-in-len1.result.now.graph.commits ≡ length commits =
    ap (λ n. length n.graph.commits) (c.deref-in-len1.ensures ∙ c.in_ok-nodes.ensures) ∙ core-count m laws inside.terms inside.moves.items inside.heads inside.nodes.graph inside.clocks.items inside.nodes.values c.self.invariant ∙ ap (λ v. length (store_of v.core.terms.origin v.core.history).commits) c.self.view_is in
    let several = c.requires.several in
    let some : 0 < length parents = omega (arith, several) in
    subst (λ k. get_or parents 0 0 < k) (sym size) (All-get_or (λ n. n < length commits) parents 0 0 some c.requires.there)

pub returns-in-len1 : goal.returns-in-len1
returns-in-len1 g c =
    let core = c.args.self.now.core in
    let graph = graph_of (store_of core.terms.origin core.history).commits in
    let kept = c.deref.result.now.graph.commits in
    let same : kept ≡ graph =
    ap (λ n. n.graph.commits) (c.deref.ensures ∙ c.in_ok-nodes.ensures) ∙ ap (λ a. a.commits) c.self.invariant.parents ∙ ap (λ v. graph_of (store_of v.core.terms.origin v.core.history).commits) c.self.view_is in
    let parents = c.args.parents.now in
    let found = c.as_slice.result.now in
    let is : found ≡ brought kept (get_or parents 0 0) (rest_of parents) = c.as_slice.ensures.value ∙ c.in_ok-brought_of.ensures in
    let all = equal found (rest_of parents) c.ne.result c.ne.ensures c.if-ne.false in
    let up = c.in_ok-reaches-in-len1.ensures ∙ ap (λ n. reaches n.graph.commits (get_or (rest_of parents) 0 0) (get_or parents 0 0)) (c.deref-in-len1.ensures ∙ sym c.deref.ensures) in
    λ h ms e. told-one graph kept same parents found is h ms e all c.in_ok-reaches-in-len1.field-0 c.in-len1.len_at_least c.in-len1.len_below up

pub returns : goal.returns
returns g c =
    let core = c.args.self.now.core in
    let graph = graph_of (store_of core.terms.origin core.history).commits in
    let kept = c.deref.result.now.graph.commits in
    let same : kept ≡ graph =
    ap (λ n. n.graph.commits) (c.deref.ensures ∙ c.in_ok-nodes.ensures) ∙ ap (λ a. a.commits) c.self.invariant.parents ∙ ap (λ v. graph_of (store_of v.core.terms.origin v.core.history).commits) c.self.view_is in
    let parents = c.args.parents.now in
    let found = c.as_slice.result.now in
    let is : found ≡ brought kept (get_or parents 0 0) (rest_of parents) = c.as_slice.ensures.value ∙ c.in_ok-brought_of.ensures in
    let all = equal found (rest_of parents) c.ne.result c.ne.ensures c.if-ne.false in
    elim c.if-others-lt1.branch [
      | in_default w ↦
          subst (λ r. IfOk r (λ are. (h : ℕ) (ms : List ℕ) → parents ≡ h ∷ ms → (IsTrue are ↔ AreApart graph h ms))) (sym w.result-is)
          (λ h ms e. told-several graph kept same parents found is h ms e all (λ one. let few = w.in_default.len_below in omega (arith, few, one)))
      | in_default-2 w ↦
          subst (λ r. IfOk r (λ are. (h : ℕ) (ms : List ℕ) → parents ≡ h ∷ ms → (IsTrue are ↔ AreApart graph h ms))) (sym w.result-is)
          (λ h ms e. told-several graph kept same parents found is h ms e all (λ one. let many = w.in_default.len_at_least in omega (arith, many, one)))
    ]
