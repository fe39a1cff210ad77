-- The look of before, and a commit of now.
use Rattle.std.proofs.Common.{◌≡◌, ◌<◌, length, ap, sym, ◌∙◌, subst, arith, Some}
use Rattle.std.proofs.lemmas.Option.{slice_get-get_or}
use Rattle.branch_history.specs.Commits.{clock_of}
use Rattle.branch_history.specs.History.{store_of}
use Rattle.virtual_base.specs.Nodes.{AreNodesOf}
use Rattle.store_seen.proofs.Cores.{clock-at, core-nodes}
use Rattle.store_seen.proofs.versions.Versions.pair_at.Goals as goal

pub index-requires : goal.index-requires
index-requires g c =
    let there : c.args.other < length (store_of c.self.inside.terms.origin c.self.inside.moves.items).commits = subst (λ v. c.args.other < length (store_of v.core.terms.origin v.core.history).commits) (sym c.self.view_is) c.requires.there in
    let counted = c.self.invariant.count in
    omega arith

pub invariant_of-result : goal.invariant_of-result
invariant_of-result g c =
    let laws = (g.met.T.Mrdt g.world.𝓛 g.world.𝓜 g.world.𝓡 ((λ s x. x), (λ x. x), (λ x. x), λ x. x)).laws in
    let m = g.T.Mrdt.meaning in
    let other = c.args.other in
    let clock = c.index.result.now in
    let there : other < length (store_of c.self.inside.terms.origin c.self.inside.moves.items).commits = subst (λ v. other < length (store_of v.core.terms.origin v.core.history).commits) (sym c.self.view_is) c.requires.there in
    let counted = c.self.invariant.count in
    let lt : other < length c.self.inside.clocks.items = omega arith in
    let timed = clock-at g.T.Mrdt.meaning laws c.self.inside.terms c.self.inside.moves.items c.self.inside.heads c.self.inside.nodes.graph c.self.inside.clocks.items c.self.inside.nodes.values c.self.invariant other clock there (slice_get-get_or c.self.inside.clocks.items other clock lt ∙ ap Some (sym c.index.ensures)) in
    let are = core-nodes g.T.Mrdt.meaning laws c.self.inside.terms c.self.inside.moves.items c.self.inside.heads c.self.inside.nodes.graph c.self.inside.clocks.items c.self.inside.nodes.values c.self.invariant c.self.inside.nodes.addresses in
    rw c.in_ok-seen.ensures (record {
      there = c.requires.there;
      timed = subst (λ v. clock ≡ clock_of (store_of v.core.terms.origin v.core.history).commits other) c.self.view_is timed;
      nodes_are = subst (λ n. AreNodesOf m (store_of c.args.self.now.core.terms.origin c.args.self.now.core.history).commits n) (sym c.in_ok-share.ensures) (subst (λ v. AreNodesOf m (store_of v.core.terms.origin v.core.history).commits c.self.inside.nodes) c.self.view_is are);
      base_is = tt;
    })
