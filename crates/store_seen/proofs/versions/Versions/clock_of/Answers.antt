-- The clock that is kept of the commit.
use Rattle.std.proofs.Common.{◌≡◌, ◌<◌, ◌≤◌, ℕ, length, Some, ap, sym, ◌∙◌, subst, arith}
use Rattle.std.proofs.lemmas.Option.{slice_get-get_or}
use Rattle.branch_history.specs.Commits.{clock_of}
use Rattle.branch_history.specs.History.{store_of}
use Rattle.store_seen.proofs.Cores.{clock-at}
use Rattle.store_seen.proofs.Times.{low-clocks}
use Rattle.store_seen.proofs.versions.Versions.clock_of.Goals as goal

pub returns-clause-clock : goal.returns-clause-clock
returns-clause-clock g c =
    let laws = (g.met.T.Mrdt g.world.𝓛 g.world.𝓜 g.world.𝓡 ((λ s x. x), (λ x. x), (λ x. x), λ x. x)).laws in
    let n = c.args.number in
    let clock = c.index.result.now in
    let there : n < length (store_of c.self.inside.terms.origin c.self.inside.moves.items).commits = subst (λ v. n < length (store_of v.core.terms.origin v.core.history).commits) (sym c.self.view_is) c.requires in
    let counted = c.self.invariant.count in
    let lt : n < length c.self.inside.clocks.items = omega arith in
    subst (λ v. clock ≡ clock_of (store_of v.core.terms.origin v.core.history).commits n) c.self.view_is
    (clock-at g.T.Mrdt.meaning laws c.self.inside.terms c.self.inside.moves.items c.self.inside.heads c.self.inside.nodes.graph c.self.inside.clocks.items c.self.inside.nodes.values c.self.invariant n clock there (slice_get-get_or c.self.inside.clocks.items n clock lt ∙ ap Some (sym c.index.ensures)))

pub returns-clause-low : goal.returns-clause-low
returns-clause-low g c =
    let laws = (g.met.T.Mrdt g.world.𝓛 g.world.𝓜 g.world.𝓡 ((λ s x. x), (λ x. x), (λ x. x), λ x. x)).laws in
    let n = c.args.number in
    let clock = c.index.result.now in
    let inside = c.self.inside in
    let there : n < length (store_of inside.terms.origin inside.moves.items).commits = subst (λ v. n < length (store_of v.core.terms.origin v.core.history).commits) (sym c.self.view_is) c.requires in
    let counted = c.self.invariant.count in
    let lt : n < length inside.clocks.items = omega arith in
    let timed = clock-at g.T.Mrdt.meaning laws inside.terms inside.moves.items inside.heads inside.nodes.graph inside.clocks.items inside.nodes.values c.self.invariant n clock there (slice_get-get_or inside.clocks.items n clock lt ∙ ap Some (sym c.index.ensures)) in
    subst (λ (k : ℕ). k ≤ n) (sym timed) (low-clocks g.T.Mrdt.meaning laws inside.terms inside.moves.items c.self.invariant.valid n)
