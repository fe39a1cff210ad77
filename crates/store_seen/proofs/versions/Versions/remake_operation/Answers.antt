-- What applying the operation on the value of the commit gives.
use Rattle.std.proofs.Common.{◌≡◌, ◌+◌, ◌<◌, length, ap, sym, ◌∙◌, subst}
use Rattle.std.specs.Arc.{arc_value}
use Rattle.branch_history.specs.Commits.{clock_of, visible}
use Rattle.branch_history.specs.History.{store_of}
use Rattle.store_seen.proofs.Arrived.{arrived-operation}
use Rattle.store_seen.proofs.Cores.{core-nodes}
use Rattle.store_seen.proofs.versions.Versions.remake_operation.Goals as goal

pub invariant_of-result : goal.invariant_of-result
invariant_of-result g c =
    let laws = (g.met.T.Mrdt g.world.𝓛 g.world.𝓜 g.world.𝓡 ((λ s x. x), (λ x. x), (λ x. x), λ x. x)).laws in
    let m = g.T.Mrdt.meaning in
    let inside = c.self.inside in
    let commits = (store_of inside.terms.origin inside.moves.items).commits in
    let parent = c.args.parent in
    let there : parent < length commits = subst (λ v. parent < length (store_of v.core.terms.origin v.core.history).commits) (sym c.self.view_is) c.requires in
    let timed : c.clock_of-clock.result ≡ clock_of commits parent = c.clock_of-clock.ensures.clock ∙ ap (λ v. clock_of (store_of v.core.terms.origin v.core.history).commits parent) (sym c.self.view_is) in
    let are = core-nodes m laws inside.terms inside.moves.items inside.heads inside.nodes.graph inside.clocks.items inside.nodes.values c.self.invariant inside.nodes.addresses in
    let stands = subst (λ v. m.stands v (visible commits parent)) (sym c.deref.ensures) (are.stand parent (arc_value c.in_ok-value.value) c.in_ok-value.ensures) in
    let made = c.in_ok-value-2.ensures in
    let small = c.ranges.origin.fits in
    rw c.of.ensures
    (record {
      valid = c.self.invariant.valid;
      is_step = (small, there, made.known.0);
      remade = (
        arrived-operation m laws inside.terms inside.moves.items c.self.invariant.valid c.args.origin parent c.args.op small there made.known.0 c.deref.result.now stands c.in_ok-value-2.value c.in_ok-value-2.reply (c.clock_of-clock.result + 1) (ap (λ k. k + 1) timed) made.known.1 made.applies,
        c.in_ok-spelled.ensures,
      );
    })
