-- The parents are apart, and the value is that of all of them.
use Rattle.std.proofs.Common.{◌≡◌, ap, sym, ◌∙◌, subst}
use Rattle.branch_history.specs.Commits.{greatest_clock, visible_at_all}
use Rattle.branch_history.specs.History.{store_of}
use Rattle.branch_history.specs.Validity.{IsStep}
use Rattle.store_seen.specs.Arrivals.{receive_merge}
use Rattle.store_seen.proofs.Apart.{receive-step}
use Rattle.store_seen.proofs.versions.Versions.remake_merge.Goals as goal

pub returns-clause-step : goal.returns-clause-step
returns-clause-step g c =
    let core = c.args.self.now.core in
    receive-step g.T.Mrdt.meaning (store_of core.terms.origin core.history) c.args.origin c.ranges.origin.fits c.args.parents.now c.requires.there c.requires.several c.requires.few c.in_ok-are_apart.field-0 c.if-not-branch.false (λ h ms e. (c.in_ok-are_apart.ensures h ms e).0)

pub invariant_of-result : goal.invariant_of-result
invariant_of-result g c =
    let m = g.T.Mrdt.meaning in
    let inside = c.self.inside in
    let parents = c.args.parents.now in
    let commits = (store_of inside.terms.origin inside.moves.items).commits in
    let same = c.self.view_is ∙ c.in_ok-value.ensures.same in
    let timed : c.greatest_clock.result ≡ greatest_clock commits parents = c.greatest_clock.ensures ∙ ap (λ v. greatest_clock (store_of v.core.terms.origin v.core.history).commits parents) (sym c.self.view_is) in
    let stands = subst (λ v. m.stands c.in_ok-value.value (visible_at_all (store_of v.core.terms.origin v.core.history).commits parents)) (sym same) c.in_ok-value.ensures.value in
    let is_step = subst (λ v. IsStep m (store_of v.core.terms.origin v.core.history) (receive_merge c.args.origin parents)) (sym same) (returns-clause-step g c) in
    rw (c.of.ensures, c.in_ok-listing_of.ensures)
    (record {
      valid = c.self.invariant.valid;
      is_step = is_step;
      remade = (record { timed = timed; stands = stands }, c.in_ok-spelled.ensures);
    })
