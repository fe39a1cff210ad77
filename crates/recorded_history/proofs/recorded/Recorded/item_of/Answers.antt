-- The first objects, or those that the index finds.
use Rattle.std.proofs.Common.{◌≡◌, ◌++◌, arith, subst, None, slice_get}
use Rattle.branch_history.specs.History.{store_of}
use Rattle.branch_machine.specs.Fixed.{fix}
use Rattle.branch_machine.specs.Objects.{pairs_of}
use Rattle.recorded_history.specs.Items.{lent_item}
use Rattle.recorded_history.proofs.Found.{GivesFirst, item-past, item-first, item-behind}
use Rattle.recorded_history.proofs.Kept.{laid-out}
use Rattle.recorded_history.proofs.recorded.Recorded.item_of.Goals as goal

pub returns-then-commit-commits : goal.returns-then-commit-commits
returns-then-commit-commits g c =
    let meaning = g.T.Mrdt.meaning in
    let address = g.A.Address.address in
    let laws = (g.met.T.Mrdt g.world.𝓛 g.world.𝓜 g.world.𝓡 ((λ s x. x), (λ x. x), (λ x. x), λ x. x)).laws in
    let self = c.self.inside in
    let laid = laid-out meaning address self.settled.value.core self.versions self.objects self.stood.items c.self.invariant in
    let count = c.commits.ensures.count in
    let past = c.if-commit-commits.true in
    subst (λ r. None ≡ slice_get (pairs_of (fix meaning r.terms address) (store_of r.terms.origin (r.written ++ r.pending)).commits) c.args.commit) c.self.view_is
    (subst (λ k. None ≡ slice_get (pairs_of (fix meaning k.terms address) (store_of k.terms.origin k.history).commits) c.args.commit) c.self.invariant.moves
    (item-past meaning laws address g.met.A.Address.size self.versions self.objects laid c.args.commit (omega (arith, count, past))))

pub returns-in-0 : goal.returns-in-0
returns-in-0 g c =
    let meaning = g.T.Mrdt.meaning in
    let address = g.A.Address.address in
    let laws = (g.met.T.Mrdt g.world.𝓛 g.world.𝓜 g.world.𝓡 ((λ s x. x), (λ x. x), (λ x. x), λ x. x)).laws in
    let self = c.self.inside in
    let laid = laid-out meaning address self.settled.value.core self.versions self.objects self.stood.items c.self.invariant in
    let count = c.commits.ensures.count in
    let less = c.if-commit-commits.false in
    subst (λ r. lent_item c.first_item.result ≡ slice_get (pairs_of (fix meaning r.terms address) (store_of r.terms.origin (r.written ++ r.pending)).commits) c.args.commit) c.self.view_is
    (subst (λ k. lent_item c.first_item.result ≡ slice_get (pairs_of (fix meaning k.terms address) (store_of k.terms.origin k.history).commits) c.args.commit) c.self.invariant.moves
    (item-first meaning laws address g.met.A.Address.size self.versions self.objects laid (lent_item c.first_item.result) c.args.commit c.in-0.is (omega (arith, count, less)) (subst (λ t. GivesFirst (lent_item c.first_item.result) t.layout self.objects) c.terms.ensures c.first_item.ensures)))

pub returns-in_default : goal.returns-in_default
returns-in_default g c =
    let meaning = g.T.Mrdt.meaning in
    let address = g.A.Address.address in
    let laws = (g.met.T.Mrdt g.world.𝓛 g.world.𝓜 g.world.𝓡 ((λ s x. x), (λ x. x), (λ x. x), λ x. x)).laws in
    let self = c.self.inside in
    let laid = laid-out meaning address self.settled.value.core self.versions self.objects self.stood.items c.self.invariant in
    let count = c.commits.ensures.count in
    let less = c.if-commit-commits.false in
    let some = c.in_default in
    subst (λ r. lent_item c.item_at.result ≡ slice_get (pairs_of (fix meaning r.terms address) (store_of r.terms.origin (r.written ++ r.pending)).commits) c.args.commit) c.self.view_is
    (subst (λ k. lent_item c.item_at.result ≡ slice_get (pairs_of (fix meaning k.terms address) (store_of k.terms.origin k.history).commits) c.args.commit) c.self.invariant.moves
    (item-behind meaning laws address g.met.A.Address.size self.versions self.objects laid (lent_item c.item_at.result) c.args.commit c.address.result.now (omega (arith, some)) (omega (arith, count, less)) c.address.ensures.address c.item_at.ensures))
