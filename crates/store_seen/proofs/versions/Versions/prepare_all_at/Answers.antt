-- What is brought are commits of the history; one is merged as a pair is.
use Rattle.std.proofs.Common.{◌<◌, length, get_or, All, sym, ◌∙◌, subst, arith, IfOk, IfErr}
use Rattle.branch_history.specs.History.{store_of}
use Rattle.branch_history.specs.Steps as machine
use Rattle.store_seen.specs.Groups.{brought_by, pair_in, MergesAllAs, IsStepOfAll, MergeAllRefusedAs}
use Rattle.store_seen.specs.Pairs.{IsStepOf, MergeRefusedAs}
use Rattle.store_seen.proofs.Groups.{same-from_on, single, one-there, one-step, one-refused, brought-all_there}
use Rattle.store_seen.proofs.versions.Versions.prepare_all_at.Goals as goal

pub returns-in-empty-clause-step : goal.returns-in-empty-clause-step
returns-in-empty-clause-step g c =
    let laws = (g.met.T.Mrdt g.world.𝓛 g.world.𝓜 g.world.𝓡 ((λ s x. x), (λ x. x), (λ x. x), λ x. x)).laws in
    let m = g.T.Mrdt.meaning in
    let none : length c.as_slice.result.now < 1 = omega arith in
    subst (λ v. MergesAllAs m v machine.Same) c.in_ok-group.ensures (same-from_on m laws c.in_ok-group.group c.brought.ensures.seen c.brought.ensures.there c.as_slice.result.now (c.as_slice.ensures.value ∙ c.in_ok-brought.ensures.brought) none)

pub prepare_at-requires-clause-there : goal.prepare_at-requires-clause-there
prepare_at-requires-clause-there g c κs within =
    let laws = (g.met.T.Mrdt g.world.𝓛 g.world.𝓜 g.world.𝓡 ((λ s x. x), (λ x. x), (λ x. x), λ x. x)).laws in
    let group = c.in_ok-group.group in
    let ms = c.as_slice.result.now in
    let one = get_or ms 0 0 in
    let is_one = sym (c.as_slice.ensures.value ∙ c.in_ok-brought.ensures.brought) ∙ single ms c.in-len1.len_at_least c.in-len1.len_below in
    subst (λ v. one < length (store_of v.terms.origin v.history).commits) c.in_ok-group.ensures (one-there g.T.Mrdt.meaning laws group c.brought.ensures.seen c.brought.ensures.there one is_one)

pub returns-in-len1-clause-step : goal.returns-in-len1-clause-step
returns-in-len1-clause-step g c =
    let laws = (g.met.T.Mrdt g.world.𝓛 g.world.𝓜 g.world.𝓡 ((λ s x. x), (λ x. x), (λ x. x), λ x. x)).laws in
    let m = g.T.Mrdt.meaning in
    let group = c.in_ok-group.group in
    let ms = c.as_slice.result.now in
    let one = get_or ms 0 0 in
    let is_one = sym (c.as_slice.ensures.value ∙ c.in_ok-brought.ensures.brought) ∙ single ms c.in-len1.len_at_least c.in-len1.len_below in
    let r = c.prepare_at.result in
    subst (λ v. IfOk r (IsStepOfAll m v)) c.in_ok-group.ensures
    (one-step m laws group c.brought.ensures.seen c.brought.ensures.there one is_one r (subst (λ v. IfOk r (IsStepOf m (pair_in v one))) (sym c.in_ok-group.ensures) c.prepare_at.ensures.step))

pub returns-in-len1-clause-refused : goal.returns-in-len1-clause-refused
returns-in-len1-clause-refused g c =
    let laws = (g.met.T.Mrdt g.world.𝓛 g.world.𝓜 g.world.𝓡 ((λ s x. x), (λ x. x), (λ x. x), λ x. x)).laws in
    let m = g.T.Mrdt.meaning in
    let group = c.in_ok-group.group in
    let ms = c.as_slice.result.now in
    let one = get_or ms 0 0 in
    let is_one = sym (c.as_slice.ensures.value ∙ c.in_ok-brought.ensures.brought) ∙ single ms c.in-len1.len_at_least c.in-len1.len_below in
    let r = c.prepare_at.result in
    subst (λ v. IfErr r (MergeAllRefusedAs m v)) c.in_ok-group.ensures
    (one-refused m laws group c.brought.ensures.seen c.brought.ensures.there one is_one r (subst (λ v. IfErr r (MergeRefusedAs m (pair_in v one))) (sym c.in_ok-group.ensures) c.prepare_at.ensures.refused))

pub value_at_all-requires-clause-commits : goal.value_at_all-requires-clause-commits
value_at_all-requires-clause-commits g c κs within =
    let laws = (g.met.T.Mrdt g.world.𝓛 g.world.𝓜 g.world.𝓡 ((λ s x. x), (λ x. x), (λ x. x), λ x. x)).laws in
    let group = c.in_ok-group.group in
    let core = c.args.self.now.core in
    subst (λ l. All (λ n. n < length (store_of core.terms.origin core.history).commits) l) (sym (c.deref.ensures.value ∙ c.in_ok-brought.ensures.brought))
    (subst (λ v. All (λ n. n < length (store_of v.terms.origin v.history).commits) (brought_by group)) c.in_ok-group.ensures (brought-all_there g.T.Mrdt.meaning laws group c.brought.ensures.seen c.brought.ensures.there))
