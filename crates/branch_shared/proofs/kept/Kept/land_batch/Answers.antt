-- All jobs that were taken are landed, in place.
use Rattle.std.proofs.Common.{◌≡◌, ◌≤◌, ◌++◌, length, drop, ap, sym, subst, ◌∙◌, arith, length-take}
use Rattle.std.proofs.lemmas.List.{take_at}
use Rattle.std.specs.List.{AllByRecursion}
use Rattle.branch_machine.specs.Fixed.{fix}
use Rattle.branch_shared.specs.Batches.{TakenView, Serves, pass_of}
use Rattle.branch_shared.proofs.kept.Kept.land_batch.Goals as goal

pub land_all-requires-clause-passes : goal.land_all-requires-clause-passes
land_all-requires-clause-passes g c κs within =
    subst (AllByRecursion (λ (taken : TakenView _ _). taken.given.pass ≡ pass_of g.N.Named.begun taken.job.pass)) (sym c.deref_mut.ensures.value) c.open_each.ensures.passes

pub finish_each-requires-clause-few : goal.finish_each-requires-clause-few
finish_each-requires-clause-few g c κs within =
    let taken = c.open_each.new.taken in
    let all = c.land_all.new.all ++ drop (length c.land_all.new.all) taken.items in
    let whole : length taken.items ≡ taken.len = sym (ap (λ l. length l) c.deref_mut.ensures.value) ∙ c.deref_mut.ensures.len in
    let few : length taken.items ≤ 64 = c.open_each.ensures.few in
    omega (arith, length-take taken.len all)

pub finish_each-requires-clause-serves : goal.finish_each-requires-clause-serves
finish_each-requires-clause-serves g c κs within =
    let taken = c.open_each.new.taken in
    let keeps : length c.land_all.new.all ≡ taken.len = c.land_all.auto.all ∙ c.deref_mut.ensures.len in
    let same = take_at c.land_all.new.all (drop (length c.land_all.new.all) taken.items) taken.len keeps in
    subst (AllByRecursion (λ (taken : TakenView _ _). Serves (fix g.T.Mrdt.meaning g.N.Named.terms g.A.Address.address) g.N.Named.opened g.N.Named.begun taken.job taken.given)) (sym same) c.land_all.ensures
