-- The root commit alone, with what its layout keeps of the first value.
use Rattle.std.proofs.Common.{[], sym, subst}
use Rattle.recorded_history.specs.Keeps.{IsRecorded}
use Rattle.recorded_history.specs.Views.{recorded_of}
use Rattle.recorded_history.proofs.Fresh.{recorded-fresh}
use Rattle.recorded_history.proofs.recorded.Recorded.fresh.Goals as goal

pub invariant_of-result : goal.invariant_of-result
invariant_of-result g c =
    let meaning = g.T.Mrdt.meaning in
    let address = g.A.Address.address in
    let versions = c.in_ok-versions.versions in
    let objects = c.in_ok-objects in
    subst (λ s. IsRecorded meaning address (recorded_of c.of.result.value.core versions.core) s versions objects.objects) (sym c.new.ensures.items)
    (subst (λ v. IsRecorded meaning address (recorded_of v.core versions.core) [] versions objects.objects) (sym c.of.ensures)
    (recorded-fresh meaning address c.args.terms versions objects.objects objects.root c.in_ok-versions.ensures objects.ensures.stored objects.ensures.staged objects.ensures.root))
