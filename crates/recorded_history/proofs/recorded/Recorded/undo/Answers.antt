-- What was settled last is there again.
use Rattle.std.proofs.Common.{sym, subst}
use Rattle.recorded_history.specs.Keeps.{IsRecorded}
use Rattle.recorded_history.specs.Views.{recorded_of}
use Rattle.recorded_history.proofs.Kept.{recorded-back}
use Rattle.recorded_history.proofs.recorded.Recorded.undo.Goals as goal

pub invariant_of-self : goal.invariant_of-self
invariant_of-self g c =
    let meaning = g.T.Mrdt.meaning in
    let address = g.A.Address.address in
    let self = c.self.inside in
    let settled = self.settled.value.core in
    let kept = recorded-back meaning address settled self.versions c.take_back.new.versions self.objects c.drop_staged.new.self self.stood.items c.self.invariant c.take_back.ensures.back c.drop_staged.ensures.stored c.drop_staged.ensures.staged in
    subst (λ s. IsRecorded meaning address (recorded_of settled c.take_back.new.versions.core) s c.take_back.new.versions c.drop_staged.new.self) (sym c.take_back.ensures.none) kept
