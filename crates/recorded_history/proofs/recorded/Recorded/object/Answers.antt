-- Where no move is pending, the stored objects are those of the history.
use Rattle.std.proofs.Common.{◌≡◌, ◌∙◌, ap, subst}
use Rattle.std.specs.Option.{option_copied}
use Rattle.branch_wire.specs.StoredObjects.{first_with}
use Rattle.branch_machine.specs.Fixed.{fix}
use Rattle.branch_machine.specs.Objects.{objects_of}
use Rattle.recorded_history.proofs.Kept.{settled-whole}
use Rattle.recorded_history.proofs.recorded.Recorded.object.Goals as goal

pub returns : goal.returns
returns g c =
    let meaning = g.T.Mrdt.meaning in
    let address = g.A.Address.address in
    let self = c.self.inside in
    let none = ap (λ r. r.pending) c.self.view_is ∙ c.requires.settled in
    let whole = settled-whole meaning address self.settled.value.core self.versions self.objects self.stood.items c.self.invariant none in
    subst (λ r. option_copied c.get.result ≡ first_with address c.args.address.now (objects_of (fix meaning r.terms address) r.written)) c.self.view_is
    (c.get.ensures ∙ ap (first_with address c.args.address.now) whole)
