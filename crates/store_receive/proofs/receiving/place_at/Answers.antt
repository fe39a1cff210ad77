-- The branch is placed as the core places it.
use Rattle.std.proofs.Common.{refl, sym, subst}
use Rattle.std.specs.Prelude.{Ok, Err}
use Rattle.branch_io.specs.Causes.{HasCauseOf}
use Rattle.branch_machine.specs.Fixed.{fix}
use Rattle.store_receive.specs.declared.answers.NotReceived.{NotReceived}
use Rattle.store_receive.specs.declared.answers.NotReceived.TheVariants as unreceived
use Rattle.store_receive.specs.declared.answers.Placed.{Placed}
use Rattle.store_receive.specs.Received.{IsNotPlaced}
use Rattle.store_receive.proofs.Places.{was-placed, was-refused, place-moments, placed-cause, refused-cause}
use Rattle.store_receive.proofs.receiving.place_at.Goals as goal

pub returns-in-Ok-clause-placed : goal.returns-in-Ok-clause-placed
returns-in-Ok-clause-placed g c =
    was-placed g.D.Disk g.T.Mrdt.meaning g.A.Address.address c.args.name c.args.head c.args.core.now c.place.new.self c.in-Ok.forked c.in-Ok.ensures.takes c.in-Ok.ensures.leaves _ refl refl

pub returns-in-Ok-clause-moments : goal.returns-in-Ok-clause-moments
returns-in-Ok-clause-moments g c =
    place-moments g.D.Disk g.T.Mrdt.meaning g.A.Address.address c.args.name c.args.head c.args.core.now c.place.new.self c.moves-moves.ensures.valid c.as_bytes-name.ensures.name c.requires.there
    (c.moves-moves.ensures.stands c.requires.working) g.met.D.Disk.only_now (Ok c.in-Ok.forked) c.requires.working c.in-Ok.ensures.takes c.in-Ok.ensures.leaves

pub returns-in-Ok-clause-cause : goal.returns-in-Ok-clause-cause
returns-in-Ok-clause-cause g c =
    placed-cause g.D.Disk g.T.Mrdt.meaning g.A.Address.address c.args.name c.args.head c.args.core.now c.place.new.self c.in-Ok.forked _ c.in-Ok.ensures.leaves

pub returns-in-Err-clause-refused : goal.returns-in-Err-clause-refused
returns-in-Err-clause-refused g c =
    let fixed = fix g.T.Mrdt.meaning c.args.core.now.terms g.A.Address.address in
    subst (λ (e : NotReceived). IsNotPlaced fixed c.args.name c.args.head c.args.core.now c.place.new.self e) (sym c.from.ensures)
    (was-refused g.D.Disk g.T.Mrdt.meaning g.A.Address.address c.args.name c.args.head c.args.core.now c.place.new.self c.in-Err.refused c.requires.working c.in-Err.ensures.takes c.in-Err.ensures.leaves)

pub returns-in-Err-clause-moments : goal.returns-in-Err-clause-moments
returns-in-Err-clause-moments g c =
    place-moments g.D.Disk g.T.Mrdt.meaning g.A.Address.address c.args.name c.args.head c.args.core.now c.place.new.self c.moves-moves.ensures.valid c.as_bytes-name.ensures.name c.requires.there
    (c.moves-moves.ensures.stands c.requires.working) g.met.D.Disk.only_now (Err c.in-Err.refused) c.requires.working c.in-Err.ensures.takes c.in-Err.ensures.leaves

pub returns-in-Err-clause-cause : goal.returns-in-Err-clause-cause
returns-in-Err-clause-cause g c =
    subst (λ (e : NotReceived). HasCauseOf {T = Placed} unreceived.DiskFault (g.D.Disk.faults c.args.core.now.disk) (g.D.Disk.faults c.place.new.self.disk) (Err e)) (sym c.from.ensures)
    (refused-cause g.D.Disk g.T.Mrdt.meaning g.A.Address.address c.args.name c.args.head c.args.core.now c.place.new.self c.in-Err.refused c.requires.working c.in-Err.ensures.leaves)
