-- The items are taken as the core takes them.
use Rattle.std.proofs.Common.{ℕ, sym, subst}
use Rattle.std.specs.Prelude.{◌⊎◌, Ok, Err}
use Rattle.std.proofs.Common.{inl, inr}
use Rattle.branch_io.specs.Causes.{HasCauseOf}
use Rattle.branch_machine.specs.Fixed.{fix}
use Rattle.store_receive.specs.declared.answers.NotReceived.{NotReceived}
use Rattle.store_receive.specs.declared.answers.NotReceived.TheVariants as unreceived
use Rattle.store_receive.specs.Received.{MakesNothing, StopsIn}
use Rattle.store_receive.proofs.Items.{batch-taken, batch-stops, batch-nothing, batch-moments, took-cause, stop-cause, nothing-cause}
use Rattle.store_receive.proofs.receiving.receive_batch.Goals as goal

pub returns-in-None-clause-taken : goal.returns-in-None-clause-taken
returns-in-None-clause-taken g c =
    batch-taken g.D.Disk g.T.Mrdt.meaning g.A.Address.address c.args.items.now c.args.core.now c.receive_all.new.self c.in-Ok.all c.in-Ok.ensures.takes c.in-None.is

pub returns-in-None-clause-moments : goal.returns-in-None-clause-moments
returns-in-None-clause-moments g c =
    batch-moments g.D.Disk g.T.Mrdt.meaning g.A.Address.address c.args.items.now c.args.core.now c.receive_all.new.self c.moves-moves.ensures.valid (Ok c.in-Ok.all) c.requires.working c.in-Ok.ensures.takes

pub returns-in-None-clause-cause : goal.returns-in-None-clause-cause
returns-in-None-clause-cause g c =
    took-cause g.D.Disk g.T.Mrdt.meaning g.A.Address.address c.args.items.now c.args.core.now c.receive_all.new.self c.in-Ok.all _ c.in-Ok.ensures.takes

pub returns-in-Ok-clause-refused : goal.returns-in-Ok-clause-refused
returns-in-Ok-clause-refused g c =
    let old = c.args.core.now in
    let new = c.receive_all.new.self in
    let items = c.args.items.now in
    let fixed = fix g.T.Mrdt.meaning old.terms g.A.Address.address in
    subst (λ (e : NotReceived). StopsIn fixed items old new e ⊎ MakesNothing old new e) (sym c.from.ensures)
    (inl (batch-stops g.D.Disk g.T.Mrdt.meaning g.A.Address.address items old new c.in-Ok.all c.in-Some.refused c.in-Ok.ensures.takes c.in-Some.is c.in-Ok.ensures.names))

pub returns-in-Ok-clause-moments : goal.returns-in-Ok-clause-moments
returns-in-Ok-clause-moments g c =
    batch-moments g.D.Disk g.T.Mrdt.meaning g.A.Address.address c.args.items.now c.args.core.now c.receive_all.new.self c.moves-moves.ensures.valid (Ok c.in-Ok.all) c.requires.working c.in-Ok.ensures.takes

pub returns-in-Ok-clause-cause : goal.returns-in-Ok-clause-cause
returns-in-Ok-clause-cause g c =
    let old = c.args.core.now in
    let new = c.receive_all.new.self in
    subst (λ (e : NotReceived). HasCauseOf {T = ℕ} unreceived.DiskFault (g.D.Disk.faults old.disk) (g.D.Disk.faults new.disk) (Err e)) (sym c.from.ensures)
    (stop-cause g.D.Disk g.T.Mrdt.meaning g.A.Address.address c.args.items.now old new c.in-Ok.all c.in-Some.refused c.in-Ok.ensures.takes c.in-Some.is)

pub returns-clause-refused : goal.returns-clause-refused
returns-clause-refused g c =
    let old = c.args.core.now in
    let new = c.receive_all.new.self in
    let items = c.args.items.now in
    let fixed = fix g.T.Mrdt.meaning old.terms g.A.Address.address in
    subst (λ (e : NotReceived). StopsIn fixed items old new e ⊎ MakesNothing old new e) (sym c.from-in-Err.ensures)
    (inr (batch-nothing g.D.Disk g.T.Mrdt.meaning g.A.Address.address items old new c.in-Err.refused c.requires.working c.in-Err.ensures.takes))

pub returns-clause-moments : goal.returns-clause-moments
returns-clause-moments g c =
    batch-moments g.D.Disk g.T.Mrdt.meaning g.A.Address.address c.args.items.now c.args.core.now c.receive_all.new.self c.moves-moves.ensures.valid (Err c.in-Err.refused) c.requires.working c.in-Err.ensures.takes

pub returns-clause-cause : goal.returns-clause-cause
returns-clause-cause g c =
    let old = c.args.core.now in
    let new = c.receive_all.new.self in
    subst (λ (e : NotReceived). HasCauseOf {T = ℕ} unreceived.DiskFault (g.D.Disk.faults old.disk) (g.D.Disk.faults new.disk) (Err e)) (sym c.from-in-Err.ensures)
    (nothing-cause g.D.Disk g.T.Mrdt.meaning g.A.Address.address c.args.items.now old new c.in-Err.refused c.requires.working c.in-Err.ensures.takes)
