-- A store is begun, its moves are made, and its disk is handed back.
use Rattle.std.proofs.Common.{◌≡◌, ◌∙◌, ap, sym, subst, refl, length}
use Rattle.std.specs.Prelude.{Ok, Err, Some, IfOk, IfErr, OnOk, Result}
use Rattle.std.specs.Option.{ForSome}
use Rattle.branch_io.specs.Causes.{HasCauseOf}
use Rattle.branch_disk.specs.Disk.{Files, LeavesOnly}
use Rattle.branch_disk.specs.Moments.{weakened}
use Rattle.branch_history.specs.History.{store_of}
use Rattle.branch_machine.specs.Fixed.{fix}
use Rattle.branch_renewal.specs.Laws.{RepeatsAll}
use Rattle.store_core.specs.Inits.{IsEmpty}
use Rattle.moves_again.specs.declared.answers.MakeRefused.{MakeRefused}
use Rattle.moves_again.specs.declared.answers.MakeRefused.TheVariants as make_refusal
use Rattle.moves_again.specs.declared.answers.MoveRefused.{MoveRefused}
use Rattle.moves_again.specs.declared.answers.MoveRefused.TheVariants as move_refusal
use Rattle.moves_again.specs.Again.{MakesAll, AllMade, StandsWithSome, MakeRefusedAs, NoneOrSome}
use Rattle.moves_again.proofs.Loops.{begun-working, begun-repeats, all-made, not-made, made-moments, none_or_some, by-result, cause-stopped, cause-unbegun, cause-goes-on, unbegun}
use Rattle.moves_again.proofs.again.make_again.Goals as goal

pub returns-in-Err-clause-refused : goal.returns-in-Err-clause-refused
returns-in-Err-clause-refused g c =
    let fixed = fix g.T.Mrdt.meaning c.args.terms g.A.Address.address in
    subst (λ (e : MakeRefused). MakeRefusedAs fixed c.args.moves (g.D.Disk.contents c.args.disk) (g.D.Disk.contents c.in-Err.disk) (g.D.Disk.may_leave c.in-Err.disk) e) (sym c.from.ensures)
    (unbegun fixed c.args.moves (g.D.Disk.contents c.args.disk) (g.D.Disk.contents c.in-Err.disk) (g.D.Disk.may_leave c.in-Err.disk) c.in-Err.refused c.in-Err.ensures.refused c.in-Err.ensures.same)

pub returns-in-Err-clause-moments_err : goal.returns-in-Err-clause-moments_err
returns-in-Err-clause-moments_err g c = λ empties.
    let d = g.D.Disk in let fixed = fix g.T.Mrdt.meaning c.args.terms g.A.Address.address in
    weakened d.moment d.left_since c.args.disk c.in-Err.disk _ (NoneOrSome fixed c.args.moves) (c.in-Err.ensures.any_moment_err empties) (none_or_some fixed c.args.moves)

pub returns-in-Err-clause-cause : goal.returns-in-Err-clause-cause
returns-in-Err-clause-cause g c =
    let before = g.D.Disk.faults c.args.disk in let now = g.D.Disk.faults c.in-Err.disk in
    subst (λ (e : MakeRefused). HasCauseOf {T = Unit {0}} make_refusal.DiskFault before now (Err e)) (sym c.from.ensures) (cause-unbegun before now c.in-Err.refused c.in-Err.ensures.cause)

pub same-moves : goal.same-moves
same-moves g c = refl

pub make_all-made-requires-clause-working : goal.make_all-made-requires-clause-working
make_all-made-requires-clause-working g c κs within =
    begun-working g.D.Disk g.T.Mrdt.meaning g.A.Address.address c.args.terms c.args.moves c.args.disk c.in-Ok.core c.in-Ok.core c.in-Ok.ensures.made

pub make_all-made-requires-clause-repeats : goal.make_all-made-requires-clause-repeats
make_all-made-requires-clause-repeats g c κs within =
    let core = c.in-Ok.core in
    subst (λ ms. RepeatsAll (fix g.T.Mrdt.meaning core.terms g.A.Address.address) core.history ms) (sym c.into_vec.ensures)
    (begun-repeats g.D.Disk g.T.Mrdt.meaning g.A.Address.address c.args.terms c.args.moves c.args.disk core core c.in-Ok.ensures.made c.requires.repeats)

pub returns-clause-made : goal.returns-clause-made
returns-clause-made g c =
    let d = g.D.Disk in let m = g.T.Mrdt.meaning in let address = g.A.Address.address in let old = c.in-Ok.core in let new = c.make_all-made.new.core in
    by-result (length (store_of new.terms.origin new.history).commits) (length new.history) new.disk c.make_all-made.result c.finish.result c.finish.ensures.ok c.finish.ensures.err
    (λ made r. MakesAll (fix m old.terms address) c.args.moves old new made → IfOk r (λ r. AllMade (fix m c.args.terms address) c.args.moves r.0 (d.may_leave r.1)))
    (λ has. all-made d m address c.args.terms c.args.moves c.args.disk old new c.in-Ok.ensures.made has c.finish.ensures.valid c.finish.ensures.stands)
    (λ e is. tt)
    (subst (λ ms. MakesAll (fix m old.terms address) ms old new c.make_all-made.result) c.into_vec.ensures c.make_all-made.ensures.made)

pub returns-clause-empty : goal.returns-clause-empty
returns-clause-empty g c =
    let new = c.make_all-made.new.core in
    by-result (length (store_of new.terms.origin new.history).commits) (length new.history) new.disk c.make_all-made.result c.finish.result c.finish.ensures.ok c.finish.ensures.err
    (λ made r. OnOk r (ForSome (g.D.Disk.contents c.args.disk) IsEmpty)) c.in-Ok.ensures.empty (λ e. tt)

pub returns-clause-refused : goal.returns-clause-refused
returns-clause-refused g c =
    let d = g.D.Disk in let m = g.T.Mrdt.meaning in let address = g.A.Address.address in let old = c.in-Ok.core in let new = c.make_all-made.new.core in
    by-result (length (store_of new.terms.origin new.history).commits) (length new.history) new.disk c.make_all-made.result c.finish.result c.finish.ensures.ok c.finish.ensures.err
    (λ made r. MakesAll (fix m old.terms address) c.args.moves old new made → IfErr r (λ e. MakeRefusedAs (fix m c.args.terms address) c.args.moves (d.contents c.args.disk) (d.contents e.1) (d.may_leave e.1) e.0))
    (λ has. tt)
    (λ e is. not-made d m address c.args.terms c.args.moves c.args.disk old new c.in-Ok.ensures.made c.in-Ok.ensures.empty c.finish.ensures.valid c.finish.ensures.stands e is)
    (subst (λ ms. MakesAll (fix m old.terms address) ms old new c.make_all-made.result) c.into_vec.ensures c.make_all-made.ensures.made)

pub returns-clause-moments : goal.returns-clause-moments
returns-clause-moments g c = λ empties.
    let d = g.D.Disk in let m = g.T.Mrdt.meaning in let address = g.A.Address.address in let old = c.in-Ok.core in let new = c.make_all-made.new.core in
    let some = subst (λ ms. LeavesOnly d.moment d.left_since old.disk new.disk (StandsWithSome (fix m old.terms address) old.history ms)) c.into_vec.ensures c.make_all-made.ensures.moments in
    let leaves = made-moments d m address c.args.terms c.args.moves c.args.disk old new c.in-Ok.ensures.made (c.in-Ok.ensures.any_moment empties) some in
    by-result (length (store_of new.terms.origin new.history).commits) (length new.history) new.disk c.make_all-made.result c.finish.result c.finish.ensures.ok c.finish.ensures.err
    (λ made r. IfOk r (λ r. LeavesOnly d.moment d.left_since c.args.disk r.1 (NoneOrSome (fix m c.args.terms address) c.args.moves))) leaves (λ e. tt)

pub returns-clause-moments_err : goal.returns-clause-moments_err
returns-clause-moments_err g c = λ empties.
    let d = g.D.Disk in let m = g.T.Mrdt.meaning in let address = g.A.Address.address in let old = c.in-Ok.core in let new = c.make_all-made.new.core in
    let some = subst (λ ms. LeavesOnly d.moment d.left_since old.disk new.disk (StandsWithSome (fix m old.terms address) old.history ms)) c.into_vec.ensures c.make_all-made.ensures.moments in
    let leaves = made-moments d m address c.args.terms c.args.moves c.args.disk old new c.in-Ok.ensures.made (c.in-Ok.ensures.any_moment empties) some in
    by-result (length (store_of new.terms.origin new.history).commits) (length new.history) new.disk c.make_all-made.result c.finish.result c.finish.ensures.ok c.finish.ensures.err
    (λ made r. IfErr r (λ e. LeavesOnly d.moment d.left_since c.args.disk e.1 (NoneOrSome (fix m c.args.terms address) c.args.moves))) tt (λ e. leaves)

pub returns-clause-no_cause : goal.returns-clause-no_cause
returns-clause-no_cause g c =
    let d = g.D.Disk in let new = c.make_all-made.new.core in
    by-result (length (store_of new.terms.origin new.history).commits) (length new.history) new.disk c.make_all-made.result c.finish.result c.finish.ensures.ok c.finish.ensures.err
    (λ made r. HasCauseOf move_refusal.DiskFault (d.faults c.in-Ok.core.disk) (d.faults new.disk) made → IfOk r (λ r. d.faults r.1 ≡ d.faults c.args.disk))
    (λ cause. cause.others (λ is. absurd (cc)) ∙ c.in-Ok.ensures.no_cause) (λ e cause. tt) c.make_all-made.ensures.cause

pub returns-clause-cause : goal.returns-clause-cause
returns-clause-cause g c =
    let d = g.D.Disk in let new = c.make_all-made.new.core in
    by-result (length (store_of new.terms.origin new.history).commits) (length new.history) new.disk c.make_all-made.result c.finish.result c.finish.ensures.ok c.finish.ensures.err
    (λ made r. HasCauseOf move_refusal.DiskFault (d.faults c.in-Ok.core.disk) (d.faults new.disk) made → IfErr r (λ e. HasCauseOf {T = Unit {0}} make_refusal.DiskFault (d.faults c.args.disk) (d.faults e.1) (Err e.0)))
    (λ cause. tt)
    (λ e cause. cause-goes-on _ _ _ _ c.in-Ok.ensures.no_cause (cause-stopped _ _ _ e cause)) c.make_all-made.ensures.cause

pub returns-in-Err-clause-kept : goal.returns-in-Err-clause-kept
returns-in-Err-clause-kept g c = c.in-Err.ensures.kept

pub returns-clause-kept : goal.returns-clause-kept
returns-clause-kept g c =
    let d = g.D.Disk in let new = c.make_all-made.new.core in
    by-result (length (store_of new.terms.origin new.history).commits) (length new.history) new.disk c.make_all-made.result c.finish.result c.finish.ensures.ok c.finish.ensures.err
    (λ made r. IfErr r (λ e. (f : Files) → d.contents c.args.disk ≡ Some f → ¬ IsEmpty f → LeavesOnly d.moment d.left_since c.args.disk e.1 (d.may_leave c.args.disk)))
    tt (λ e. λ f told some. absurd (some (c.in-Ok.ensures.empty f told)))
