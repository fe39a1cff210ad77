-- What was prepared lands as the core lands it.
use Rattle.std.proofs.Common.{◌≡◌, refl, sym, subst}
use Rattle.std.specs.Prelude.{Ok, Err}
use Rattle.branch_io.specs.Causes.{HasCauseOf}
use Rattle.branch_machine.specs.Fixed.{fix}
use Rattle.store_core.specs.declared.answers.LandRefused.TheVariants as land_refusal
use Rattle.store_core.specs.Turns.{step_made}
use Rattle.moves_again.specs.declared.answers.MoveRefused.{MoveRefused}
use Rattle.moves_again.specs.declared.answers.MoveRefused.TheVariants as move_refusal
use Rattle.moves_again.specs.Again.{MakesOne}
use Rattle.moves_again.proofs.Made.{whole, one-made, not_landed, leaves-so, cause-landing, cause-through}
use Rattle.moves_again.proofs.again.land_again.Goals as goal

pub land-requires-clause-history : goal.land-requires-clause-history
land-requires-clause-history g c κs within = whole _ _ c.requires.history

pub land-requires-clause-terms : goal.land-requires-clause-terms
land-requires-clause-terms g c κs within = c.requires.terms

pub returns-in-Ok-clause-made : goal.returns-in-Ok-clause-made
returns-in-Ok-clause-made g c = λ made by.
    one-made (fix g.T.Mrdt.meaning c.args.core.now.terms g.A.Address.address) c.args.core.now c.land.new.self (step_made c.args.prepared) made by _ _ _ c.in-Ok.ensures.landed

pub returns-in-Ok-clause-moments : goal.returns-in-Ok-clause-moments
returns-in-Ok-clause-moments g c =
    leaves-so g.D.Disk (fix g.T.Mrdt.meaning c.args.core.now.terms g.A.Address.address) c.args.core.now (step_made c.args.prepared) c.land.new.self (step_made c.args.prepared) refl c.requires.working c.in-Ok.ensures.any_moment

pub returns-in-Ok-clause-cause : goal.returns-in-Ok-clause-cause
returns-in-Ok-clause-cause g c = cause-through land_refusal.DiskFault _ _ _ tt c.in-Ok.ensures.cause

pub returns-clause-made : goal.returns-clause-made
returns-clause-made g c = λ made by.
    let fixed = fix g.T.Mrdt.meaning c.args.core.now.terms g.A.Address.address in
    subst (λ (e : MoveRefused). MakesOne fixed made c.args.core.now c.land.new.self (Err e)) (sym c.from.ensures)
    (not_landed fixed c.args.core.now c.land.new.self (step_made c.args.prepared) made by c.args.prepared refl c.requires.working c.in-Err.refused c.in-Err.ensures.refused c.in-Err.ensures.kept)

pub returns-clause-moments : goal.returns-clause-moments
returns-clause-moments g c =
    leaves-so g.D.Disk (fix g.T.Mrdt.meaning c.args.core.now.terms g.A.Address.address) c.args.core.now (step_made c.args.prepared) c.land.new.self (step_made c.args.prepared) refl c.requires.working c.in-Err.ensures.any_moment

pub returns-clause-cause : goal.returns-clause-cause
returns-clause-cause g c =
    let before = g.D.Disk.faults c.args.core.now.disk in let now = g.D.Disk.faults c.land.new.self.disk in
    subst (λ (e : MoveRefused). HasCauseOf {T = Unit {0}} move_refusal.DiskFault before now (Err e)) (sym c.from.ensures)
    (cause-landing (fix g.T.Mrdt.meaning c.args.core.now.terms g.A.Address.address) c.args.core.now c.requires.working before now c.args.prepared c.in-Err.refused c.in-Err.ensures.refused c.in-Err.ensures.cause)
