-- A merge that was prepared on the newest head lands there.
use Rattle.std.proofs.Common.{◌≡◌, ◌∙◌, ◌∷◌, [], refl, ap, sym, subst}
use Rattle.branch_names.specs.Heads.{head_of}
use Rattle.branch_history.specs.History.{store_of}
use Rattle.branch_history.specs.Steps as machine
use Rattle.branch_machine.specs.Fixed.{fix}
use Rattle.branch_renewal.specs.Laws.{RepeatsBy}
use Rattle.moves_again.proofs.Made.{leaves-none, cause-none}
use Rattle.moves_again.proofs.again.merge_again.Goals as goal

pub land_again-requires-clause-history : goal.land_again-requires-clause-history
land_again-requires-clause-history g c κs within = ap (λ s. s.history) c.in-Ok.ensures.prepared.0

pub land_again-requires-clause-terms : goal.land_again-requires-clause-terms
land_again-requires-clause-terms g c κs within = ap (λ s. s.terms) c.in-Ok.ensures.prepared.0

pub land_again-requires-clause-repeats : goal.land_again-requires-clause-repeats
land_again-requires-clause-repeats g c κs within =
    let old = c.args.core.now in let fixed = fix g.T.Mrdt.meaning old.terms g.A.Address.address in
    (c.requires.repeats.0, subst (λ k. RepeatsBy fixed old.history c.requires.repeats.0 k) (sym c.in-Ok.ensures.prepared.1) c.requires.repeats.1)

pub returns-in-Ok-clause-made : goal.returns-in-Ok-clause-made
returns-in-Ok-clause-made g c = λ made by.
    let old = c.args.core.now in let fixed = fix g.T.Mrdt.meaning old.terms g.A.Address.address in
    c.land_again.ensures.made made (subst (λ k. RepeatsBy fixed old.history made k) (sym c.in-Ok.ensures.prepared.1) by)

pub returns-in-Ok-clause-moments : goal.returns-in-Ok-clause-moments
returns-in-Ok-clause-moments g c = λ made by.
    let old = c.args.core.now in let fixed = fix g.T.Mrdt.meaning old.terms g.A.Address.address in
    c.land_again.ensures.moments made (subst (λ k. RepeatsBy fixed old.history made k) (sym c.in-Ok.ensures.prepared.1) by)

pub returns-in-Err-clause-made : goal.returns-in-Err-clause-made
returns-in-Err-clause-made g c = c.in-Err.ensures.refused.1

pub returns-in-Err-clause-moments : goal.returns-in-Err-clause-moments
returns-in-Err-clause-moments g c =
    let old = c.args.core.now in let head = head_of (store_of old.terms.origin old.history).branches c.args.branch in
    leaves-none g.D.Disk (fix g.T.Mrdt.meaning old.terms g.A.Address.address) old (machine.Merge c.args.branch head (c.args.commit ∷ [])) g.met.D.Disk.only_now

pub returns-in-Err-clause-cause : goal.returns-in-Err-clause-cause
returns-in-Err-clause-cause g c = cause-none _ c.in-Err.refused c.in-Err.ensures.refused.0
