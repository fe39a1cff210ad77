-- An operation is prepared on the newest head, and lands there.
use Rattle.std.proofs.Common.{◌≡◌, ◌∙◌, refl, ap, sym, subst}
use Rattle.std.specs.Prelude.{Ok, Err}
use Rattle.branch_names.specs.Heads.{head_of}
use Rattle.branch_history.specs.History.{store_of}
use Rattle.branch_history.specs.Steps as machine
use Rattle.branch_machine.specs.Fixed.{fix}
use Rattle.branch_renewal.specs.Laws.{RepeatsBy}
use Rattle.store_core.specs.Turns.{step_made}
use Rattle.moves_again.specs.declared.answers.MoveRefused.{MoveRefused}
use Rattle.moves_again.specs.Again.{MakesOne}
use Rattle.moves_again.proofs.Made.{not_prepared, leaves-none}
use Rattle.moves_again.proofs.again.operation_again.Goals as goal

pub land_again-requires-clause-history : goal.land_again-requires-clause-history
land_again-requires-clause-history g c κs within = ap (λ p. p.seen.history) c.in-Ok-prepare.ensures.prepared ∙ ap (λ s. s.history) c.in-Ok.ensures

pub land_again-requires-clause-terms : goal.land_again-requires-clause-terms
land_again-requires-clause-terms g c κs within = ap (λ p. p.seen.terms) c.in-Ok-prepare.ensures.prepared ∙ ap (λ s. s.terms) c.in-Ok.ensures

pub land_again-requires-clause-repeats : goal.land_again-requires-clause-repeats
land_again-requires-clause-repeats g c κs within =
    let old = c.args.core.now in let fixed = fix g.T.Mrdt.meaning old.terms g.A.Address.address in
    let steps = ap (λ p. step_made {Q = g.row.T-Query.Denot} p) c.in-Ok-prepare.ensures.prepared ∙ ap (λ s. machine.Land s.branch s.head c.args.op) c.in-Ok.ensures in
    (c.requires.repeats.0, subst (λ k. RepeatsBy fixed old.history c.requires.repeats.0 k) (sym steps) c.requires.repeats.1)

pub returns-in-Ok-prepare-clause-made : goal.returns-in-Ok-prepare-clause-made
returns-in-Ok-prepare-clause-made g c = λ made by.
    let old = c.args.core.now in let fixed = fix g.T.Mrdt.meaning old.terms g.A.Address.address in
    let steps = ap (λ p. step_made {Q = g.row.T-Query.Denot} p) c.in-Ok-prepare.ensures.prepared ∙ ap (λ s. machine.Land s.branch s.head c.args.op) c.in-Ok.ensures in
    c.land_again.ensures.made made (subst (λ k. RepeatsBy fixed old.history made k) (sym steps) by)

pub returns-in-Ok-prepare-clause-moments : goal.returns-in-Ok-prepare-clause-moments
returns-in-Ok-prepare-clause-moments g c = λ made by.
    let old = c.args.core.now in let fixed = fix g.T.Mrdt.meaning old.terms g.A.Address.address in
    let steps = ap (λ p. step_made {Q = g.row.T-Query.Denot} p) c.in-Ok-prepare.ensures.prepared ∙ ap (λ s. machine.Land s.branch s.head c.args.op) c.in-Ok.ensures in
    c.land_again.ensures.moments made (subst (λ k. RepeatsBy fixed old.history made k) (sym steps) by)

pub returns-clause-made : goal.returns-clause-made
returns-clause-made g c = λ made by.
    let old = c.args.core.now in let fixed = fix g.T.Mrdt.meaning old.terms g.A.Address.address in
    let head = head_of (store_of old.terms.origin old.history).branches c.args.branch in
    subst (λ (e : MoveRefused). MakesOne fixed made old old (Err e)) (sym c.from.ensures)
    (not_prepared g.T.Mrdt.meaning g.A.Address.address old c.args.branch head c.in-Ok.seen c.in-Ok.ensures c.args.op made by c.in-Err.refused c.in-Err.ensures.refused)

pub returns-clause-moments : goal.returns-clause-moments
returns-clause-moments g c =
    let old = c.args.core.now in let head = head_of (store_of old.terms.origin old.history).branches c.args.branch in
    leaves-none g.D.Disk (fix g.T.Mrdt.meaning old.terms g.A.Address.address) old (machine.Land c.args.branch head c.args.op) g.met.D.Disk.only_now

pub returns-in_default-clause-moments : goal.returns-in_default-clause-moments
returns-in_default-clause-moments g c =
    let old = c.args.core.now in let head = head_of (store_of old.terms.origin old.history).branches c.args.branch in
    leaves-none g.D.Disk (fix g.T.Mrdt.meaning old.terms g.A.Address.address) old (machine.Land c.args.branch head c.args.op) g.met.D.Disk.only_now

pub returns-in_default-clause-made : goal.returns-in_default-clause-made
returns-in_default-clause-made g c = λ made by. refl
