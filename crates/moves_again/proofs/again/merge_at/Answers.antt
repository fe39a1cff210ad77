-- A merge is prepared on the newest head.
use Rattle.std.proofs.Common.{◌≡◌, ◌≢◌, ◌∙◌, ◌∷◌, [], refl, ap, sym, subst}
use Rattle.std.specs.Prelude.{Ok, Err}
use Rattle.branch_names.specs.Heads.{head_of}
use Rattle.branch_history.specs.History.{store_of}
use Rattle.branch_history.specs.Steps as machine
use Rattle.branch_machine.specs.Fixed.{fix}
use Rattle.moves_again.specs.declared.answers.MoveRefused.{MoveRefused}
use Rattle.moves_again.specs.declared.answers.MoveRefused.TheVariants as move_refusal
use Rattle.moves_again.specs.Again.{MakesSo}
use Rattle.moves_again.proofs.Made.{whole, not_merged, never-same, merge-prepared}
use Rattle.moves_again.proofs.again.merge_at.Goals as goal

pub pair_at-requires-clause-history : goal.pair_at-requires-clause-history
pair_at-requires-clause-history g c κs within = whole _ _ (ap (λ s. s.history) c.in-Ok.ensures)

pub pair_at-requires-clause-terms : goal.pair_at-requires-clause-terms
pair_at-requires-clause-terms g c κs within = ap (λ s. s.terms) c.in-Ok.ensures

pub pair_at-requires-clause-there : goal.pair_at-requires-clause-there
pair_at-requires-clause-there g c κs within = c.requires.repeats.1.may.2.0

pub unreachable-requires : goal.unreachable-requires
unreachable-requires g c =
    let old = c.args.core.now in let head = head_of (store_of old.terms.origin old.history).branches c.args.branch in
    never-same g.T.Mrdt.meaning g.A.Address.address old c.args.branch head c.in-Ok.seen c.in-Ok.ensures c.in-Ok-pair_at.pair c.args.commit c.in-Ok-pair_at.ensures c.requires.repeats
    (rw c.in-Ok-Same.field-0-is at c.in-Ok-Same.ensures.step)

pub returns-in-Ok-Land-clause-prepared : goal.returns-in-Ok-Land-clause-prepared
returns-in-Ok-Land-clause-prepared g c =
    let old = c.args.core.now in let head = head_of (store_of old.terms.origin old.history).branches c.args.branch in
    merge-prepared g.T.Mrdt.meaning g.A.Address.address old c.args.branch head c.in-Ok.seen c.in-Ok.ensures c.in-Ok-pair_at.pair c.args.commit c.in-Ok-pair_at.ensures c.in-Ok-Land.prepared
    (rw c.in-Ok-Land.field-0-is at c.in-Ok-Land.ensures.step)

pub returns-clause-refused : goal.returns-clause-refused
returns-clause-refused g c =
    let old = c.args.core.now in let head = head_of (store_of old.terms.origin old.history).branches c.args.branch in
    let fixed = fix g.T.Mrdt.meaning old.terms g.A.Address.address in
    subst (λ (e : MoveRefused). (e ≢ move_refusal.DiskFault) × MakesSo fixed (machine.Merge c.args.branch head (c.args.commit ∷ [])) old old (Err e)) (sym c.from.ensures)
    (not_merged g.T.Mrdt.meaning g.A.Address.address old c.args.branch head c.in-Ok.seen c.in-Ok.ensures c.in-Ok-pair_at.pair c.args.commit c.in-Ok-pair_at.ensures c.in-Err.refused c.in-Err.ensures.refused)

pub returns-in_default-clause-refused : goal.returns-in_default-clause-refused
returns-in_default-clause-refused g c = ((λ e. cc), λ made by. refl)

pub returns-in_default-pair_at-clause-refused : goal.returns-in_default-pair_at-clause-refused
returns-in_default-pair_at-clause-refused g c = ((λ e. cc), λ made by. refl)
