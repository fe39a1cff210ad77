-- One job more.
use Rattle.std.proofs.Common.{◌<◌, length, set, get_or, ap, sym, ◌∙◌}
use Rattle.std.proofs.lemmas.List.Edits.{map_over_more}
use Rattle.store_core.specs.declared.answers.LandRefused.{LandRefused}
use Rattle.branch_shared.specs.Batches.{TakenView, shortage, with_refusal}
use Rattle.branch_shared.proofs.batch.refuse_each.Goals as goal

pub loop-taken-preserved : goal.loop-taken-preserved
loop-taken-preserved g c =
    let i = c.loop-taken.taken-index in
    let taken = c.taken-item.result in
    let why = shortage c.args.core.now in
    let within : i < length c.args.all.now = c.loop-taken-test.true in
    ap (λ (t : TakenView _ _). set c.loop-taken.all i t)
    (c.refuse_one.ensures
    ∙ (ap (λ (e : LandRefused). with_refusal e (get_or c.loop-taken.all i taken)) c.shortage_of.ensures ∙ ap (λ (t : TakenView _ _). with_refusal why t) (sym c.taken-item.is)))
    ∙ map_over_more (with_refusal why) c.args.all.now c.loop-taken.all i taken within c.loop-taken.invariant c.taken-item.is
