-- One job more, behind those before it.
use Rattle.std.proofs.Common.{◌≡◌, [], ◌++◌, ◌∷◌, ◌∙◌, ap, sym, subst, append_assoc}
use mathlib.Core.List.{IsPrefix}
use Rattle.std.specs.Vec.Iter.{into_iter_items}
use Rattle.branch_machine.specs.Fixed.{fix}
use Rattle.store_core.specs.Batches.{HaveLanded}
use Rattle.store_core.proofs.Batched.{all_at, landed-next, prefix_behind}
use Rattle.store_core.proofs.batch.land_each.Goals as goal

pub land_one-requires-clause-history : goal.land_one-requires-clause-history
land_one-requires-clause-history g c κs within =
    let inv = c.loop-job.invariant in
    let split : c.loop-job.yielded ++ c.in-Some.job ∷ into_iter_items c.next.new.self ≡ c.args.jobs.items = ap (λ r. c.loop-job.yielded ++ r) (sym c.in-Some.ensures.steps.0) ∙ inv.whole in
    let early = all_at (λ job. IsPrefix job.seen.history c.args.recorded.now.written) c.loop-job.yielded (into_iter_items c.next.new.self) _ c.in-Some.job split c.requires.history in
    let same = ap (λ r. r.written) inv.landed.pending in
    prefix_behind _ _ _ (subst (IsPrefix c.in-Some.job.seen.history) (sym same) early)

pub land_one-requires-clause-terms : goal.land_one-requires-clause-terms
land_one-requires-clause-terms g c κs within =
    let inv = c.loop-job.invariant in
    let split : c.loop-job.yielded ++ c.in-Some.job ∷ into_iter_items c.next.new.self ≡ c.args.jobs.items = ap (λ r. c.loop-job.yielded ++ r) (sym c.in-Some.ensures.steps.0) ∙ inv.whole in
    all_at (λ job. job.seen.terms ≡ c.args.recorded.now.terms) c.loop-job.yielded (into_iter_items c.next.new.self) _ c.in-Some.job split c.requires.terms
    ∙ sym (ap (λ r. r.terms) inv.landed.pending)

pub loop-job-preserved : goal.loop-job-preserved
loop-job-preserved g c =
    let inv = c.loop-job.invariant in
    let rest = into_iter_items c.next.new.self in
    let split : c.loop-job.yielded ++ c.in-Some.job ∷ into_iter_items c.next.new.self ≡ c.args.jobs.items = ap (λ r. c.loop-job.yielded ++ r) (sym c.in-Some.ensures.steps.0) ∙ inv.whole in
    let pushed = rw c.if-is_err.ensures.negation at c.push.ensures.items in
    let more = landed-next g.T.Mrdt.meaning g.A.Address.address c.loop-job.yielded c.in-Some.job c.args.recorded.now c.loop-job.recorded c.land_one.new.recorded
    c.loop-job.answers.items c.in-Ok.answer c.loop-job.records.items c.land_one.new.records.items inv.landed c.in-Ok.ensures.answered c.in-Ok.ensures.made c.in-Ok.ensures.records in
    record {
      whole = append_assoc c.loop-job.yielded (c.in-Some.job ∷ []) rest ∙ split;
      landed = subst (λ l. HaveLanded (fix g.T.Mrdt.meaning c.args.recorded.now.terms g.A.Address.address) (c.loop-job.yielded ++ c.in-Some.job ∷ []) c.args.recorded.now c.land_one.new.recorded l c.land_one.new.records.items) (sym pushed) more;
    }
