-- What is written is spelled as the history means it.
use Rattle.std.proofs.Common.{length, ap, sym, ◌∙◌, subst}
use Rattle.branch_history.specs.Commits.{greatest_clock, visible_at_all}
use Rattle.branch_history.specs.History.{store_of}
use Rattle.branch_history.specs.Validity.{IsStep}
use Rattle.store_seen.specs.declared.arrival.WrittenArrival.TheVariants as written
use Rattle.store_seen.specs.Arrivals.{step_in, IsRemade, IsWrittenOf, IsWrittenArrival}
use Rattle.store_seen.specs.Keeps.{kept_spelling}
use Rattle.store_seen.proofs.Arrived.{by_parents, merge-spelled, operation-written}
use Rattle.store_seen.proofs.arrival.Arrival.written.Goals as goal

pub returns-in-Operation : goal.returns-in-Operation
returns-in-Operation g c =
    let laws = (g.met.T.Mrdt g.world.𝓛 g.world.𝓜 g.world.𝓡 ((λ s x. x), (λ x. x), (λ x. x), λ x. x)).laws in
    let m = g.T.Mrdt.meaning in
    let history = c.self.inside.history.value.items in
    let terms = c.self.inside.terms in
    let origin = c.self.inside.origin in
    let is = c.self.invariant in
    let remade = subst (λ r. IsRemade m terms.layout (store_of terms.origin history).commits origin r) c.in-Operation.is is.remade in
    let step = subst (λ r. IsStep m (store_of terms.origin history) (step_in origin r)) c.in-Operation.is is.is_step in
    let same = ap (λ r. record { history = history; terms = terms; step = step_in origin r }) (sym c.in-Operation.is) ∙ c.self.view_is in
    subst (λ v. IsWrittenArrival m v (written.Operation c.in-Operation.parent c.in-Operation.clock c.size.result c.value.result c.op.result c.reply.result)) same
    (rw (c.size.ensures, c.value.ensures, c.op.ensures, c.reply.ensures) (operation-written m laws terms history is.valid origin c.in-Operation.parent c.in-Operation.op step.0 step.1 step.2 c.in-Operation.clock c.in-Operation.value c.in-Operation.reply c.in-Operation.spelled remade.0 remade.1))

pub returns-in-Merge : goal.returns-in-Merge
returns-in-Merge g c =
    let laws = (g.met.T.Mrdt g.world.𝓛 g.world.𝓜 g.world.𝓡 ((λ s x. x), (λ x. x), (λ x. x), λ x. x)).laws in
    let m = g.T.Mrdt.meaning in
    let history = c.self.inside.history.value.items in
    let terms = c.self.inside.terms in
    let origin = c.self.inside.origin in
    let is = c.self.invariant in
    let commits = (store_of terms.origin history).commits in
    let remade = subst (λ r. IsRemade m terms.layout commits origin r) c.in-Merge.is is.remade in
    let step = subst (λ r. IsStep m (store_of terms.origin history) (step_in origin r)) c.in-Merge.is is.is_step in
    let same = ap (λ r. record { history = history; terms = terms; step = step_in origin r }) (sym c.in-Merge.is) ∙ c.self.view_is in
    subst (λ v. IsWrittenArrival m v (written.Merge c.as_slice.result c.in-Merge.clock c.in-Merge.spelled.size c.bytes.result)) same
    (by_parents m (store_of terms.origin history) origin (λ t. IsWrittenOf m terms.layout commits t (written.Merge c.as_slice.result c.in-Merge.clock c.in-Merge.spelled.size c.bytes.result)) c.in-Merge.parents step
    (λ h ms e.
    let one = merge-spelled m laws terms history is.valid c.in-Merge.parents c.in-Merge.value remade.0.stands ∙ ap (λ ns. m.spelling_of (visible_at_all commits ns)) e in
    record {
      parents_are = c.as_slice.ensures ∙ e;
      clock_is = remade.0.timed ∙ ap (greatest_clock commits) e;
      size_is = remade.1.size_is ∙ ap length one;
      value_is = c.bytes.ensures ∙ remade.1.bytes_are ∙ ap (kept_spelling terms.layout) one;
    }))
