-- What was made anew is a step of now, and its turn is that of its refusal.
use Rattle.std.proofs.Common.{◌+◌, ◌∷◌, ap, sym, ◌∙◌, subst, OnOk, IfErr, length}
use Rattle.std.proofs.lemmas.Result.{IfErr-weaker, on_ok_weaker}
use Rattle.branch_history.specs.Commits.{visible_at_all}
use Rattle.branch_history.specs.History.{store_of}
use Rattle.branch_history.specs.Machine.{turn, received_operation_refusal, received_merge_refusal}
use Rattle.branch_history.specs.Steps as machine
use Rattle.branch_history.specs.Validity.{IsStep}
use Rattle.machine_answers.specs.Answers.{TurnsAs}
use Rattle.store_seen.specs.Answers.{not_received}
use Rattle.store_seen.specs.Arrivals.{step_in, receive_merge, core_then, ReceiveRefusedBy, MayReceive, IsRemadeMerge}
use Rattle.store_seen.proofs.Arrived.{by_parents, refused-turn, arrived-size, merge-spelled, operation-turn, operation-makes, merge-turn, merge-makes}
use Rattle.store_seen.proofs.Gains.{arrival-now}
use Rattle.store_seen.proofs.versions.Versions.may_receive.Goals as goal

pub may_receive_operation-requires-clause-there : goal.may_receive_operation-requires-clause-there
may_receive_operation-requires-clause-there g c κs within =
    let a = c.arrival.inside in
    let now = arrival-now g.T.Mrdt.meaning a.terms a.history.value.items a.origin a.made c.arrival.invariant c.args.self.now.core (ap core_then c.arrival.view_is ∙ c.requires) _ c.in-Operation.is in
    now.is_step.1

pub may_receive_operation-requires-clause-sized : goal.may_receive_operation-requires-clause-sized
may_receive_operation-requires-clause-sized g c κs within =
    let laws = (g.met.T.Mrdt g.world.𝓛 g.world.𝓜 g.world.𝓡 ((λ s x. x), (λ x. x), (λ x. x), λ x. x)).laws in
    let m = g.T.Mrdt.meaning in
    let core = c.args.self.now.core in
    let a = c.arrival.inside in
    let o = c.in-Operation in
    let now = arrival-now m a.terms a.history.value.items a.origin a.made c.arrival.invariant core (ap core_then c.arrival.view_is ∙ c.requires) _ o.is in
    let remade = now.remade.0 in
    let spelled = now.remade.1 in
    let size = c.len.ensures ∙ ap (λ n. n + length o.spelled.op + length o.spelled.reply) spelled.size_is ∙ ap (λ l. length (m.state_spelling o.value) + length l + length o.spelled.reply) spelled.op_is ∙ ap (λ l. length (m.state_spelling o.value) + length (m.op_spelling o.op) + length l) spelled.reply_is in
    arrived-size m laws core.terms core.history now.valid a.origin o.parent o.op now.is_step.0 now.is_step.1 now.is_step.2 o.value o.reply remade.stands remade.replies c.len.result size

pub returns-in-Operation-clause-may : goal.returns-in-Operation-clause-may
returns-in-Operation-clause-may g c =
    let laws = (g.met.T.Mrdt g.world.𝓛 g.world.𝓜 g.world.𝓡 ((λ s x. x), (λ x. x), (λ x. x), λ x. x)).laws in
    let m = g.T.Mrdt.meaning in
    let core = c.args.self.now.core in
    let a = c.arrival.inside in
    let o = c.in-Operation in
    let now = arrival-now m a.terms a.history.value.items a.origin a.made c.arrival.invariant core (ap core_then c.arrival.view_is ∙ c.requires) _ o.is in
    let r = c.may_receive_operation.result in
    let step = ap (step_in a.origin) (sym o.is) ∙ ap (λ v. v.step) c.arrival.view_is in
    subst (λ t. OnOk r (MayReceive m core t)) step
    (on_ok_weaker r (λ free. (_, operation-makes m laws core.terms core.history now.valid a.origin o.parent o.op o.clock o.value o.reply now.remade.0 now.is_step free)) c.may_receive_operation.ensures.free)

pub returns-in-Operation-clause-refused : goal.returns-in-Operation-clause-refused
returns-in-Operation-clause-refused g c =
    let laws = (g.met.T.Mrdt g.world.𝓛 g.world.𝓜 g.world.𝓡 ((λ s x. x), (λ x. x), (λ x. x), λ x. x)).laws in
    let m = g.T.Mrdt.meaning in
    let core = c.args.self.now.core in
    let a = c.arrival.inside in
    let o = c.in-Operation in
    let now = arrival-now m a.terms a.history.value.items a.origin a.made c.arrival.invariant core (ap core_then c.arrival.view_is ∙ c.requires) _ o.is in
    let r = c.may_receive_operation.result in
    let step = ap (step_in a.origin) (sym o.is) ∙ ap (λ v. v.step) c.arrival.view_is in
    let refusal = received_operation_refusal m core.terms core.history a.origin o.parent o.op in
    subst (λ t. IfErr r (λ e. TurnsAs (not_received e) (turn m core.terms core.history t))) step
    (IfErr-weaker r (ReceiveRefusedBy refusal) (λ e. TurnsAs (not_received e) (turn m core.terms core.history (machine.ReceiveOperation a.origin o.parent o.op)))
    (refused-turn refusal _ (turn m core.terms core.history (machine.ReceiveOperation a.origin o.parent o.op)) (operation-turn m laws core.terms core.history now.valid a.origin o.parent o.op)) c.may_receive_operation.ensures.refused)

pub may_receive_merge-requires-after_bounds : goal.may_receive_merge-requires-after_bounds
may_receive_merge-requires-after_bounds g c κs within =
    let laws = (g.met.T.Mrdt g.world.𝓛 g.world.𝓜 g.world.𝓡 ((λ s x. x), (λ x. x), (λ x. x), λ x. x)).laws in
    let m = g.T.Mrdt.meaning in
    let core = c.args.self.now.core in
    let s = store_of core.terms.origin core.history in
    let a = c.arrival.inside in
    let o = c.in-Merge in
    let now = arrival-now m a.terms a.history.value.items a.origin a.made c.arrival.invariant core (ap core_then c.arrival.view_is ∙ c.requires) _ o.is in
    now.remade.1.size_is
    ∙ ap length
    (merge-spelled m laws core.terms core.history now.valid o.parents o.value now.remade.0.stands
    ∙ ap (λ ns. m.spelling_of (visible_at_all s.commits ns)) (sym c.as_slice.ensures))

pub returns-in-Merge-clause-may : goal.returns-in-Merge-clause-may
returns-in-Merge-clause-may g c =
    let laws = (g.met.T.Mrdt g.world.𝓛 g.world.𝓜 g.world.𝓡 ((λ s x. x), (λ x. x), (λ x. x), λ x. x)).laws in
    let m = g.T.Mrdt.meaning in
    let core = c.args.self.now.core in
    let s = store_of core.terms.origin core.history in
    let a = c.arrival.inside in
    let o = c.in-Merge in
    let now = arrival-now m a.terms a.history.value.items a.origin a.made c.arrival.invariant core (ap core_then c.arrival.view_is ∙ c.requires) _ o.is in
    let r = c.may_receive_merge.result in
    let step = ap (step_in a.origin) (sym o.is) ∙ ap (λ v. v.step) c.arrival.view_is in
    subst (λ t. OnOk r (MayReceive m core t)) step
    (by_parents m s a.origin (λ t. OnOk r (MayReceive m core t)) o.parents now.is_step
    (λ h ms e.
    let remade = subst (λ ns. IsRemadeMerge m s.commits ns o.clock o.value) e now.remade.0 in
    let is_step = subst (λ ns. IsStep m s (receive_merge a.origin ns)) e now.is_step in
    on_ok_weaker r
    (λ free. (_, merge-makes m laws core.terms core.history now.valid a.origin h ms o.clock o.value remade is_step (sym (ap (received_merge_refusal m core.terms core.history a.origin) (c.as_slice.ensures ∙ e)) ∙ free)))
    c.may_receive_merge.ensures.free))

pub returns-in-Merge-clause-refused : goal.returns-in-Merge-clause-refused
returns-in-Merge-clause-refused g c =
    let laws = (g.met.T.Mrdt g.world.𝓛 g.world.𝓜 g.world.𝓡 ((λ s x. x), (λ x. x), (λ x. x), λ x. x)).laws in
    let m = g.T.Mrdt.meaning in
    let core = c.args.self.now.core in
    let s = store_of core.terms.origin core.history in
    let a = c.arrival.inside in
    let o = c.in-Merge in
    let now = arrival-now m a.terms a.history.value.items a.origin a.made c.arrival.invariant core (ap core_then c.arrival.view_is ∙ c.requires) _ o.is in
    let r = c.may_receive_merge.result in
    let step = ap (step_in a.origin) (sym o.is) ∙ ap (λ v. v.step) c.arrival.view_is in
    subst (λ t. IfErr r (λ e. TurnsAs (not_received e) (turn m core.terms core.history t))) step
    (by_parents m s a.origin (λ t. IfErr r (λ e. TurnsAs (not_received e) (turn m core.terms core.history t))) o.parents now.is_step
    (λ h ms e.
    let refusal = received_merge_refusal m core.terms core.history a.origin (h ∷ ms) in
    IfErr-weaker r (ReceiveRefusedBy refusal) (λ w. TurnsAs (not_received w) (turn m core.terms core.history (machine.ReceiveMerge a.origin h ms)))
    (refused-turn refusal _ (turn m core.terms core.history (machine.ReceiveMerge a.origin h ms)) (merge-turn m laws core.terms core.history now.valid a.origin h ms))
    (subst (λ ns. IfErr r (ReceiveRefusedBy (received_merge_refusal m core.terms core.history a.origin ns))) (c.as_slice.ensures ∙ e) c.may_receive_merge.ensures.refused)))
