-- What was made anew is received as the machine's step does it.
use Rattle.std.proofs.Common.{◌∷◌, [], ◌++◌, Some, None, ap, sym, ◌∙◌, refl, subst}
use Rattle.std.proofs.lemmas.Result.{err_from_is_err_and}
use Rattle.branch_history.specs.declared.moves.Move.TheVariants as move
use Rattle.branch_history.specs.Machine.{makes}
use Rattle.branch_history.specs.Steps as machine
use Rattle.store_seen.specs.Answers.{received}
use Rattle.store_seen.specs.Arrivals.{step_in, receive_merge, core_then, MayReceive}
use Rattle.store_seen.specs.Turns.{Steps}
use Rattle.store_seen.proofs.Arrived.{not_received-steps, step-added, operation-received, merge-received}
use Rattle.store_seen.proofs.Gains.{arrival-now, only-short, received-left}
use Rattle.store_seen.proofs.Placed.{few-moves}
use Rattle.store_seen.proofs.versions.Versions.receive.Goals as goal

pub returns-in_err-may_receive-clause-steps : goal.returns-in_err-may_receive-clause-steps
returns-in_err-may_receive-clause-steps g c =
    let old = c.args.self.now in
    let p = err_from_is_err_and c.from_residual.result c.from_residual.ensures.1 in
    rw (p.1, p.2) (not_received-steps g.T.Mrdt.meaning c.args.arrival.step old old refl c.in_err-may_receive.field-0.0 c.in_err-may_receive.ensures.refused)

pub returns-in_err-may_receive-clause-only : goal.returns-in_err-may_receive-clause-only
returns-in_err-may_receive-clause-only g c = λ may.
    let p = err_from_is_err_and c.from_residual.result c.from_residual.ensures.1 in
    rw (p.1, p.2) (only-short _ may.0 _ may.1 c.in_err-may_receive.field-0.0 c.in_err-may_receive.ensures.refused)

pub add_received-requires-after_bounds : goal.add_received-requires-after_bounds
add_received-requires-after_bounds g c κs within =
    let laws = (g.met.T.Mrdt g.world.𝓛 g.world.𝓜 g.world.𝓡 ((λ s x. x), (λ x. x), (λ x. x), λ x. x)).laws in
    let m = g.T.Mrdt.meaning in
    let core = c.args.self.now.core in
    let a = c.arrival.inside in
    let o = c.in-Operation in
    let now = arrival-now m a.terms a.history.value.items a.origin a.made c.arrival.invariant core (ap core_then c.arrival.view_is ∙ c.requires) _ o.is in
    let step = ap (step_in a.origin) (sym o.is) ∙ ap (λ v. v.step) c.arrival.view_is in
    let may = subst (λ t. MayReceive m core t) (sym step) c.in_ok-may_receive.ensures.may in
    let parents = c.in_ok-parents-in-Operation.parents in
    let got = operation-received m laws core.terms core.history now.valid a.origin o.parent o.op o.clock o.value o.reply now.remade.0 now.is_step may.0 _ may.1 parents c.in_ok-parents-in-Operation.ensures in
    got.0

pub returns-in-Operation-clause-steps : goal.returns-in-Operation-clause-steps
returns-in-Operation-clause-steps g c =
    let laws = (g.met.T.Mrdt g.world.𝓛 g.world.𝓜 g.world.𝓡 ((λ s x. x), (λ x. x), (λ x. x), λ x. x)).laws in
    let m = g.T.Mrdt.meaning in
    let core = c.args.self.now.core in
    let a = c.arrival.inside in
    let o = c.in-Operation in
    let now = arrival-now m a.terms a.history.value.items a.origin a.made c.arrival.invariant core (ap core_then c.arrival.view_is ∙ c.requires) _ o.is in
    let step = ap (step_in a.origin) (sym o.is) ∙ ap (λ v. v.step) c.arrival.view_is in
    let may = subst (λ t. MayReceive m core t) (sym step) c.in_ok-may_receive.ensures.may in
    let parents = c.in_ok-parents-in-Operation.parents in
    let got = operation-received m laws core.terms core.history now.valid a.origin o.parent o.op o.clock o.value o.reply now.remade.0 now.is_step may.0 _ may.1 parents c.in_ok-parents-in-Operation.ensures in
    let old = c.args.self.now in
    let new = c.add_received.new.self in
    let done = c.in_ok-add_received-in-Operation.ensures in
    let taken = c.in_ok-add_received-in-Operation.field-0 in
    let made = move.Received parents a.origin o.clock (Some (o.op, o.reply)) in
    let left = received-left m core.terms core.history parents a.origin o.clock (Some (o.op, o.reply)) got.0.moves in
    let turn_is = got.1 ∙ ap (λ n. makes made (machine.New n)) (sym done.number) in
    subst (λ t. Steps m t old new (old.addresses ++ c.args.address ∷ []) (received taken)) step
    (step-added m (machine.ReceiveOperation a.origin o.parent o.op) old new made (machine.New taken.commit) taken.moves (old.addresses ++ c.args.address ∷ []) turn_is done.added done.addressed done.counted (few-moves old.core new.core made done.added left))

pub add_received-requires-in-Merge-after_bounds : goal.add_received-requires-in-Merge-after_bounds
add_received-requires-in-Merge-after_bounds g c κs within =
    let laws = (g.met.T.Mrdt g.world.𝓛 g.world.𝓜 g.world.𝓡 ((λ s x. x), (λ x. x), (λ x. x), λ x. x)).laws in
    let m = g.T.Mrdt.meaning in
    let core = c.args.self.now.core in
    let a = c.arrival.inside in
    let o = c.in-Merge in
    let now = arrival-now m a.terms a.history.value.items a.origin a.made c.arrival.invariant core (ap core_then c.arrival.view_is ∙ c.requires) _ o.is in
    let step = ap (step_in a.origin) (sym o.is) ∙ ap (λ v. v.step) c.arrival.view_is in
    let may = subst (λ t. MayReceive m core t) (sym step) c.in_ok-may_receive.ensures.may in
    let got = merge-received m laws core.terms core.history now.valid a.origin o.parents o.clock o.value now.remade.0 now.is_step may.0 _ may.1 in
    got.0

pub returns-clause-steps : goal.returns-clause-steps
returns-clause-steps g c =
    let laws = (g.met.T.Mrdt g.world.𝓛 g.world.𝓜 g.world.𝓡 ((λ s x. x), (λ x. x), (λ x. x), λ x. x)).laws in
    let m = g.T.Mrdt.meaning in
    let core = c.args.self.now.core in
    let a = c.arrival.inside in
    let o = c.in-Merge in
    let now = arrival-now m a.terms a.history.value.items a.origin a.made c.arrival.invariant core (ap core_then c.arrival.view_is ∙ c.requires) _ o.is in
    let step = ap (step_in a.origin) (sym o.is) ∙ ap (λ v. v.step) c.arrival.view_is in
    let may = subst (λ t. MayReceive m core t) (sym step) c.in_ok-may_receive.ensures.may in
    let got = merge-received m laws core.terms core.history now.valid a.origin o.parents o.clock o.value now.remade.0 now.is_step may.0 _ may.1 in
    let old = c.args.self.now in
    let new = c.add_received-in-Merge.new.self in
    let done = c.in_ok-add_received-in-Merge.ensures in
    let taken = c.in_ok-add_received-in-Merge.field-0 in
    let made = move.Received o.parents a.origin o.clock None in
    let left = received-left m core.terms core.history o.parents a.origin o.clock None got.0.moves in
    let turn_is = got.1 ∙ ap (λ n. makes made (machine.New n)) (sym done.number) in
    subst (λ t. Steps m t old new (old.addresses ++ c.args.address ∷ []) (received taken)) step
    (step-added m (receive_merge a.origin o.parents) old new made (machine.New taken.commit) taken.moves (old.addresses ++ c.args.address ∷ []) turn_is done.added done.addressed done.counted (few-moves old.core new.core made done.added left))
