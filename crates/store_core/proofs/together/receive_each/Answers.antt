-- One item more arrives behind those before it, and is the last where it is refused.
use Rattle.std.proofs.Common.{[], ◌∷◌, ◌+◌, length, map, take, drop, suc, None, Some, ap, sym, ◌∙◌, subst, length-append}
use Rattle.branch_bundle.specs.Held.{pair_of}
use Rattle.branch_machine.specs.Fixed.{fix}
use Rattle.store_core.specs.Together.{HaveArrived}
use Rattle.store_core.proofs.Arrived.{first-more, all-parts, arrived-next, arrived-last}
use Rattle.store_core.proofs.together.receive_each.Goals as goal

pub loop-item-preserved : goal.loop-item-preserved
loop-item-preserved g c =
    let old = c.args.recorded.now in
    let items = c.args.items.now in
    let i = c.loop-item.item-index in
    let item = c.item-item.result in
    let pushed = rw c.if-is_err.ensures.negation at c.push.ensures.items in
    let next = arrived-next g.T.Mrdt.meaning g.A.Address.address old (map pair_of (take i items)) (pair_of item) c.loop-item.recorded c.receive_one.new.recorded c.loop-item.got.items _ c.loop-item.records.items c.receive_one.new.records.items
    c.loop-item.invariant.arrived c.in-Ok.ensures.arrived c.in-Ok-answer.taken c.in-Ok-answer.is in
    record {
      arrived = subst (λ l. HaveArrived (fix g.T.Mrdt.meaning old.terms g.A.Address.address) (map pair_of (take (i + 1) items)) old c.receive_one.new.recorded l None c.receive_one.new.records.items) (sym pushed)
          (rw (first-more items i item item c.loop-item-test.true c.item-item.is) next);
      counted = ap length pushed ∙ length-append c.loop-item.got.items (c.in-Ok-answer.taken ∷ []) ∙ ap (λ n. n + 1) c.loop-item.invariant.counted;
    }

pub returns-in-Err-clause-arrived : goal.returns-in-Err-clause-arrived
returns-in-Err-clause-arrived g c =
    let old = c.args.recorded.now in
    let items = c.args.items.now in
    let i = c.loop-item.item-index in
    let item = c.item-item.result in
    let last = arrived-last g.T.Mrdt.meaning g.A.Address.address old (map pair_of (take i items)) (pair_of item) c.loop-item.recorded c.receive_one.new.recorded c.loop-item.got.items _ c.loop-item.records.items c.receive_one.new.records.items
    c.loop-item.invariant.arrived c.in-Ok.ensures.arrived c.in-Err.refused c.in-Err.is (map pair_of (drop (suc i) items)) in
    subst (λ l. HaveArrived (fix g.T.Mrdt.meaning old.terms g.A.Address.address) l old c.receive_one.new.recorded c.loop-item.got.items (Some c.in-Err.refused) c.receive_one.new.records.items) (all-parts items i item item c.loop-item-test.true c.item-item.is) last
