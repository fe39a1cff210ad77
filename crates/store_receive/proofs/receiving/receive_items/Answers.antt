-- Each batch that is taken goes on from those before it.
use Rattle.std.proofs.Common.{◌≡◌, ◌+◌, ◌≤◌, ◌∙◌, arith, refl, ap, false, length, take, drop, [], inl, inr}
use Rattle.store_receive.specs.declared.answers.NotReceived.TheVariants as unreceived
use Rattle.store_receive.proofs.Turned.{next-part, next-left, next-within, none-left}
use Rattle.store_receive.proofs.Loops.{goes-on-start, goes-on-next, goes-on-end, next-worked, next-few, next-moments, stops, cause-goes-on}
use Rattle.store_receive.proofs.receiving.receive_items.Goals as goal

pub loop-left-init : goal.loop-left-init
loop-left-init g c = record {
  start = 0;
  rest = c.new-left.ensures;
  goes = goes-on-start g.D.Disk g.T.Mrdt.meaning g.A.Address.address c.args.items.items c.args.core.now c.moves-moves.ensures.valid (c.moves-moves.ensures.stands c.requires.working) g.met.D.Disk.only_now;
  within = omega arith;
}

pub returns-in_default-clause-refused : goal.returns-in_default-clause-refused
returns-in_default-clause-refused g c =
    let so = c.loop-left.invariant in
    stops g.D.Disk g.T.Mrdt.meaning g.A.Address.address c.args.items.items c.args.core.now so.start 0 c.loop-left.count [] c.loop-left.core c.loop-left.core
    so.goes refl c.requires.numbers so.within unreceived.Memory (inr (inl (refl, refl)))

pub returns-in_default-clause-moments : goal.returns-in_default-clause-moments
returns-in_default-clause-moments g c = c.loop-left.invariant.goes.moments

pub receive_batch-requires-clause-working : goal.receive_batch-requires-clause-working
receive_batch-requires-clause-working g c κs within =
    let so = c.loop-left.invariant in
    next-worked g.D.Disk g.T.Mrdt.meaning g.A.Address.address c.args.items.items c.args.core.now so.start 0 c.loop-left.count [] c.loop-left.core c.loop-left.core so.goes refl c.requires.working

pub overflow_add-count : goal.overflow_add-count
overflow_add-count g c =
    let items = c.args.items.items in
    let so = c.loop-left.invariant in
    let size = c.min-size.result in
    let batch = c.deref.result.now in
    let is : batch ≡ take size (drop so.start items) = next-part items c.loop-left.left so.start size so.rest batch (c.deref.ensures.value ∙ c.in-Ok.ensures.taken) in
    let within : so.start + size ≤ length items = next-within items c.loop-left.left so.start size so.rest so.within (omega arith) in
    let few = next-few g.D.Disk g.T.Mrdt.meaning g.A.Address.address items c.args.core.now so.start size c.loop-left.count batch c.loop-left.core c.receive_batch.new.core
    so.goes is c.in-Ok-receive_batch.new within c.in-Ok-receive_batch.ensures.taken in
    omega (arith, few)

pub loop-left-preserved : goal.loop-left-preserved
loop-left-preserved g c =
    let items = c.args.items.items in
    let old = c.args.core.now in
    let now = c.loop-left.core in
    let new = c.receive_batch.new.core in
    let so = c.loop-left.invariant in
    let size = c.min-size.result in
    let batch = c.deref.result.now in
    let is : batch ≡ take size (drop so.start items) = next-part items c.loop-left.left so.start size so.rest batch (c.deref.ensures.value ∙ c.in-Ok.ensures.taken) in
    let worked = next-worked g.D.Disk g.T.Mrdt.meaning g.A.Address.address items old so.start size c.loop-left.count batch now now so.goes is c.requires.working in
    let works : new.failed ≡ false = ap (λ v. v.failed) c.in-Ok-receive_batch.ensures.taken.now ∙ worked in
    record {
      start = so.start + size;
      rest = next-left items c.loop-left.left so.start size so.rest c.take.new.self c.in-Ok.ensures.left;
      goes = goes-on-next g.D.Disk g.T.Mrdt.meaning g.A.Address.address items old so.start size c.loop-left.count batch now new so.goes is
          c.in-Ok-receive_batch.new _ (so.start + size) refl c.in-Ok-receive_batch.ensures.taken refl c.in-Ok-receive_batch.ensures.moments (c.moves-moves-in-loop-left.ensures.stands works) (c.in-Ok-receive_batch.ensures.cause.others (λ is. absurd (cc)));
      within = next-within items c.loop-left.left so.start size so.rest so.within (omega arith);
    }

pub returns-in-Err-clause-refused : goal.returns-in-Err-clause-refused
returns-in-Err-clause-refused g c =
    let items = c.args.items.items in
    let so = c.loop-left.invariant in
    let size = c.min-size.result in
    let batch = c.deref.result.now in
    let is : batch ≡ take size (drop so.start items) = next-part items c.loop-left.left so.start size so.rest batch (c.deref.ensures.value ∙ c.in-Ok.ensures.taken) in
    stops g.D.Disk g.T.Mrdt.meaning g.A.Address.address items c.args.core.now so.start size c.loop-left.count batch c.loop-left.core c.receive_batch.new.core
    so.goes is c.requires.numbers so.within c.in-Err.refused c.in-Err.ensures.refused

pub returns-in-Err-clause-moments : goal.returns-in-Err-clause-moments
returns-in-Err-clause-moments g c =
    let items = c.args.items.items in
    let so = c.loop-left.invariant in
    let size = c.min-size.result in
    let batch = c.deref.result.now in
    let is : batch ≡ take size (drop so.start items) = next-part items c.loop-left.left so.start size so.rest batch (c.deref.ensures.value ∙ c.in-Ok.ensures.taken) in
    next-moments g.D.Disk g.T.Mrdt.meaning g.A.Address.address items c.args.core.now so.start size c.loop-left.count batch c.loop-left.core c.receive_batch.new.core
    so.goes is c.in-Err.ensures.moments

pub returns-in-Err-clause-cause : goal.returns-in-Err-clause-cause
returns-in-Err-clause-cause g c = cause-goes-on _ _ _ _ c.loop-left.invariant.goes.faults c.in-Err.ensures.cause

pub returns-clause-taken : goal.returns-clause-taken
returns-clause-taken g c =
    let items = c.args.items.items in
    let so = c.loop-left.invariant in
    goes-on-end g.D.Disk g.T.Mrdt.meaning g.A.Address.address items c.args.core.now so.start c.loop-left.count c.loop-left.core
    (none-left items c.loop-left.left so.start 0 so.rest so.within (omega arith)) so.within so.goes

pub returns-clause-moments : goal.returns-clause-moments
returns-clause-moments g c = c.loop-left.invariant.goes.moments

pub returns-clause-cause : goal.returns-clause-cause
returns-clause-cause g c = let same = c.loop-left.invariant.goes.faults in record { later = omega (arith, same); failed = λ is. absurd (cc); others = λ _. same }
