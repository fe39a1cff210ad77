-- The last time goes with the last move, where that has one.
use Rattle.std.proofs.Common.{sym}
use Rattle.store_seen.proofs.Times.{untimed-popped, timed-popped}
use Rattle.store_seen.proofs.move_list.MoveList.pop.Goals as goal

pub invariant_of-self-then-is_timed : goal.invariant_of-self-then-is_timed
invariant_of-self-then-is_timed g c =
    let off = c.pop-then-is_timed in
    timed-popped c.pop.new.self.items c.in_ok-made.made c.self.inside.items.items c.self.inside.times.entries off.new.self.entries off.result c.in_ok-made.ensures.items (sym c.if-is_timed.ensures) c.self.invariant off.ensures.entries off.ensures.found.1

pub invariant_of-self-else-is_timed : goal.invariant_of-self-else-is_timed
invariant_of-self-else-is_timed g c =
    untimed-popped c.pop.new.self.items c.in_ok-made.made c.self.inside.items.items c.self.inside.times.entries c.in_ok-made.ensures.items (sym c.if-is_timed.ensures) c.self.invariant
