-- What receives nothing has no time.
use Rattle.std.proofs.Common.{ap, sym, ◌∙◌}
use Rattle.store_seen.specs.Times.{received_times}
use Rattle.store_seen.proofs.Times.{received_times-own}
use Rattle.store_seen.proofs.move_list.MoveList.push_reserved.Goals as goal

pub invariant_of-self : goal.invariant_of-self
invariant_of-self g c = c.self.invariant ∙ sym (received_times-own c.self.inside.items.items c.args.made c.requires.own) ∙ ap received_times (sym c.push_reserved.ensures.items)
