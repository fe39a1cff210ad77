-- No moves have no times.
use Rattle.std.proofs.Common.{ap, sym, ◌∙◌}
use Rattle.store_seen.specs.Times.{received_times}
use Rattle.store_seen.proofs.Times.{received_times-none}
use Rattle.store_seen.proofs.move_list.MoveList.new.Goals as goal

pub invariant_of-result : goal.invariant_of-result
invariant_of-result g c = c.new-2.ensures.empty ∙ sym (received_times-none _ _) ∙ ap received_times (sym c.new.ensures.items)
