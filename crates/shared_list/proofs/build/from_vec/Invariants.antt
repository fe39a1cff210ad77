use Rattle.std.proofs.Common.{◌≡◌, ◌++◌}
use Rattle.shared_list.proofs.build.from_vec.Given as goal

abbrev pub invariant-loop-item : goal.invariant-loop-item
invariant-loop-item g l = l.builder ++ l.item-iterator.rest.items ≡ l.fn.items.items
