use Rattle.std.proofs.Common.{◌≡◌, ◌++◌, take}
use Rattle.shared_list.proofs.build.Builder.push_copies.Given as goal

abbrev pub invariant-loop-item : goal.invariant-loop-item
invariant-loop-item g l = l.builder ≡ l.initial.builder ++ take l.item-index l.items
