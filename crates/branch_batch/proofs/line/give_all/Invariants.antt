-- What is still to be given makes the whole of it.
use Rattle.std.proofs.Common.{◌≡◌}
use Rattle.std.specs.Vec.Iter.{into_iter_items}
use Rattle.branch_batch.specs.Lines.{all_given}
use Rattle.branch_batch.proofs.line.give_all.Given as goal

abbrev pub invariant-loop-finished : goal.invariant-loop-finished
invariant-loop-finished g l = all_given (into_iter_items l.finished-iterator) l.slots.items ≡ all_given l.fn.finished.items l.fn.slots.items
