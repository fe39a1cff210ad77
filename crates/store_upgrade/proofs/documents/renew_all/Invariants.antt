-- What is made so far, and the rest renewed, are all moves renewed.
use Rattle.std.proofs.Common.{◌≡◌, ◌++◌, length}
use Rattle.std.specs.Vec.Iter.{into_iter_items, into_iter_len}
use Rattle.mrdt_old_doc.specs.OldDocument.{renewed_op}
use Rattle.branch_renewal.specs.Renewed.{renewed_moves}
use Rattle.store_upgrade.proofs.documents.renew_all.Given as goal

abbrev pub invariant-loop-old : goal.invariant-loop-old
invariant-loop-old l =
    goal.iterator-loop-old.can_next l.old-iterator × goal.iterator-loop-old.is_finite l.old-iterator
    × (renewed_moves renewed_op l.fn.moves ≡ l.made.items ++ renewed_moves renewed_op (into_iter_items l.old-iterator))
    × (into_iter_len l.old-iterator ≡ length (into_iter_items l.old-iterator))
