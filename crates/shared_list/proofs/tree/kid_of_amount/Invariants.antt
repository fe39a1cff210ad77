use Rattle.std.proofs.Common.{◌≡◌, pos, ◌+ℤ◌, ◌≤ℤ◌, take, length}
use Rattle.shared_list.specs.Trees.{amounts, lists}
use Rattle.shared_list.proofs.tree.kid_of_amount.Given as goal

abbrev pub invariant-loop-index : goal.invariant-loop-index
invariant-loop-index g l = (amounts g.T.Entry.amount_of (lists (take l.index l.kids)) +ℤ l.rest ≡ l.amount) × (pos 0 ≤ℤ l.rest) × (l.before ≡ length (lists (take l.index l.kids)))
