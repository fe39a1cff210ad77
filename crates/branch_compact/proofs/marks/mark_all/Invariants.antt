-- The commits of the numbers so far are marked too.
use Rattle.std.proofs.Common.{◌≡◌, ℕ, ◌||◌, take}
use Rattle.branch_graph.specs.Paints.{is_among}
use Rattle.branch_compact.specs.Marks.{is_marked}
use Rattle.branch_compact.proofs.marks.mark_all.Given as goal

abbrev pub invariant-loop-number : goal.invariant-loop-number
invariant-loop-number l = (n : ℕ) → is_marked l.marks n ≡ (is_marked l.fn.marks n || is_among (take l.number-index l.numbers) n)
