-- The heads of the branches so far are marked.
use Rattle.std.proofs.Common.{◌≡◌, ℕ, length, take}
use Rattle.branch_compact.specs.Marks.{is_marked, is_kept_head}
use Rattle.branch_compact.proofs.marks.mark_heads.Given as goal

abbrev pub invariant-loop-branch : goal.invariant-loop-branch
invariant-loop-branch l =
    (length l.marks.items ≡ l.fn.count)
    × ((n : ℕ) → is_marked l.marks.items n ≡ is_kept_head (take l.branch-index l.branches) n)
