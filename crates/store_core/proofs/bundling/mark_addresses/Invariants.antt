-- The commits are marked that have one of the addresses so far.
use Rattle.std.proofs.Common.{◌≡◌, ℕ, ◌||◌, length, take}
use Rattle.branch_machine.specs.Fixed.{fix}
use Rattle.branch_compact.specs.Marks.{is_marked}
use Rattle.store_core.specs.Bundling.{is_here}
use Rattle.store_core.proofs.bundling.mark_addresses.Given as goal

abbrev pub invariant-loop-address : goal.invariant-loop-address
invariant-loop-address g l =
    (length l.marks.items ≡ length l.fn.marks.items)
    × ((n : ℕ) → is_marked l.marks.items n ≡ (is_marked l.fn.marks.items n || is_here (fix g.T.Mrdt.meaning l.recorded.terms g.A.Address.address) l.recorded.written (take l.address-index l.here) n))
