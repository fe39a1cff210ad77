-- The objects of the marked commits so far are copied, and the addresses of their values are known.
use Rattle.std.proofs.Common.{◌≡◌, ◌≤◌, length, take}
use Rattle.branch_history.specs.History.{store_of}
use Rattle.branch_machine.specs.Fixed.{fix}
use Rattle.branch_machine.specs.Objects.{pairs_of}
use Rattle.branch_wire.specs.StoredObjects.{file_of}
use Rattle.branch_compact.specs.Compact.{at_places}
use Rattle.branch_compact.specs.Marks.{is_marked}
use Rattle.store_compact.specs.Copied.{objects_in, placed_of, values_in}
use Rattle.store_compact.proofs.copying.copy_marked.Given as goal

abbrev pub invariant-loop-number : goal.invariant-loop-number
invariant-loop-number g l =
    let commits = (store_of l.fn.recorded.terms.origin l.fn.recorded.written).commits in
    let pairs = pairs_of (fix g.T.Mrdt.meaning l.fn.recorded.terms g.A.Address.address) commits in
    let kept = at_places (is_marked l.fn.marks) 0 (take l.number pairs) in
    record {
      within : l.number ≤ length commits;
      known : l.known.keys ≡ values_in g.A.Address.address kept;
      whole : l.copies.text.items ≡ file_of (objects_in kept);
      placed : l.copies.placed.items ≡ placed_of g.A.Address.address kept;
    }
