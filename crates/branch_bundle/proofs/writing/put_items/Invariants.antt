use Rattle.std.proofs.Common.{◌≡◌, ◌++◌, length, take}
use Rattle.std.specs.List.{flat_map}
use Rattle.branch_wire.specs.Fields.{number}
use Rattle.branch_bundle.specs.Held.{held_text}
use Rattle.branch_bundle.proofs.writing.put_items.Given as goal

-- the count and the items so far are written
abbrev pub invariant-loop-item : goal.invariant-loop-item
invariant-loop-item l =
    l.out.items ≡ l.fn.out.items ++ (number (length l.items) ++ flat_map held_text (take l.item-index l.items))
