use Rattle.std.proofs.Common.{◌≡◌, ◌++◌, take}
use Rattle.std.specs.Prelude.{codes}
use Rattle.std.specs.List.{flat_map}
use Rattle.branch_print.specs.Texts.{entry_text}
use Rattle.branch_print.proofs.pieces.put_each_entry.Given as goal

abbrev pub invariant-loop-entry : goal.invariant-loop-entry
invariant-loop-entry l = l.out.items ≡ l.initial.out.items ++ flat_map (λ entry. codes " " ++ entry_text entry) (take l.entry-index l.entries)
