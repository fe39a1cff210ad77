use Rattle.std.proofs.Common.{◌≡◌, ◌++◌, take}
use Rattle.std.specs.List.{flat_map}
use Rattle.branch_show.specs.Documents.{key_line}
use Rattle.branch_show.proofs.document.put_lines.Given as goal

abbrev pub invariant-loop-key : goal.invariant-loop-key
invariant-loop-key g l = l.out.items ≡ l.initial.out.items ++ flat_map (key_line (g.V.Asked.answers l.document) l.kind) (take l.key-index l.keys)
