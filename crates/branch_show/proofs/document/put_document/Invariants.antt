use Rattle.std.proofs.Common.{◌≡◌, ◌++◌, take}
use Rattle.std.specs.List.{flat_map}
use Rattle.branch_show.specs.Documents.{kind_lines, all_kinds}
use Rattle.branch_show.proofs.document.put_document.Given as goal

abbrev pub invariant-loop-kind : goal.invariant-loop-kind
invariant-loop-kind g l = l.out.items ≡ l.initial.out.items ++ flat_map (kind_lines (g.V.Asked.answers l.document)) (take l.kind-index all_kinds)
