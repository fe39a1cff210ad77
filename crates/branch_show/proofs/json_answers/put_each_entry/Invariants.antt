use Rattle.std.proofs.Common.{◌≡◌, ◌++◌, take, map}
use Rattle.branch_show.specs.Json.{with_commas, json_entry}
use Rattle.branch_show.proofs.json_answers.put_each_entry.Given as goal

abbrev pub invariant-loop-i : goal.invariant-loop-i
invariant-loop-i l = l.out.items ≡ l.initial.out.items ++ with_commas (map json_entry (take l.i l.entries))
