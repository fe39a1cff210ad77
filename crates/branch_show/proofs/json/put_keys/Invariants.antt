use Rattle.std.proofs.Common.{◌≡◌, ◌++◌, take, map}
use Rattle.branch_show.specs.Json.{with_commas, key_member}
use Rattle.branch_show.proofs.json.put_keys.Given as goal

abbrev pub invariant-loop-i : goal.invariant-loop-i
invariant-loop-i g l = l.out.items ≡ l.initial.out.items ++ with_commas (map (key_member (g.V.Asked.answers l.document) l.kind) (take l.i l.keys))
