use Rattle.std.proofs.Common.{◌≡◌, ◌++◌, take, map, filter}
use Rattle.branch_doc.specs.declared.plain.PlainQuery.TheVariants.{Keys}
use Rattle.branch_show.specs.Documents.{all_kinds}
use Rattle.branch_show.specs.Json.{with_commas, kind_member, is_told}
use Rattle.branch_show.proofs.Commas.{has_any}
use Rattle.branch_show.proofs.json.put_kinds.Given as goal

abbrev pub invariant-loop-kind : goal.invariant-loop-kind
invariant-loop-kind g l =
    let told = filter (λ k. is_told (g.V.Asked.answers l.document (Keys k))) (take l.kind-index all_kinds) in
    (l.out.items ≡ l.initial.out.items ++ with_commas (map (kind_member (g.V.Asked.answers l.document)) told)) × (l.is_behind ≡ has_any told)
