use Rattle.std.proofs.Common.{arith, ◌≡◌, ◌∙◌, ap}
use Rattle.std.specs.Prelude.{unwrap_or, option_map}
use Rattle.std.specs.Map.{lookup}
use Rattle.std.specs.BTreeMap.{is_at}
use Rattle.std.specs.Ordering.{nat_cmp}
use Rattle.std.specs.Cmp.{nat_cmp_total}
use Rattle.std.proofs.lemmas.Map.Entries.{sum_by-insert_entry}
use Rattle.branch_graph.specs.Paints.{weight}
use Rattle.branch_graph.proofs.Painted.{total-le, weight-le}
use Rattle.branch_graph.proofs.waiting.Waiting.paint.Goals as goal

pub overflow_add-self : goal.overflow_add-self
overflow_add-self c =
    let small = c.len-count.ensures.small in
    let count = c.len-count.ensures.len in
    let one = c.weight.ensures in
    let is = c.self.invariant in
    omega (arith, total-le c.self.inside.paints.entries, weight-le c.over-new.result)

pub invariant_of-self-2 : goal.invariant_of-self-2
invariant_of-self-2 c =
    let old : c.weight_of.result ≡ unwrap_or (option_map weight (lookup (is_at (nat_cmp c.args.number)) c.self.inside.paints.entries)) 0 =
    c.weight_of.ensures ∙ ap (λ o. unwrap_or (option_map weight o) 0) (c.copied-old.ensures ∙ c.get.ensures.value) in
    let one = c.weight.ensures in
    let is = c.self.invariant in
    let sum = sum_by-insert_entry weight nat_cmp_total c.self.inside.paints.entries c.args.number c.over-new.result c.in_ok-insert.ensures.was_ordered in
    rw c.in_ok-insert.ensures.entries (omega (arith, old, one, is, sum))
