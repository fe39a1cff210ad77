use Rattle.std.proofs.Common.{sym, subst}
use Rattle.std.specs.Map.{keys_of}
use Rattle.std.specs.Ordering.{nat_cmp}
use Rattle.std.specs.Cmp.Lexicographic.{slice_cmp}
use Rattle.std.specs.List.Sorted.{IsStrictlySortedBy}
use Rattle.mrdt_map.proofs.table.Table.new.Goals as goal

pub invariant_of-result : goal.invariant_of-result
unfolding IsStrictlySortedBy
invariant_of-result g c = subst (λ es. IsStrictlySortedBy (slice_cmp nat_cmp) (keys_of es)) (sym c.new.ensures) tt
