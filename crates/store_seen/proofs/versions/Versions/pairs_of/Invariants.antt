-- The pairs with the commits before this one.
use Rattle.std.proofs.Common.{◌≡◌, map, take}
use Rattle.store_seen.specs.Pairs.{paired_at}
use Rattle.store_seen.proofs.versions.Versions.pairs_of.Given as goal

abbrev pub invariant-loop-other : goal.invariant-loop-other
invariant-loop-other g l = l.pairs.items ≡ map (paired_at l.self.core l.seen) (take l.other-index l.others)
