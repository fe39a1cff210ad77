-- The commits of the pairs before this one.
use Rattle.std.proofs.Common.{◌≡◌, take}
use Rattle.store_seen.specs.Groups.{others_of}
use Rattle.store_seen.proofs.group.Group.others.Given as goal

abbrev pub invariant-loop-pair : goal.invariant-loop-pair
invariant-loop-pair g l = l.others.items ≡ others_of (take l.pair-index l.pair-items)
