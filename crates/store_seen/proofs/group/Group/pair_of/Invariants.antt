-- None of the pairs before this one is with the commit.
use Rattle.std.proofs.Common.{◌≡◌, ◌<◌, ℕ, get_or}
use Rattle.store_seen.specs.Groups.{others_of}
use Rattle.store_seen.proofs.group.Group.pair_of.Given as goal

abbrev pub invariant-loop-pair : goal.invariant-loop-pair
invariant-loop-pair g l = (k : ℕ) → k < l.pair-index → get_or (others_of l.pair-items) k 0 ≡ l.commit → ⊥
