use Rattle.std.proofs.Common.{◌≡◌, ℕ, ◌-◌, ◌<◌, ◌≤◌, true, false, length, slice_get, Some}
use Rattle.shared_list.proofs.list.SharedList.partition_point.Given as goal

abbrev pub invariant-loop-low : goal.invariant-loop-low
invariant-loop-low g l = record {
  order : l.low ≤ l.high;
  within : l.high ≤ length l.self;
  before : (k : ℕ) (x : g.row.T.Denot) → k < l.low → slice_get l.self k ≡ Some x → g.P.Probe.precedes l.probe x ≡ true;
  behind : (k : ℕ) (x : g.row.T.Denot) → l.high ≤ k → slice_get l.self k ≡ Some x → g.P.Probe.precedes l.probe x ≡ false;
}

abbrev pub decreases-loop-low : goal.decreases-loop-low
decreases-loop-low g l = l.high - l.low
