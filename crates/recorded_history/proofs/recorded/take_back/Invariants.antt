use Rattle.std.proofs.Common.{◌≡◌, length, take}
use Rattle.branch_history.specs.History.{store_of}
use Rattle.recorded_history.specs.Keeps.{CameBehind}
use Rattle.recorded_history.proofs.recorded.take_back.Given as goal

abbrev pub invariant-loop-head : goal.invariant-loop-head
invariant-loop-head g l = record {
  came : CameBehind l.settled.value.core l.versions.core l.stood.items;
  first : take (length (store_of l.settled.value.core.terms.origin l.settled.value.core.history).commits) l.versions.addresses ≡ take (length (store_of l.settled.value.core.terms.origin l.settled.value.core.history).commits) l.initial.versions.addresses;
}

abbrev pub decreases-loop-head : goal.decreases-loop-head
decreases-loop-head g l = length l.stood.items
