use Rattle.std.proofs.Common.{take}
use Rattle.branch_machine.specs.Fixed.{fix}
use Rattle.recorded_history.specs.Asks.{HaveAddresses}
use Rattle.recorded_history.proofs.arriving.parents_of.Given as goal

-- the parents so far have the addresses so far
abbrev pub invariant-loop-address : goal.invariant-loop-address
invariant-loop-address g l = HaveAddresses (fix g.T.Mrdt.meaning l.versions.core.terms g.A.Address.address) l.versions.core.history (take l.address-index l.addresses) l.parents.items
