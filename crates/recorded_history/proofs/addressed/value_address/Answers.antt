-- The address is that of the object of the value that is written.
use Rattle.std.proofs.Common.{subst}
use Rattle.store_seen.specs.Written.{IsWritten}
use Rattle.recorded_history.proofs.Known.{operation-address, merge-address, join-address}
use Rattle.recorded_history.proofs.addressed.value_address.Goals as goal

pub returns-in-Operation : goal.returns-in-Operation
returns-in-Operation g c =
    let meaning = g.T.Mrdt.meaning in
    let prepared = c.args.prepared.now in
    let parts = c.in-Operation in
    let written = subst (λ w. IsWritten meaning prepared w) parts.is c.written.ensures in
    operation-address meaning g.A.Address.address prepared.seen prepared.work parts.clock parts.size parts.value parts.op parts.reply written c.address_of.result c.address_of.ensures

pub returns-in-Merge : goal.returns-in-Merge
returns-in-Merge g c =
    let meaning = g.T.Mrdt.meaning in
    let prepared = c.args.prepared.now in
    let parts = c.in-Merge in
    let written = subst (λ w. IsWritten meaning prepared w) parts.is c.written.ensures in
    merge-address meaning g.A.Address.address prepared.seen prepared.work parts.other parts.clock parts.size parts.value written c.address_of-in-Merge.result c.address_of-in-Merge.ensures

pub returns-in-Join : goal.returns-in-Join
returns-in-Join g c =
    let meaning = g.T.Mrdt.meaning in
    let prepared = c.args.prepared.now in
    let parts = c.in-Join in
    let written = subst (λ w. IsWritten meaning prepared w) parts.is c.written.ensures in
    join-address meaning g.A.Address.address prepared.seen prepared.work parts.others parts.clock parts.size parts.value written c.address_of-in-Join.result c.address_of-in-Join.ensures
