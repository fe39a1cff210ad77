-- The bytes are those of a bundle, or of none.
use Rattle.branch_machine.specs.Fixed.{fix}
use Rattle.branch_bundle_laws.specs.Receiving.{Placed as PlacedAs}
use Rattle.branch_bundle.specs.Held.{plain}
use Rattle.store_receive.specs.Received.{IsReceived, IsNotReceived, AreReceived, AreNotReceived}
use Rattle.store_receive.proofs.Ends.{ok-map, err-map, read-here, bundle-received, bundle-not-received, bundle-moments}
use Rattle.store_receive.proofs.receiving.receive_bytes.Goals as goal

pub receive_bundle-requires-clause-numbers : goal.receive_bundle-requires-clause-numbers
receive_bundle-requires-clause-numbers g c κs within = c.in-Ok.ensures.read.numbers

pub returns-in-Ok-clause-received : goal.returns-in-Ok-clause-received
returns-in-Ok-clause-received g c =
    let old = c.args.core.now in
    let new = c.receive_bundle.new.core in
    let fixed = fix g.T.Mrdt.meaning old.terms g.A.Address.address in
    let read = read-here c.terms-layout.result old.terms c.terms-layout.ensures c.deref.result.now c.args.bytes.items c.deref.ensures.value c.in-Ok.bundle c.in-Ok.ensures.read in
    let b = plain c.in-Ok.bundle in
    ok-map c.receive_bundle.result (λ p. IsReceived fixed b c.args.name old new (PlacedAs p.count p.branch p.head)) (λ p. AreReceived fixed c.args.bytes.items c.args.name old new (PlacedAs p.count p.branch p.head))
    (λ p r. bundle-received fixed c.args.bytes.items c.args.name old new b read.known read.spelled (PlacedAs p.count p.branch p.head) r) c.receive_bundle.ensures.received

pub returns-in-Ok-clause-refused : goal.returns-in-Ok-clause-refused
returns-in-Ok-clause-refused g c =
    let old = c.args.core.now in
    let new = c.receive_bundle.new.core in
    let fixed = fix g.T.Mrdt.meaning old.terms g.A.Address.address in
    let read = read-here c.terms-layout.result old.terms c.terms-layout.ensures c.deref.result.now c.args.bytes.items c.deref.ensures.value c.in-Ok.bundle c.in-Ok.ensures.read in
    let b = plain c.in-Ok.bundle in
    err-map c.receive_bundle.result (IsNotReceived fixed b c.args.name old new) (AreNotReceived fixed c.args.bytes.items c.args.name old new)
    (bundle-not-received fixed c.args.bytes.items c.args.name old new b read.known read.spelled) c.receive_bundle.ensures.refused

pub returns-in-Ok-clause-moments : goal.returns-in-Ok-clause-moments
returns-in-Ok-clause-moments g c =
    let old = c.args.core.now in
    let fixed = fix g.T.Mrdt.meaning old.terms g.A.Address.address in
    let read = read-here c.terms-layout.result old.terms c.terms-layout.ensures c.deref.result.now c.args.bytes.items c.deref.ensures.value c.in-Ok.bundle c.in-Ok.ensures.read in
    bundle-moments fixed c.args.bytes.items c.args.name old c.receive_bundle.new.core (plain c.in-Ok.bundle) read.known read.spelled g.D.Disk c.receive_bundle.ensures.moments
