-- The items, and then the tip.
use Rattle.std.proofs.Common.{◌≡◌, ◌∙◌, refl, ap, sym, subst, List, map}
use Rattle.branch_machine.specs.Fixed.{fix}
use Rattle.branch_bundle_laws.specs.Receiving.{Placed as PlacedAs}
use Rattle.branch_bundle.specs.declared.bundle.Item.{Item}
use Rattle.branch_bundle.specs.Held.{plain, pair_of, numbered}
use Rattle.store_receive.specs.Received.{PlacesAtTip, NotPlacedAtTip, IsReceived, IsNotReceived}
use Rattle.store_receive.proofs.Loops.{cause-goes-on}
use Rattle.store_receive.proofs.Ends.{taken_listed, moments_listed, stops_listed, tip-moments, tip-placed, tip-refused, some-moments, stopped, ok-map, err-map}
use Rattle.store_receive.proofs.receiving.receive_bundle.Goals as goal

pub receive_items-requires-clause-numbers : goal.receive_items-requires-clause-numbers
receive_items-requires-clause-numbers g c κs within = subst (λ (l : List Item). l ≡ numbered 1 (map pair_of l)) (sym c.into_vec.ensures) c.requires.numbers

pub place_at_tip-requires-clause-working : goal.place_at_tip-requires-clause-working
place_at_tip-requires-clause-working g c κs within = ap (λ v. v.failed) c.in-Ok.ensures.taken.now ∙ c.requires.working

pub returns-in-Ok-clause-received : goal.returns-in-Ok-clause-received
returns-in-Ok-clause-received g c =
    let old = c.args.core.now in
    let mid = c.receive_items.new.core in
    let new = c.place_at_tip.new.core in
    let b = plain c.args.bundle in
    let name = c.args.name in
    ok-map c.place_at_tip.result (λ p. (p.count ≡ c.in-Ok.count) × PlacesAtTip (fix g.T.Mrdt.meaning mid.terms g.A.Address.address) name b.tip mid new p)
    (λ p. IsReceived (fix g.T.Mrdt.meaning old.terms g.A.Address.address) b name old new (PlacedAs p.count p.branch p.head))
    (tip-placed g.D.Disk g.T.Mrdt.meaning g.A.Address.address b name old mid c.in-Ok.count (taken_listed g.T.Mrdt.meaning g.A.Address.address c.into_vec.result.items c.args.bundle.items old mid c.in-Ok.count c.into_vec.ensures c.in-Ok.ensures.taken) new) c.place_at_tip.ensures.placed

pub returns-in-Ok-clause-refused : goal.returns-in-Ok-clause-refused
returns-in-Ok-clause-refused g c =
    let old = c.args.core.now in
    let mid = c.receive_items.new.core in
    let new = c.place_at_tip.new.core in
    let b = plain c.args.bundle in
    let name = c.args.name in
    err-map c.place_at_tip.result (NotPlacedAtTip (fix g.T.Mrdt.meaning mid.terms g.A.Address.address) name b.tip mid new)
    (IsNotReceived (fix g.T.Mrdt.meaning old.terms g.A.Address.address) b name old new)
    (tip-refused g.D.Disk g.T.Mrdt.meaning g.A.Address.address b name old mid c.in-Ok.count (taken_listed g.T.Mrdt.meaning g.A.Address.address c.into_vec.result.items c.args.bundle.items old mid c.in-Ok.count c.into_vec.ensures c.in-Ok.ensures.taken) new) c.place_at_tip.ensures.refused

pub returns-in-Ok-clause-moments : goal.returns-in-Ok-clause-moments
returns-in-Ok-clause-moments g c =
    let old = c.args.core.now in
    let mid = c.receive_items.new.core in
    let b = plain c.args.bundle in
    tip-moments g.D.Disk g.T.Mrdt.meaning g.A.Address.address b c.args.name old mid c.in-Ok.count (taken_listed g.T.Mrdt.meaning g.A.Address.address c.into_vec.result.items c.args.bundle.items old mid c.in-Ok.count c.into_vec.ensures c.in-Ok.ensures.taken) c.place_at_tip.new.core c.moves-moves.ensures.valid
    (some-moments (fix g.T.Mrdt.meaning old.terms g.A.Address.address) old.history b c.args.name g.D.Disk old.disk mid.disk (moments_listed g.D.Disk (fix g.T.Mrdt.meaning old.terms g.A.Address.address) c.into_vec.result.items c.args.bundle.items old mid c.into_vec.ensures c.in-Ok.ensures.moments)) c.place_at_tip.ensures.moments

pub returns-in-Ok-clause-cause : goal.returns-in-Ok-clause-cause
returns-in-Ok-clause-cause g c = cause-goes-on _ _ _ _ (c.in-Ok.ensures.cause.others (λ is. absurd (cc))) c.place_at_tip.ensures.cause

pub returns-in-Err-clause-refused : goal.returns-in-Err-clause-refused
returns-in-Err-clause-refused g c =
    let old = c.args.core.now in
    stopped (fix g.T.Mrdt.meaning old.terms g.A.Address.address) old.history (plain c.args.bundle) c.args.name old c.receive_items.new.core c.in-Err.refused refl
    (stops_listed (fix g.T.Mrdt.meaning old.terms g.A.Address.address) c.into_vec.result.items c.args.bundle.items old c.receive_items.new.core c.in-Err.refused c.into_vec.ensures c.in-Err.ensures.refused)

pub returns-in-Err-clause-moments : goal.returns-in-Err-clause-moments
returns-in-Err-clause-moments g c =
    let old = c.args.core.now in
    some-moments (fix g.T.Mrdt.meaning old.terms g.A.Address.address) old.history (plain c.args.bundle) c.args.name g.D.Disk old.disk c.receive_items.new.core.disk
    (moments_listed g.D.Disk (fix g.T.Mrdt.meaning old.terms g.A.Address.address) c.into_vec.result.items c.args.bundle.items old c.receive_items.new.core c.into_vec.ensures c.in-Err.ensures.moments)
