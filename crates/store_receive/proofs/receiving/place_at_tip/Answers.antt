-- The first commit with the address, as the core finds it.
use Rattle.std.proofs.Common.{◌≡◌, ◌∙◌, refl, sym, inl, inr}
use Rattle.branch_machine.specs.Fixed.{fix}
use Rattle.store_core.proofs.Bundled.{address-within}
use Rattle.store_receive.specs.Received.{IsPlaced, PlacesAtTip, IsNotPlaced, NotPlacedAtTip, StandsAtTip}
use Rattle.store_receive.proofs.Ends.{addressed-is, stayed, at-tip-moments, ok-map, ok-both, err-map}
use Rattle.store_receive.proofs.receiving.place_at_tip.Goals as goal

pub place_at-requires-clause-there : goal.place_at-requires-clause-there
place_at-requires-clause-there g c κs within =
    let old = c.args.core.now in
    address-within (fix g.T.Mrdt.meaning old.terms g.A.Address.address) old.history c.args.tip.now c.in-Some.head (sym c.in-Some.ensures)

pub returns-in-Some-clause-placed : goal.returns-in-Some-clause-placed
returns-in-Some-clause-placed g c =
    let old = c.args.core.now in
    let new = c.place_at.new.core in
    let fixed = fix g.T.Mrdt.meaning old.terms g.A.Address.address in
    let found = addressed-is fixed old.history c.args.tip.now ∙ sym c.in-Some.ensures in
    ok-both c.place_at.result (λ p. p.count ≡ c.args.count) (PlacesAtTip fixed c.args.name c.args.tip.now old new) c.place_at.ensures.count
    (ok-map c.place_at.result (IsPlaced fixed c.args.name c.in-Some.head old new) (PlacesAtTip fixed c.args.name c.args.tip.now old new) (λ p is. (c.in-Some.head, found, is)) c.place_at.ensures.placed)

pub returns-in-Some-clause-refused : goal.returns-in-Some-clause-refused
returns-in-Some-clause-refused g c =
    let old = c.args.core.now in
    let new = c.place_at.new.core in
    let fixed = fix g.T.Mrdt.meaning old.terms g.A.Address.address in
    let found = addressed-is fixed old.history c.args.tip.now ∙ sym c.in-Some.ensures in
    err-map c.place_at.result (IsNotPlaced fixed c.args.name c.in-Some.head old new) (NotPlacedAtTip fixed c.args.name c.args.tip.now old new) (λ e is. inr (c.in-Some.head, found, is)) c.place_at.ensures.refused

pub returns-in-Some-clause-moments : goal.returns-in-Some-clause-moments
returns-in-Some-clause-moments g c =
    let old = c.args.core.now in
    let fixed = fix g.T.Mrdt.meaning old.terms g.A.Address.address in
    let found = addressed-is fixed old.history c.args.tip.now ∙ sym c.in-Some.ensures in
    at-tip-moments g.D.Disk fixed old.history c.args.name c.args.tip.now c.in-Some.head old.disk c.place_at.new.core.disk found c.place_at.ensures.moments

pub returns-in-None-clause-refused : goal.returns-in-None-clause-refused
returns-in-None-clause-refused g c =
    let old = c.args.core.now in
    inl (refl, addressed-is (fix g.T.Mrdt.meaning old.terms g.A.Address.address) old.history c.args.tip.now ∙ sym c.in-None.ensures, refl)

pub returns-in-None-clause-moments : goal.returns-in-None-clause-moments
returns-in-None-clause-moments g c =
    let old = c.args.core.now in
    let fixed = fix g.T.Mrdt.meaning old.terms g.A.Address.address in
    stayed g.D.Disk fixed old.history old.disk old.disk refl (c.moves-moves.ensures.stands c.requires.working) g.met.D.Disk.only_now (StandsAtTip fixed old.history c.args.name c.args.tip.now) (λ f stands. inl stands)
