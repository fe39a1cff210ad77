-- The marks began on the commits that have one of the addresses.
use Rattle.branch_history.specs.History.{store_of}
use Rattle.branch_machine.specs.Fixed.{fix}
use Rattle.branch_machine.specs.Objects.{pairs_of}
use Rattle.branch_bundle_laws.specs.Bundles.{commits_here}
use Rattle.store_core.specs.Bundling.{is_here}
use Rattle.store_core.proofs.Bundled.{some-marked, here-listed, listed-here, written-valid}
use Rattle.store_core.proofs.bundling.mark_here.Goals as goal

pub returns-clause-marks : goal.returns-clause-marks
returns-clause-marks g c =
    let r = c.args.recorded.now in
    let address = g.A.Address.address in
    let fixed = fix g.T.Mrdt.meaning r.terms address in
    let laws = (g.met.T.Mrdt g.world.𝓛 g.world.𝓜 g.world.𝓡 ((λ s x. x), (λ x. x), (λ x. x), λ x. x)).laws in
    let size = g.met.A.Address.size in
    let valid = written-valid fixed r.written r.pending c.requires.settled c.moves-moves.ensures.valid in
    some-marked c.args.graph.now.commits (is_here fixed r.written c.args.here.now) (commits_here address (pairs_of fixed (store_of r.terms.origin r.written).commits) c.args.here.now)
    c.in_ok-marks.marks.items c.mark_addresses.new.marks.items c.mark_reached.new.marks.items c.in_ok-marks.ensures.marks c.mark_addresses.ensures.marked
    (here-listed fixed laws size r.written valid c.args.here.now) (listed-here fixed laws size r.written valid c.args.here.now) c.mark_reached.ensures.below
