-- The items of the commits that are sent.
use Rattle.std.proofs.Common.{◌∙◌, ap, sym, subst, refl}
use Rattle.branch_history.specs.Commits.{graph_of}
use Rattle.branch_history.specs.History.{store_of}
use Rattle.branch_history.specs.Validity.{IsValid}
use Rattle.branch_machine.specs.Fixed.{fix}
use Rattle.branch_machine.proofs.Valid.{valid-before}
use Rattle.store_core.proofs.Bundled.{written-valid, address-of-all, bundle-sent}
use Rattle.store_core.proofs.bundling.bundle_for.Goals as goal

pub graph_of_moves-requires-after_bounds : goal.graph_of_moves-requires-after_bounds
graph_of_moves-requires-after_bounds g c κs within =
    let r = c.args.recorded.now in
    let meaning = g.T.Mrdt.meaning in
    let fixed = fix meaning r.terms g.A.Address.address in
    let valid = valid-before fixed r.written (written-valid fixed r.written r.pending c.requires.settled c.moves-moves.ensures.valid) in
    subst (λ t. IsValid meaning t c.history.result.now) (sym c.terms.ensures) (subst (λ l. IsValid meaning r.terms l) (sym c.history.ensures) valid)

pub unreachable-requires : goal.unreachable-requires
unreachable-requires g c =
    let r = c.args.recorded.now in
    address-of-all (fix g.T.Mrdt.meaning r.terms g.A.Address.address) r.written c.args.tip c.requires.there (sym c.in_default.is ∙ c.address.ensures)

pub returns : goal.returns
returns g c =
    let r = c.args.recorded.now in
    let fixed = fix g.T.Mrdt.meaning r.terms g.A.Address.address in
    let laws = (g.met.T.Mrdt g.world.𝓛 g.world.𝓜 g.world.𝓡 ((λ s x. x), (λ x. x), (λ x. x), λ x. x)).laws in
    let valid = written-valid fixed r.written r.pending c.requires.settled c.moves-moves.ensures.valid in
    let graph = c.in_ok-graph.ensures ∙ ap (λ t. graph_of (store_of t.origin c.history.result.now).commits) c.terms.ensures ∙ ap (λ l. graph_of (store_of r.terms.origin l).commits) c.history.ensures in
    bundle-sent fixed laws g.met.A.Address.size r.written valid c.args.here.now c.args.tip c.in_ok-reached.reached.items c.in_ok-held.held.items c.in-Some.address c.in_ok-items.items.items (record { tip = c.in-Some.address; items = c.from_vec.result }) c.in_ok-graph.graph.commits graph
    c.in_ok-reached.ensures.count c.in_ok-reached.ensures.marks c.in_ok-held.ensures.marks (sym c.address.ensures ∙ c.in-Some.is) c.deref.result.now c.deref-2.result.now c.deref.ensures.value c.deref-2.ensures.value c.in_ok-items.ensures refl c.from_vec.ensures
