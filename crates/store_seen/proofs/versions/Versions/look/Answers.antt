-- The branch with the name, its head, and the clock and the value of the head.
use Rattle.std.proofs.Common.{◌≡◌, ◌<◌, length, ap, sym, ◌∙◌, refl, arith, Some}
use Rattle.std.proofs.lemmas.Option.{slice_get-get_or}
use Rattle.std.specs.Arc.{arc_value}
use Rattle.store_seen.proofs.Cores.{look-refused, head-clock, head-value, head-look, head-sees}
use Rattle.store_seen.proofs.versions.Versions.look.Goals as goal

pub returns-in_default-clause-refused : goal.returns-in_default-clause-refused
returns-in_default-clause-refused g c =
    let laws = (g.met.T.Mrdt g.world.𝓛 g.world.𝓜 g.world.𝓡 ((λ s x. x), (λ x. x), (λ x. x), λ x. x)).laws in
    (refl, rw (← c.self.view_is) (look-refused g.T.Mrdt.meaning laws c.self.inside.terms c.self.inside.moves.items c.self.inside.heads c.self.inside.nodes.graph c.self.inside.clocks.items c.self.inside.nodes.values c.self.invariant c.args.name.now c.in_default.ensures.number))

pub index-requires : goal.index-requires
index-requires g c =
    let laws = (g.met.T.Mrdt g.world.𝓛 g.world.𝓜 g.world.𝓡 ((λ s x. x), (λ x. x), (λ x. x), λ x. x)).laws in
    let lt : c.head-head.result < length c.self.inside.clocks.items = head-clock g.T.Mrdt.meaning laws c.self.inside.terms c.self.inside.moves.items c.self.inside.heads c.self.inside.nodes.graph c.self.inside.clocks.items c.self.inside.nodes.values c.self.invariant c.in-Some.branch c.head-head.result c.in-Some.ensures.kept.0 c.head-head.ensures in
    omega arith

pub value-requires-after_bounds : goal.value-requires-after_bounds
value-requires-after_bounds g c κs within =
    let laws = (g.met.T.Mrdt g.world.𝓛 g.world.𝓜 g.world.𝓡 ((λ s x. x), (λ x. x), (λ x. x), λ x. x)).laws in
    (head-value g.T.Mrdt.meaning laws c.self.inside.terms c.self.inside.moves.items c.self.inside.heads c.self.inside.nodes.graph c.self.inside.clocks.items c.self.inside.nodes.values c.self.invariant c.in-Some.branch c.head-head.result c.in-Some.ensures.kept.0 c.head-head.ensures)

pub invariant_of-result : goal.invariant_of-result
invariant_of-result g c =
    let laws = (g.met.T.Mrdt g.world.𝓛 g.world.𝓜 g.world.𝓡 ((λ s x. x), (λ x. x), (λ x. x), λ x. x)).laws in
    let n = c.head-head.result in
    let lt : n < length c.self.inside.clocks.items = head-clock g.T.Mrdt.meaning laws c.self.inside.terms c.self.inside.moves.items c.self.inside.heads c.self.inside.nodes.graph c.self.inside.clocks.items c.self.inside.nodes.values c.self.invariant c.in-Some.branch n c.in-Some.ensures.kept.0 c.head-head.ensures in
    let clock = c.index.result.now in
    let counted : c.len.result ≡ length c.self.inside.moves.items = omega arith in
    let timed = slice_get-get_or c.self.inside.clocks.items n clock lt ∙ ap Some (sym c.index.ensures) in
    let found = c.in_ok-value.ensures in
    rw c.of.ensures
    (head-look g.T.Mrdt.meaning laws c.self.inside.terms c.self.inside.moves.items c.self.inside.heads c.self.inside.nodes.graph c.self.inside.clocks.items c.self.inside.nodes.values c.self.invariant c.in-Some.branch n c.in-Some.ensures.kept.0 c.head-head.ensures c.len.result counted clock (arc_value c.in_ok-value.field-0) timed found)

pub returns-clause-sees : goal.returns-clause-sees
returns-clause-sees g c =
    let laws = (g.met.T.Mrdt g.world.𝓛 g.world.𝓜 g.world.𝓡 ((λ s x. x), (λ x. x), (λ x. x), λ x. x)).laws in
    rw (← c.self.view_is) (head-sees g.T.Mrdt.meaning laws c.self.inside.terms c.self.inside.moves.items c.self.inside.heads c.self.inside.nodes.graph c.self.inside.clocks.items c.self.inside.nodes.values c.self.invariant c.in-Some.branch c.head-head.result c.in-Some.ensures.kept.0 c.head-head.ensures c.args.name.now c.in-Some.ensures.number)
