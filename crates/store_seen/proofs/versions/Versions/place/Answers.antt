-- Each refusal of a placed branch, and the branch.
use Rattle.std.proofs.Common.{◌≡◌, ◌<◌, ℕ, length, ap, sym, ◌∙◌, refl, subst, arith}
use Rattle.branch_history.specs.declared.moves.Move.TheVariants as move
use Rattle.branch_history.specs.History.{store_of}
use Rattle.branch_history.specs.Steps as machine
use Rattle.store_seen.proofs.Answered.{step-refused, step-made}
use Rattle.store_seen.proofs.Placed.{few-moves, place-is_taken, place-is_full, place-is_full_moves, place-is_move, place-turn}
use Rattle.store_seen.proofs.versions.Versions.place.Goals as goal

pub returns-in-Some-clause-steps : goal.returns-in-Some-clause-steps
returns-in-Some-clause-steps g c =
    let laws = (g.met.T.Mrdt g.world.𝓛 g.world.𝓜 g.world.𝓡 ((λ s x. x), (λ x. x), (λ x. x), λ x. x)).laws in
    rw (← c.self.view_is)
    (step-refused g.T.Mrdt.meaning (machine.Place c.args.name c.args.commit) _ _ refl (machine.NameTaken c.in-Some.number) (place-is_taken g.T.Mrdt.meaning laws c.self.inside.terms c.self.inside.moves.items c.self.inside.heads c.self.inside.nodes.graph c.self.inside.clocks.items c.self.inside.nodes.values c.self.invariant c.args.name c.args.commit c.in-Some.number c.in-Some.ensures.number))

pub returns-then-count-self-clause-steps : goal.returns-then-count-self-clause-steps
returns-then-count-self-clause-steps g c =
    let laws = (g.met.T.Mrdt g.world.𝓛 g.world.𝓜 g.world.𝓡 ((λ s x. x), (λ x. x), (λ x. x), λ x. x)).laws in
    rw (← c.self.view_is)
    (step-refused g.T.Mrdt.meaning (machine.Place c.args.name c.args.commit) _ _ refl (machine.FullBranches c.count-count.result)
    (place-is_full g.T.Mrdt.meaning laws c.self.inside.terms c.self.inside.moves.items c.self.inside.heads c.self.inside.nodes.graph c.self.inside.clocks.items c.self.inside.nodes.values c.self.invariant c.args.name c.args.commit c.in_default.ensures.number c.count-count.result c.count-count.ensures.count c.if-count-self.true))

pub returns-then-moves-self-clause-steps : goal.returns-then-moves-self-clause-steps
returns-then-moves-self-clause-steps g c =
    let laws = (g.met.T.Mrdt g.world.𝓛 g.world.𝓜 g.world.𝓡 ((λ s x. x), (λ x. x), (λ x. x), λ x. x)).laws in
    let counted : c.len-moves.result ≡ length c.self.inside.moves.items = omega arith in
    rw (← c.self.view_is)
    (step-refused g.T.Mrdt.meaning (machine.Place c.args.name c.args.commit) _ _ refl (machine.FullMoves c.len-moves.result)
    (place-is_full_moves g.T.Mrdt.meaning laws c.self.inside.terms c.self.inside.moves.items c.self.inside.heads c.self.inside.nodes.graph c.self.inside.clocks.items c.self.inside.nodes.values c.self.invariant c.args.name c.args.commit c.in_default.ensures.number c.count-count.result c.count-count.ensures.count c.if-count-self.false c.len-moves.result counted c.if-moves-self.true))

pub add_place-requires-clause-moves : goal.add_place-requires-clause-moves
add_place-requires-clause-moves g c κs within =
    let laws = (g.met.T.Mrdt g.world.𝓛 g.world.𝓜 g.world.𝓡 ((λ s x. x), (λ x. x), (λ x. x), λ x. x)).laws in
    let counted : c.len-moves.result ≡ length c.self.inside.moves.items = omega arith in
    let there = subst (λ v. c.args.commit < length (store_of v.core.terms.origin v.core.history).commits) (sym c.self.view_is) c.requires.there in
    rw (← c.self.view_is)
    (place-is_move g.T.Mrdt.meaning laws c.self.inside.terms c.self.inside.moves.items c.self.inside.heads c.self.inside.nodes.graph c.self.inside.clocks.items c.self.inside.nodes.values c.self.invariant c.args.name c.args.commit c.in_default.ensures.number c.count-count.result c.count-count.ensures.count c.if-count-self.false c.len-moves.result counted c.if-moves-self.false c.in_default.ensures.name there)

pub returns-clause-steps : goal.returns-clause-steps
returns-clause-steps g c =
    let laws = (g.met.T.Mrdt g.world.𝓛 g.world.𝓜 g.world.𝓡 ((λ s x. x), (λ x. x), (λ x. x), λ x. x)).laws in
    let m = g.T.Mrdt.meaning in
    let old = c.args.self.now in
    let new = c.add_place.new.self in
    let counted : c.len-moves.result ≡ length c.self.inside.moves.items = omega arith in
    let forked = c.in_ok-add_place.field-0 in
    let added = c.in_ok-add_place.ensures.added in
    let number : forked.number ≡ length (store_of c.self.inside.terms.origin c.self.inside.moves.items).branches = added.number ∙ ap (λ v. length (store_of v.core.terms.origin v.core.history).branches) (sym c.self.view_is) in
    let turn_is =
    place-turn g.T.Mrdt.meaning laws c.self.inside.terms c.self.inside.moves.items c.self.inside.heads c.self.inside.nodes.graph c.self.inside.clocks.items c.self.inside.nodes.values c.self.invariant c.args.name c.args.commit c.in_default.ensures.number c.count-count.result c.count-count.ensures.count c.if-count-self.false c.len-moves.result counted c.if-moves-self.false forked.number forked.head number added.head in
    let left = subst (λ v. length v.core.history < v.core.terms.limits.moves) c.self.view_is (subst (λ (n : ℕ). n < c.self.inside.terms.limits.moves) counted c.if-moves-self.false) in
    let few = few-moves old.core new.core (move.Place c.args.name forked.number c.args.commit) added.history left in
    step-made m (machine.Place c.args.name c.args.commit) old new (move.Place c.args.name forked.number c.args.commit) (machine.Forked forked.number forked.head) forked.moves (rw (← c.self.view_is) turn_is) added.history c.add_place.ensures.addresses added.counted few
