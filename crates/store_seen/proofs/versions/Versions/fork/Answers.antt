-- Each refusal of a fork, and the fork.
use Rattle.std.proofs.Common.{◌≡◌, length, ap, sym, ◌∙◌, refl, arith}
use Rattle.branch_names.specs.Heads.{head_of}
use Rattle.branch_history.specs.History.{store_of}
use Rattle.store_seen.proofs.Cores.{fork-is_unknown, fork-is_taken, fork-is_full, fork-is_full_moves, fork-is_move, fork-turn}
use Rattle.store_seen.proofs.versions.Versions.fork.Goals as goal

pub returns-in_default-clause-refused : goal.returns-in_default-clause-refused
returns-in_default-clause-refused g c =
    let laws = (g.met.T.Mrdt g.world.𝓛 g.world.𝓜 g.world.𝓡 ((λ s x. x), (λ x. x), (λ x. x), λ x. x)).laws in
    (refl, rw (← c.self.view_is) (fork-is_unknown g.T.Mrdt.meaning laws c.self.inside.terms c.self.inside.moves.items c.self.inside.heads c.self.inside.nodes.graph c.self.inside.clocks.items c.self.inside.nodes.values c.self.invariant c.args.new c.args.from.now c.in_default.ensures.number))

pub returns-in-Some-find-clause-refused : goal.returns-in-Some-find-clause-refused
returns-in-Some-find-clause-refused g c =
    let laws = (g.met.T.Mrdt g.world.𝓛 g.world.𝓜 g.world.𝓡 ((λ s x. x), (λ x. x), (λ x. x), λ x. x)).laws in
    rw (← c.self.view_is) (fork-is_taken g.T.Mrdt.meaning laws c.self.inside.terms c.self.inside.moves.items c.self.inside.heads c.self.inside.nodes.graph c.self.inside.clocks.items c.self.inside.nodes.values c.self.invariant c.args.new c.args.from.now c.in-Some.source c.in-Some.ensures.number c.in-Some-find.number c.in-Some-find.ensures.number)

pub returns-then-count-self-clause-refused : goal.returns-then-count-self-clause-refused
returns-then-count-self-clause-refused g c =
    let laws = (g.met.T.Mrdt g.world.𝓛 g.world.𝓜 g.world.𝓡 ((λ s x. x), (λ x. x), (λ x. x), λ x. x)).laws in
    rw (← c.self.view_is)
    (fork-is_full g.T.Mrdt.meaning laws c.self.inside.terms c.self.inside.moves.items c.self.inside.heads c.self.inside.nodes.graph c.self.inside.clocks.items c.self.inside.nodes.values c.self.invariant c.args.new c.args.from.now c.in-Some.source c.in-Some.ensures.number c.in_default-find.ensures.number c.count-count.result c.count-count.ensures.count c.if-count-self.true)

pub returns-then-moves-self-clause-refused : goal.returns-then-moves-self-clause-refused
returns-then-moves-self-clause-refused g c =
    let laws = (g.met.T.Mrdt g.world.𝓛 g.world.𝓜 g.world.𝓡 ((λ s x. x), (λ x. x), (λ x. x), λ x. x)).laws in
    let counted : c.len-moves.result ≡ length c.self.inside.moves.items = omega arith in
    rw (← c.self.view_is)
    (fork-is_full_moves g.T.Mrdt.meaning laws c.self.inside.terms c.self.inside.moves.items c.self.inside.heads c.self.inside.nodes.graph c.self.inside.clocks.items c.self.inside.nodes.values c.self.invariant c.args.new c.args.from.now c.in-Some.source c.in-Some.ensures.number c.in_default-find.ensures.number c.count-count.result c.count-count.ensures.count c.if-count-self.false c.len-moves.result counted c.if-moves-self.true)

pub add_branch-requires-clause-moves : goal.add_branch-requires-clause-moves
add_branch-requires-clause-moves g c κs within =
    let laws = (g.met.T.Mrdt g.world.𝓛 g.world.𝓜 g.world.𝓡 ((λ s x. x), (λ x. x), (λ x. x), λ x. x)).laws in
    let counted : c.len-moves.result ≡ length c.self.inside.moves.items = omega arith in
    rw (← c.self.view_is)
    (fork-is_move g.T.Mrdt.meaning laws c.self.inside.terms c.self.inside.moves.items c.self.inside.heads c.self.inside.nodes.graph c.self.inside.clocks.items c.self.inside.nodes.values c.self.invariant c.args.new c.args.from.now c.in-Some.source c.in-Some.ensures.number c.in_default-find.ensures.number c.count-count.result c.count-count.ensures.count c.if-count-self.false c.len-moves.result counted c.if-moves-self.false c.in_default-find.ensures.name)

pub returns-clause-forked : goal.returns-clause-forked
returns-clause-forked g c =
    let laws = (g.met.T.Mrdt g.world.𝓛 g.world.𝓜 g.world.𝓡 ((λ s x. x), (λ x. x), (λ x. x), λ x. x)).laws in
    let counted : c.len-moves.result ≡ length c.self.inside.moves.items = omega arith in
    let source = c.in-Some.source in
    let forked = c.in_ok-add_branch.field-0 in
    let added = c.in_ok-add_branch.ensures.added in
    let number : forked.number ≡ length (store_of c.self.inside.terms.origin c.self.inside.moves.items).branches = added.number ∙ ap (λ v. length (store_of v.core.terms.origin v.core.history).branches) (sym c.self.view_is) in
    let head : forked.head ≡ head_of (store_of c.self.inside.terms.origin c.self.inside.moves.items).branches source = added.head ∙ ap (λ v. head_of (store_of v.core.terms.origin v.core.history).branches source) (sym c.self.view_is) in (
      source,
      record {
        turn_is =
            rw (← c.self.view_is)
            (fork-turn g.T.Mrdt.meaning laws c.self.inside.terms c.self.inside.moves.items c.self.inside.heads c.self.inside.nodes.graph c.self.inside.clocks.items c.self.inside.nodes.values c.self.invariant c.args.new c.args.from.now source c.in-Some.ensures.number c.in_default-find.ensures.number c.count-count.result c.count-count.ensures.count c.if-count-self.false c.len-moves.result counted c.if-moves-self.false forked.number forked.head number head);
        history = added.history;
        counted = added.counted;
      },
    )
