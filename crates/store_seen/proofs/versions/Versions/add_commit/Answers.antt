-- What the move adds is there, and nothing fails once there is memory.
use Rattle.std.proofs.Common.{◌∷◌, [], ◌++◌, ap, sym, ◌∙◌, subst}
use Rattle.store_seen.specs.Nodes.{AddsCommit}
use Rattle.store_seen.proofs.Cores.{commit-core}
use Rattle.store_seen.proofs.versions.Versions.add_commit.Goals as goal

pub invariant_of-self-2 : goal.invariant_of-self-2
invariant_of-self-2 g c =
    let laws = (g.met.T.Mrdt g.world.𝓛 g.world.𝓜 g.world.𝓡 ((λ s x. x), (λ x. x), (λ x. x), λ x. x)).laws in
    let adds = subst (λ v. AddsCommit g.T.Mrdt.meaning v.core.terms v.core.history c.args.made c.args.place.now.branch c.args.parents.now c.args.clock c.args.value) (sym c.self.view_is) c.requires.adds in
    let made = c.push_reserved.ensures.items ∙ ap (λ l. l ++ c.args.made ∷ []) c.in_ok-reserve.ensures.items in
    let clocks = c.push_reserved-2.ensures.items ∙ ap (λ l. l ++ c.args.clock ∷ []) c.in_ok-reserve-2.ensures.items in
    let pushed = c.in_ok-commit.ensures in
    commit-core g.T.Mrdt.meaning laws c.self.inside.terms c.self.inside.moves.items c.self.inside.heads c.self.inside.nodes.graph c.self.inside.clocks.items c.self.inside.nodes.values c.self.invariant c.push_reserved.new.self.items c.put_head.new.heads c.args.made c.args.place.now.branch c.args.parents.now c.args.clock c.args.value adds made c.in_ok-commit.commit pushed.number c.put_head.ensures c.push.new.self.graph (ap (λ n. n.graph) pushed.pushed) c.push_reserved-2.new.self.items clocks c.push.new.self.values (ap (λ n. n.values) pushed.pushed)
