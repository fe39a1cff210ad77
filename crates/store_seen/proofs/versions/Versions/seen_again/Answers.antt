-- What was seen is there now.
use Rattle.std.proofs.Common.{◌≡◌, length, ap, sym, ◌∙◌, subst, arith}
use mathlib.Core.List.{IsPrefix}
use Rattle.store_seen.proofs.Cores.{look-again}
use Rattle.store_seen.proofs.versions.Versions.seen_again.Goals as goal

pub invariant_of-result : goal.invariant_of-result
invariant_of-result g c =
    let laws = (g.met.T.Mrdt g.world.𝓛 g.world.𝓜 g.world.𝓡 ((λ s x. x), (λ x. x), (λ x. x), λ x. x)).laws in
    let counted : c.len.result ≡ length c.self.inside.moves.items = omega arith in
    let prefix = subst (λ v. IsPrefix v.history c.self.inside.moves.items) (sym c.seen.view_is) (subst (λ v. IsPrefix c.args.seen.now.history v.core.history) (sym c.self.view_is) c.requires.history) in
    let terms = ap (λ v. v.terms) c.seen.view_is ∙ c.requires.terms ∙ ap (λ v. v.core.terms) (sym c.self.view_is) in
    rw c.of.ensures (look-again g.T.Mrdt.meaning laws c.self.inside.terms c.self.inside.moves.items c.self.inside.heads c.self.inside.nodes.graph c.self.inside.clocks.items c.self.inside.nodes.values c.self.invariant _ prefix terms c.seen.inside.moves c.seen.inside.clock _ c.seen.invariant c.len.result counted _ c.in_ok-try_clone.ensures)
