-- The next name is no branch's, or has a head.
use Rattle.std.proofs.Common.{◌≡◌, ◌+◌, ◌<◌, ◌∷◌, [], ◌++◌, length, length-append, take, drop, ap, sym, ◌∙◌, subst, arith, rules}
use Rattle.std.proofs.lemmas.List.{take_more, drop_more, take-append-drop}
use Rattle.std.proofs.lemmas.List.Elements.{All-push}
use Rattle.branch_history.specs.History.{store_of}
use Rattle.store_seen.proofs.Cores.{look-refused, head-there, head-sees}
use Rattle.store_seen.proofs.Groups.{AreHeads-push}
use Rattle.store_seen.proofs.versions.Versions.heads_of.Goals as goal

pub returns-in_default-clause-refused : goal.returns-in_default-clause-refused
returns-in_default-clause-refused g c =
    let laws = (g.met.T.Mrdt g.world.𝓛 g.world.𝓜 g.world.𝓡 ((λ s x. x), (λ x. x), (λ x. x), λ x. x)).laws in
    let from = c.args.from.now in
    let i = c.loop-name.name-index in
    let name = c.name-item.result in
    let lt : i < length from = omega arith in
    let split = sym (take-append-drop i from) ∙ ap (λ l. take i from ++ l) (drop_more from i name lt ∙ ap (λ n. n ∷ drop (i + 1) from) (sym c.name-item.is)) in
    let refused = look-refused g.T.Mrdt.meaning laws c.self.inside.terms c.self.inside.moves.items c.self.inside.heads c.self.inside.nodes.graph c.self.inside.clocks.items c.self.inside.nodes.values c.self.invariant name c.in_default.ensures.number in
    (take i from, drop (i + 1) from, c.loop-name.heads.items, split, c.loop-name.invariant.heads, rw (← c.self.view_is) refused)

pub loop-name-preserved : goal.loop-name-preserved
loop-name-preserved g c =
    let laws = (g.met.T.Mrdt g.world.𝓛 g.world.𝓜 g.world.𝓡 ((λ s x. x), (λ x. x), (λ x. x), λ x. x)).laws in
    let m = g.T.Mrdt.meaning in
    let core = c.args.self.now.core in
    let from = c.args.from.now in
    let i = c.loop-name.name-index in
    let name = c.name-item.result in
    let head = c.head.result in
    let heads = c.loop-name.heads.items in
    let lt : i < length from = omega arith in
    let pushed : c.push.new.self.items ≡ heads ++ head ∷ [] = search rules in
    let next = take_more from i name lt ∙ ap (λ n. take i from ++ n ∷ []) (sym c.name-item.is) in
    let there = head-there m laws c.self.inside.terms c.self.inside.moves.items c.self.inside.heads c.self.inside.nodes.graph c.self.inside.clocks.items c.self.inside.nodes.values c.self.invariant c.in-Some.source head c.in-Some.ensures.kept.0 c.head.ensures in
    let here : head < length (store_of core.terms.origin core.history).commits = subst (λ v. head < length (store_of v.core.terms.origin v.core.history).commits) c.self.view_is there in
    let sees = head-sees m laws c.self.inside.terms c.self.inside.moves.items c.self.inside.heads c.self.inside.nodes.graph c.self.inside.clocks.items c.self.inside.nodes.values c.self.invariant c.in-Some.source head c.in-Some.ensures.kept.0 c.head.ensures name c.in-Some.ensures.number in
    let size = ap length pushed ∙ length-append heads (head ∷ []) in
    let counted = c.loop-name.invariant.counted in
    record {
      heads = rw (pushed, next) (AreHeads-push m core (take i from) heads c.loop-name.invariant.heads name c.in-Some.source head (rw (← c.self.view_is) sees));
      there = rw pushed (All-push (λ n. n < length (store_of core.terms.origin core.history).commits) heads head c.loop-name.invariant.there here);
      counted = omega (arith, size, counted);
    }
