-- The merged value stands for what either commit sees.
use Rattle.std.proofs.Common.{◌≡◌, ◌<◌, ◌≤◌, ◌∷◌, [], max, false, ap, sym, ◌∙◌, subst}
use Rattle.std.proofs.Math.Nat.{max-zero}
use Rattle.std.specs.Arc.{arc_value}
use Rattle.branch_graph.specs.Graph.{reaches}
use Rattle.branch_history.specs.Commits.{graph_of, clock_of, greatest_clock, visible_at_all}
use Rattle.branch_history.specs.History.{store_of}
use Rattle.store_seen.specs.Keeps.{IsLook, IsSpelledValue}
use Rattle.store_seen.proofs.Pairs.{too_large-from_on, merged-ready}
use Rattle.store_seen.proofs.pair.Pair.merged.Goals as goal

pub returns-then-length-seen-clause-refused : goal.returns-then-length-seen-clause-refused
returns-then-length-seen-clause-refused g c =
    let laws = (g.met.T.Mrdt g.world.𝓛 g.world.𝓜 g.world.𝓡 ((λ s x. x), (λ x. x), (λ x. x), λ x. x)).laws in
    let m = g.T.Mrdt.meaning in
    let seen = c.self.inside.seen in
    let other = c.self.inside.other in
    let look = subst (λ v. IsLook m v c.seen.inside.moves c.seen.inside.clock (arc_value c.seen.inside.value)) c.seen.view_is c.seen.invariant in
    let value = c.in_ok-value.value in
    let above = subst (λ v. reaches (graph_of (store_of v.terms.origin v.history).commits) v.head v.other ≡ false) (sym c.self.view_is) c.requires.above in
    let below = subst (λ v. reaches (graph_of (store_of v.terms.origin v.history).commits) v.other v.head ≡ false) (sym c.self.view_is) c.requires.below in
    let stands = subst (λ v. m.stands value (visible_at_all (store_of v.terms.origin v.history).commits (v.head ∷ v.other ∷ []))) (sym c.self.view_is) c.in_ok-value.ensures in
    let size = c.in_ok-spelled.ensures.size_is in
    let large = subst (λ v. v.terms.limits.value < c.in_ok-spelled.spelled.size) c.seen.view_is c.if-length-seen.true in
    rw (← c.self.view_is) (too_large-from_on m laws seen look.look other c.self.invariant.there above below value stands c.in_ok-spelled.spelled.size size large)

pub returns-clause-ready : goal.returns-clause-ready
returns-clause-ready g c =
    let laws = (g.met.T.Mrdt g.world.𝓛 g.world.𝓜 g.world.𝓡 ((λ s x. x), (λ x. x), (λ x. x), λ x. x)).laws in
    let m = g.T.Mrdt.meaning in
    let seen = c.self.inside.seen in
    let other = c.self.inside.other in
    let look = subst (λ v. IsLook m v c.seen.inside.moves c.seen.inside.clock (arc_value c.seen.inside.value)) c.seen.view_is c.seen.invariant in
    let value = c.in_ok-value.value in
    let above = subst (λ v. reaches (graph_of (store_of v.terms.origin v.history).commits) v.head v.other ≡ false) (sym c.self.view_is) c.requires.above in
    let below = subst (λ v. reaches (graph_of (store_of v.terms.origin v.history).commits) v.other v.head ≡ false) (sym c.self.view_is) c.requires.below in
    let stands = subst (λ v. m.stands value (visible_at_all (store_of v.terms.origin v.history).commits (v.head ∷ v.other ∷ []))) (sym c.self.view_is) c.in_ok-value.ensures in
    let size = c.in_ok-spelled.ensures.size_is in
    let fits = subst (λ v. c.in_ok-spelled.spelled.size ≤ v.terms.limits.value) c.seen.view_is c.if-length-seen.false in
    let commits = (store_of seen.terms.origin seen.history).commits in
    let timed : c.max.result ≡ greatest_clock commits (seen.head ∷ other ∷ []) =
    c.max.ensures ∙ ap (λ k. max k c.self.inside.clock) look.node.timed ∙ ap (λ k. max (clock_of commits seen.head) k) (c.self.invariant.timed ∙ sym (max-zero (clock_of commits other))) in
    (ap (λ v. v.other) c.self.view_is, rw (← c.self.view_is) (merged-ready m laws seen look.look other c.self.invariant.there above below value stands c.max.result c.in_ok-spelled.spelled.size timed size fits), subst (λ t. IsSpelledValue m t.layout value c.in_ok-spelled.spelled) (ap (λ v. v.terms) c.seen.view_is ∙ ap (λ v. v.terms) c.self.view_is) c.in_ok-spelled.ensures)
