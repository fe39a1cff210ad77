-- What was ready at the look is ready now, and what the checks refuse, the machine refuses.
use Rattle.std.proofs.Common.{◌≡◌, ap, sym, ◌∙◌, subst, None, OnOk, IfErr}
use mathlib.Core.List.{IsPrefix}
use Rattle.store_seen.specs.Keeps.{work_of}
use Rattle.store_seen.specs.Turns.{RefusedBy}
use Rattle.store_seen.proofs.Landable.{move_refusal, ready-may, ready-refused}
use Rattle.store_seen.proofs.Readies.{branch-there}
use Rattle.store_seen.proofs.versions.Versions.may_land.Goals as goal

pub may_add_commit-requires-after_bounds : goal.may_add_commit-requires-after_bounds
may_add_commit-requires-after_bounds g c κs within =
    let laws = (g.met.T.Mrdt g.world.𝓛 g.world.𝓜 g.world.𝓡 ((λ s x. x), (λ x. x), (λ x. x), λ x. x)).laws in
    let inside = c.prepared.inside in
    let seen = inside.seen.value in
    let core = c.args.self.now.core in
    let is = c.prepared.invariant in
    let prefix = subst (λ p. IsPrefix p.seen.history core.history) (sym c.prepared.view_is) c.requires.history in
    let terms = ap (λ p. p.seen.terms) c.prepared.view_is ∙ c.requires.terms in
    branch-there g.T.Mrdt.meaning laws seen is.look core prefix terms inside.branch inside.head is.at_branch is.newest

pub may_add_commit-requires-in-Merge-after_bounds : goal.may_add_commit-requires-in-Merge-after_bounds
may_add_commit-requires-in-Merge-after_bounds g c κs within =
    let laws = (g.met.T.Mrdt g.world.𝓛 g.world.𝓜 g.world.𝓡 ((λ s x. x), (λ x. x), (λ x. x), λ x. x)).laws in
    let inside = c.prepared.inside in
    let seen = inside.seen.value in
    let core = c.args.self.now.core in
    let is = c.prepared.invariant in
    let prefix = subst (λ p. IsPrefix p.seen.history core.history) (sym c.prepared.view_is) c.requires.history in
    let terms = ap (λ p. p.seen.terms) c.prepared.view_is ∙ c.requires.terms in
    branch-there g.T.Mrdt.meaning laws seen is.look core prefix terms inside.branch inside.head is.at_branch is.newest

pub may_add_commit-requires-in-Join-after_bounds : goal.may_add_commit-requires-in-Join-after_bounds
may_add_commit-requires-in-Join-after_bounds g c κs within =
    let laws = (g.met.T.Mrdt g.world.𝓛 g.world.𝓜 g.world.𝓡 ((λ s x. x), (λ x. x), (λ x. x), λ x. x)).laws in
    let inside = c.prepared.inside in
    let seen = inside.seen.value in
    let core = c.args.self.now.core in
    let is = c.prepared.invariant in
    let prefix = subst (λ p. IsPrefix p.seen.history core.history) (sym c.prepared.view_is) c.requires.history in
    let terms = ap (λ p. p.seen.terms) c.prepared.view_is ∙ c.requires.terms in
    branch-there g.T.Mrdt.meaning laws seen is.look core prefix terms inside.branch inside.head is.at_branch is.newest

pub may_move-requires-after_bounds : goal.may_move-requires-after_bounds
may_move-requires-after_bounds g c κs within =
    let laws = (g.met.T.Mrdt g.world.𝓛 g.world.𝓜 g.world.𝓡 ((λ s x. x), (λ x. x), (λ x. x), λ x. x)).laws in
    let inside = c.prepared.inside in
    let seen = inside.seen.value in
    let core = c.args.self.now.core in
    let is = c.prepared.invariant in
    let prefix = subst (λ p. IsPrefix p.seen.history core.history) (sym c.prepared.view_is) c.requires.history in
    let terms = ap (λ p. p.seen.terms) c.prepared.view_is ∙ c.requires.terms in
    branch-there g.T.Mrdt.meaning laws seen is.look core prefix terms inside.branch inside.head is.at_branch is.newest

pub returns-in-Operation-clause-may : goal.returns-in-Operation-clause-may
returns-in-Operation-clause-may g c =
    let laws = (g.met.T.Mrdt g.world.𝓛 g.world.𝓜 g.world.𝓡 ((λ s x. x), (λ x. x), (λ x. x), λ x. x)).laws in
    let inside = c.prepared.inside in
    let seen = inside.seen.value in
    let core = c.args.self.now.core in
    let is = c.prepared.invariant in
    let prefix = subst (λ p. IsPrefix p.seen.history core.history) (sym c.prepared.view_is) c.requires.history in
    let terms = ap (λ p. p.seen.terms) c.prepared.view_is ∙ c.requires.terms in
    let free = subst (λ made. OnOk c.may_add_commit.result (move_refusal core inside.branch inside.head (work_of made) ≡ None)) (sym c.in-Operation.is) c.may_add_commit.ensures.free in
    rw (← c.prepared.view_is) (ready-may g.T.Mrdt.meaning laws seen is.look core prefix terms c.may_add_commit.ensures.valid inside.branch inside.head is.at_branch is.newest c.may_add_commit.result inside.ready is.ready free)

pub returns-in-Operation-clause-refused : goal.returns-in-Operation-clause-refused
returns-in-Operation-clause-refused g c =
    let laws = (g.met.T.Mrdt g.world.𝓛 g.world.𝓜 g.world.𝓡 ((λ s x. x), (λ x. x), (λ x. x), λ x. x)).laws in
    let inside = c.prepared.inside in
    let seen = inside.seen.value in
    let core = c.args.self.now.core in
    let is = c.prepared.invariant in
    let prefix = subst (λ p. IsPrefix p.seen.history core.history) (sym c.prepared.view_is) c.requires.history in
    let terms = ap (λ p. p.seen.terms) c.prepared.view_is ∙ c.requires.terms in
    let refused = subst (λ made. IfErr c.may_add_commit.result (RefusedBy (move_refusal core inside.branch inside.head (work_of made)))) (sym c.in-Operation.is) c.may_add_commit.ensures.refused in
    rw (← c.prepared.view_is) (ready-refused g.T.Mrdt.meaning laws seen is.look core prefix terms c.may_add_commit.ensures.valid inside.branch inside.head is.at_branch is.newest c.may_add_commit.result inside.ready is.ready refused)

pub returns-in-Merge-clause-may : goal.returns-in-Merge-clause-may
returns-in-Merge-clause-may g c =
    let laws = (g.met.T.Mrdt g.world.𝓛 g.world.𝓜 g.world.𝓡 ((λ s x. x), (λ x. x), (λ x. x), λ x. x)).laws in
    let inside = c.prepared.inside in
    let seen = inside.seen.value in
    let core = c.args.self.now.core in
    let is = c.prepared.invariant in
    let prefix = subst (λ p. IsPrefix p.seen.history core.history) (sym c.prepared.view_is) c.requires.history in
    let terms = ap (λ p. p.seen.terms) c.prepared.view_is ∙ c.requires.terms in
    let free = subst (λ made. OnOk c.may_add_commit-in-Merge.result (move_refusal core inside.branch inside.head (work_of made) ≡ None)) (sym c.in-Merge.is) c.may_add_commit-in-Merge.ensures.free in
    rw (← c.prepared.view_is) (ready-may g.T.Mrdt.meaning laws seen is.look core prefix terms c.may_add_commit-in-Merge.ensures.valid inside.branch inside.head is.at_branch is.newest c.may_add_commit-in-Merge.result inside.ready is.ready free)

pub returns-in-Merge-clause-refused : goal.returns-in-Merge-clause-refused
returns-in-Merge-clause-refused g c =
    let laws = (g.met.T.Mrdt g.world.𝓛 g.world.𝓜 g.world.𝓡 ((λ s x. x), (λ x. x), (λ x. x), λ x. x)).laws in
    let inside = c.prepared.inside in
    let seen = inside.seen.value in
    let core = c.args.self.now.core in
    let is = c.prepared.invariant in
    let prefix = subst (λ p. IsPrefix p.seen.history core.history) (sym c.prepared.view_is) c.requires.history in
    let terms = ap (λ p. p.seen.terms) c.prepared.view_is ∙ c.requires.terms in
    let refused = subst (λ made. IfErr c.may_add_commit-in-Merge.result (RefusedBy (move_refusal core inside.branch inside.head (work_of made)))) (sym c.in-Merge.is) c.may_add_commit-in-Merge.ensures.refused in
    rw (← c.prepared.view_is) (ready-refused g.T.Mrdt.meaning laws seen is.look core prefix terms c.may_add_commit-in-Merge.ensures.valid inside.branch inside.head is.at_branch is.newest c.may_add_commit-in-Merge.result inside.ready is.ready refused)

pub returns-in-Join-clause-may : goal.returns-in-Join-clause-may
returns-in-Join-clause-may g c =
    let laws = (g.met.T.Mrdt g.world.𝓛 g.world.𝓜 g.world.𝓡 ((λ s x. x), (λ x. x), (λ x. x), λ x. x)).laws in
    let inside = c.prepared.inside in
    let seen = inside.seen.value in
    let core = c.args.self.now.core in
    let is = c.prepared.invariant in
    let prefix = subst (λ p. IsPrefix p.seen.history core.history) (sym c.prepared.view_is) c.requires.history in
    let terms = ap (λ p. p.seen.terms) c.prepared.view_is ∙ c.requires.terms in
    let free = subst (λ made. OnOk c.may_add_commit-in-Join.result (move_refusal core inside.branch inside.head (work_of made) ≡ None)) (sym c.in-Join.is) c.may_add_commit-in-Join.ensures.free in
    rw (← c.prepared.view_is) (ready-may g.T.Mrdt.meaning laws seen is.look core prefix terms c.may_add_commit-in-Join.ensures.valid inside.branch inside.head is.at_branch is.newest c.may_add_commit-in-Join.result inside.ready is.ready free)

pub returns-in-Join-clause-refused : goal.returns-in-Join-clause-refused
returns-in-Join-clause-refused g c =
    let laws = (g.met.T.Mrdt g.world.𝓛 g.world.𝓜 g.world.𝓡 ((λ s x. x), (λ x. x), (λ x. x), λ x. x)).laws in
    let inside = c.prepared.inside in
    let seen = inside.seen.value in
    let core = c.args.self.now.core in
    let is = c.prepared.invariant in
    let prefix = subst (λ p. IsPrefix p.seen.history core.history) (sym c.prepared.view_is) c.requires.history in
    let terms = ap (λ p. p.seen.terms) c.prepared.view_is ∙ c.requires.terms in
    let refused = subst (λ made. IfErr c.may_add_commit-in-Join.result (RefusedBy (move_refusal core inside.branch inside.head (work_of made)))) (sym c.in-Join.is) c.may_add_commit-in-Join.ensures.refused in
    rw (← c.prepared.view_is) (ready-refused g.T.Mrdt.meaning laws seen is.look core prefix terms c.may_add_commit-in-Join.ensures.valid inside.branch inside.head is.at_branch is.newest c.may_add_commit-in-Join.result inside.ready is.ready refused)

pub returns-in-Forward-clause-may : goal.returns-in-Forward-clause-may
returns-in-Forward-clause-may g c =
    let laws = (g.met.T.Mrdt g.world.𝓛 g.world.𝓜 g.world.𝓡 ((λ s x. x), (λ x. x), (λ x. x), λ x. x)).laws in
    let inside = c.prepared.inside in
    let seen = inside.seen.value in
    let core = c.args.self.now.core in
    let is = c.prepared.invariant in
    let prefix = subst (λ p. IsPrefix p.seen.history core.history) (sym c.prepared.view_is) c.requires.history in
    let terms = ap (λ p. p.seen.terms) c.prepared.view_is ∙ c.requires.terms in
    let free = subst (λ made. OnOk c.may_move.result (move_refusal core inside.branch inside.head (work_of made) ≡ None)) (sym c.in-Forward.is) c.may_move.ensures.free in
    rw (← c.prepared.view_is) (ready-may g.T.Mrdt.meaning laws seen is.look core prefix terms c.may_move.ensures.valid inside.branch inside.head is.at_branch is.newest c.may_move.result inside.ready is.ready free)

pub returns-in-Forward-clause-refused : goal.returns-in-Forward-clause-refused
returns-in-Forward-clause-refused g c =
    let laws = (g.met.T.Mrdt g.world.𝓛 g.world.𝓜 g.world.𝓡 ((λ s x. x), (λ x. x), (λ x. x), λ x. x)).laws in
    let inside = c.prepared.inside in
    let seen = inside.seen.value in
    let core = c.args.self.now.core in
    let is = c.prepared.invariant in
    let prefix = subst (λ p. IsPrefix p.seen.history core.history) (sym c.prepared.view_is) c.requires.history in
    let terms = ap (λ p. p.seen.terms) c.prepared.view_is ∙ c.requires.terms in
    let refused = subst (λ made. IfErr c.may_move.result (RefusedBy (move_refusal core inside.branch inside.head (work_of made)))) (sym c.in-Forward.is) c.may_move.ensures.refused in
    rw (← c.prepared.view_is) (ready-refused g.T.Mrdt.meaning laws seen is.look core prefix terms c.may_move.ensures.valid inside.branch inside.head is.at_branch is.newest c.may_move.result inside.ready is.ready refused)
