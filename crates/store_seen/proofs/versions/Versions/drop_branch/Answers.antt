-- The branch and the commit of the look are there, and the machine drops the branch where it may be dropped.
use Rattle.std.proofs.Common.{ap, sym, ◌∙◌, refl, subst}
use Rattle.std.proofs.lemmas.Result.{err_from_is_err_and}
use mathlib.Core.List.{IsPrefix}
use Rattle.branch_history.specs.declared.moves.Move.TheVariants as move
use Rattle.branch_history.specs.Steps as machine
use Rattle.branch_history.proofs.Turns.{drop-makes, IsMove-drop}
use Rattle.store_seen.proofs.Answered.{step-made}
use Rattle.store_seen.proofs.Placed.{few-moves, drop-stays}
use Rattle.store_seen.proofs.Readies.{branch-now, head-now}
use Rattle.store_seen.proofs.versions.Versions.drop_branch.Goals as goal

pub may_drop-requires-after_bounds : goal.may_drop-requires-after_bounds
may_drop-requires-after_bounds g c κs within =
    let laws = (g.met.T.Mrdt g.world.𝓛 g.world.𝓜 g.world.𝓡 ((λ s x. x), (λ x. x), (λ x. x), λ x. x)).laws in
    let core = c.args.self.now.core in
    let prefix = subst (λ v. IsPrefix v.history core.history) (sym c.seen.view_is) c.requires.history in
    let terms = ap (λ v. v.terms) c.seen.view_is ∙ c.requires.terms in
    branch-now g.T.Mrdt.meaning laws _ c.seen.invariant.look core prefix terms

pub returns-in_err-may_drop-clause-steps : goal.returns-in_err-may_drop-clause-steps
returns-in_err-may_drop-clause-steps g c =
    let old = c.args.self.now in
    let p = err_from_is_err_and c.from_residual.result c.from_residual.ensures.1 in
    rw (p.1, p.2, ← c.seen.view_is) (drop-stays g.T.Mrdt.meaning c.seen.inside.branch c.seen.inside.head old old refl c.in_err-may_drop.field-0.0 c.in_err-may_drop.ensures.refused)

pub add_drop-requires-clause-moves : goal.add_drop-requires-clause-moves
add_drop-requires-clause-moves g c κs within =
    let laws = (g.met.T.Mrdt g.world.𝓛 g.world.𝓜 g.world.𝓡 ((λ s x. x), (λ x. x), (λ x. x), λ x. x)).laws in
    let core = c.args.self.now.core in
    let prefix = subst (λ v. IsPrefix v.history core.history) (sym c.seen.view_is) c.requires.history in
    let terms = ap (λ v. v.terms) c.seen.view_is ∙ c.requires.terms in
    let there = branch-now g.T.Mrdt.meaning laws _ c.seen.invariant.look core prefix terms in
    let stands = head-now g.T.Mrdt.meaning laws _ c.seen.invariant.look core prefix terms in
    IsMove-drop g.T.Mrdt.meaning core.terms core.history c.seen.inside.branch c.seen.inside.head there stands c.in_ok-may_drop.ensures.free

pub add_drop-requires-clause-there : goal.add_drop-requires-clause-there
add_drop-requires-clause-there g c κs within =
    let laws = (g.met.T.Mrdt g.world.𝓛 g.world.𝓜 g.world.𝓡 ((λ s x. x), (λ x. x), (λ x. x), λ x. x)).laws in
    let core = c.args.self.now.core in
    let prefix = subst (λ v. IsPrefix v.history core.history) (sym c.seen.view_is) c.requires.history in
    let terms = ap (λ v. v.terms) c.seen.view_is ∙ c.requires.terms in
    (branch-now g.T.Mrdt.meaning laws _ c.seen.invariant.look core prefix terms, c.in_ok-may_drop.ensures.there)

pub returns-clause-steps : goal.returns-clause-steps
returns-clause-steps g c =
    let m = g.T.Mrdt.meaning in
    let old = c.args.self.now in
    let new = c.add_drop.new.self in
    let branch = c.seen.inside.branch in
    let head = c.seen.inside.head in
    let grown = c.in_ok-add_drop.ensures.dropped in
    let few = few-moves old.core new.core (move.Drop branch) grown c.in_ok-may_drop.ensures.left in
    rw (← c.seen.view_is)
    (step-made m (machine.Drop branch head) old new (move.Drop branch) (machine.DroppedAt branch head) c.in_ok-add_drop.field-0 (drop-makes m old.core.terms old.core.history branch head c.in_ok-may_drop.ensures.free) grown c.add_drop.ensures.addresses c.in_ok-add_drop.ensures.moves few)
