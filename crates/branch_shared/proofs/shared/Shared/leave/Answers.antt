use Rattle.std.proofs.Common.{◌++◌, ap, subst, ◌∙◌}
use mathlib.Core.List.{IsPrefix}
use Rattle.branch_history.specs.declared.moves.Move.{Move}
use Rattle.branch_shared.specs.Batches.{pass_of}
use Rattle.branch_shared.specs.Entries.{moments_of, moves_of}
use Rattle.branch_shared.specs.Passes.{PassView}
use Rattle.branch_shared.proofs.Adopts.{joined, joins}
use Rattle.branch_shared.proofs.Behind.{prefix_behind}
use Rattle.branch_shared.proofs.Entries.{each-known, prefix-moments, prefix-moves}
use Rattle.branch_shared.proofs.shared.Shared.leave.Goals as goal

pub returns-clause-into : goal.returns-clause-into
returns-clause-into g c =
    let begun = g.N.Named.begun in
    joins begun c.into.inside.pass c.pass.inside.pass c.join.new.self c.join.ensures.pass
    ∙ (ap (λ (p : PassView (Move _ _)). joined p (pass_of begun c.pass.inside.pass)) c.into.view_is ∙ ap (λ (p : PassView (Move _ _)). joined c.args.into.now p) c.pass.view_is)

pub returns-clause-this : goal.returns-clause-this
returns-clause-this g c =
    let begun = g.N.Named.begun in
    let new = c.join.new.self.moves in
    subst (λ (p : PassView (Move _ _)). IsPrefix p.moves (begun ++ moves_of new)) c.into.view_is
    (prefix_behind begun (moves_of c.into.inside.pass.moves) (moves_of new) (prefix-moves c.into.inside.pass.moves new c.join.ensures.this))

pub returns-clause-that : goal.returns-clause-that
returns-clause-that g c =
    let begun = g.N.Named.begun in
    let new = c.join.new.self.moves in
    subst (λ (p : PassView (Move _ _)). IsPrefix p.moves (begun ++ moves_of new)) c.pass.view_is
    (prefix_behind begun (moves_of c.pass.inside.pass.moves) (moves_of new) (prefix-moves c.pass.inside.pass.moves new c.join.ensures.that))

pub returns-clause-sure : goal.returns-clause-sure
returns-clause-sure g c =
    let new = c.join.new.self.moves in
    (subst (λ (p : PassView (Move _ _)). IsPrefix p.sure (moments_of new)) c.into.view_is (prefix-moments c.into.inside.pass.moves new c.join.ensures.this), each-known g.N.Named.begun new)

pub returns-clause-theirs : goal.returns-clause-theirs
returns-clause-theirs g c =
    let new = c.join.new.self.moves in
    (subst (λ (p : PassView (Move _ _)). IsPrefix p.sure (moments_of new)) c.pass.view_is (prefix-moments c.pass.inside.pass.moves new c.join.ensures.that), each-known g.N.Named.begun new)
