-- What the pass had seen is a beginning of the history, and so are its moments.
use Rattle.std.proofs.Common.{◌≡◌, ◌++◌, ap, subst, sym}
use mathlib.Core.List.{IsPrefix}
use Rattle.branch_history.specs.declared.moves.Move.{Move}
use Rattle.branch_shared.specs.Entries.{moments_of, moves_of}
use Rattle.branch_shared.specs.Passes.{PassView}
use Rattle.branch_shared.proofs.Behind.{prefix_behind}
use Rattle.branch_shared.proofs.Entries.{each-known, prefix-moments, prefix-moves}
use Rattle.branch_shared.proofs.kept.see_as.Goals as goal

pub returns-clause-prefix : goal.returns-clause-prefix
returns-clause-prefix g c =
    let begun = g.N.Named.begun in
    let all = c.args.writer.now.moves in
    let seen = c.pass.inside.pass.moves in
    let prefix = prefix_behind begun (moves_of seen) (moves_of all) (prefix-moves seen all c.look.ensures.seen) in
    subst (λ (p : PassView (Move _ _)). IsPrefix p.moves c.args.core.now.history) c.pass.view_is (subst (IsPrefix (begun ++ moves_of seen)) (sym c.requires.history) prefix)

pub returns-clause-knows : goal.returns-clause-knows
returns-clause-knows g c =
    let all = c.args.writer.now.moves in
    let seen = c.pass.inside.pass.moves in
    let prefix = subst (λ (p : PassView (Move _ _)). IsPrefix p.sure (moments_of all)) c.pass.view_is (prefix-moments seen all c.look.ensures.seen) in
    let now : c.look.new.pass.moves ≡ all = ap (λ p. p.moves) c.look.ensures.pass in
    (subst (λ l. IsPrefix c.args.pass.now.sure (moments_of l)) (sym now) prefix, each-known g.N.Named.begun c.look.new.pass.moves)

pub returns-clause-sure : goal.returns-clause-sure
returns-clause-sure g c =
    let all = c.args.writer.now.moves in
    let seen = c.pass.inside.pass.moves in
    subst (λ (p : PassView (Move _ _)). IsPrefix p.sure (moments_of all)) c.pass.view_is (prefix-moments seen all c.look.ensures.seen)
