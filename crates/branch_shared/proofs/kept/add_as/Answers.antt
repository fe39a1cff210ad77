-- The pass has then seen the history with the entry.
use Rattle.std.proofs.Common.{◌≡◌, ◌+◌, ◌∷◌, [], ◌++◌, length, ap, sym, subst, ◌∙◌, arith, append_assoc}
use mathlib.Core.List.{IsPrefix}
use Rattle.branch_front.proofs.Prefixes.{prefix_trans}
use Rattle.branch_history.specs.declared.moves.Move.{Move}
use Rattle.branch_shared.specs.Entries.{moments_of, moves_of}
use Rattle.branch_shared.specs.Keeps.{faults_since}
use Rattle.branch_shared.specs.Passes.{PassView}
use Rattle.branch_shared.proofs.Adopts.{adds}
use Rattle.branch_shared.proofs.Entries.{each-known, long-behind, moves-append, prefix-moments}
use Rattle.branch_shared.proofs.kept.add_as.Goals as goal

pub returns-clause-pass : goal.returns-clause-pass
returns-clause-pass g c =
    let begun = g.N.Named.begun in
    let old = c.args.writer.now.moves in
    let new = c.add.new.self.moves in
    let entry = g.E.Told.entry in
    let history = c.args.core.now.history in
    let faults = faults_since g.D.Disk.faults c.args.core.now in
    let grown : new ≡ old ++ entry = ap (λ w. w.moves) c.add.ensures.writer in
    let moves : begun ++ moves_of new ≡ history = ap (λ l. begun ++ moves_of l) grown ∙ (ap (λ l. begun ++ l) (moves-append old entry) ∙ (sym (append_assoc begun (moves_of old) (moves_of entry)) ∙ sym c.requires.entry.1)) in
    let opening : c.args.front.now.begun ≡ length begun = ap (λ f. f.begun) c.requires.front in
    let long : c.add.result ≡ length history = omega (arith, c.add.ensures.length, opening, long-behind begun new history (sym moves)) in
    adds begun c.pass.inside.pass c.add.new.pass new history c.add.result faults (c.add.ensures.pass ∙ ap (λ n. record c.pass.inside.pass { moves = new; mine = c.pass.inside.pass.mine ++ c.add.result ∷ []; faults = n; receipts = c.pass.inside.pass.receipts + 1 }) c.requires.told) moves long
    ∙ ap (λ (p : PassView (Move _ _)). record p { moves = history; sure = moments_of new; mine = p.mine ++ length history ∷ []; faults = faults; receipts = p.receipts + 1 }) c.pass.view_is

pub returns-clause-knows : goal.returns-clause-knows
returns-clause-knows g c =
    let old = c.args.writer.now.moves in
    let new = c.add.new.pass.moves in
    let seen = c.pass.inside.pass.moves in
    let grown : new ≡ old ++ g.E.Told.entry = ap (λ p. p.moves) c.add.ensures.pass ∙ ap (λ w. w.moves) c.add.ensures.writer in
    let further = prefix_trans seen old new c.add.ensures.seen (g.E.Told.entry, sym grown) in
    (subst (λ (p : PassView (Move _ _)). IsPrefix p.sure (moments_of new)) c.pass.view_is (prefix-moments seen new further), each-known g.N.Named.begun new)
