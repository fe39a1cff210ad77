-- The branch that has the name of one that was not dropped is that one.
use Rattle.std.proofs.Common.{◌≡◌, ◌∙◌, ap, sym, Some}
use Rattle.branch_names.specs.Heads.{branch_named, head_of}
use Rattle.branch_history.specs.History.{store_of}
use Rattle.branch_history.proofs.Turns.{look-sees}
use Rattle.moves_again.proofs.Looks.{sees-so, sees-never}
use Rattle.moves_again.proofs.again.look_at.Goals as goal

pub unreachable-requires : goal.unreachable-requires
unreachable-requires g c =
    let core = c.args.core.now in
    let named : branch_named (store_of core.terms.origin core.history).branches c.unwrap-name.result.0 ≡ Some c.args.branch = (rw c.unwrap-name.ensures at c.branch-core.ensures.named) c.requires.1 in
    let sees = look-sees g.T.Mrdt.meaning core.terms core.history c.unwrap-name.result.0 c.args.branch named in
    sees-never _ _ _ (sym sees ∙ (rw c.in-Err-UnknownBranch.field-0-is at c.in-Err-UnknownBranch.ensures.refused).1)

pub returns-in-Ok : goal.returns-in-Ok
returns-in-Ok g c =
    let core = c.args.core.now in
    let named : branch_named (store_of core.terms.origin core.history).branches c.unwrap-name.result.0 ≡ Some c.args.branch = (rw c.unwrap-name.ensures at c.branch-core.ensures.named) c.requires.1 in
    let sees = look-sees g.T.Mrdt.meaning core.terms core.history c.unwrap-name.result.0 c.args.branch named in
    sees-so core c.in-Ok.seen _ _ c.in-Ok.ensures.on (sym c.in-Ok.ensures.sees ∙ sees)
