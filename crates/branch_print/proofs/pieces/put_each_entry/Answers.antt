use Rattle.std.proofs.Common.{◌++◌, ℕ, List, codes}
use Rattle.live_set.specs.declared.kept.Kept.{Kept}
use Rattle.branch_wire.proofs.Parts.{on-err}
use Rattle.branch_print.specs.Texts.{entry_text}
use Rattle.branch_print.proofs.Written.{each-part}
use Rattle.branch_print.proofs.pieces.put_each_entry.Goals as goal

pub returns-in_err-put_entry-clause-err : goal.returns-in_err-put_entry-clause-err
returns-in_err-put_entry-clause-err c =
    on-err c.from_residual.result (each-part (λ (entry : Kept (List ℕ)). codes " " ++ entry_text entry) c.args.entries.now c.loop-entry.entry-index c.entry-item.result c.entry-item.result
    c.args.out.now.items c.loop-entry.out.items c.put_entry.new.out.items c.loop-entry-test.true c.entry-item.is c.loop-entry.invariant c.in_err-put_entry.ensures.err)
