use Rattle.std.proofs.Common.{arith}
use Rattle.std.proofs.lemmas.Result.{on_ok_weaker}
use Rattle.branch_history.specs.History.{store_of}
use Rattle.branch_shell.proofs.Reports.{next_branch, whole_report}
use Rattle.branch_shell.proofs.answer.put_report.Goals as goal

pub loop-number-preserved : goal.loop-number-preserved
loop-number-preserved g c =
    let branches = (store_of c.args.core.now.terms.origin c.args.core.now.history).branches in
    record {
      written = next_branch branches c.loop-number.number c.args.out.now.items c.loop-number.out.items c.put_branch_line.new.out.items (omega arith) c.in_ok-put_branch_line.ensures c.loop-number.invariant.written;
      within = omega arith;
    }

pub returns : goal.returns
returns g c =
    let branches = (store_of c.args.core.now.terms.origin c.args.core.now.history).branches in
    on_ok_weaker c.put_totals.result
    (whole_report c.args.core.now.terms.origin c.args.core.now.history c.args.out.now.items c.loop-number.out.items c.put_totals.new.out.items c.loop-number.number c.moves.result c.commits.result c.branches.result
    (omega (arith, c.loop-number-test.false, c.branches-number-end.ensures)) c.loop-number.invariant.written c.moves.ensures.moves c.commits.ensures c.branches.ensures)
    c.put_totals.ensures.ok
