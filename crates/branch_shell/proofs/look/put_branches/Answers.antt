use Rattle.std.proofs.Common.{arith, refl}
use Rattle.branch_history.specs.History.{store_of}
use Rattle.branch_log.specs.Graphs.{branch_node}
use Rattle.branch_log.proofs.Told.{numbered-more, numbered-all}
use Rattle.branch_shell.proofs.look.put_branches.Goals as goal

pub loop-number-init : goal.loop-number-init
loop-number-init g c = record { written = refl; within = omega arith }

pub loop-number-preserved : goal.loop-number-preserved
loop-number-preserved g c =
    let branches = (store_of c.args.core.now.terms.origin c.args.core.now.history).branches in
    record {
      written = numbered-more branch_node c.loop-number.number branches c.loop-number.out.items c.put_branch_node.new.out.items _ c.loop-number.invariant.written c.in_ok-put_branch_node.ensures;
      within = omega arith;
    }

pub returns : goal.returns
returns g c =
    let branches = (store_of c.args.core.now.terms.origin c.args.core.now.history).branches in
    numbered-all branch_node c.loop-number.number branches c.loop-number.out.items _ (omega (arith, c.loop-number-test.false, c.branches-number-end.ensures)) c.loop-number.invariant.written
