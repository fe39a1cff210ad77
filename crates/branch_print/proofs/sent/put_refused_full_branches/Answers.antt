use Rattle.std.proofs.Common.{ℕ, subst, OnErr}
use Rattle.mrdt_model.specs.Spelled.{AppendsPart}
use Rattle.branch_history.specs.Steps.{FullBranches}
use Rattle.branch_print.specs.Sent.{stop_text}
use Rattle.branch_print.proofs.sent.put_refused_full_branches.Goals as goal

pub returns-clause-err : goal.returns-clause-err
returns-clause-err c =
    subst (λ (n : ℕ). OnErr c.put_count.result (AppendsPart c.args.out.now.items c.put_count.new.out.items (stop_text 0 (FullBranches n)))) c.from.ensures c.put_count.ensures.err
