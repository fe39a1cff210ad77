use Rattle.std.proofs.Common.{◌++◌, ℕ, codes, decimal, subst, OnErr}
use Rattle.mrdt_model.specs.Spelled.{AppendsPart}
use Rattle.branch_print.specs.Texts.{line_end}
use Rattle.branch_print.proofs.reports.put_no_upgrade.Goals as goal

pub returns-clause-err : goal.returns-clause-err
returns-clause-err c =
    subst (λ (n : ℕ). OnErr c.put_count.result (AppendsPart c.args.out.now.items c.put_count.new.out.items (codes "refused upgrade " ++ decimal n ++ line_end))) c.from.ensures c.put_count.ensures.err
