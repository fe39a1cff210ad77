use Rattle.std.proofs.Common.{◌≡◌, ◌++◌, subst, OnOk, OnErr}
use Rattle.mrdt_model.specs.Spelled.{AppendsPart}
use Rattle.branch_print.specs.Texts.{entries_text}
use Rattle.branch_print.proofs.Written.{one_or_none}
use Rattle.branch_print.proofs.replies.put_first.Goals as goal

pub returns-clause-ok : goal.returns-clause-ok
returns-clause-ok c =
    subst (λ xs. OnOk c.put_entries.result (c.put_entries.new.out.items ≡ c.args.out.now.items ++ entries_text xs)) (one_or_none c.args.entry.now c.as_slice.result.now c.as_slice.ensures) c.put_entries.ensures.ok

pub returns-clause-err : goal.returns-clause-err
returns-clause-err c =
    subst (λ xs. OnErr c.put_entries.result (AppendsPart c.args.out.now.items c.put_entries.new.out.items (entries_text xs))) (one_or_none c.args.entry.now c.as_slice.result.now c.as_slice.ensures) c.put_entries.ensures.err
