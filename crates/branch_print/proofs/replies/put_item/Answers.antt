use Rattle.std.proofs.Common.{◌≡◌, ◌++◌, subst, OnOk, OnErr}
use Rattle.mrdt_model.specs.Spelled.{AppendsPart}
use Rattle.branch_print.specs.Texts.{items_text}
use Rattle.branch_print.proofs.Written.{one_or_none}
use Rattle.branch_print.proofs.replies.put_item.Goals as goal

pub returns-clause-ok : goal.returns-clause-ok
returns-clause-ok c =
    subst (λ xs. OnOk c.put_items.result (c.put_items.new.out.items ≡ c.args.out.now.items ++ items_text xs)) (one_or_none c.args.item.now c.as_slice.result.now c.as_slice.ensures) c.put_items.ensures.ok

pub returns-clause-err : goal.returns-clause-err
returns-clause-err c =
    subst (λ xs. OnErr c.put_items.result (AppendsPart c.args.out.now.items c.put_items.new.out.items (items_text xs))) (one_or_none c.args.item.now c.as_slice.result.now c.as_slice.ensures) c.put_items.ensures.err
