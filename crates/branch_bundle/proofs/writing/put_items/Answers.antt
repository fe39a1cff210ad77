use Rattle.std.proofs.Common.{length, sym, subst}
use Rattle.std.specs.List.{flat_map}
use Rattle.mrdt_model.specs.Spelled.{AppendsPart}
use Rattle.branch_wire.specs.Fields.{number}
use Rattle.branch_wire.proofs.Parts.{part-first, on-err}
use Rattle.branch_bundle.specs.Held.{held_text}
use Rattle.branch_bundle.proofs.Written.{counted-mapped, items-part, items-all}
use Rattle.branch_bundle.proofs.writing.put_items.Goals as goal

pub returns-in_err-put_u64-clause-err : goal.returns-in_err-put_u64-clause-err
returns-in_err-put_u64-clause-err c =
    let old = c.args.out.now.items in
    let new = c.put_u64.new.out.items in
    let items = c.args.items.now in
    on-err c.from_residual.result (subst (AppendsPart old new) (sym (counted-mapped items)) (part-first old new (number (length items)) (flat_map held_text items) c.in_err-put_u64.ensures.err))

pub returns-in_err-put_item-clause-err : goal.returns-in_err-put_item-clause-err
returns-in_err-put_item-clause-err c =
    on-err c.from_residual-in_err-put_item.result
    (items-part c.args.items.now c.loop-item.item-index c.item-item.result c.item-item.result c.args.out.now.items c.loop-item.out.items c.put_item.new.out.items c.loop-item-test.true c.item-item.is c.loop-item.invariant c.in_err-put_item.ensures.err)

pub returns-clause-ok : goal.returns-clause-ok
returns-clause-ok c = items-all c.args.items.now c.loop-item.item-index c.args.out.now.items c.loop-item.out.items c.loop-item-test.false c.loop-item.auto.item-index-end c.loop-item.invariant
