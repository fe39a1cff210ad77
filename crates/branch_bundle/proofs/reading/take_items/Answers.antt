use Rattle.std.proofs.Common.{◌≡◌, ◌∙◌, ◌<◌, ◌^◌, ◌++◌, ℕ, List, ap, sym, subst, arith, rules, length, map, append_assoc}
use Rattle.std.specs.List.{flat_map}
use Rattle.std.proofs.lemmas.Result.{err_from_is_err_and}
use Rattle.mrdt_model.specs.declared.errors.Unread.TheVariants as unread
use Rattle.branch_wire.specs.Fields.{number}
use Rattle.branch_wire.specs.Reading.{AreCounted}
use Rattle.branch_objects_codec.proofs.Passed.{passed-on}
use Rattle.branch_bundle_laws.specs.Text.{item_text, IsItemText}
use Rattle.branch_bundle.specs.declared.bundle.Item.{Item}
use Rattle.branch_bundle.specs.Held.{pair_of, items_text, numbered}
use Rattle.branch_bundle.proofs.Taken.{taken-more, taken-none, taken-counted, taken-known}
use Rattle.branch_bundle.proofs.reading.take_items.Goals as goal

pub loop-index-preserved : goal.loop-index-preserved
loop-index-preserved c =
    taken-more c.args.layout c.take_u64.new.self c.loop-index.cursor c.take_item.new.cursor c.loop-index.index c.loop-index.items.items c.push_item.new.list.items c.in_ok-item.item c.loop-index.invariant c.in_ok-item.ensures.known c.in_ok-item.ensures.number c.in_ok-item.ensures.ok c.in_ok-push_item.ensures

pub returns-in_err-item-clause-outside : goal.returns-in_err-item-clause-outside
returns-in_err-item-clause-outside c error all rest fit is =
    let flat = flat_map item_text all in
    let found = c.in_ok-count.ensures.back (length all) (flat ++ rest) fit.0 (is ∙ append_assoc (number (length all)) flat rest) in
    let many = found.0 in
    let few : c.loop-index.index < length all = omega (arith, many) in
    let p = err_from_is_err_and c.from_residual-in_err-item.result c.from_residual-in_err-item.ensures.1 in
    let own = passed-on c.from_residual-in_err-item.result c.in_err-item.field-0.0 p.0 unread.NotCanonical p.1 p.2 error in
    taken-none c.args.layout c.take_u64.new.self c.loop-index.cursor c.loop-index.index c.loop-index.items.items c.loop-index.invariant (c.in_err-item.ensures.outside own) all rest few fit.1 found.1

pub returns-clause-ok : goal.returns-clause-ok
returns-clause-ok c =
    let turns : c.in_ok-count.count ≡ c.loop-index.index = omega arith in
    let whole : c.args.cursor.now ≡ number c.loop-index.index ++ c.take_u64.new.self = subst (λ (n : ℕ). c.args.cursor.now ≡ number n ++ c.take_u64.new.self) turns c.in_ok-count.ensures.ok in
    taken-counted c.args.layout c.args.cursor.now c.take_u64.new.self c.loop-index.cursor c.loop-index.index c.loop-index.items.items whole c.loop-index.invariant
    ∙ ap (λ (taken : List Item). items_text taken ++ c.loop-index.cursor) (sym c.from_vec.ensures)

pub returns-clause-known : goal.returns-clause-known
returns-clause-known c =
    let small : c.loop-index.index < 2 ^ 64 = search rules in
    subst (λ (taken : List Item). AreCounted (IsItemText c.args.layout) (map pair_of taken)) (sym c.from_vec.ensures)
    (taken-known c.args.layout c.take_u64.new.self c.loop-index.cursor c.loop-index.index c.loop-index.items.items small c.loop-index.invariant)

pub returns-clause-numbers : goal.returns-clause-numbers
returns-clause-numbers c =
    c.from_vec.ensures ∙ c.loop-index.invariant.numbers ∙ ap (λ (taken : List Item). numbered 1 (map pair_of taken)) (sym c.from_vec.ensures)
