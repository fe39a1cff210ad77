use Rattle.std.proofs.Common.{◌<◌, arith, length, sym, subst}
use Rattle.std.proofs.lemmas.Result.{err_from_is_err_and}
use Rattle.mrdt_model.specs.declared.errors.Unread.TheVariants as unread
use Rattle.mrdt_map.proofs.Reading.{taken-none, taken-more, taken-next, passed-on}
use Rattle.mrdt_map.specs.Reading.{AreTaken}
use Rattle.mrdt_map.proofs.tables.take_entries.Goals as goal

pub returns-in_err-take_entry-clause-outside : goal.returns-in_err-take_entry-clause-outside
returns-in_err-take_entry-clause-outside g c error texts rest inside many is =
    let few : c.loop-index._index < length texts = omega (arith, many) in
    let p = err_from_is_err_and c.from_residual.result c.from_residual.ensures.1 in
    let own = passed-on c.from_residual.result c.in_err-take_entry.field-0.0 p.0 unread.NotCanonical p.1 p.2 error in
    taken-next g.T.Inner.meaning c.args.cursor.now c.loop-index.cursor rest c.loop-index._index c.loop-index.slots.items texts c.loop-index.invariant few inside is (c.in_err-take_entry.ensures.outside own)

pub loop-index-preserved : goal.loop-index-preserved
loop-index-preserved g c = taken-more g.T.Inner.meaning c.args.cursor.now c.loop-index.cursor c.take_entry.new.cursor c.loop-index._index c.loop-index.slots.items c.take_entry.new.slots.items c.loop-index.invariant c.in_ok-take_entry.ensures.ok

pub loop-index-init : goal.loop-index-init
loop-index-init g c = subst (λ es. AreTaken g.T.Inner.meaning c.args.cursor.now 0 c.args.cursor.now es) (sym c.new-slots.ensures.items) (taken-none g.T.Inner.meaning c.args.cursor.now)
