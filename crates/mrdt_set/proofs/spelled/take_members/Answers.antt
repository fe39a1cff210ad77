use Rattle.std.proofs.Common.{◌<◌, arith, length, sym, subst}
use Rattle.std.proofs.lemmas.Result.{err_from_is_err_and}
use Rattle.mrdt_model.specs.declared.errors.Unread.TheVariants as unread
use Rattle.mrdt_set.specs.Reading.{AreTaken}
use Rattle.mrdt_set.proofs.Reading.{taken-none, taken-more, taken-next, passed-on}
use Rattle.mrdt_set.proofs.spelled.take_members.Goals as goal

pub returns-in_err-take_member-clause-outside : goal.returns-in_err-take_member-clause-outside
returns-in_err-take_member-clause-outside c error es rest inside many is =
    let few : c.loop-index._index < length es = omega (arith, many) in
    let p = err_from_is_err_and c.from_residual.result c.from_residual.ensures.1 in
    let own = passed-on c.from_residual.result c.in_err-take_member.field-0.0 p.0 unread.NotCanonical p.1 p.2 error in
    taken-next c.args.cursor.now c.loop-index.cursor rest c.loop-index._index c.loop-index.slots.items es c.loop-index.invariant few inside is (c.in_err-take_member.ensures.outside own)

pub loop-index-preserved : goal.loop-index-preserved
loop-index-preserved c = taken-more c.args.cursor.now c.loop-index.cursor c.take_member.new.cursor c.loop-index._index c.loop-index.slots.items c.take_member.new.slots.items c.loop-index.invariant c.in_ok-take_member.ensures.ok

pub loop-index-init : goal.loop-index-init
loop-index-init c = subst (AreTaken c.args.cursor.now 0 c.args.cursor.now) (sym c.new-slots.ensures.items) (taken-none c.args.cursor.now)
