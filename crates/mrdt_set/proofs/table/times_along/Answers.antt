use Rattle.std.proofs.Common.{rules, ◌≡◌, ◌∙◌, ap, sym, Some}
use Rattle.keyed_slots.proofs.Places.{rest-next}
use Rattle.keyed_slots.proofs.Values.{rest-value}
use Rattle.mrdt_set.specs.Members.{times_at}
use Rattle.mrdt_set.proofs.table.times_along.Goals as goal

pub returns-then-same-clause-times : goal.returns-then-same-clause-times
returns-then-same-clause-times c =
    let table = c.args.table.now in
    let slot = c.in-Some.slot.now in
    let own = rest-value table c.args.walk.now c.requires slot c.size-size.ensures.sorted (sym c.in-Some.ensures) in
    let alike : c.element.result.now ≡ c.args.element.now = search rules in
    ap Some c.times.ensures ∙ sym own ∙ ap (times_at table) (sym c.element.ensures ∙ alike)

pub returns-then-same-clause-along : goal.returns-then-same-clause-along
returns-then-same-clause-along c = rest-next c.args.table.now c.args.walk.now c.requires c.skip.new.self c.skip.ensures
