use Rattle.std.proofs.Common.{◌≡◌, ◌∙◌, true, ap, sym, subst, Some}
use Rattle.std.specs.Str.{bytes_eq}
use Rattle.mrdt_map.specs.Keyed.{value_at}
use Rattle.keyed_slots.proofs.Places.{bytes-key, rest-next}
use Rattle.keyed_slots.proofs.Values.{rest-value}
use Rattle.mrdt_map.proofs.tables.value_along.Goals as goal

pub returns-then-same-clause-value : goal.returns-then-same-clause-value
returns-then-same-clause-value g c =
    let table = c.args.table.now in
    let key = c.args.key.now in
    let slot = c.in-Some.slot.now in
    let own = rest-value table c.args.walk.now c.requires slot c.len-count.ensures.ordered (sym c.in-Some.ensures) in
    let alike = subst (λ j. bytes_eq j key ≡ true) (c.get.ensures ∙ c.key.ensures) (sym c.eq-same.ensures ∙ c.if-same.true) in
    ap Some c.value.ensures ∙ sym own ∙ ap (value_at table) (bytes-key slot.0 key alike)

pub returns-then-same-clause-along : goal.returns-then-same-clause-along
returns-then-same-clause-along g c = rest-next c.args.table.now c.args.walk.now c.requires c.skip.new.self c.skip.ensures
