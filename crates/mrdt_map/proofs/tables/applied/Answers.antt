use Rattle.std.proofs.Common.{◌≡◌, ◌∙◌, ap, sym, subst, cond, Some, List, ℕ}
use Rattle.mrdt_map.specs.Keyed.{same_key, value_at, AppliesAt}
use Rattle.keyed_slots.specs.Slots.{slot_key, IsPlaceOf}
use Rattle.mrdt_map.proofs.tables.applied.Goals as goal

pub with-requires : goal.with-requires
with-requires g c = subst (λ k. IsPlaceOf slot_key k c.args.table.now c.place_of-place.result) (sym (ap (λ (e : List ℕ × g.row.T.Denot). e.0) c.new-slot.ensures ∙ c.in_ok-own.ensures)) c.place_of-place.ensures

pub returns-clause-applies : goal.returns-clause-applies
returns-clause-applies g c =
    let t = g.T.Inner.meaning in
    let table = c.args.table.now in
    let made = c.in_ok-made.made in
    let set1 = subst (λ (e : List ℕ × g.row.T.Denot). (k : List ℕ) → value_at {V = g.row.T.Denot} made k ≡ cond (same_key e.0 k) (Some e.1) (value_at table k)) c.new-slot.ensures c.in_ok-made.ensures in
    let set2 = subst (λ (j : List ℕ). (k : List ℕ) → value_at {V = g.row.T.Denot} made k ≡ cond (same_key j k) (Some c.in_ok-shared.shared) (value_at table k)) c.in_ok-own.ensures set1 in
    let set3 = subst (λ (v : g.row.T.Denot). (k : List ℕ) → value_at {V = g.row.T.Denot} made k ≡ cond (same_key c.args.key.now k) (Some v) (value_at table k)) c.in_ok-shared.ensures set2 in
    record {
      made = c.in_ok-value.value;
      ordered = c.len-count.ensures.ordered;
      values = set3;
      applies = subst (λ o. AppliesAt t o c.args.operation.now c.args.time c.in_ok-value.value c.in_ok-value.reply) c.get-old.ensures c.in_ok-value.ensures.applies;
    }
