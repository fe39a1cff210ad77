use Rattle.std.proofs.Common.{◌≡◌, ◌∙◌, Some, None, cond, ap, sym, subst, slice_get, List, ℕ}
use Rattle.std.proofs.lemmas.Option.{slice_get_within}
use Rattle.std.specs.Map.{keys_of}
use Rattle.std.specs.Ordering.{nat_cmp}
use Rattle.std.specs.Cmp.Lexicographic.{slice_cmp}
use Rattle.std.specs.List.Sorted.{IsStrictlySortedBy}
use Rattle.mrdt_map.specs.Keyed.{same_key, value_at}
use Rattle.keyed_slots.specs.Slots.{slot_key, IsPlaceOf, IsFound}
use Rattle.keyed_slots.proofs.Values.{inserted-values, inserted-sorted, replaced-values, replaced-sorted}
use Rattle.mrdt_map.proofs.table.Table.with.Goals as goal

pub replace-requires : goal.replace-requires
replace-requires g c = slice_get_within c.self.inside.entries c.args.place c.in-Some.field-0.now (subst (λ (es : List (List ℕ × g.row.T.Denot)). slice_get es c.args.place ≡ Some c.in-Some.field-0.now) (sym c.self.view_is) c.in-Some.ensures.0)

pub invariant_of-result : goal.invariant_of-result
invariant_of-result g c =
    let slot = c.args.slot in
    let es = c.self.inside.entries in
    let found = subst (λ k. IsFound slot_key k es c.args.place (Some c.in-Some.field-0.now)) (c.get.ensures ∙ c.key.ensures) (rw (← c.self.view_is) at c.in-Some.ensures) in
    subst (λ xs. IsStrictlySortedBy (slice_cmp nat_cmp) (keys_of xs)) (sym c.in_ok-replace-in-Some.ensures) (replaced-sorted slot.0 es c.args.place c.in-Some.field-0.now slot.1 c.self.invariant found)

pub invariant_of-result-in-None : goal.invariant_of-result-in-None
invariant_of-result-in-None g c =
    let slot = c.args.slot in
    let es = c.self.inside.entries in
    let found = subst (λ k. IsFound slot_key k es c.args.place None) (c.get.ensures ∙ c.key.ensures) (rw (← c.self.view_is) at c.in-None.ensures) in
    let place = subst (λ xs. IsPlaceOf slot_key slot.0 xs c.args.place) (sym c.self.view_is) c.requires in
    subst (λ xs. IsStrictlySortedBy (slice_cmp nat_cmp) (keys_of xs)) (sym c.in_ok-insert-in-None.ensures) (inserted-sorted slot.0 es c.args.place slot.1 c.self.invariant place found)

pub returns-in_ok-replace-in-Some : goal.returns-in_ok-replace-in-Some
returns-in_ok-replace-in-Some g c k =
    let slot = c.args.slot in
    let es = c.self.inside.entries in
    let found = subst (λ j. IsFound slot_key j es c.args.place (Some c.in-Some.field-0.now)) (c.get.ensures ∙ c.key.ensures) (rw (← c.self.view_is) at c.in-Some.ensures) in
    let place = subst (λ xs. IsPlaceOf slot_key slot.0 xs c.args.place) (sym c.self.view_is) c.requires in
    ap (λ (xs : List (List ℕ × g.row.T.Denot)). value_at xs k) c.in_ok-replace-in-Some.ensures ∙ replaced-values slot.0 es c.args.place c.in-Some.field-0.now slot.1 place found k
    ∙ ap (λ (xs : List (List ℕ × g.row.T.Denot)). cond (same_key slot.0 k) (Some slot.1) (value_at xs k)) c.self.view_is

pub returns-in_ok-insert-in-None : goal.returns-in_ok-insert-in-None
returns-in_ok-insert-in-None g c k =
    let slot = c.args.slot in
    let es = c.self.inside.entries in
    let place = subst (λ xs. IsPlaceOf slot_key slot.0 xs c.args.place) (sym c.self.view_is) c.requires in
    ap (λ (xs : List (List ℕ × g.row.T.Denot)). value_at xs k) c.in_ok-insert-in-None.ensures ∙ inserted-values slot.0 es c.args.place slot.1 place k
    ∙ ap (λ (xs : List (List ℕ × g.row.T.Denot)). cond (same_key slot.0 k) (Some slot.1) (value_at xs k)) c.self.view_is
