use Rattle.std.proofs.Common.{◌≡◌, ◌∙◌, Some, None, cond, ap, sym, subst, slice_get, List, ℕ}
use Rattle.std.proofs.lemmas.Option.{slice_get_within}
use Rattle.std.proofs.lemmas.Result.{IfOk-weaker}
use Rattle.keyed_slots.specs.Slots.{slot_key, IsPlaceOf, IsFound}
use Rattle.keyed_slots.proofs.Values.{value-found}
use Rattle.mrdt_set.specs.Members.{Times, same_element, times_at, AreInOrder}
use Rattle.keyed_slots.proofs.Removed.{removed-sorted, removed-values, absent-values}
use Rattle.mrdt_set.proofs.table.Table.without.Goals as goal

pub remove-requires : goal.remove-requires
remove-requires c = slice_get_within c.self.inside.entries c.args.place c.in-Some.field-0.now (subst (λ (es : List (List ℕ × Times)). slice_get es c.args.place ≡ Some c.in-Some.field-0.now) (sym c.self.view_is) c.in-Some.ensures.0)

pub invariant_of-result : goal.invariant_of-result
invariant_of-result c = subst AreInOrder (sym c.in_ok-remove-in-Some.ensures) (removed-sorted c.self.inside.entries c.args.place c.self.invariant)

pub returns-in_ok-remove-in-Some : goal.returns-in_ok-remove-in-Some
returns-in_ok-remove-in-Some c k =
    let key = c.args.element.now in
    let es = c.self.inside.entries in
    let found : IsFound slot_key key es c.args.place (Some c.in-Some.field-0.now) = rw (← c.self.view_is) at c.in-Some.ensures in
    let place = subst (λ xs. IsPlaceOf slot_key key xs c.args.place) (sym c.self.view_is) c.requires in
    ap (λ (xs : List (List ℕ × Times)). times_at xs k) c.in_ok-remove-in-Some.ensures ∙ removed-values key es c.args.place c.self.invariant place c.in-Some.field-0.now found k
    ∙ ap (λ (xs : List (List ℕ × Times)). cond (same_element key k) None (times_at xs k)) c.self.view_is

pub returns-in-None : goal.returns-in-None
returns-in-None c =
    let key = c.args.element.now in
    let es = c.args.self.now in
    let none : times_at es key ≡ None = sym (value-found key es c.args.place None c.requires c.in-None.ensures) in
    IfOk-weaker c.copy.result (λ table. table ≡ es) (λ table. (k : List ℕ) → times_at table k ≡ cond (same_element key k) None (times_at es k))
    (λ table same k. ap (λ (xs : List (List ℕ × Times)). times_at xs k) same ∙ absent-values key es none k) c.copy.ensures
