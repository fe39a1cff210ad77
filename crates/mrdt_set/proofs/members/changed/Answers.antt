use Rattle.std.proofs.Common.{◌∙◌, Some, ap, sym, subst, List, ℕ}
use Rattle.std.specs.Prelude.{IfOk}
use Rattle.keyed_slots.specs.Slots.{slot_key, IsPlaceOf}
use Rattle.mrdt_set.specs.Members.{Times, ChangesOnly}
use Rattle.mrdt_set.proofs.members.changed.Goals as goal

pub with-requires : goal.with-requires
with-requires c = subst (λ k. IsPlaceOf slot_key k c.args.members.now c.place_of-place.result) (sym (ap (λ (e : List ℕ × Times). e.0) c.new.ensures ∙ c.in_ok-own-in-Some.ensures)) c.place_of-place.ensures

pub returns-in_ok-own-in-Some : goal.returns-in_ok-own-in-Some
returns-in_ok-own-in-Some c =
    let members = c.args.members.now in
    let made = c.with.result in
    let one = subst (λ (e : List ℕ × Times). IfOk made (ChangesOnly e.0 (Some e.1) members)) c.new.ensures c.with.ensures in
    let two = subst (λ (j : List ℕ). IfOk made (ChangesOnly j (Some c.in-Some.times) members)) c.in_ok-own-in-Some.ensures one in
    subst (λ o. IfOk made (ChangesOnly c.args.element.now o members)) (sym c.in-Some.is) two

pub returns-in-None : goal.returns-in-None
returns-in-None c = subst (λ o. IfOk c.without.result (ChangesOnly c.args.element.now o c.args.members.now)) (sym c.in-None.is) c.without.ensures
