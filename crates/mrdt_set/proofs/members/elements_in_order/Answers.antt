use Rattle.std.proofs.Common.{◌≡◌, ◌∷◌, [], ◌++◌, drop, ◌∙◌, ap, sym, append_assoc, List}
use Rattle.std.proofs.lemmas.List.{append-nil}
use Rattle.std.specs.Map.{keys_of}
use Rattle.keyed_slots.proofs.Places.{first_is, none_first, shorter}
use Rattle.mrdt_set.proofs.members.elements_in_order.Goals as goal

pub loop-slot-smaller : goal.loop-slot-smaller
loop-slot-smaller c = shorter c.loop-slot.walk c.skip.new.self c.in-Some.slot.now (sym c.in-Some.ensures) c.skip.ensures

pub loop-slot-preserved : goal.loop-slot-preserved
loop-slot-preserved c =
    let slot = c.in-Some.slot.now in
    let all = c.loop-slot.all.items in
    let rest : c.loop-slot.walk ≡ slot ∷ c.skip.new.self = first_is c.loop-slot.walk slot (sym c.in-Some.ensures) ∙ ap (λ es. slot ∷ es) (sym c.skip.ensures) in
    let key : c.in_ok-from_slice.field-0 ≡ slot.0 = c.in_ok-from_slice.ensures ∙ c.element.ensures in
    let pushed : c.push.new.self.items ≡ all ++ slot.0 ∷ [] = c.in_ok-push.ensures.items ∙ ap (λ k. all ++ k ∷ []) key in
    ap (λ ks. ks ++ keys_of c.skip.new.self) pushed ∙ append_assoc all (slot.0 ∷ []) (keys_of c.skip.new.self) ∙ ap (λ es. all ++ keys_of es) (sym rest) ∙ c.loop-slot.invariant

pub returns : goal.returns
returns c =
    let none : c.loop-slot.walk ≡ [] = none_first c.loop-slot.walk (sym c.in_default.ensures) in
    c.from_vec.ensures ∙ sym (append-nil c.loop-slot.all.items) ∙ ap (λ es. c.loop-slot.all.items ++ keys_of es) (sym none) ∙ c.loop-slot.invariant
