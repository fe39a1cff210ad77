use Rattle.std.proofs.Common.{rules, ◌≡◌, ◌∙◌, ◌++◌, ◌∷◌, ◌<◌, ◌^◌, [], ap, sym, subst, refl, length, append_assoc, List, ℕ}
use Rattle.std.specs.Map.{keys_of}
use Rattle.branch_wire.specs.Fields.{field}
use Rattle.live_set.specs.Payloads.{nothing_spelling}
use Rattle.live_set.specs.Spelling.{live_spelling}
use Rattle.mrdt_set.specs.Members.{Times}
use Rattle.keyed_slots.specs.Slots.{IsAbove}
use Rattle.mrdt_set.proofs.Reading.{no-times, some-times, times_way}
use Rattle.mrdt_set.proofs.spelled.take_member.Goals as goal

pub returns-then-not-any-clause-outside : goal.returns-then-not-any-clause-outside
returns-then-not-any-clause-outside c error e rest inside above is =
    let spell = live_spelling nothing_spelling in
    let times = c.in_ok-times.times in
    let found = c.in_ok-element.ensures.back e.0 (spell e.1 ++ rest) inside.1 (is ∙ append_assoc (field e.0) (spell e.1) rest) in
    let same = (times_way.one times e.1 c.take.new.cursor rest c.in_ok-times.ensures.known inside.2 (sym c.in_ok-times.ensures.ok ∙ found.1)).0 in
    inside.3 (sym same ∙ no-times times (sym c.any.ensures ∙ c.if-not-any.true))

pub returns-in_ok-put_behind-clause-ok : goal.returns-in_ok-put_behind-clause-ok
returns-in_ok-put_behind-clause-ok c =
    let element = c.in_ok-element.element.now in
    let times = c.in_ok-times.times in
    let short : length element < 2 ^ 64 = search rules in
    let kept : c.in_ok-own.own ≡ element = c.in_ok-own.ensures ∙ c.in_ok-whole_text.ensures.text in
    record {
      taken = (element, times);
      good = (c.in_ok-whole_text.ensures.in_range.0, short, c.in_ok-times.ensures.known, some-times times (sym c.any.ensures ∙ c.if-not-any.false));
      above = subst (λ es. IsAbove element (keys_of es)) c.deref.ensures.value (c.if-is_above.ensures.0 refl);
      members = c.in_ok-put_behind.ensures ∙ ap (λ e. c.args.slots.now.items ++ e ∷ []) (c.new-slot.ensures ∙ ap {B = List ℕ × Times} (λ (k : List ℕ). (k, times)) kept);
      spelled = c.in_ok-element.ensures.ok ∙ ap (λ b. field element ++ b) c.in_ok-times.ensures.ok ∙ sym (append_assoc (field element) (live_spelling nothing_spelling times) c.take.new.cursor);
    }
