use Rattle.std.proofs.Common.{rules, ◌≡◌, ◌∙◌, ◌++◌, ◌∷◌, [], ◌<◌, ◌^◌, ap, sym, subst, refl, length, append_assoc}
use Rattle.mrdt_model.specs.Spelled.{IsBytes}
use Rattle.mrdt_model.specs.Laws.{StandsAsWell}
use Rattle.branch_wire.specs.Fields.{field}
use Rattle.std.specs.Map.{keys_of}
use Rattle.keyed_slots.specs.Slots.{IsAbove}
use Rattle.mrdt_map.proofs.tables.take_entry.Goals as goal

pub returns-in_ok-put_behind-clause-ok : goal.returns-in_ok-put_behind-clause-ok
returns-in_ok-put_behind-clause-ok g c =
    let t = g.T.Inner.meaning in
    let key = c.in_ok-key-2.key in
    let value = c.in_ok-value.value in
    let name = c.in_ok-name.name.now in
    let text = c.in_ok-text.text.now in
    let rest = c.take_bytes-2.new.self in
    let named : key ≡ name = c.in_ok-key-2.ensures ∙ c.in_ok-key.ensures in
    let written : t.state_spelling value ≡ text = ap t.state_spelling c.in_ok-value.ensures ∙ c.in_ok-get_state.ensures.spelled in
    let short_name : length name < 2 ^ 64 = search rules in
    let short_text : length text < 2 ^ 64 = search rules in
    record {
      taken = (key, value);
      good = record {
        entry = (
          (subst IsBytes (sym c.in_ok-key-2.ensures) c.as_slice-bytes.ensures.in_range, subst (λ b. length b < 2 ^ 64) (sym named) short_name),
          subst (λ b. length b < 2 ^ 64) (sym written) short_text,
          subst t.is_state_spelling (sym written) c.in_ok-get_state.ensures.inside,
        );
        stands = λ other same. subst (λ v. StandsAsWell t other v) (sym c.in_ok-value.ensures) (c.in_ok-get_state.ensures.stands other (same ∙ written));
      };
      above = subst (λ k. IsAbove k (keys_of c.args.slots.now.items)) (sym named) (subst (λ es. IsAbove name (keys_of es)) c.deref.ensures.value (c.if-is_above.ensures.0 refl));
      entries = c.in_ok-put_behind.ensures ∙ ap (λ e. c.args.slots.now.items ++ e ∷ []) c.new-slot.ensures;
      spelled =
          c.in_ok-name.ensures.ok ∙ ap (λ k. field k ++ c.take_bytes.new.self) (sym named) ∙ ap (λ b. field key ++ b) (c.in_ok-text.ensures.ok ∙ ap (λ b. field b ++ rest) (sym written))
          ∙ sym (append_assoc (field key) (field (t.state_spelling value)) rest);
    }
