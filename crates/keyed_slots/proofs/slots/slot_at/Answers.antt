use Rattle.std.proofs.Common.{rules, ◌≡◌, ◌∙◌, false, sym}
use Rattle.std.proofs.lemmas.Bool.{false_from_ne_true}
use Rattle.mrdt_model.proofs.Tables.{same_bytes-eq}
use Rattle.keyed_slots.specs.Slots.{same_key}
use Rattle.keyed_slots.proofs.Places.{found-other}
use Rattle.keyed_slots.proofs.slots.slot_at.Goals as goal

pub returns-else-same : goal.returns-else-same
returns-else-same g c =
    let key_of = g.S.Keyed.key_of in
    let key = c.args.key.now in
    let slot = c.get-slot.result.now in
    let differ : c.key_bytes.result.now ≡ key → ⊥ = search rules in
    let other : same_key (key_of slot) key ≡ false = false_from_ne_true (same_key (key_of slot) key) (λ same. differ (c.key_bytes.ensures ∙ same_bytes-eq (key_of slot) key same)) in
    found-other key_of key c.args.slots.now c.args.place slot c.requires.rising c.requires.place c.get-slot.ensures other
