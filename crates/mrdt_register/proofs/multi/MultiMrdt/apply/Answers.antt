use Rattle.std.proofs.Common.{◌≡◌, ◌++◌, ◌∙◌, [], ◌∷◌, refl, sym, ap}
use Rattle.mrdt_model.proofs.Parts.{all_seen}
use Rattle.live_set.proofs.Rising.{entry_of}
use Rattle.live_set.proofs.Standing.{live-next}
use Rattle.live_set.specs.UnitReply.{IsAnyReply}
use Rattle.mrdt_register.specs.Writes.{payload_of, IsWrite}
use Rattle.mrdt_register.specs.Multi.{write_effect}
use Rattle.mrdt_register.proofs.multi.MultiMrdt.apply.Goals as goal

pub returns-clause-applies : goal.returns-clause-applies
returns-clause-applies c x lawful is after =
    let time = c.args.time in
    let op = c.args.op.now in
    let added : c.add.new.self ≡ entry_of time (payload_of op) ∷ [] =
    c.in_ok-add.ensures.ok ∙ ap (λ ks. ks ++ entry_of time c.in_ok-payload.payload ∷ []) c.new-live.ensures ∙ ap (λ p. entry_of time p ∷ []) c.in_ok-payload.ensures.value in
    (refl, added ∙ sym (live-next write_effect x time op tt (all_seen IsWrite IsAnyReply x lawful.well_formed) after))
