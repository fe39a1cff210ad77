use Rattle.std.proofs.Common.{length, ◌∙◌, ap}
use Rattle.std.specs.List.{flat_map}
use Rattle.mrdt_model.specs.Spelled.{capped}
use Rattle.live_set.specs.Spelling.{kept_spelling}
use Rattle.live_set.proofs.Sharing.{capped_lengths}
use Rattle.live_set.proofs.live.Live.entries_length.Goals as goal

pub returns : goal.returns
returns g c =
    let spell = kept_spelling g.V.Payload.spelling in
    c.weight.ensures ∙ capped_lengths spell c.self.inside.entries ∙ ap (λ ks. capped (length (flat_map spell ks))) c.self.view_is
