use Rattle.std.proofs.Common.{◌≡◌, ◌++◌, None, slice_get, ◌∙◌, ap, sym}
use Rattle.std.proofs.lemmas.List.{append-nil}
use Rattle.live_set.proofs.Sharing.{first_not}
use Rattle.live_set.proofs.texts.push_texts.Goals as goal

pub returns : goal.returns
returns c =
    let list = c.loop-kept.list.items in
    let none : slice_get c.loop-kept.ahead 0 ≡ None = sym c.in_default.ensures in
    sym (append-nil list) ∙ ap (λ ahead. list ++ ahead) (sym (first_not c.loop-kept.ahead none)) ∙ c.loop-kept.invariant
