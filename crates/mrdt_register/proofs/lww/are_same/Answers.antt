use Rattle.std.proofs.Common.{◌≡◌, ◌∷◌, [], Some, ◌∙◌, ap, sym}
use Rattle.std.proofs.lemmas.List.{append-nil}
use Rattle.branch_wire.specs.Fields.{field}
use Rattle.live_set.specs.Spelling.{kept_spelling}
use Rattle.mrdt_register.specs.Lww.{lww_spelling}
use Rattle.mrdt_register.proofs.lww.are_same.Goals as goal

pub returns-in-Some-Some-clause-spelled : goal.returns-in-Some-Some-clause-spelled
returns-in-Some-Some-clause-spelled c is =
    let mine = c.in-Some-Some.mine in
    let theirs = c.in-Some-Some.theirs in
    let whole : 1 ∷ kept_spelling field mine ≡ 1 ∷ kept_spelling field theirs = ap lww_spelling (sym c.in-Some-Some.is-0) ∙ is ∙ ap lww_spelling c.in-Some-Some.is-1 in
    let tail : kept_spelling field mine ≡ kept_spelling field theirs = cc in
    let same : mine ≡ theirs = c.same.ensures.spelled [] [] (append-nil (kept_spelling field mine) ∙ tail ∙ sym (append-nil (kept_spelling field theirs))) in
    c.in-Some-Some.is-0 ∙ ap Some same ∙ sym c.in-Some-Some.is-1
