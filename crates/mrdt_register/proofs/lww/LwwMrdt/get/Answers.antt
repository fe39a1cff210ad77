use Rattle.std.proofs.Common.{rules, ◌≡◌, ◌∷◌, ◌∙◌, ◌<◌, ◌^◌, Some, ap, sym, subst, length}
use Rattle.mrdt_register.specs.Lww.{latest, lww_spelling}
use Rattle.mrdt_register.specs.LwwLaws.{latest-inside}
use Rattle.mrdt_register.proofs.Found.{read-some}
use Rattle.mrdt_register.proofs.lww.LwwMrdt.get.Goals as goal

pub returns-in_ok-get_last-in-Some-eq1-default-clause-stands : goal.returns-in_ok-get_last-in-Some-eq1-default-clause-stands
returns-in_ok-get_last-in-Some-eq1-default-clause-stands c other spelled x l is =
    let short : length c.args.bytes.now < 2 ^ 64 = search rules in
    let rest = c.in-Some-eq1-default.rest.now in
    let cut : c.args.bytes.now ≡ 1 ∷ rest = search rules in
    let own = ap lww_spelling (sym is) ∙ spelled in
    let known = latest-inside x l.well_formed (subst (λ b. length b < 2 ^ 64) (sym own) short) in
    read-some (latest x) c.in_ok-get_last-in-Some-eq1-default.field-0 c.args.bytes.now rest own cut known c.in_ok-get_last-in-Some-eq1-default.ensures.equal

pub returns-in_ok-get_last-in-Some-eq1-default-clause-inside : goal.returns-in_ok-get_last-in-Some-eq1-default-clause-inside
returns-in_ok-get_last-in-Some-eq1-default-clause-inside c =
    let kept = c.in_ok-get_last-in-Some-eq1-default.field-0 in
    let cut : c.args.bytes.now ≡ 1 ∷ c.in-Some-eq1-default.rest.now = search rules in
    (Some kept, c.in_ok-get_last-in-Some-eq1-default.ensures.known, cut ∙ ap (λ b. 1 ∷ b) (sym c.in_ok-get_last-in-Some-eq1-default.ensures.spelled))
