use Rattle.std.proofs.Common.{rules, ◌∙◌, ◌<◌, ◌^◌, sym, subst, length}
use Rattle.mrdt_model.specs.Laws.{StandsAsWell}
use Rattle.mrdt_both.proofs.Products.{copies, short-field}
use Rattle.mrdt_both.proofs.both.BothMrdt.get.Goals as goal

pub returns-clause-stands : goal.returns-clause-stands
returns-clause-stands g c other spelled =
    let m = g.A.Mrdt.meaning in
    let n = g.B.Mrdt.meaning in
    let first = m.state_spelling other.0 in
    let second = n.state_spelling other.1 in
    let short : length c.args.bytes.now < 2 ^ 64 = search rules in
    let found = c.in_ok-take_bytes.ensures.back first second (short-field first second c.args.bytes.now spelled short) (c.new-cursor.ensures ∙ sym spelled) in
    let first_stands = c.in_ok-first.ensures.stands other.0 (sym found.0) in
    let second_stands = c.in_ok-second.ensures.stands other.1 (sym (c.take_rest.ensures.all ∙ found.1)) in
    copies m n other.0 other.1 c.in_ok-held.field-0 c.in_ok-held-2.field-0 (subst (StandsAsWell m other.0) (sym c.in_ok-held.ensures) first_stands) (subst (StandsAsWell n other.1) (sym c.in_ok-held-2.ensures) second_stands)
