use Rattle.std.proofs.Common.{suc, ◌≡◌, ◌-◌, ◌∙◌, length, ap, sym, arith}
use Rattle.std.proofs.lemmas.Option.{slice_get_within}
use Rattle.keyed_slots.proofs.Places.{cmp, last-above, one-above, less-from_index, index-less}
use Rattle.keyed_slots.proofs.slots.is_above.Goals as goal

pub returns-in-Some : goal.returns-in-Some
returns-in-Some g c =
    let key_of = g.S.Keyed.key_of in
    let key = c.args.key.now in
    let es = c.args.slots.now in
    let last = c.in-Some.last.now in
    let at = sym c.in-Some.ensures.value in
    let there = slice_get_within es (length es - 1) last at in
    let many : suc (length es - 1) ≡ length es = omega (arith, there) in
    let order : c.cmp.result ≡ cmp (key_of last) key = c.cmp.ensures ∙ ap (λ k. cmp k key) c.key_bytes.ensures in (
      λ yes. last-above key_of key es (length es - 1) last c.requires many at (sym order ∙ less-from_index c.cmp.result (sym c.eq.ensures ∙ yes)),
      λ above. c.eq.ensures ∙ index-less c.cmp.result (order ∙ one-above key_of key es (length es - 1) last at above),
    )
