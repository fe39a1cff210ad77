use Rattle.std.proofs.Common.{◌≡◌, ◌∷◌, drop, ◌∙◌, ap, sym, subst, length, arith, ℕ}
use Rattle.std.specs.List.{flat_map}
use Rattle.mrdt_model.specs.Spelled.{AppendsPart}
use Rattle.branch_wire.specs.Fields.{number}
use Rattle.branch_wire.proofs.Parts.{part-first, on-err}
use Rattle.mrdt_map.specs.Keyed.{entry_spelling, entries_spelling}
use Rattle.mrdt_map.proofs.Writing.{PutSoFar, so_far-more, so_far-part, so_far-end}
use Rattle.keyed_slots.proofs.Places.{first_is, none_first, shorter}
use Rattle.mrdt_map.proofs.tables.put_entries.Goals as goal

pub returns-in_err-put_u64-clause-err : goal.returns-in_err-put_u64-clause-err
returns-in_err-put_u64-clause-err g c =
    let old = c.args.out.now.items in
    let new = c.put_u64.new.out.items in
    let entries = c.args.table.now in
    let part = subst (λ (n : ℕ). AppendsPart old new (number n)) c.len.ensures.count c.in_err-put_u64.ensures.err in
    on-err c.from_residual.result (part-first old new (number (length entries)) (flat_map (entry_spelling g.T.Inner.meaning.state_spelling) entries) part)

pub loop-slot-smaller : goal.loop-slot-smaller
loop-slot-smaller g c = shorter c.loop-slot.walk c.skip.new.self c.in-Some.slot.now (sym c.in-Some.ensures) c.skip.ensures

pub loop-slot-preserved : goal.loop-slot-preserved
loop-slot-preserved g c =
    let spell = entry_spelling g.T.Inner.meaning.state_spelling in
    let slot = c.in-Some.slot.now in
    let rest : c.loop-slot.walk ≡ slot ∷ c.skip.new.self = first_is c.loop-slot.walk slot (sym c.in-Some.ensures) ∙ ap (λ es. slot ∷ es) (sym c.skip.ensures) in
    let old = c.args.out.now.items in
    let whole = entries_spelling g.T.Inner.meaning.state_spelling c.args.table.now in
    let so_far = subst (λ left. PutSoFar old c.loop-slot.out.items (flat_map spell left) whole) rest c.loop-slot.invariant in
    so_far-more old c.loop-slot.out.items c.put_entry.new.out.items (spell slot) (flat_map spell c.skip.new.self) whole so_far c.in_ok-put_entry.ensures.ok

pub returns-in_err-put_entry-clause-err : goal.returns-in_err-put_entry-clause-err
returns-in_err-put_entry-clause-err g c =
    let spell = entry_spelling g.T.Inner.meaning.state_spelling in
    let slot = c.in-Some.slot.now in
    let rest : c.loop-slot.walk ≡ slot ∷ drop 1 c.loop-slot.walk = first_is c.loop-slot.walk slot (sym c.in-Some.ensures) in
    let old = c.args.out.now.items in
    let whole = entries_spelling g.T.Inner.meaning.state_spelling c.args.table.now in
    let so_far = subst (λ left. PutSoFar old c.loop-slot.out.items (flat_map spell left) whole) rest c.loop-slot.invariant in
    on-err c.from_residual-in_err-put_entry.result (so_far-part old c.loop-slot.out.items c.put_entry.new.out.items (spell slot) (flat_map spell (drop 1 c.loop-slot.walk)) whole so_far c.in_err-put_entry.ensures.err)

pub returns-clause-ok : goal.returns-clause-ok
returns-clause-ok g c =
    let spell = entry_spelling g.T.Inner.meaning.state_spelling in
    let walk = c.loop-slot.walk in
    so_far-end c.args.out.now.items c.loop-slot.out.items (flat_map spell walk) (entries_spelling g.T.Inner.meaning.state_spelling c.args.table.now) c.loop-slot.invariant (ap (flat_map spell) (none_first walk (sym c.in_default.ensures)))
