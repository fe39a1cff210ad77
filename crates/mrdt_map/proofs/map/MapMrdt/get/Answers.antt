use Rattle.std.proofs.Common.{rules, ◌∙◌, ◌<◌, ◌^◌, [], sym, refl, length}
use Rattle.std.proofs.lemmas.Bool.{both_ways}
use Rattle.std.proofs.lemmas.List.{append-nil}
use Rattle.std.proofs.lemmas.Result.{err_from_is_err_and}
use Rattle.std.specs.List.{flat_map}
use Rattle.mrdt_model.specs.declared.errors.Unread.TheVariants as unread
use Rattle.mrdt_map.specs.Keyed.{entry_spelling, as_spelled}
use Rattle.mrdt_map.proofs.Reading.{taken-all, taken-inside, taken-stands, passed-on}
use Rattle.mrdt_map.proofs.map.MapMrdt.get.Goals as goal

pub returns-in_err-entries-clause-outside : goal.returns-in_err-entries-clause-outside
returns-in_err-entries-clause-outside g c error inside =
    let flat = flat_map (entry_spelling as_spelled) inside.0 in
    let found = c.in_ok-count.ensures.back (length inside.0) flat inside.1.0 (c.new-cursor.ensures ∙ inside.2) in
    let p = err_from_is_err_and c.from_residual-in_err-entries.result c.from_residual-in_err-entries.ensures.1 in
    let own = passed-on c.from_residual-in_err-entries.result c.in_err-entries.field-0.0 p.0 unread.NotCanonical p.1 p.2 error in
    c.in_err-entries.ensures.outside own inside.0 [] inside.1.1 (sym found.0) (found.1 ∙ sym (append-nil flat))

pub returns-then-is_at_end-clause-stands : goal.returns-then-is_at_end-clause-stands
returns-then-is_at_end-clause-stands g c other spelled =
    let short : length c.args.bytes.now < 2 ^ 64 = search rules in
    taken-stands g.T.Mrdt.meaning c.args.bytes.now c.take_u64.new.self c.take_entries.new.cursor c.in_ok-count.count c.in_ok-entries.entries other (sym c.new-cursor.ensures ∙ c.in_ok-count.ensures.ok) c.in_ok-entries.ensures.ok (c.if-is_at_end.ensures.0 refl) short spelled

pub returns-then-is_at_end-clause-inside : goal.returns-then-is_at_end-clause-inside
returns-then-is_at_end-clause-inside g c =
    let fit : c.in_ok-count.count < 2 ^ 64 = search rules in
    taken-inside g.T.Mrdt.meaning c.args.bytes.now c.take_u64.new.self c.take_entries.new.cursor c.in_ok-count.count c.in_ok-entries.entries (sym c.new-cursor.ensures ∙ c.in_ok-count.ensures.ok) c.in_ok-entries.ensures.ok (c.if-is_at_end.ensures.0 refl) fit

pub returns-else-is_at_end-clause-outside : goal.returns-else-is_at_end-clause-outside
returns-else-is_at_end-clause-outside g c error inside =
    let flat = flat_map (entry_spelling as_spelled) inside.0 in
    let found = c.in_ok-count.ensures.back (length inside.0) flat inside.1.0 (c.new-cursor.ensures ∙ inside.2) in
    let none = taken-all g.T.Mrdt.meaning c.take_u64.new.self c.take_entries.new.cursor c.in_ok-count.count c.in_ok-entries.entries inside.0 c.in_ok-entries.ensures.ok found.0 inside.1.1 found.1 in
    both_ways c.is_at_end.result c.if-is_at_end.false (c.is_at_end.ensures.1 none)
