use Rattle.std.proofs.Common.{rules, ◌∙◌, ◌<◌, ◌^◌, [], sym, subst, refl, length}
use Rattle.std.proofs.lemmas.Bool.{both_ways}
use Rattle.std.proofs.lemmas.List.{append-nil}
use Rattle.std.proofs.lemmas.Result.{err_from_is_err_and}
use Rattle.std.specs.List.{flat_map}
use Rattle.mrdt_model.specs.declared.errors.Unread.TheVariants as unread
use Rattle.mrdt_set.specs.Members.{member_spelling, set_spelling, AreMembers}
use Rattle.mrdt_set.specs.SetLaws.{set_of-members}
use Rattle.mrdt_set.proofs.Reading.{taken-all, taken-whole, taken-members, same-members, passed-on}
use Rattle.mrdt_set.proofs.set.SetMrdt.get.Goals as goal

pub returns-in_err-members-clause-outside : goal.returns-in_err-members-clause-outside
returns-in_err-members-clause-outside c error inside =
    let flat = flat_map member_spelling inside.0 in
    let found = c.in_ok-count.ensures.back (length inside.0) flat inside.1.few (c.new-cursor.ensures ∙ inside.2) in
    let p = err_from_is_err_and c.from_residual-in_err-members.result c.from_residual-in_err-members.ensures.1 in
    let own = passed-on c.from_residual-in_err-members.result c.in_err-members.field-0.0 p.0 unread.NotCanonical p.1 p.2 error in
    c.in_err-members.ensures.outside own inside.0 [] (inside.1.rising, inside.1.each) (sym found.0) (found.1 ∙ sym (append-nil flat))

pub returns-then-is_at_end-clause-stands : goal.returns-then-is_at_end-clause-stands
returns-then-is_at_end-clause-stands c other spelled x lawful is =
    let short : length c.args.bytes.now < 2 ^ 64 = search rules in
    let fit : c.in_ok-count.count < 2 ^ 64 = search rules in
    let own = c.in_ok-members.members in
    let whole = taken-whole c.args.bytes.now c.take_u64.new.self c.take_members.new.cursor c.in_ok-count.count own (sym c.new-cursor.ensures ∙ c.in_ok-count.ensures.ok) c.in_ok-members.ensures.ok (c.if-is_at_end.ensures.0 refl) in
    let inside = taken-members c.take_u64.new.self c.take_members.new.cursor c.in_ok-count.count own c.in_ok-members.ensures.ok fit in
    let few = subst (λ s. length (set_spelling s) < 2 ^ 64) is (subst (λ b. length b < 2 ^ 64) (sym spelled) short) in
    same-members own other inside (subst AreMembers (sym is) (set_of-members x lawful few)) (sym whole ∙ sym spelled) ∙ is

pub returns-else-is_at_end-clause-outside : goal.returns-else-is_at_end-clause-outside
returns-else-is_at_end-clause-outside c error inside =
    let flat = flat_map member_spelling inside.0 in
    let found = c.in_ok-count.ensures.back (length inside.0) flat inside.1.few (c.new-cursor.ensures ∙ inside.2) in
    let none = taken-all c.take_u64.new.self c.take_members.new.cursor c.in_ok-count.count c.in_ok-members.members inside.0 c.in_ok-members.ensures.ok found.0 (inside.1.rising, inside.1.each) found.1 in
    both_ways c.is_at_end.result c.if-is_at_end.false (c.is_at_end.ensures.1 none)
