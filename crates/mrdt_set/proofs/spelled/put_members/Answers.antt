use Rattle.std.proofs.Common.{◌≡◌, ◌∷◌, drop, ◌∙◌, ap, sym, subst, length, List, ℕ}
use Rattle.std.specs.List.{flat_map}
use Rattle.mrdt_model.specs.Spelled.{AppendsPart}
use Rattle.branch_wire.specs.Fields.{number}
use Rattle.branch_wire.proofs.Parts.{part-first, on-err}
use Rattle.keyed_slots.proofs.Places.{first_is, none_first, shorter}
use Rattle.mrdt_set.specs.Members.{Times, member_spelling, set_spelling}
use Rattle.mrdt_set.proofs.Writing.{PutSoFar, so_far-more, so_far-part, so_far-end}
use Rattle.mrdt_set.proofs.spelled.put_members.Goals as goal

pub returns-in_err-put_u64-clause-err : goal.returns-in_err-put_u64-clause-err
returns-in_err-put_u64-clause-err c =
    let old = c.args.out.now.items in
    let new = c.put_u64.new.out.items in
    let entries = c.args.members.now in
    let part = subst (λ (n : ℕ). AppendsPart old new (number n)) c.size.ensures.size c.in_err-put_u64.ensures.err in
    on-err c.from_residual.result (part-first old new (number (length entries)) (flat_map member_spelling entries) part)

pub loop-slot-smaller : goal.loop-slot-smaller
loop-slot-smaller c = shorter c.loop-slot.walk c.skip.new.self c.in-Some.slot.now (sym c.in-Some.ensures) c.skip.ensures

pub loop-slot-preserved : goal.loop-slot-preserved
loop-slot-preserved c =
    let slot = c.in-Some.slot.now in
    let rest : c.loop-slot.walk ≡ slot ∷ c.skip.new.self = first_is c.loop-slot.walk slot (sym c.in-Some.ensures) ∙ ap (λ es. slot ∷ es) (sym c.skip.ensures) in
    let old = c.args.out.now.items in
    let whole = set_spelling c.args.members.now in
    let so_far = subst (λ (left : List (List ℕ × Times)). PutSoFar old c.loop-slot.out.items (flat_map member_spelling left) whole) rest c.loop-slot.invariant in
    let put = c.in_ok-put_member.ensures.ok in
    so_far-more old c.loop-slot.out.items c.put_member.new.out.items (member_spelling slot) (flat_map member_spelling c.skip.new.self) whole so_far (rw (c.element.ensures, c.times.ensures) at put)

pub returns-in_err-put_member-clause-err : goal.returns-in_err-put_member-clause-err
returns-in_err-put_member-clause-err c =
    let slot = c.in-Some.slot.now in
    let rest : c.loop-slot.walk ≡ slot ∷ drop 1 c.loop-slot.walk = first_is c.loop-slot.walk slot (sym c.in-Some.ensures) in
    let old = c.args.out.now.items in
    let whole = set_spelling c.args.members.now in
    let so_far = subst (λ (left : List (List ℕ × Times)). PutSoFar old c.loop-slot.out.items (flat_map member_spelling left) whole) rest c.loop-slot.invariant in
    let put = c.in_err-put_member.ensures.err in
    on-err c.from_residual-in_err-put_member.result (so_far-part old c.loop-slot.out.items c.put_member.new.out.items (member_spelling slot) (flat_map member_spelling (drop 1 c.loop-slot.walk)) whole so_far (rw (c.element.ensures, c.times.ensures) at put))

pub returns-clause-ok : goal.returns-clause-ok
returns-clause-ok c =
    so_far-end c.args.out.now.items c.loop-slot.out.items (flat_map member_spelling c.loop-slot.walk) (set_spelling c.args.members.now) c.loop-slot.invariant (ap (flat_map member_spelling) (none_first c.loop-slot.walk (sym c.in_default.ensures)))
