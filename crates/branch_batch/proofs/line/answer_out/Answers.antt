-- The room at that place is the first with the number.
use Rattle.std.proofs.Common.{rules, ◌≡◌, ◌<◌, ◌∙◌, length, remove, slice_get, Some, None, IfSome, ap, sym, subst, refl}
use Rattle.std.proofs.lemmas.Option.{slice_get_read}
use Rattle.branch_batch.specs.Lists.{first_of, place_of}
use Rattle.branch_batch.specs.Lines.{answer_in, room_number}
use Rattle.branch_batch.proofs.Places.{place_get, place_remove, first_is, on_some}
use Rattle.branch_batch.proofs.line.answer_out.Goals as goal

pub returns-then-is_none-clause-taken : goal.returns-then-is_none-clause-taken
returns-then-is_none-clause-taken g c =
    let rooms = c.args.slots.now.items in
    let k = c.in_ok-place.place in
    let room = c.index.result.now in
    let place : k ≡ place_of room_number c.args.number rooms = search rules in
    let inside : k < length rooms = search rules in
    let at : slice_get rooms k ≡ Some room = slice_get_read rooms (length rooms) k room refl inside c.index.ensures in
    let first : first_of room_number c.args.number rooms ≡ Some room = sym (place_get room_number c.args.number rooms) ∙ (ap (λ n. slice_get rooms n) (sym place) ∙ at) in
    let none : room.answer ≡ None = search rules in
    sym (ap answer_in first ∙ none)

pub returns-clause-taken : goal.returns-clause-taken
returns-clause-taken g c =
    let rooms = c.args.slots.now.items in
    let k = c.in_ok-place.place in
    let room = c.remove.result in
    let place : k ≡ place_of room_number c.args.number rooms = search rules in
    let inside : k < length rooms = search rules in
    let at : slice_get rooms k ≡ Some room = slice_get_read rooms (length rooms) k room refl inside c.remove.ensures.value in
    let first : first_of room_number c.args.number rooms ≡ Some room = sym (place_get room_number c.args.number rooms) ∙ (ap (λ n. slice_get rooms n) (sym place) ∙ at) in
    ap (λ r. r.answer) c.result.view_is ∙ sym (ap answer_in first)

pub returns-clause-slots : goal.returns-clause-slots
returns-clause-slots g c =
    let rooms = c.args.slots.now.items in
    let place : c.in_ok-place.place ≡ place_of room_number c.args.number rooms = search rules in
    on_some c.result.inside.answer (c.remove.ensures.items ∙ (ap (λ n. remove rooms n) place ∙ place_remove room_number c.args.number rooms))

pub returns-clause-number : goal.returns-clause-number
returns-clause-number g c =
    let rooms = c.args.slots.now.items in
    let k = c.in_ok-place.place in
    let room = c.remove.result in
    let place : k ≡ place_of room_number c.args.number rooms = search rules in
    let inside : k < length rooms = search rules in
    let at : slice_get rooms k ≡ Some room = slice_get_read rooms (length rooms) k room refl inside c.remove.ensures.value in
    let first : first_of room_number c.args.number rooms ≡ Some room = sym (place_get room_number c.args.number rooms) ∙ (ap (λ n. slice_get rooms n) (sym place) ∙ at) in
    let number = ap (λ r. r.number) c.result.view_is ∙ first_is room_number c.args.number rooms room first in
    subst (λ n. IfSome c.result.inside.answer (λ answer. answer.number ≡ n)) number c.result.invariant
