-- The room at that place is the first with the number.
use Rattle.std.proofs.Common.{rules, ◌≡◌, ◌<◌, ◌∙◌, length, slice_get, slice_set, Some, None, ap, sym, refl}
use Rattle.std.proofs.lemmas.Option.{slice_get_read}
use Rattle.branch_batch.specs.Lists.{first_of, place_of}
use Rattle.branch_batch.specs.Lines.{room_number}
use Rattle.branch_batch.proofs.Places.{place_get, first_is}
use Rattle.branch_batch.proofs.Giving.{given_at, given_none}
use Rattle.branch_batch.proofs.line.give_one.Goals as goal

pub fill-requires : goal.fill-requires
fill-requires g c =
    let rooms = c.args.slots.now.items in
    let number = c.args.finished.number in
    let k = c.in-Some.place in
    let room = c.index_mut.result.now in
    let place : k ≡ place_of room_number number rooms = search rules in
    let inside : k < length rooms = search rules in
    let at : slice_get rooms k ≡ Some room = slice_get_read rooms (length rooms) k room refl inside c.index_mut.ensures.value in
    let first : first_of room_number number rooms ≡ Some room = sym (place_get room_number number rooms) ∙ (ap (λ n. slice_get rooms n) (sym place) ∙ at) in
    record { number = sym (first_is room_number number rooms room first) }

pub returns-in-Some : goal.returns-in-Some
returns-in-Some g c =
    let rooms = c.args.slots.now.items in
    let number = c.args.finished.number in
    let k = c.in-Some.place in
    let room = c.index_mut.result.now in
    let place : k ≡ place_of room_number number rooms = search rules in
    let inside : k < length rooms = search rules in
    let at : slice_get rooms k ≡ Some room = slice_get_read rooms (length rooms) k room refl inside c.index_mut.ensures.value in
    let here : slice_get rooms (place_of room_number number rooms) ≡ Some room = ap (λ n. slice_get rooms n) (sym place) ∙ at in
    ap (λ r. slice_set rooms k r) c.fill.ensures
    ∙ (ap (λ n. slice_set rooms n (record room { answer = Some c.args.finished })) place ∙ sym (given_at c.args.finished rooms room here))

pub returns-in_default : goal.returns-in_default
returns-in_default g c =
    let rooms = c.args.slots.now.items in
    let none : first_of room_number c.args.finished.number rooms ≡ None = search rules in
    sym (given_none c.args.finished rooms none)
