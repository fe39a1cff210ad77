-- A room with the number is the first, and one without it is not.
use Rattle.std.proofs.Common.{rules, ◌≡◌, ◌==◌, true, false, length, slice_get, Some, sym, refl, arith}
use Rattle.std.proofs.lemmas.Option.{slice_get_read}
use Rattle.branch_batch.specs.Lines.{room_number}
use Rattle.branch_batch.proofs.Places.{place_hit, place_miss}
use Rattle.branch_batch.proofs.line.slot_at.Goals as goal

pub returns-then-slot-number-clause-place : goal.returns-then-slot-number-clause-place
returns-then-slot-number-clause-place g c =
    let rooms = c.args.slots.now in
    let k = c.loop-place.place in
    let room = c.index-slots-place.result in
    let at : slice_get rooms k ≡ Some room = slice_get_read rooms (length rooms) k room refl c.loop-place-test.true c.index-slots-place.is in
    let is : (room_number room == c.args.number) ≡ true = search rules in
    sym (place_hit room_number c.args.number rooms k room at c.loop-place.invariant is)

pub loop-place-preserved : goal.loop-place-preserved
loop-place-preserved g c =
    let rooms = c.args.slots.now in
    let k = c.loop-place.place in
    let room = c.index-slots-place.result in
    let at : slice_get rooms k ≡ Some room = slice_get_read rooms (length rooms) k room refl c.loop-place-test.true c.index-slots-place.is in
    let is : (room_number room == c.args.number) ≡ false = search rules in
    omega (arith, place_miss room_number c.args.number rooms k room at c.loop-place.invariant is)
