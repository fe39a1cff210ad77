-- One script more has its seat.
use Rattle.std.proofs.Common.{◌≡◌, ◌∷◌, [], ◌++◌, ◌+◌, ◌≤◌, ◌∙◌, length, vec_capacity, ap, sym, subst, take}
use Rattle.std.specs.List.{AllZip}
use Rattle.std.proofs.lemmas.Grind.{take_at_read}
use Rattle.std.proofs.lemmas.Slice.Zip.{all_zipped_more}
use Rattle.parallel_clients.specs.declared.clients.Seat.{Seat}
use Rattle.parallel_clients.specs.Entrants.{IsSeat}
use Rattle.parallel_clients.proofs.clients.take_seats.Goals as goal

pub loop-script-preserved : goal.loop-script-preserved
loop-script-preserved c =
    let i = c.loop-script.script-index in
    let scripts = c.args.scripts.now in
    let script = c.script-item.result in
    let places = c.in_ok-places.places in
    let seat : Seat = record { steps = c.as_slice-steps.result; places = places } in
    let is : IsSeat script seat = record {
      steps_are = c.as_slice-steps.ensures;
      none = c.in_ok-places.ensures.items;
      room = subst (λ steps. length steps ≤ vec_capacity places) c.as_slice-steps.ensures c.in_ok-places.ensures.capacity;
    } in
    let read = take_at_read scripts i script c.loop-script-test.true in
    let front : take (i + 1) scripts ≡ take i scripts ++ script ∷ [] = read.1 ∙ ap (λ x. take i scripts ++ x ∷ []) (sym c.script-item.is) in
    let more = all_zipped_more IsSeat (take i scripts) c.loop-script.seats.items script seat c.loop-script.invariant is in
    subst (λ xs. AllZip IsSeat xs c.push.new.self.items) (sym front)
    (subst (AllZip IsSeat (take i scripts ++ script ∷ [])) (sym c.in_ok-push.ensures.items) more)
