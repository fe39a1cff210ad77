-- One client more enters.
use Rattle.std.proofs.Common.{◌≡◌, ◌∷◌, [], ◌++◌, ◌∙◌, length, ap, sym, subst, arith}
use Rattle.std.specs.List.{AllZip}
use Rattle.std.proofs.lemmas.Slice.Zip.{all_zipped_more, AllZip-long}
use Rattle.parallel_clients.specs.Entrants.{IsReady, HaveEntered}
use Rattle.parallel_clients.proofs.Ended.{with-one, before-less, one-more, entered-more, ready-more}
use Rattle.parallel_clients.proofs.clients.enter_all.Goals as goal

pub note-requires : goal.note-requires
note-requires g c =
    let before = c.loop-seat.yielded in
    let rest = c.next.new.self.rest.items in
    let inv = c.loop-seat.invariant in
    let split : before ++ c.in-Some.seat ∷ rest ≡ c.args.seats.items = ap (λ r. before ++ r) (sym c.in-Some.ensures.steps.0) ∙ inv.0 in
    let less = before-less before rest c.args.seats.items c.in-Some.seat split in
    let same : length c.loop-seat.entrants.items ≡ length before = AllZip-long (IsReady c.args.pass.now) before c.loop-seat.entrants.items inv.1 in
    let room = inv.4 in
    omega arith

pub loop-seat-preserved : goal.loop-seat-preserved
loop-seat-preserved g c =
    let from = c.args.pass.now in
    let before = c.loop-seat.yielded in
    let seat = c.in-Some.seat in
    let rest = c.next.new.self.rest.items in
    let inv = c.loop-seat.invariant in
    let split : before ++ seat ∷ rest ≡ c.args.seats.items = ap (λ r. before ++ r) (sym c.in-Some.ensures.steps.0) ∙ inv.0 in
    let is : IsReady from seat c.enter_one-entrant.result = record {
      seat_is = c.enter_one-entrant.ensures.ready.seat_is;
      pass_is = ready-more from c.loop-seat.pass c.enter_one-entrant.result.pass (length before) inv.2 c.enter_one-entrant.ensures.ready.pass_is;
    } in
    let more = all_zipped_more (IsReady from) before c.loop-seat.entrants.items seat c.enter_one-entrant.result inv.1 is in
    let entered = subst (λ n. HaveEntered n from c.enter_one-entrant.new.pass) (sym (one-more before seat)) (entered-more from c.loop-seat.pass c.enter_one-entrant.new.pass (length before) inv.2 c.enter_one-entrant.ensures.pass) in
    let room = inv.4 in
    let kept = c.note.ensures.capacity in (
      with-one before rest c.args.seats.items seat split,
      subst (AllZip (IsReady from) (before ++ seat ∷ [])) (sym c.note.ensures.items) more,
      entered,
      ap (λ p. p.parts) entered,
      omega arith,
    )
