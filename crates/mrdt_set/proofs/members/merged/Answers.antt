use Rattle.std.proofs.Common.{◌≡◌, ◌∷◌, [], ◌∙◌, ap, sym, refl}
use Rattle.keyed_slots.proofs.Places.{first_is, none_first, shorter, rest-next}
use Rattle.keyed_slots.proofs.Values.{rest-value}
use Rattle.mrdt_set.specs.Members.{times_at}
use Rattle.mrdt_set.proofs.Merging.{IsDone, done-start, done-next, next-start, base-done, gone-next}
use Rattle.mrdt_set.proofs.members.merged.Goals as goal

pub loop-slot-init : goal.loop-slot-init
loop-slot-init c =
    let base = c.args.sides.base.now in
    let left = c.args.sides.left.now in
    let right = c.args.sides.right.now in
    let start = c.in_ok-both.both in
    record {
      along = record { place = 0; same = c.walk-news.ensures.walk };
      ahead = record { place = 0; same = c.walk-walk.ensures.walk };
      so_far = done-start (IsDone base left right) start base c.walk-walk.result start c.walk-walk.ensures.walk refl c.walk-walk.ensures.sorted;
    }

pub loop-slot-smaller : goal.loop-slot-smaller
loop-slot-smaller c = shorter c.loop-slot.walk c.skip.new.self c.in-Some.slot.now (sym c.in-Some.ensures) c.skip.ensures

pub loop-slot-preserved : goal.loop-slot-preserved
loop-slot-preserved c =
    let base = c.args.sides.base.now in
    let left = c.args.sides.left.now in
    let right = c.args.sides.right.now in
    let start = c.in_ok-both.both in
    let slot = c.in-Some.slot.now in
    let now = c.loop-slot in
    let rest : now.walk ≡ slot ∷ c.skip.new.self = first_is now.walk slot (sym c.in-Some.ensures) ∙ ap (λ es. slot ∷ es) (sym c.skip.ensures) in
    let found = rest-value base now.walk now.invariant.ahead slot c.walk-walk.ensures.sorted (sym c.in-Some.ensures) in
    let same = next-start (IsDone base left right) start base now.walk c.skip.new.self now.both slot.0 slot.1 rest found now.invariant.so_far in
    let new = c.in_ok-both-2.both in
    let here = gone-next base left right start now.both new slot.0 slot.1 c.in_ok-both.ensures found same c.in_ok-both-2.ensures.gone c.in_ok-both-2.ensures.there in
    record {
      along = c.merge_gone.ensures.along;
      ahead = rest-next base now.walk now.invariant.ahead c.skip.new.self c.skip.ensures;
      so_far = done-next (IsDone base left right) start base now.walk c.skip.new.self now.both slot.0 slot.1 rest found now.invariant.so_far new here c.in_ok-both-2.ensures.others;
    }

pub returns-clause-merges : goal.returns-clause-merges
returns-clause-merges c =
    base-done c.args.sides.base.now c.args.sides.left.now c.args.sides.right.now c.in_ok-both.both c.loop-slot.walk c.loop-slot.both (none_first c.loop-slot.walk (sym c.in_default.ensures)) c.in_ok-both.ensures c.loop-slot.invariant.so_far
