use Rattle.std.proofs.Common.{◌≡◌, ◌∷◌, [], ◌∙◌, Some, ap, sym, subst, refl}
use Rattle.keyed_slots.proofs.Places.{first_is, none_first, shorter, rest-next}
use Rattle.keyed_slots.proofs.Values.{rest-value}
use Rattle.mrdt_set.specs.Members.{times_at, IsKept, IsMergedAt}
use Rattle.mrdt_set.proofs.Merging.{IsDone, done-start, done-next, next-start, right-done}
use Rattle.mrdt_set.proofs.members.merged_right.Goals as goal

pub loop-slot-init : goal.loop-slot-init
loop-slot-init c =
    let base = c.args.sides.base.now in
    let left = c.args.sides.left.now in
    let right = c.args.sides.right.now in
    record {
      along = record { place = 0; same = c.walk-olds.ensures.walk };
      ahead = record { place = 0; same = c.walk-walk.ensures.walk };
      so_far = done-start (IsDone base left right) left right c.walk-walk.result c.in_ok-both.both c.walk-walk.ensures.walk c.in_ok-both.ensures c.walk-walk.ensures.sorted;
    }

pub loop-slot-smaller : goal.loop-slot-smaller
loop-slot-smaller c = shorter c.loop-slot.walk c.skip.new.self c.in-Some.slot.now (sym c.in-Some.ensures) c.skip.ensures

pub loop-slot-preserved : goal.loop-slot-preserved
loop-slot-preserved c =
    let base = c.args.sides.base.now in
    let left = c.args.sides.left.now in
    let right = c.args.sides.right.now in
    let slot = c.in-Some.slot.now in
    let now = c.loop-slot in
    let rest : now.walk ≡ slot ∷ c.skip.new.self = first_is now.walk slot (sym c.in-Some.ensures) ∙ ap (λ es. slot ∷ es) (sym c.skip.ensures) in
    let found = rest-value right now.walk now.invariant.ahead slot c.walk-walk.ensures.sorted (sym c.in-Some.ensures) in
    let same = next-start (IsDone base left right) left right now.walk c.skip.new.self now.both slot.0 slot.1 rest found now.invariant.so_far in
    let new = c.in_ok-both-2.both in
    let here : IsDone base left right slot.0 (times_at new slot.0) = λ kept.
    subst (λ o. IsMergedAt (times_at base slot.0) (times_at left slot.0) o (times_at new slot.0)) (sym found)
    (subst (λ o. IsMergedAt (times_at base slot.0) o (Some slot.1) (times_at new slot.0)) same (c.in_ok-both-2.ensures.here (subst IsKept (sym same) kept))) in
    record {
      along = c.merge_right.ensures.along;
      ahead = rest-next right now.walk now.invariant.ahead c.skip.new.self c.skip.ensures;
      so_far = done-next (IsDone base left right) left right now.walk c.skip.new.self now.both slot.0 slot.1 rest found now.invariant.so_far new here c.in_ok-both-2.ensures.others;
    }

pub returns : goal.returns
returns c =
    right-done c.args.sides.base.now c.args.sides.left.now c.args.sides.right.now c.loop-slot.walk c.loop-slot.both (none_first c.loop-slot.walk (sym c.in_default.ensures)) c.loop-slot.invariant.so_far
