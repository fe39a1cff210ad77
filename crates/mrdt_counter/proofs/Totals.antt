-- The sums of executions fit their types.
use Rattle.std.proofs.Common.{ℕ, ◌*◌, ◌^◌, ◌<◌, ℤ, pos, ◌+ℤ◌, ◌≤ℤ◌, Bool, true, false, cond, List, [], ◌∷◌, length, FitsSigned, w64, arith}
use Rattle.std.proofs.lemmas.Int.{ints}
use Rattle.std.specs.Int.{w128}
use Rattle.mrdt_counter.specs.declared.sum.SumOp.{SumOp}
use Rattle.mrdt_counter.specs.Sum.{total, amount, IsAmount}
use Rattle.live_set.specs.UnitReply.{IsAnyReply, no_reply}
use Rattle.mrdt_model.specs.declared.time.Time.{Time}
use Rattle.mrdt_model.specs.Executions.{Event, restrict, IsWellFormed, IsLawful}

-- at most 2 ^ 63 for each event
pub record IsWithin (n : ℕ) (z : ℤ) : Type 0 where
  pub above : pos 0 ≤ℤ (z +ℤ pos (n * 2 ^ 63))
  pub below : z ≤ℤ pos (n * 2 ^ 63)

pub total-within : (x : List (Event SumOp (Unit {0}))) → IsWellFormed IsAmount IsAnyReply x → IsWithin (length x) (total x)
total-within [] w = record { above = omega (arith, ints); below = omega (arith, ints) }
total-within (e ∷ x) w =
    let h : IsWithin (length x) (total x) = total-within x w.1 in
    let f : FitsSigned w64 (amount e.operation) = w.0.operation in
    record { above = omega (arith, ints); below = omega (arith, ints) }

pub total-fits : (x : List (Event SumOp (Unit {0}))) → IsLawful IsAmount IsAnyReply no_reply x → FitsSigned w128 (total x)
total-fits x l =
    let h : IsWithin (length x) (total x) = total-within x l.well_formed in
    let few : length x < 2 ^ 32 = l.few in
    omega (arith, ints)

-- what a set keeps is as bounded
total-restrict-within : (x : List (Event SumOp (Unit {0}))) (a : Time → Bool) → IsWellFormed IsAmount IsAnyReply x → IsWithin (length x) (total (restrict a x))
total-restrict-within [] a w = record { above = omega (arith, ints); below = omega (arith, ints) }
total-restrict-within (e ∷ x) a w =
    at (a e.time) (restrict a x) (total-restrict-within x a w.1)
  where
    at : (p : Bool) (l : List (Event SumOp (Unit {0}))) → IsWithin (length x) (total l) → IsWithin (length (e ∷ x)) (total (cond p (e ∷ l) l))
    at true l h = let f : FitsSigned w64 (amount e.operation) = w.0.operation in record { above = omega (arith, ints); below = omega (arith, ints) }
    at false l h = record { above = omega (arith, ints); below = omega (arith, ints) }

pub union-fits : (x : List (Event SumOp (Unit {0}))) (a : Time → Bool) → IsLawful IsAmount IsAnyReply no_reply x → FitsSigned w128 (total (restrict a x))
union-fits x a l =
    let h : IsWithin (length x) (total (restrict a x)) = total-restrict-within x a l.well_formed in
    let few : length x < 2 ^ 32 = l.few in
    omega (arith, ints)

pub next-within : (x : List (Event SumOp (Unit {0}))) (op : SumOp) → IsLawful IsAmount IsAnyReply no_reply x → IsAmount op → FitsSigned w128 (total x +ℤ amount op)
next-within x op l f =
    let h : IsWithin (length x) (total x) = total-within x l.well_formed in
    let few : length x < 2 ^ 32 = l.few in
    let g : FitsSigned w64 (amount op) = f in
    omega (arith, ints)
