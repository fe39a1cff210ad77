-- Each event of a lawful execution is of one side.
use Rattle.std.proofs.Common.{◌≡◌, ℕ, ◌+◌, Bool, true, false, ◌&&◌, ◌||◌, List, [], ◌∷◌, length, refl, ◌∙◌, ap, arith}
use Rattle.mrdt_model.specs.declared.time.Time.{Time}
use Rattle.mrdt_model.specs.Times.{same_time, among}
use Rattle.mrdt_model.specs.Executions.{Event, times_of, restrict, IsWellFormed, IsFaithful, add_part}
use Rattle.mrdt_model.proofs.TimeSets.{same_time-eq}
use Rattle.mrdt_both.specs.declared.both.Side.{Side}
use Rattle.mrdt_both.specs.declared.both.Side.TheVariants.{First, Second}
use Rattle.mrdt_both.specs.Sides.{at_first, at_second, first_part, second_part, by_side, ShareOut}

module _ {O P R S : Type 0} (first_reply : List (Event O R) → O → R) (second_reply : List (Event P S) → P → S) where
  add-share : (o : Side O P) (r : Side R S) (e : Event (Side O P) (Side R S)) (past : List (Event (Side O P) (Side R S))) (y : List (Event O R)) (z : List (Event P S)) (n : ℕ) → r ≡ by_side first_reply second_reply past o → length y + length z ≡ n
      → length (add_part e (at_first o r) y) + length (add_part e (at_second o r) z) ≡ n + 1
  add-share (First o) (First r) e past y z n is so_far = omega (arith, so_far)
  add-share (First o) (Second s) e past y z n is so_far = cc
  add-share (Second p) (Second s) e past y z n is so_far = omega (arith, so_far)
  add-share (Second p) (First r) e past y z n is so_far = cc

  pub shares : (x : List (Event (Side O P) (Side R S))) → IsFaithful (by_side first_reply second_reply) x → length (first_part x) + length (second_part x) ≡ length x
  shares [] faithful = refl
  shares (e ∷ x) faithful =
      let all = add-share e.operation e.reply e (restrict (among e.seen) x) (first_part x) (second_part x) (length x) faithful.0 (shares x faithful.1) in
      omega (arith, all)

-- one time more, at which nothing was
more_first : (here whole first second : Bool) → (here ≡ true → whole ≡ false) → whole ≡ (first || second) → (first && second) ≡ false → ((here || whole) ≡ ((here || first) || second)) × (((here || first) && second) ≡ false)
more_first true true first second new all apart = cc (new refl)
more_first true false true second new all apart = cc
more_first true false false true new all apart = cc
more_first true false false false new all apart = (refl, refl)
more_first false whole first second new all apart = (all, apart)

more_second : (here whole first second : Bool) → (here ≡ true → whole ≡ false) → whole ≡ (first || second) → (first && second) ≡ false → ((here || whole) ≡ (first || (here || second))) × ((first && (here || second)) ≡ false)
more_second true true first second new all apart = cc (new refl)
more_second true false true second new all apart = cc
more_second true false false second new all apart = (refl, refl)
more_second false whole first second new all apart = (all, apart)

module _ {O P R S : Type 0} (first_reply : List (Event O R) → O → R) (second_reply : List (Event P S) → P → S) where
  add-time : (o : Side O P) (r : Side R S) (e : Event (Side O P) (Side R S)) (past x : List (Event (Side O P) (Side R S))) (y : List (Event O R)) (z : List (Event P S)) (t : Time) → r ≡ by_side first_reply second_reply past o
      → (same_time t e.time ≡ true → among (times_of x) t ≡ false) → among (times_of x) t ≡ (among (times_of y) t || among (times_of z) t) → (among (times_of y) t && among (times_of z) t) ≡ false
      → (among (times_of (e ∷ x)) t ≡ (among (times_of (add_part e (at_first o r) y)) t || among (times_of (add_part e (at_second o r) z)) t))
      × ((among (times_of (add_part e (at_first o r) y)) t && among (times_of (add_part e (at_second o r) z)) t) ≡ false)
  add-time (First o) (First r) e past x y z t is new all apart = more_first (same_time t e.time) (among (times_of x) t) (among (times_of y) t) (among (times_of z) t) new all apart
  add-time (First o) (Second s) e past x y z t is new all apart = cc
  add-time (Second p) (Second s) e past x y z t is new all apart = more_second (same_time t e.time) (among (times_of x) t) (among (times_of y) t) (among (times_of z) t) new all apart
  add-time (Second p) (First r) e past x y z t is new all apart = cc

  pub share-out : (is_op : Side O P → Type 0) (is_reply : Side R S → Type 0) (x : List (Event (Side O P) (Side R S))) → IsWellFormed is_op is_reply x → IsFaithful (by_side first_reply second_reply) x → ShareOut x
  share-out is_op is_reply [] w faithful t = (refl, refl)
  share-out is_op is_reply (e ∷ x) w faithful t =
      let so_far = share-out is_op is_reply x w.1 faithful.1 t in
      add-time e.operation e.reply e (restrict (among e.seen) x) x (first_part x) (second_part x) t faithful.0 (λ here. ap (among (times_of x)) (same_time-eq t e.time here) ∙ w.0.new) so_far.0 so_far.1
