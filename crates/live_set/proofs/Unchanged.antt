-- Merges of which one side is the same as the base: the other side is what is live in the union.
use Rattle.std.proofs.Common.{◌≡◌, Bool, true, false, cond, Option, None, Some, List, refl, ◌∙◌, ap, sym, subst}
use Rattle.mrdt_model.specs.declared.time.Time.{Time}
use Rattle.mrdt_model.specs.Times.{both, either}
use Rattle.mrdt_model.specs.Executions.{Event, restrict, IsClosed}
use Rattle.mrdt_model.proofs.SameEvents.{HaveOwnTimes}
use Rattle.live_set.specs.declared.kept.Kept.{Kept}
use Rattle.live_set.specs.Entries.{kept_times, IsRising, payload_at, staying}
use Rattle.live_set.specs.Effects.{Effect, is_hidden, live_of}
use Rattle.live_set.proofs.Standing.{own-restrict, put_at, put_at-restrict, live-at, live-rising, merged-live}

module _ {V : Type 0} where
  kept_some : (p : Bool) (o : Option V) (v : V) → cond p o None ≡ Some v → o ≡ Some v
  kept_some true o v h = h
  kept_some false o v h = cc

  left_some : (p : Bool) (o : Option V) (v : V) → cond p None o ≡ Some v → o ≡ Some v
  left_some true o v h = cc
  left_some false o v h = h

  one_some : (o : Option V) (v w : V) → o ≡ Some v → o ≡ Some w → Some w ≡ Some v
  one_some o v w p q = sym q ∙ p

  stays-right : (o r : Option V) → ((v w : V) → o ≡ Some v → r ≡ Some w → Some w ≡ Some v) → r ≡ staying o o r
  stays-right None r one = refl
  stays-right (Some v) None one = refl
  stays-right (Some v) (Some w) one = one v w refl refl

  stays-left : (o l : Option V) → l ≡ staying o l o
  stays-left None None = refl
  stays-left None (Some v) = refl
  stays-left (Some b) None = refl
  stays-left (Some b) (Some v) = refl

module _ {O R V : Type 0} (effect : O → Effect V) where
  -- what is live in a set of times was put there
  live-put : (a : Time → Bool) (x : List (Event O R)) (t : Time) (v : V) → HaveOwnTimes x → payload_at (live_of effect (restrict a x)) t ≡ Some v → put_at effect x t ≡ Some v
  live-put a x t v apart h =
      let in_part : put_at effect (restrict a x) t ≡ Some v = left_some (is_hidden effect (restrict a x) t) (put_at effect (restrict a x) t) v (sym (live-at effect (restrict a x) t (own-restrict a x apart)) ∙ h) in
      kept_some (a t) (put_at effect x t) v (sym (put_at-restrict effect a x t) ∙ in_part)

  pub left-unchanged : (x : List (Event O R)) (a b : Time → Bool) (base left right : List (Kept V)) → HaveOwnTimes x → IsClosed a x → IsClosed b x → base ≡ left
      → base ≡ live_of effect (restrict (both a b) x) → left ≡ live_of effect (restrict a x) → right ≡ live_of effect (restrict b x) → right ≡ live_of effect (restrict (either a b) x)
  left-unchanged x a b base left right apart closed_a closed_b same is_base is_left is_right =
      merged-live effect x a b base left right right apart closed_a closed_b is_base is_left is_right (subst (λ ks. IsRising (kept_times ks)) (sym is_right) (live-rising effect (restrict b x)))
      (λ t.
      let one = λ (v w : V) (p : payload_at left t ≡ Some v) (q : payload_at right t ≡ Some w). one_some (put_at effect x t) v w (live-put a x t v apart (ap (λ ks. payload_at ks t) (sym is_left) ∙ p)) (live-put b x t w apart (ap (λ ks. payload_at ks t) (sym is_right) ∙ q)) in
      stays-right (payload_at left t) (payload_at right t) one ∙ ap (λ ks. staying (payload_at ks t) (payload_at left t) (payload_at right t)) (sym same))

  pub right-unchanged : (x : List (Event O R)) (a b : Time → Bool) (base left right : List (Kept V)) → HaveOwnTimes x → IsClosed a x → IsClosed b x → base ≡ right
      → base ≡ live_of effect (restrict (both a b) x) → left ≡ live_of effect (restrict a x) → right ≡ live_of effect (restrict b x) → left ≡ live_of effect (restrict (either a b) x)
  right-unchanged x a b base left right apart closed_a closed_b same is_base is_left is_right =
      merged-live effect x a b base left right left apart closed_a closed_b is_base is_left is_right (subst (λ ks. IsRising (kept_times ks)) (sym is_left) (live-rising effect (restrict a x)))
      (λ t. stays-left (payload_at right t) (payload_at left t) ∙ ap (λ ks. staying (payload_at ks t) (payload_at left t) (payload_at right t)) (sym same))
