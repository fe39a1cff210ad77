-- What is live does not depend on the order in which events are listed.
use Rattle.std.proofs.Common.{◌≡◌, Bool, true, false, cond, ◌&&◌, Option, None, Some, List, [], ◌∷◌, refl, ◌∙◌, ap, sym}
use Rattle.mrdt_model.specs.declared.time.Time.{Time}
use Rattle.mrdt_model.specs.Times.{same_time, among}
use Rattle.mrdt_model.specs.Executions.{Event, IsWellFormed, event_at, AreSameEvent, HoldSameEvents}
use Rattle.mrdt_model.proofs.SameEvents.{own-times, any-alike}
use Rattle.live_set.specs.Effects.{Effect, is_hidden, holds_some, has_any, live_of}
use Rattle.live_set.proofs.Rising.{same_entries}
use Rattle.live_set.proofs.Standing.{put_at, live-at, live-rising}
use Rattle.live_set.proofs.Holding.{holds-live}

module _ {O R V : Type 0} (effect : O → Effect V) where
  abbrev puts_of : Option (Event O R) → Option V
  puts_of None = None
  puts_of (Some e) = (effect e.operation).puts

  put_at-event : (x : List (Event O R)) (t : Time) → put_at effect x t ≡ puts_of (event_at x t)
  put_at-event [] t = refl
  put_at-event (e ∷ x) t = at (same_time t e.time) (put_at-event x t)
    where
      at : (p : Bool) → put_at effect x t ≡ puts_of (event_at x t) → cond p (effect e.operation).puts (put_at effect x t) ≡ puts_of (cond p (Some e) (event_at x t))
      at true rest = refl
      at false rest = rest

  puts-alike : (o p : Option (Event O R)) → AreSameEvent o p → puts_of o ≡ puts_of p
  puts-alike None None same = refl
  puts-alike None (Some f) same = absurd same
  puts-alike (Some e) None same = absurd same
  puts-alike (Some e) (Some f) same = ap (λ o. (effect o).puts) same.operation

  module _ (is_op : O → Type 0) (is_reply : R → Type 0) where
    hidden-alike : (x y : List (Event O R)) → IsWellFormed is_op is_reply x → IsWellFormed is_op is_reply y → HoldSameEvents x y → (t : Time) → is_hidden effect x t ≡ is_hidden effect y t
    hidden-alike x y w v same t =
        any-alike (λ e. (effect e.operation).hides && among e.seen t) (λ e. (effect e.operation).hides && among e.seen t) x y (own-times is_op is_reply x w) (own-times is_op is_reply y v) same
        (λ e f both. ap (λ o. (effect o).hides && among e.seen t) both.operation ∙ ap (λ b. (effect f.operation).hides && b) (both.seen t))

    pub live-alike : (x y : List (Event O R)) → IsWellFormed is_op is_reply x → IsWellFormed is_op is_reply y → HoldSameEvents x y → live_of effect x ≡ live_of effect y
    live-alike x y w v same =
        same_entries (live_of effect x) (live_of effect y) (live-rising effect x) (live-rising effect y)
        (λ t.
        let put : put_at effect x t ≡ put_at effect y t = put_at-event x t ∙ puts-alike (event_at x t) (event_at y t) (same t) ∙ sym (put_at-event y t) in
        live-at effect x t (own-times is_op is_reply x w)
        ∙ ap (λ p. cond p None (put_at effect x t)) (hidden-alike x y w v same t) ∙ ap (λ o. cond (is_hidden effect y t) None o) put
        ∙ sym (live-at effect y t (own-times is_op is_reply y v)))

    pub holds-alike : (x y : List (Event O R)) → IsWellFormed is_op is_reply x → IsWellFormed is_op is_reply y → HoldSameEvents x y → holds_some effect x ≡ holds_some effect y
    holds-alike x y w v same = holds-live effect is_op is_reply x w ∙ ap has_any (live-alike x y w v same) ∙ sym (holds-live effect is_op is_reply y v)
