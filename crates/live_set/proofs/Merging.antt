-- A merge into the left side, by what base and right have.
use Rattle.std.proofs.Common.{◌≡◌, ◌+◌, ◌<◌, Bool, true, false, cond, Option, None, Some, List, length, refl, ◌∙◌, ap, sym, subst, arith, ⊎_elim}
use Rattle.mrdt_model.specs.declared.time.Time.{Time}
use Rattle.mrdt_model.specs.Times.{same_time}
use Rattle.mrdt_model.proofs.TimeSets.{same_time-eq}
use Rattle.mrdt_model.proofs.Executions.{is_earlier-irrefl}
use Rattle.live_set.specs.declared.kept.Kept.{Kept}
use Rattle.live_set.specs.Entries.{kept_times, IsRising, payload_at, staying, MergesEntries}
use Rattle.live_set.specs.Finding.{ChangesAt}
use Rattle.live_set.specs.Walks.{first_time, earlier_of, payload_first, behind_first}
use Rattle.live_set.proofs.Walked.{NotBefore, IsTaken, taken, earliest, earliest_is, earliest_none, first_none, shorter, shorter_at}

-- What is merged so far, with what base and right have ahead, merges to what the whole lists merge to.
pub record IsMerging {V : Type 0} (whole_base whole_left whole_right base right merged : List (Kept V)) : Type 0 where
  pub same : (t : Time) → staying (payload_at whole_base t) (payload_at whole_left t) (payload_at whole_right t) ≡ staying (payload_at base t) (payload_at merged t) (payload_at right t)
  pub base_rising : IsRising (kept_times base)
  pub right_rising : IsRising (kept_times right)

module _ {V : Type 0} where
  pub merging_start : (b l r : List (Kept V)) → IsRising (kept_times b) → IsRising (kept_times r) → IsMerging b l r b r l
  merging_start b l r rising_b rising_r = record { same = λ t. refl; base_rising = rising_b; right_rising = rising_r }

  alone : (o : Option V) → o ≡ staying None o None
  alone None = refl
  alone (Some v) = refl

  -- one time more
  pub merging_more : (B L R b r m n : List (Kept V)) (t : Time) → IsMerging B L R b r m → earlier_of (first_time b) (first_time r) ≡ Some t → ChangesAt t (payload_first b t) (payload_first r t) m n → IsMerging B L R (behind_first b t) (behind_first r t) n
  merging_more B L R b r m n t w first changes =
      let start : NotBefore t (earlier_of (first_time b) (first_time r)) = subst (λ o. NotBefore t o) (sym first) (is_earlier-irrefl t) in
      let none = earliest (first_time b) (first_time r) t start in
      let tb = taken b t w.base_rising none.0 in
      let tr = taken r t w.right_rising none.1 in
      record { same = λ u. w.same u ∙ at u tb tr (same_time u t) refl; base_rising = tb.rising; right_rising = tr.rising }
    where
      at : (u : Time) → IsTaken b (behind_first b t) t → IsTaken r (behind_first r t) t → (p : Bool) → same_time u t ≡ p
          → staying (payload_at b u) (payload_at m u) (payload_at r u) ≡ staying (payload_at (behind_first b t) u) (payload_at n u) (payload_at (behind_first r t) u)
      at u tb tr true e =
          let is : u ≡ t = same_time-eq u t e in
          let qb : payload_at b u ≡ payload_first b t = ap (λ s. payload_at b s) is ∙ sym tb.payload in
          let qr : payload_at r u ≡ payload_first r t = ap (λ s. payload_at r s) is ∙ sym tr.payload in
          let qn : payload_at n u ≡ staying (payload_first b t) (payload_at m u) (payload_first r t) = changes u ∙ ap (λ c. cond c (staying (payload_first b t) (payload_at m u) (payload_first r t)) (payload_at m u)) e in
          let nb : payload_at (behind_first b t) u ≡ None = tb.rest u ∙ ap (λ c. cond c None (payload_at b u)) e in
          let nr : payload_at (behind_first r t) u ≡ None = tr.rest u ∙ ap (λ c. cond c None (payload_at r u)) e in
          rw (nb, nr, qn, qb, qr) (alone (staying (payload_first b t) (payload_at m u) (payload_first r t)))
      at u tb tr false e =
          let qn : payload_at n u ≡ payload_at m u = changes u ∙ ap (λ c. cond c (staying (payload_first b t) (payload_at m u) (payload_first r t)) (payload_at m u)) e in
          let nb : payload_at (behind_first b t) u ≡ payload_at b u = tb.rest u ∙ ap (λ c. cond c None (payload_at b u)) e in
          let nr : payload_at (behind_first r t) u ≡ payload_at r u = tr.rest u ∙ ap (λ c. cond c None (payload_at r u)) e in
          rw (nb, nr, qn) refl

  -- nothing is ahead
  pub merging_end : (B L R b r m : List (Kept V)) → IsMerging B L R b r m → earlier_of (first_time b) (first_time r) ≡ None → MergesEntries B L R m
  merging_end B L R b r m w h t =
      let one = earliest_none (first_time b) (first_time r) h in
      let pb : payload_at b t ≡ None = ap (λ ks. payload_at ks t) (first_none b one.0) in
      let pr : payload_at r t ≡ None = ap (λ ks. payload_at ks t) (first_none r one.1) in
      sym (w.same t ∙ ap (λ o. staying o (payload_at m t) (payload_at r t)) pb ∙ ap (λ o. staying None (payload_at m t) o) pr ∙ sym (alone (payload_at m t)))

  -- each turn takes an entry
  pub merging_shorter : (b r : List (Kept V)) (t : Time) → earlier_of (first_time b) (first_time r) ≡ Some t → length (behind_first b t) + length (behind_first r t) < length b + length r
  merging_shorter b r t h =
      ⊎_elim (λ e. omega (arith, shorter_at b t e, shorter r t)) (λ e. omega (arith, shorter b t, shorter_at r t e)) (earliest_is (first_time b) (first_time r) t h)
