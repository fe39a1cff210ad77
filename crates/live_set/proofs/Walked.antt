-- The first entries of lists by rising time, taken one after the other.
use Rattle.std.proofs.Common.{◌≡◌, ◌<◌, ◌≤◌, Bool, true, false, cond, ◌⊎◌, inl, inr, Option, None, Some, List, [], ◌∷◌, length, refl, ◌∙◌, ap, sym, subst, IsTrue, arith, ⊎_elim}
use Rattle.std.proofs.lemmas.Bool.{or_cases}
use Rattle.mrdt_model.specs.declared.time.Time.{Time}
use Rattle.mrdt_model.specs.Times.{same_time, is_earlier, among}
use Rattle.mrdt_model.specs.Executions.{AllIn}
use Rattle.mrdt_model.proofs.TimeSets.{same_time-eq, same_time-refl}
use Rattle.live_set.specs.declared.kept.Kept.{Kept}
use Rattle.live_set.specs.Entries.{kept_times, IsRising, payload_at}
use Rattle.live_set.specs.Walks.{first_time, earlier_of, payload_first, behind_first}
use Rattle.live_set.proofs.Order.{earlier-trans, earlier-else, not_earlier-trans, other-sym}
use Rattle.live_set.proofs.Rising.{all_in-cons, later-not, payload-none}

-- no time of the list is before t
abbrev NoneBefore : Time → List Time → Type 0
NoneBefore t ts = (s : Time) → IsTrue (among ts s) → is_earlier s t ≡ false

abbrev pub NotBefore : Time → Option Time → Type 0
NotBefore t None = Unit {0}
NotBefore t (Some s) = is_earlier s t ≡ false

-- what is ahead once the payload at t was taken
pub record IsTaken {V : Type 0} (ks behind : List (Kept V)) (t : Time) : Type 0 where
  pub payload : payload_first ks t ≡ payload_at ks t
  pub rest : (u : Time) → payload_at behind u ≡ cond (same_time u t) None (payload_at ks u)
  pub rising : IsRising (kept_times behind)
  pub later : AllIn (is_earlier t) (kept_times behind)

module _ {V : Type 0} where
  none_before : (t : Time) (ks : List (Kept V)) → IsRising (kept_times ks) → NotBefore t (first_time ks) → NoneBefore t (kept_times ks)
  none_before t [] rising h s m = cc
  none_before t (k ∷ ks) rising h s m =
      ⊎_elim (λ e. subst (λ u. is_earlier u t ≡ false) (sym (same_time-eq s k.time e)) h) (λ n. not_earlier-trans k.time s t (rising.0 s n) h) (or_cases (same_time s k.time) (among (kept_times ks) s) m)

  taken_first : (k : Kept V) (ks : List (Kept V)) (t : Time) → IsRising (kept_times (k ∷ ks)) → same_time t k.time ≡ true → IsTaken (k ∷ ks) ks t
  taken_first k ks t rising e =
      let is : t ≡ k.time = same_time-eq t k.time e in
      let out : among (kept_times ks) t ≡ false = subst (λ u. among (kept_times ks) u ≡ false) (sym is) (later-not k.time (kept_times ks) rising.0) in
      record {
        payload = ap (λ b. cond b (Some k.payload) None) e ∙ sym (ap (λ b. cond b (Some k.payload) (payload_at ks t)) e);
        rest = λ u. at u is out (same_time u t) refl;
        rising = rising.1;
        later = subst (λ u. AllIn (is_earlier u) (kept_times ks)) (sym is) rising.0;
      }
    where
      at : (u : Time) → t ≡ k.time → among (kept_times ks) t ≡ false → (b : Bool) → same_time u t ≡ b → payload_at ks u ≡ cond b None (cond (same_time u k.time) (Some k.payload) (payload_at ks u))
      at u is out true f = payload-none ks u (subst (λ w. among (kept_times ks) w ≡ false) (sym (same_time-eq u t f)) out)
      at u is out false f = sym (ap (λ b. cond b (Some k.payload) (payload_at ks u)) (subst (λ w. same_time u w ≡ false) is f))

  taken_none : (k : Kept V) (ks : List (Kept V)) (t : Time) → IsRising (kept_times (k ∷ ks)) → is_earlier k.time t ≡ false → same_time t k.time ≡ false → IsTaken (k ∷ ks) (k ∷ ks) t
  taken_none k ks t rising not_before e =
      let before : is_earlier t k.time ≡ true = earlier-else k.time t not_before (other-sym t k.time e) in
      let later : AllIn (is_earlier t) (kept_times (k ∷ ks)) = all_in-cons (is_earlier t) k.time (kept_times ks) before (λ u m. earlier-trans t k.time u before (rising.0 u m)) in
      let none : payload_at (k ∷ ks) t ≡ None = payload-none (k ∷ ks) t (later-not t (kept_times (k ∷ ks)) later) in
      record {
        payload = ap (λ b. cond b (Some k.payload) None) e ∙ sym none;
        rest = λ u. at u none (same_time u t) refl;
        rising = rising;
        later = later;
      }
    where
      at : (u : Time) → payload_at (k ∷ ks) t ≡ None → (b : Bool) → same_time u t ≡ b → payload_at (k ∷ ks) u ≡ cond b None (payload_at (k ∷ ks) u)
      at u none true f = subst (λ w. payload_at (k ∷ ks) w ≡ None) (sym (same_time-eq u t f)) none
      at u none false f = refl

  pub taken : (ks : List (Kept V)) (t : Time) → IsRising (kept_times ks) → NotBefore t (first_time ks) → IsTaken ks (behind_first ks t) t
  taken [] t rising h = record { payload = refl; rest = λ u. none (same_time u t); rising = tt; later = λ s m. cc }
    where
      none : (b : Bool) → payload_at {V = V} [] t ≡ cond b None None
      none true = refl
      none false = refl
  taken (k ∷ ks) t rising h = at (same_time t k.time) refl
    where
      at : (b : Bool) → same_time t k.time ≡ b → IsTaken (k ∷ ks) (cond b ks (k ∷ ks)) t
      at true e = taken_first k ks t rising e
      at false e = taken_none k ks t rising h e

-- the earliest of several times is before none of them
pub earliest : (o p : Option Time) (t : Time) → NotBefore t (earlier_of o p) → NotBefore t o × NotBefore t p
earliest None p t h = (tt, h)
earliest (Some s) None t h = (h, tt)
earliest (Some s) (Some r) t h = at (is_earlier r s) refl h
  where
    at : (b : Bool) → is_earlier r s ≡ b → NotBefore t (cond b (Some r) (Some s)) → (is_earlier s t ≡ false) × (is_earlier r t ≡ false)
    at true e h = (not_earlier-trans r s t e h, h)
    at false e h = (h, other (same_time r s) refl)
      where
        other : (b : Bool) → same_time r s ≡ b → is_earlier r t ≡ false
        other true f = subst (λ u. is_earlier u t ≡ false) (sym (same_time-eq r s f)) h
        other false f = not_earlier-trans s r t (earlier-else r s e f) h

pub earliest_is : (o p : Option Time) (t : Time) → earlier_of o p ≡ Some t → (o ≡ Some t) ⊎ (p ≡ Some t)
earliest_is None p t h = inr h
earliest_is (Some s) None t h = inl h
earliest_is (Some s) (Some r) t h = at (is_earlier r s) h
  where
    at : (b : Bool) → cond b (Some r) (Some s) ≡ Some t → (Some s ≡ Some t) ⊎ (Some r ≡ Some t)
    at true e = inr e
    at false e = inl e

pub earliest_none : (o p : Option Time) → earlier_of o p ≡ None → (o ≡ None) × (p ≡ None)
earliest_none None p h = (refl, h)
earliest_none (Some s) None h = cc
earliest_none (Some s) (Some r) h = at (is_earlier r s) h
  where
    at : (b : Bool) → cond b (Some r) (Some s) ≡ None → (Some s ≡ None) × (Some r ≡ None)
    at true e = absurd (cc)
    at false e = absurd (cc)

module _ {V : Type 0} where
  pub first_none : (ks : List (Kept V)) → first_time ks ≡ None → ks ≡ []
  first_none [] h = refl
  first_none (k ∷ ks) h = cc

  pub shorter : (ks : List (Kept V)) (t : Time) → length (behind_first ks t) ≤ length ks
  shorter [] t = omega arith
  shorter (k ∷ ks) t = at (same_time t k.time)
    where
      at : (p : Bool) → length (cond p ks (k ∷ ks)) ≤ length (k ∷ ks)
      at true = omega arith
      at false = omega arith

  pub shorter_at : (ks : List (Kept V)) (t : Time) → first_time ks ≡ Some t → length (behind_first ks t) < length ks
  shorter_at [] t h = cc
  shorter_at (k ∷ ks) t h =
      let is : k.time ≡ t = cc in
      subst (λ u. length (behind_first (k ∷ ks) u) < length (k ∷ ks)) is (ap_head (same_time k.time k.time) (same_time-refl k.time))
    where
      ap_head : (p : Bool) → p ≡ true → length (cond p ks (k ∷ ks)) < length (k ∷ ks)
      ap_head true e = omega arith
      ap_head false e = cc
