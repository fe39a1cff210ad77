-- Entries by rising time: what they have at a time tells them apart.
use Rattle.std.proofs.Common.{◌≡◌, Bool, true, false, cond, Option, None, Some, List, [], ◌∷◌, ◌++◌, refl, ◌∙◌, ap, sym, subst, IsTrue, ⊎_elim}
use Rattle.std.proofs.lemmas.Bool.{or_cases, or_left, or_right, both_ways, false_from_ne_true, or_parts}
use Rattle.mrdt_model.specs.declared.time.Time.{Time}
use Rattle.mrdt_model.specs.Times.{same_time, is_earlier, among}
use Rattle.mrdt_model.specs.Executions.{AllIn}
use Rattle.mrdt_model.proofs.TimeSets.{same_time-eq, same_time-refl}
use Rattle.mrdt_model.proofs.Executions.{is_earlier-irrefl}
use Rattle.live_set.specs.declared.kept.Kept.{Kept}
use Rattle.live_set.specs.Entries.{kept_times, AllBefore, IsRising, payload_at, place, by_time}
use Rattle.live_set.proofs.Order.{earlier-trans, earlier-neither, earlier-other, earlier-else}

abbrev pub or_else : {V : Type 0} → Option V → Option V → Option V
or_else None o = o
or_else (Some v) o = Some v

abbrev pub entry_of : {V : Type 0} → Time → V → Kept V
entry_of t v = record { time = t; payload = v }

pub among-head : (t : Time) (ts : List Time) → IsTrue (among (t ∷ ts) t)
among-head t ts = or_left (same_time t t) (among ts t) (same_time-refl t)

pub among-tail : (s t : Time) (ts : List Time) → IsTrue (among ts t) → IsTrue (among (s ∷ ts) t)
among-tail s t ts m = or_right (same_time t s) (among ts t) m

-- of two tests that never hold together, either may be asked first
pub either_first : {A : Type 0} (x y z : A) (p q : Bool) → (p ≡ true → q ≡ true → ⊥) → cond p x (cond q y z) ≡ cond q y (cond p x z)
either_first x y z true true apart = absurd (apart refl refl)
either_first x y z true false apart = refl
either_first x y z false true apart = refl
either_first x y z false false apart = refl

-- what holds of a time and of all behind it
pub all_in-cons : (a : Time → Bool) (t : Time) (ts : List Time) → IsTrue (a t) → AllIn a ts → AllIn a (t ∷ ts)
all_in-cons a t ts here rest u m = ⊎_elim (λ e. subst (λ s. IsTrue (a s)) (sym (same_time-eq u t e)) here) (λ n. rest u n) (or_cases (same_time u t) (among ts u) m)

-- a time is not among those that are later
pub later-not : (t : Time) (ts : List Time) → AllIn (is_earlier t) ts → among ts t ≡ false
later-not t ts later = false_from_ne_true (among ts t) (λ m. both_ways (is_earlier t t) (is_earlier-irrefl t) (later t m))

module _ {V : Type 0} where
  pub payload-none : (ks : List (Kept V)) (t : Time) → among (kept_times ks) t ≡ false → payload_at ks t ≡ None
  payload-none [] t h = refl
  payload-none (k ∷ ks) t h = let p = or_parts (same_time t k.time) (among (kept_times ks) t) h in rw p.0 (payload-none ks t p.1)

  -- what has a payload has an entry
  pub payload-among : (ks : List (Kept V)) (t : Time) (v : V) → payload_at ks t ≡ Some v → IsTrue (among (kept_times ks) t)
  payload-among ks t v h = at (among (kept_times ks) t) refl
    where
      at : (b : Bool) → among (kept_times ks) t ≡ b → IsTrue (among (kept_times ks) t)
      at true e = e
      at false e = let none = payload-none ks t e in cc

  pub payload-append : (ks : List (Kept V)) (t u : Time) (v : V) → payload_at (ks ++ entry_of u v ∷ []) t ≡ or_else (payload_at ks t) (cond (same_time t u) (Some v) None)
  payload-append [] t u v = refl
  payload-append (k ∷ ks) t u v = at (same_time t k.time) (payload-append ks t u v)
    where
      at : (b : Bool) → payload_at (ks ++ entry_of u v ∷ []) t ≡ or_else (payload_at ks t) (cond (same_time t u) (Some v) None)
          → cond b (Some k.payload) (payload_at (ks ++ entry_of u v ∷ []) t) ≡ or_else (cond b (Some k.payload) (payload_at ks t)) (cond (same_time t u) (Some v) None)
      at true h = refl
      at false h = h

  -- the times of entries with one behind them
  pub times-append : (ks : List (Kept V)) (u : Time) (v : V) → kept_times (ks ++ entry_of u v ∷ []) ≡ kept_times ks ++ u ∷ []
  times-append [] u v = refl
  times-append (k ∷ ks) u v = ap (λ ts. k.time ∷ ts) (times-append ks u v)

-- what holds of times and of one behind them
pub all_in-append : (a : Time → Bool) (ts : List Time) (u : Time) → AllIn a ts → IsTrue (a u) → AllIn a (ts ++ u ∷ [])
all_in-append a [] u all last = all_in-cons a u [] last all
all_in-append a (s ∷ ts) u all last =
    all_in-cons a s (ts ++ u ∷ []) (all s (among-head s ts)) (all_in-append a ts u (λ t m. all t (among-tail s t ts m)) last)

pub rising-append : (ts : List Time) (u : Time) → IsRising ts → AllBefore ts u → IsRising (ts ++ u ∷ [])
rising-append [] u rising before = (λ t m. cc, tt)
rising-append (s ∷ ts) u rising before =
    (all_in-append (is_earlier s) ts u rising.0 (before s (among-head s ts)), rising-append ts u rising.1 (λ t m. before t (among-tail s t ts m)))

module _ {V : Type 0} where
  -- a list that begins with an entry has a payload that one of later times lacks
  head_is : (j k : Kept V) (js ks : List (Kept V)) → IsRising (kept_times (k ∷ ks)) → payload_at (j ∷ js) j.time ≡ payload_at (k ∷ ks) j.time → is_earlier j.time k.time ≡ false
  head_is j k js ks rising same = false_from_ne_true (is_earlier j.time k.time) (λ e.
      let out : among (kept_times (k ∷ ks)) j.time ≡ false = later-not j.time (kept_times (k ∷ ks)) (all_in-cons (is_earlier j.time) k.time (kept_times ks) e (λ t m. earlier-trans j.time k.time t e (rising.0 t m))) in
      let none : payload_at (k ∷ ks) j.time ≡ None = payload-none (k ∷ ks) j.time out in
      let some : payload_at (j ∷ js) j.time ≡ Some j.payload = ap (λ b. cond b (Some j.payload) (payload_at js j.time)) (same_time-refl j.time) in
      let clash : Some j.payload ≡ None = sym some ∙ same ∙ none in
      absurd (cc))

  pub same_entry : (j k : Kept V) → j.time ≡ k.time → j.payload ≡ k.payload → j ≡ k
  same_entry j k p q = ap (λ t. entry_of t j.payload) p ∙ ap (λ v. entry_of k.time v) q

  -- two lists by rising time that have the same at each time
  pub same_entries : (js ks : List (Kept V)) → IsRising (kept_times js) → IsRising (kept_times ks) → ((t : Time) → payload_at js t ≡ payload_at ks t) → js ≡ ks
  same_entries [] [] p q same = refl
  same_entries [] (k ∷ ks) p q same =
      let some : payload_at (k ∷ ks) k.time ≡ Some k.payload = ap (λ b. cond b (Some k.payload) (payload_at ks k.time)) (same_time-refl k.time) in
      let clash : None ≡ Some k.payload = same k.time ∙ some in
      cc
  same_entries (j ∷ js) [] p q same =
      let some : payload_at (j ∷ js) j.time ≡ Some j.payload = ap (λ b. cond b (Some j.payload) (payload_at js j.time)) (same_time-refl j.time) in
      let clash : Some j.payload ≡ None = sym some ∙ same j.time in
      cc
  same_entries (j ∷ js) (k ∷ ks) p q same =
      let times : j.time ≡ k.time = same_time-eq j.time k.time (earlier-neither j.time k.time (head_is j k js ks q (same j.time)) (head_is k j ks js p (sym (same k.time)))) in
      let here : Some j.payload ≡ Some k.payload =
      ap (λ b. cond b (Some j.payload) (payload_at js j.time)) (sym (same_time-refl j.time)) ∙ same j.time
      ∙ ap (λ t. payload_at (k ∷ ks) t) times ∙ ap (λ b. cond b (Some k.payload) (payload_at ks k.time)) (same_time-refl k.time) in
      let payloads : j.payload ≡ k.payload = cc in
      let heads : j ≡ k = same_entry j k times payloads in
      ap (λ i. i ∷ js) heads ∙ ap (λ is. k ∷ is) (same_entries js ks p.1 q.1 (λ t. at t times (same_time t j.time) refl))
    where
      at : (t : Time) → j.time ≡ k.time → (b : Bool) → same_time t j.time ≡ b → payload_at js t ≡ payload_at ks t
      at t times true e =
          let is : t ≡ j.time = same_time-eq t j.time e in
          payload-none js t (subst (λ u. among (kept_times js) u ≡ false) (sym is) (later-not j.time (kept_times js) p.0))
          ∙ sym (payload-none ks t (subst (λ u. among (kept_times ks) u ≡ false) (sym (is ∙ times)) (later-not k.time (kept_times ks) q.0)))
      at t times false e =
          sym (ap (λ b. cond b (Some j.payload) (payload_at js t)) e)
          ∙ same t ∙ ap (λ b. cond b (Some k.payload) (payload_at ks t)) (subst (λ u. same_time t u ≡ false) times e)

  -- an entry in its place is found before what was there
  pub payload-place : (k : Kept V) (ks : List (Kept V)) (t : Time) → payload_at (place k ks) t ≡ cond (same_time t k.time) (Some k.payload) (payload_at ks t)
  payload-place k [] t = refl
  payload-place k (j ∷ ks) t = at (is_earlier j.time k.time) refl (payload-place k ks t)
    where
      not_both : is_earlier j.time k.time ≡ true → same_time t j.time ≡ true → same_time t k.time ≡ true → ⊥
      not_both e p q = both_ways (same_time j.time k.time) (earlier-other j.time k.time e) (subst (λ u. same_time u k.time ≡ true) (same_time-eq t j.time p) q)

      behind : (p : Bool) → same_time j.time k.time ≡ p → (q : Bool) → same_time t k.time ≡ q → cond q (Some k.payload) (payload_at (cond p ks (j ∷ ks)) t) ≡ cond q (Some k.payload) (cond (same_time t j.time) (Some j.payload) (payload_at ks t))
      behind true e true f = refl
      behind false e true f = refl
      behind true e false f = sym (ap (λ b. cond b (Some j.payload) (payload_at ks t)) (subst (λ u. same_time t u ≡ false) (sym (same_time-eq j.time k.time e)) f))
      behind false e false f = refl

      at : (b : Bool) → is_earlier j.time k.time ≡ b → payload_at (place k ks) t ≡ cond (same_time t k.time) (Some k.payload) (payload_at ks t)
          → payload_at (cond b (j ∷ place k ks) (k ∷ cond (same_time j.time k.time) ks (j ∷ ks))) t ≡ cond (same_time t k.time) (Some k.payload) (cond (same_time t j.time) (Some j.payload) (payload_at ks t))
      at true e rest = ap (λ o. cond (same_time t j.time) (Some j.payload) o) rest ∙ either_first (Some j.payload) (Some k.payload) (payload_at ks t) (same_time t j.time) (same_time t k.time) (not_both e)
      at false e rest = behind (same_time j.time k.time) refl (same_time t k.time) refl

  pub all_in-place : (a : Time → Bool) (k : Kept V) (ks : List (Kept V)) → IsTrue (a k.time) → AllIn a (kept_times ks) → AllIn a (kept_times (place k ks))
  all_in-place a k [] here all = all_in-cons a k.time [] here all
  all_in-place a k (j ∷ ks) here all = at (all_in-place a k ks here (λ t m. all t (among-tail j.time t (kept_times ks) m))) (is_earlier j.time k.time) (same_time j.time k.time)
    where
      tail : AllIn a (kept_times ks)
      tail t m = all t (among-tail j.time t (kept_times ks) m)

      at : AllIn a (kept_times (place k ks)) → (b p : Bool) → AllIn a (kept_times (cond b (j ∷ place k ks) (k ∷ cond p ks (j ∷ ks))))
      at placed true p = all_in-cons a j.time (kept_times (place k ks)) (all j.time (among-head j.time (kept_times ks))) placed
      at placed false true = all_in-cons a k.time (kept_times ks) here tail
      at placed false false = all_in-cons a k.time (kept_times (j ∷ ks)) here all

  pub rising-place : (k : Kept V) (ks : List (Kept V)) → IsRising (kept_times ks) → IsRising (kept_times (place k ks))
  rising-place k [] rising = (λ t m. cc, tt)
  rising-place k (j ∷ ks) rising = at (rising-place k ks rising.1) (is_earlier j.time k.time) refl (same_time j.time k.time) refl
    where
      at : IsRising (kept_times (place k ks)) → (b : Bool) → is_earlier j.time k.time ≡ b → (p : Bool) → same_time j.time k.time ≡ p → IsRising (kept_times (cond b (j ∷ place k ks) (k ∷ cond p ks (j ∷ ks))))
      at placed true e p f = (all_in-place (is_earlier j.time) k ks e rising.0, placed)
      at placed false e true f = (subst (λ u. AllIn (is_earlier u) (kept_times ks)) (same_time-eq j.time k.time f) rising.0, rising.1)
      at placed false e false f =
          let before : is_earlier k.time j.time ≡ true = earlier-else j.time k.time e f in
          (all_in-cons (is_earlier k.time) j.time (kept_times ks) before (λ t m. earlier-trans k.time j.time t before (rising.0 t m)), rising)

  pub payload-by_time : (ks : List (Kept V)) (t : Time) → payload_at (by_time ks) t ≡ payload_at ks t
  payload-by_time [] t = refl
  payload-by_time (k ∷ ks) t = payload-place k (by_time ks) t ∙ ap (λ o. cond (same_time t k.time) (Some k.payload) o) (payload-by_time ks t)

  pub rising-by_time : (ks : List (Kept V)) → IsRising (kept_times (by_time ks))
  rising-by_time [] = tt
  rising-by_time (k ∷ ks) = rising-place k (by_time ks) (rising-by_time ks)

  -- what holds of all times of entries holds of them by rising time
  pub all_in-by_time : (a : Time → Bool) (ks : List (Kept V)) → AllIn a (kept_times ks) → AllIn a (kept_times (by_time ks))
  all_in-by_time a [] all = all
  all_in-by_time a (k ∷ ks) all = all_in-place a k (by_time ks) (all k.time (among-head k.time (kept_times ks))) (all_in-by_time a ks (λ t m. all t (among-tail k.time t (kept_times ks) m)))

  -- an entry that is later than all others stands last
  pub place-last : (k : Kept V) (ks : List (Kept V)) → AllBefore (kept_times ks) k.time → place k ks ≡ ks ++ k ∷ []
  place-last k [] before = refl
  place-last k (j ∷ ks) before =
      rw (before j.time (among-head j.time (kept_times ks))) (ap (λ is. j ∷ is) (place-last k ks (λ t m. before t (among-tail j.time t (kept_times ks) m))))
