-- The place of a time among entries by rising time, and edits there.
use Rattle.std.proofs.Common.{◌≡◌, ℕ, zero, suc, ◌+◌, ◌<◌, ◌≤◌, Bool, true, false, cond, Option, None, Some, List, [], ◌∷◌, ◌++◌, length, take, drop, slice_get, refl, ◌∙◌, ap, sym, subst, IsTrue, arith, add-one}
use Rattle.std.proofs.lemmas.List.{append-nil, take-append-drop, take_all}
use Rattle.std.proofs.Common.{length-append}
use Rattle.std.proofs.lemmas.Bool.{both_ways}
use Rattle.shared_list.specs.Trees.{IsPartitioned}
use Rattle.mrdt_model.specs.declared.time.Time.{Time}
use Rattle.mrdt_model.specs.Times.{same_time, is_earlier, among}
use Rattle.mrdt_model.specs.Executions.{AllIn}
use Rattle.mrdt_model.proofs.TimeSets.{same_time-eq, same_time-refl}
use Rattle.live_set.specs.declared.kept.Kept.{Kept}
use Rattle.live_set.specs.Entries.{kept_times, AllBefore, IsRising, payload_at, staying, MergesEntries}
use Rattle.live_set.specs.Finding.{BeginsAt, IsFound, LosesTime, ChangesAt}
use Rattle.live_set.proofs.Order.{earlier-trans, earlier-else, earlier-other, other-sym}
use Rattle.live_set.proofs.Rising.{entry_of, among-head, among-tail, all_in-cons, later-not, payload-none, either_first}

module _ {X : Type 0} where
  take_front : (xs ys : List X) → take (length xs) (xs ++ ys) ≡ xs
  take_front [] ys = refl
  take_front (x ∷ xs) ys = ap (λ zs. x ∷ zs) (take_front xs ys)

  drop_front : (xs ys : List X) → drop (length xs) (xs ++ ys) ≡ ys
  drop_front [] ys = refl
  drop_front (x ∷ xs) ys = drop_front xs ys

  drop_suc : (xs ys : List X) (y : X) → drop (suc (length xs)) (xs ++ y ∷ ys) ≡ ys
  drop_suc [] ys y = refl
  drop_suc (x ∷ xs) ys y = drop_suc xs ys y

  drop_past : (xs ys : List X) (y : X) → drop (length xs + 1) (xs ++ y ∷ ys) ≡ ys
  drop_past xs ys y = rw (add-one) (drop_suc xs ys y)

module _ {X : Type 0} where
  -- the last entry comes behind the others
  pub last_split : (xs : List X) (i : ℕ) (x : X) → i + 1 ≡ length xs → slice_get xs i ≡ Some x → xs ≡ take i xs ++ x ∷ []
  last_split [] i x long at = absurd (cc at)
  last_split (y ∷ []) zero x long at = let own : y ≡ x = cc at in ap (λ z. z ∷ []) own
  last_split (y ∷ z ∷ xs) zero x long at = absurd (omega (arith, long))
  last_split (y ∷ xs) (suc i) x long at = ap (λ zs. y ∷ zs) (last_split xs i x (omega (arith, long)) at)

module _ {V : Type 0} where
  pub among-get : (ks : List (Kept V)) (i : ℕ) (k : Kept V) → slice_get ks i ≡ Some k → IsTrue (among (kept_times ks) k.time)
  among-get [] i k at = absurd (cc at)
  among-get (j ∷ ks) zero k at = let own : j ≡ k = cc at in subst (λ (h : Kept V). IsTrue (among (kept_times (h ∷ ks)) k.time)) (sym own) (among-head k.time (kept_times ks))
  among-get (j ∷ ks) (suc i) k at = among-tail j.time k.time (kept_times ks) (among-get ks i k at)

  -- times that rise are parted by any time
  pub partitioned : (t : Time) (ks : List (Kept V)) → IsRising (kept_times ks) → IsPartitioned (λ k. is_earlier k.time t) ks
  partitioned t [] rising i j x y le at_x at_y later = absurd (cc at_x)
  partitioned t (k ∷ ks) rising zero zero x y le at_x at_y later = let own : x ≡ y = cc (at_x, at_y) in subst (λ (h : Kept V). is_earlier h.time t ≡ true) (sym own) later
  partitioned t (k ∷ ks) rising zero (suc j) x y le at_x at_y later =
      let own : k ≡ x = cc at_x in
      let before : is_earlier k.time t ≡ true = earlier-trans k.time y.time t (rising.0 y.time (among-get ks j y at_y)) later in
      subst (λ (h : Kept V). is_earlier h.time t ≡ true) own before
  partitioned t (k ∷ ks) rising (suc i) zero x y le at_x at_y later = absurd (omega (arith, le))
  partitioned t (k ∷ ks) rising (suc i) (suc j) x y le at_x at_y later = partitioned t ks rising.1 i j x y (omega (arith, le)) at_x at_y later

  front-before : (t : Time) (p : ℕ) (ks : List (Kept V)) → ((i : ℕ) (x : Kept V) → i < p → slice_get ks i ≡ Some x → is_earlier x.time t ≡ true) → AllBefore (kept_times (take p ks)) t
  front-before t zero ks before = λ s m. cc
  front-before t (suc p) [] before = λ s m. cc
  front-before t (suc p) (k ∷ ks) before =
      all_in-cons (λ s. is_earlier s t) k.time (kept_times (take p ks)) (before 0 k (omega arith) refl)
      (front-before t p ks (λ i x h at. before (suc i) x (omega (arith, h)) at))

  begins : (t : Time) (p : ℕ) (ks : List (Kept V)) (x : Kept V) (b : Bool) → IsRising (kept_times ks) → slice_get ks p ≡ Some x → is_earlier x.time t ≡ false → same_time t x.time ≡ b → BeginsAt t b (drop p ks)
  begins t p [] x b rising at later same = absurd (cc at)
  begins t zero (k ∷ ks) x true rising at later same =
      let own : x ≡ k = cc at in
      let is : t ≡ k.time = same_time-eq t x.time same ∙ ap (λ (h : Kept V). h.time) own in
      (is, subst (λ u. AllIn (is_earlier u) (kept_times ks)) (sym is) rising.0)
  begins t zero (k ∷ ks) x false rising at later same =
      let own : x ≡ k = cc at in
      let after : is_earlier t x.time ≡ true = earlier-else x.time t later (other-sym t x.time same) in
      let here : is_earlier t k.time ≡ true = subst (λ (h : Kept V). is_earlier t h.time ≡ true) own after in
      all_in-cons (is_earlier t) k.time (kept_times ks) here (λ s m. earlier-trans t k.time s here (rising.0 s m))
  begins t (suc p) (k ∷ ks) x b rising at later same = begins t p ks x b rising.1 at later same

  length-take : (p : ℕ) (ks : List (Kept V)) → p ≤ length ks → length (take p ks) ≡ p
  length-take zero ks le = refl
  length-take (suc p) [] le = absurd (omega (arith, le))
  length-take (suc p) (k ∷ ks) le = ap suc (length-take p ks (omega (arith, le)))

  there : (xs : List (Kept V)) (i : ℕ) (x : Kept V) → slice_get xs i ≡ Some x → i < length xs
  there [] i x at = absurd (cc at)
  there (y ∷ ys) zero x at = omega arith
  there (y ∷ ys) (suc i) x at = let more = there ys i x at in omega (arith, more)

  -- all entries are before the time
  pub found_end : (ks : List (Kept V)) (t : Time) (p : ℕ) → p ≡ length ks → AllBefore (kept_times ks) t → IsFound ks t p false
  found_end ks t p long before = record { front = ks; back = []; many = sym long; whole = sym (append-nil ks); before = before; behind = λ s m. cc }

  pub found_last : (ks : List (Kept V)) (t : Time) (p : ℕ) → p ≡ length ks → ((i : ℕ) (x : Kept V) → i < p → slice_get ks i ≡ Some x → is_earlier x.time t ≡ true) → IsFound ks t p false
  found_last ks t p long before =
      let all : take p ks ≡ ks = take_all p ks (omega (arith, long)) in
      found_end ks t p long (subst (λ js. AllBefore (kept_times js) t) all (front-before t p ks before))

  -- the entry at the place is not before the time
  pub found_at : (ks : List (Kept V)) (t : Time) (p : ℕ) (x : Kept V) (b : Bool) → IsRising (kept_times ks) → ((i : ℕ) (y : Kept V) → i < p → slice_get ks i ≡ Some y → is_earlier y.time t ≡ true) → is_earlier x.time t ≡ false → slice_get ks p ≡ Some x → same_time t x.time ≡ b → IsFound ks t p b
  found_at ks t p x b rising before later at same =
      let within = there ks p x at in
      record { front = take p ks; back = drop p ks; many = length-take p ks (omega (arith, within)); whole = sym (take-append-drop p ks); before = front-before t p ks before; behind = begins t p ks x b rising at later same }

  pub found_within : (ks : List (Kept V)) (t : Time) (p : ℕ) (b : Bool) → IsFound ks t p b → p ≤ length ks
  found_within ks t p b f = omega (arith, f.many, ap length f.whole, length-append f.front f.back)

  pub found_inside : (ks : List (Kept V)) (t : Time) (p : ℕ) → IsFound ks t p true → p < length ks
  found_inside ks t p f = at f.back f.whole f.behind
    where
      at : (back : List (Kept V)) → ks ≡ f.front ++ back → BeginsAt t true back → p < length ks
      at [] whole behind = absurd behind
      at (j ∷ back) whole behind = omega (arith, f.many, ap length whole, length-append f.front (j ∷ back))

  -- what stands in front of a time has nothing there
  skip_front : (front back : List (Kept V)) (t : Time) → AllBefore (kept_times front) t → payload_at (front ++ back) t ≡ payload_at back t
  skip_front [] back t before = refl
  skip_front (j ∷ front) back t before =
      let other : same_time t j.time ≡ false = other-sym j.time t (earlier-other j.time t (before j.time (among-head j.time (kept_times front)))) in
      rw other (skip_front front back t (λ s m. before s (among-tail j.time s (kept_times front) m)))

  none_behind : (back : List (Kept V)) (t : Time) → AllIn (is_earlier t) (kept_times back) → payload_at back t ≡ None
  none_behind back t later = payload-none back t (later-not t (kept_times back) later)

  apart : (j : Kept V) (t u : Time) → is_earlier j.time u ≡ true → same_time t j.time ≡ true → same_time t u ≡ true → ⊥
  apart j t u e p q = both_ways (same_time j.time u) (earlier-other j.time u e) (subst (λ s. same_time s u ≡ true) (same_time-eq t j.time p) q)

  put_at : (front back : List (Kept V)) (k : Kept V) (t : Time) → AllBefore (kept_times front) k.time → payload_at (front ++ k ∷ back) t ≡ cond (same_time t k.time) (Some k.payload) (payload_at (front ++ back) t)
  put_at [] back k t before = refl
  put_at (j ∷ front) back k t before =
      ap (λ o. cond (same_time t j.time) (Some j.payload) o) (put_at front back k t (λ s m. before s (among-tail j.time s (kept_times front) m)))
      ∙ either_first (Some j.payload) (Some k.payload) (payload_at (front ++ back) t) (same_time t j.time) (same_time t k.time) (apart j t k.time (before j.time (among-head j.time (kept_times front))))

  lost_head : (back : List (Kept V)) (k : Kept V) (t : Time) (b : Bool) → same_time t k.time ≡ b → AllIn (is_earlier k.time) (kept_times back) → payload_at back t ≡ cond b None (cond b (Some k.payload) (payload_at back t))
  lost_head back k t true same later = none_behind back t (subst (λ u. AllIn (is_earlier u) (kept_times back)) (sym (same_time-eq t k.time same)) later)
  lost_head back k t false same later = refl

  cut_at : (front back : List (Kept V)) (k : Kept V) (t : Time) → AllBefore (kept_times front) k.time → AllIn (is_earlier k.time) (kept_times back) → payload_at (front ++ back) t ≡ cond (same_time t k.time) None (payload_at (front ++ k ∷ back) t)
  cut_at [] back k t before later = lost_head back k t (same_time t k.time) refl later
  cut_at (j ∷ front) back k t before later =
      ap (λ o. cond (same_time t j.time) (Some j.payload) o) (cut_at front back k t (λ s m. before s (among-tail j.time s (kept_times front) m)) later)
      ∙ either_first (Some j.payload) None (payload_at (front ++ k ∷ back) t) (same_time t j.time) (same_time t k.time) (apart j t k.time (before j.time (among-head j.time (kept_times front))))

  all_put : (a : Time → Bool) (front back : List (Kept V)) (k : Kept V) → AllIn a (kept_times (front ++ back)) → IsTrue (a k.time) → AllIn a (kept_times (front ++ k ∷ back))
  all_put a [] back k all here = all_in-cons a k.time (kept_times back) here all
  all_put a (j ∷ front) back k all here =
      all_in-cons a j.time (kept_times (front ++ k ∷ back)) (all j.time (among-head j.time (kept_times (front ++ back))))
      (all_put a front back k (λ s m. all s (among-tail j.time s (kept_times (front ++ back)) m)) here)

  rising_put : (front back : List (Kept V)) (k : Kept V) → IsRising (kept_times (front ++ back)) → AllBefore (kept_times front) k.time → AllIn (is_earlier k.time) (kept_times back) → IsRising (kept_times (front ++ k ∷ back))
  rising_put [] back k rising before later = (later, rising)
  rising_put (j ∷ front) back k rising before later =
      (all_put (is_earlier j.time) front back k rising.0 (before j.time (among-head j.time (kept_times front))), rising_put front back k rising.1 (λ s m. before s (among-tail j.time s (kept_times front) m)) later)

  all_cut : (a : Time → Bool) (front back : List (Kept V)) (k : Kept V) → AllIn a (kept_times (front ++ k ∷ back)) → AllIn a (kept_times (front ++ back))
  all_cut a [] back k all = λ s m. all s (among-tail k.time s (kept_times back) m)
  all_cut a (j ∷ front) back k all =
      all_in-cons a j.time (kept_times (front ++ back)) (all j.time (among-head j.time (kept_times (front ++ k ∷ back))))
      (all_cut a front back k (λ s m. all s (among-tail j.time s (kept_times (front ++ k ∷ back)) m)))

  rising_cut : (front back : List (Kept V)) (k : Kept V) → IsRising (kept_times (front ++ k ∷ back)) → IsRising (kept_times (front ++ back))
  rising_cut [] back k rising = rising.1
  rising_cut (j ∷ front) back k rising = (all_cut (is_earlier j.time) front back k rising.0, rising_cut front back k rising.1)

  -- an entry at a new time is put
  put_is : (ks : List (Kept V)) (t : Time) (p : ℕ) (v : V) (f : IsFound ks t p false) → take p ks ++ entry_of t v ∷ drop p ks ≡ f.front ++ entry_of t v ∷ f.back
  put_is ks t p v f =
      let t1 : take p ks ≡ f.front = ap (λ n. take n ks) (sym f.many) ∙ ap (take (length f.front)) f.whole ∙ take_front f.front f.back in
      let t2 : drop p ks ≡ f.back = ap (λ n. drop n ks) (sym f.many) ∙ ap (drop (length f.front)) f.whole ∙ drop_front f.front f.back in
      rw (t1, t2) refl

  pub put_rises : (ks : List (Kept V)) (t : Time) (p : ℕ) (v : V) → IsRising (kept_times ks) → IsFound ks t p false → IsRising (kept_times (take p ks ++ entry_of t v ∷ drop p ks))
  put_rises ks t p v rising f = subst (λ js. IsRising (kept_times js)) (sym (put_is ks t p v f)) (rising_put f.front f.back (entry_of t v) (subst (λ js. IsRising (kept_times js)) f.whole rising) f.before f.behind)

  new_at : (o : Option V) (v : V) (b : Bool) → (b ≡ true → o ≡ None) → cond b (Some v) o ≡ staying None o (cond b (Some v) None)
  new_at None v true none = refl
  new_at (Some w) v true none = absurd (let h = none refl in cc h)
  new_at None v false none = refl
  new_at (Some w) v false none = refl

  pub put_merges : (ks : List (Kept V)) (t : Time) (p : ℕ) (v : V) → IsFound ks t p false → MergesEntries [] ks (entry_of t v ∷ []) (take p ks ++ entry_of t v ∷ drop p ks)
  put_merges ks t p v f u =
      let none : same_time u t ≡ true → payload_at ks u ≡ None = λ s. ap (payload_at ks) (same_time-eq u t s) ∙ ap (λ js. payload_at js t) f.whole ∙ skip_front f.front f.back t f.before ∙ none_behind f.back t f.behind in
      ap (λ js. payload_at js u) (put_is ks t p v f) ∙ put_at f.front f.back (entry_of t v) u f.before
      ∙ ap (λ js. cond (same_time u t) (Some v) (payload_at js u)) (sym f.whole)
      ∙ new_at (payload_at ks u) v (same_time u t) none

  -- a time that has an entry keeps it
  old_at : (o : Option V) (v w : V) (b : Bool) → (b ≡ true → o ≡ Some w) → o ≡ staying None o (cond b (Some v) None)
  old_at None v w true some = absurd (let h = some refl in cc h)
  old_at (Some x) v w true some = refl
  old_at None v w false some = refl
  old_at (Some x) v w false some = refl

  pub there_merges : (ks : List (Kept V)) (t : Time) (p : ℕ) (v : V) → IsFound ks t p true → MergesEntries [] ks (entry_of t v ∷ []) ks
  there_merges ks t p v f u = at f.back f.whole f.behind
    where
      at : (back : List (Kept V)) → ks ≡ f.front ++ back → BeginsAt t true back → payload_at ks u ≡ staying None (payload_at ks u) (cond (same_time u t) (Some v) None)
      at [] whole behind = absurd behind
      at (j ∷ back) whole behind =
          let some : same_time u t ≡ true → payload_at ks u ≡ Some j.payload = λ s.
          ap (payload_at ks) (same_time-eq u t s) ∙ ap (λ js. payload_at js t) whole ∙ skip_front f.front (j ∷ back) t f.before ∙ ap (λ b. cond b (Some j.payload) (payload_at back t)) (ap (same_time t) (sym behind.0) ∙ same_time-refl t) in
          old_at (payload_at ks u) v j.payload (same_time u t) some

  -- the entry at a time is cut out
  cut_is : (ks : List (Kept V)) (p : ℕ) (front back : List (Kept V)) (k : Kept V) → length front ≡ p → ks ≡ front ++ k ∷ back → take p ks ++ drop (p + 1) ks ≡ front ++ back
  cut_is ks p front back k many whole =
      let t1 : take p ks ≡ front = ap (λ n. take n ks) (sym many) ∙ ap (take (length front)) whole ∙ take_front front (k ∷ back) in
      let t2 : drop (p + 1) ks ≡ back = ap (λ n. drop (n + 1) ks) (sym many) ∙ ap (drop (length front + 1)) whole ∙ drop_past front back k in
      rw (t1, t2) refl

  pub cut_rises : (ks : List (Kept V)) (t : Time) (p : ℕ) → IsRising (kept_times ks) → IsFound ks t p true → IsRising (kept_times (take p ks ++ drop (p + 1) ks))
  cut_rises ks t p rising f = at f.back f.whole f.behind
    where
      at : (back : List (Kept V)) → ks ≡ f.front ++ back → BeginsAt t true back → IsRising (kept_times (take p ks ++ drop (p + 1) ks))
      at [] whole behind = absurd behind
      at (j ∷ back) whole behind = subst (λ js. IsRising (kept_times js)) (sym (cut_is ks p f.front back j f.many whole)) (rising_cut f.front back j (subst (λ js. IsRising (kept_times js)) whole rising))

  pub cut_loses : (ks : List (Kept V)) (t : Time) (p : ℕ) → IsFound ks t p true → LosesTime t ks (take p ks ++ drop (p + 1) ks)
  cut_loses ks t p f u = at f.back f.whole f.behind
    where
      at : (back : List (Kept V)) → ks ≡ f.front ++ back → BeginsAt t true back → payload_at (take p ks ++ drop (p + 1) ks) u ≡ cond (same_time u t) None (payload_at ks u)
      at [] whole behind = absurd behind
      at (j ∷ back) whole behind =
          let before : AllBefore (kept_times f.front) j.time = subst (λ s. AllBefore (kept_times f.front) s) behind.0 f.before in
          let later : AllIn (is_earlier j.time) (kept_times back) = subst (λ s. AllIn (is_earlier s) (kept_times back)) behind.0 behind.1 in
          ap (λ js. payload_at js u) (cut_is ks p f.front back j f.many whole) ∙ cut_at f.front back j u before later
          ∙ ap (λ s. cond (same_time u s) None (payload_at (f.front ++ j ∷ back) u)) (sym behind.0)
          ∙ ap (λ js. cond (same_time u t) None (payload_at js u)) (sym whole)

  -- a time without an entry has nothing to lose
  none_at : (o : Option V) (b : Bool) → (b ≡ true → o ≡ None) → o ≡ cond b None o
  none_at o true none = none refl
  none_at o false none = refl

  pub none_loses : (ks : List (Kept V)) (t : Time) (p : ℕ) → IsFound ks t p false → LosesTime t ks ks
  none_loses ks t p f u = none_at (payload_at ks u) (same_time u t) (λ s. ap (payload_at ks) (same_time-eq u t s) ∙ ap (λ js. payload_at js t) f.whole ∙ skip_front f.front f.back t f.before ∙ none_behind f.back t f.behind)

  -- what changes at a time, by what the sides have there
  stays_put : (o : Option V) (w : V) (b : Bool) → staying None o (cond b (Some w) None) ≡ cond b (staying None o (Some w)) o
  stays_put None w true = refl
  stays_put (Some v) w true = refl
  stays_put None w false = refl
  stays_put (Some v) w false = refl

  pub change_put : (old new : List (Kept V)) (t : Time) (w : V) → MergesEntries [] old (entry_of t w ∷ []) new → ChangesAt t None (Some w) old new
  change_put old new t w is u = is u ∙ stays_put (payload_at old u) w (same_time u t)

  stays_cut : (o : Option V) (v : V) (b : Bool) → cond b None o ≡ cond b (staying (Some v) o None) o
  stays_cut None v true = refl
  stays_cut (Some w) v true = refl
  stays_cut o v false = refl

  pub change_cut : (old new : List (Kept V)) (t : Time) (v : V) → LosesTime t old new → ChangesAt t (Some v) None old new
  change_cut old new t v is u = is u ∙ stays_cut (payload_at old u) v (same_time u t)

  stays_both : (o : Option V) (v w : V) (b : Bool) → o ≡ cond b (staying (Some v) o (Some w)) o
  stays_both None v w true = refl
  stays_both (Some x) v w true = refl
  stays_both o v w false = refl

  pub change_both : (old : List (Kept V)) (t : Time) (v w : V) → ChangesAt t (Some v) (Some w) old old
  change_both old t v w u = stays_both (payload_at old u) v w (same_time u t)

  stays_neither : (o : Option V) (b : Bool) → o ≡ cond b (staying None o None) o
  stays_neither None true = refl
  stays_neither (Some x) true = refl
  stays_neither o false = refl

  pub change_neither : (old : List (Kept V)) (t : Time) → ChangesAt t None None old old
  change_neither old t u = stays_neither (payload_at old u) (same_time u t)
