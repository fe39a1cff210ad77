-- Entries that were read, against those that the bytes may spell.
use Rattle.std.proofs.Common.{◌≡◌, ℕ, ◌+◌, ◌^◌, ◌<◌, ◌≤◌, true, List, [], ◌∷◌, ◌++◌, length, ◌∙◌, ap, sym, subst, IsTrue, append_assoc, arith, length-append, Result, Err, IsErrOf}
use Rattle.std.specs.List.{flat_map, AllByRecursion}
use Rattle.mrdt_model.specs.declared.time.Time.{Time}
use Rattle.mrdt_model.specs.Times.{IsTime, is_earlier, among}
use Rattle.branch_wire.specs.Fields.{number, time_field}
use Rattle.branch_wire.specs.Reading.{ReadsOneWay}
use Rattle.branch_wire.proofs.OneWay.{times, pairs}
use Rattle.branch_wire.proofs.Lists.{flat_map-front, flat_map-push, counted-one_way}
use Rattle.live_set.specs.declared.kept.Kept.{Kept}
use Rattle.live_set.specs.Entries.{kept_times, AllBefore, IsRising}
use Rattle.live_set.specs.Spelling.{kept_spelling, live_spelling, KeptFits, AreLive}
use Rattle.live_set.specs.Reading.{TakesKept}
use Rattle.live_set.proofs.Order.{earlier-trans}
use Rattle.live_set.proofs.Rising.{entry_of, among-head, among-tail, all_in-cons, rising-append, times-append}

module _ {V : Type 0} where
  -- times before the last one
  pub before-last : (ks : List (Kept V)) (k : Kept V) (t : Time) → IsRising (kept_times (ks ++ k ∷ [])) → is_earlier k.time t ≡ true → AllBefore (kept_times (ks ++ k ∷ [])) t
  before-last [] k t rising h = all_in-cons (λ s. is_earlier s t) k.time [] h (λ s m. cc)
  before-last (j ∷ ks) k t rising h =
      let rest = before-last ks k t rising.1 h in
      all_in-cons (λ s. is_earlier s t) j.time (kept_times (ks ++ k ∷ [])) (earlier-trans j.time k.time t (rising.0 k.time (last ks)) h) rest
    where
      last : (is : List (Kept V)) → IsTrue (among (kept_times (is ++ k ∷ [])) k.time)
      last [] = among-head k.time []
      last (i ∷ is) = among-tail i.time k.time (kept_times (is ++ k ∷ [])) (last is)

  pub last-before : (ks : List (Kept V)) (k : Kept V) (t : Time) → AllBefore (kept_times (ks ++ k ∷ [])) t → is_earlier k.time t ≡ true
  last-before [] k t before = before k.time (among-head k.time [])
  last-before (j ∷ ks) k t before = last-before ks k t (λ s m. before s (among-tail j.time s (kept_times (ks ++ k ∷ [])) m))

  -- of times that rise, one that stands behind others is later
  before-others : (ks js : List (Kept V)) (k : Kept V) → IsRising (kept_times (ks ++ (k ∷ js))) → AllBefore (kept_times ks) k.time
  before-others [] js k rising = λ s m. cc
  before-others (i ∷ ks) js k rising = all_in-cons (λ s. is_earlier s k.time) i.time (kept_times ks) (rising.0 k.time (inside ks)) (before-others ks js k rising.1)
    where
      inside : (is : List (Kept V)) → IsTrue (among (kept_times (is ++ (k ∷ js))) k.time)
      inside [] = among-head k.time (kept_times js)
      inside (i ∷ is) = among-tail i.time k.time (kept_times (is ++ (k ∷ js))) (inside is)

all-behind : {X : Type 0} (P : X → Type 0) (xs ys : List X) (y : X) → AllByRecursion P (xs ++ (y ∷ ys)) → P y
all-behind P [] ys y all = all.0
all-behind P (x ∷ xs) ys y all = all-behind P xs ys y all.1

all-push : {X : Type 0} (P : X → Type 0) (xs : List X) (y : X) → AllByRecursion P xs → P y → AllByRecursion P (xs ++ y ∷ [])
all-push P [] y all last = (last, tt)
all-push P (x ∷ xs) y all last = (all.0, all-push P xs y all.1 last)

-- this many entries, by rising time, are taken from the front of the bytes
pub record AreTaken {V : Type 0} (fits : V → Type 0) (spelling : V → List ℕ) (bytes : List ℕ) (count : ℕ) (rest : List ℕ) (entries : List (Kept V)) : Type 0 where
  pub many : length entries ≡ count
  pub good : AllByRecursion (KeptFits fits) entries
  pub rising : IsRising (kept_times entries)
  pub spelled : bytes ≡ flat_map (kept_spelling spelling) entries ++ rest

abbrev as_pair : {V : Type 0} → Kept V → Time × V
as_pair k = (k.time, k.payload)

from_pair : {V : Type 0} (j k : Kept V) → as_pair j ≡ as_pair k → j ≡ k
from_pair {V} j k is = ap (λ (p : Time × V). entry_of p.0 p.1) is

module _ {V : Type 0} (fits : V → Type 0) (spelling : V → List ℕ) (way : ReadsOneWay fits spelling) where
  -- entries are read in one way
  pub kept_way : ReadsOneWay (KeptFits fits) (kept_spelling spelling)
  kept_way = record {
    one = λ j k a b p q is.
        let found = (pairs {X = Time} {Y = V} IsTime fits time_field spelling times way).one (as_pair j) (as_pair k) a b p q is in
        (from_pair j k found.0, found.1);
  }

  -- a count and entries are
  pub live_way : ReadsOneWay (AreLive fits) (live_spelling spelling)
  live_way = record { one = λ js ks a b p q is. (counted-one_way (KeptFits fits) (kept_spelling spelling) kept_way).one js ks a b (p.few, p.each) (q.few, q.each) is }

  -- what is spelled begins with what was taken
  taken-front : (bytes rest more : List ℕ) (n : ℕ) (ks js : List (Kept V)) → AreTaken fits spelling bytes n rest ks → AreLive fits js → n ≤ length js → bytes ≡ flat_map (kept_spelling spelling) js ++ more
      → (is : List (Kept V)) × (js ≡ ks ++ is) × (rest ≡ flat_map (kept_spelling spelling) is ++ more)
  taken-front bytes rest more n ks js so_far inside few is =
      let many = so_far.many in
      flat_map-front (KeptFits fits) (kept_spelling spelling) kept_way ks js rest more so_far.good inside.each (omega (arith, many, few)) (sym so_far.spelled ∙ is)

  -- Where more entries are spelled than were taken, one that may be taken next is spelled at the front.
  pub taken-next : (bytes rest more : List ℕ) (n : ℕ) (ks js : List (Kept V)) → AreTaken fits spelling bytes n rest ks → n < length js → AreLive fits js → bytes ≡ flat_map (kept_spelling spelling) js ++ more
      → ((k : Kept V) (r : List ℕ) → KeptFits fits k → AllBefore (kept_times ks) k.time → rest ≡ kept_spelling spelling k ++ r → ⊥) → ⊥
  taken-next bytes rest more n ks js so_far few inside is none =
      let front = taken-front bytes rest more n ks js so_far inside (omega arith) is in
      at front.0 front.1 front.2
    where
      at : (is : List (Kept V)) → js ≡ ks ++ is → rest ≡ flat_map (kept_spelling spelling) is ++ more → ⊥
      at [] same spelled = let many = so_far.many in omega (arith, few, many, ap length same, length-append ks [])
      at (i ∷ is) same spelled =
          none i (flat_map (kept_spelling spelling) is ++ more)
          (all-behind (KeptFits fits) ks is i (subst (AllByRecursion (KeptFits fits)) same inside.each))
          (before-others ks is i (subst (λ hs. IsRising (kept_times hs)) same inside.rising))
          (spelled ∙ append_assoc (kept_spelling spelling i) (flat_map (kept_spelling spelling) is) more)

module _ {V : Type 0} (fits : V → Type 0) (spelling : V → List ℕ) where
  -- one more entry is taken
  pub taken-more : (bytes rest more : List ℕ) (n : ℕ) (ks js : List (Kept V)) → AreTaken fits spelling bytes n rest ks → TakesKept fits spelling rest ks more js → AreTaken fits spelling bytes (n + 1) more js
  taken-more bytes rest more n ks js so_far next =
      let k = next.taken in
      record {
        many = ap length next.entries ∙ length-append ks (k ∷ []) ∙ ap (λ m. m + 1) so_far.many;
        good = subst (AllByRecursion (KeptFits fits)) (sym next.entries) (all-push (KeptFits fits) ks k so_far.good next.good);
        rising = subst (λ hs. IsRising (kept_times hs)) (sym next.entries) (subst IsRising (sym (times-append ks k.time k.payload)) (rising-append (kept_times ks) k.time so_far.rising next.later));
        spelled =
            so_far.spelled ∙ ap (λ r. flat_map (kept_spelling spelling) ks ++ r) next.spelled
            ∙ sym (append_assoc (flat_map (kept_spelling spelling) ks) (kept_spelling spelling k) more)
            ∙ ap (λ b. b ++ more) (sym (flat_map-push (kept_spelling spelling) ks k) ∙ ap (flat_map (kept_spelling spelling)) (sym next.entries));
      }

  -- a count and as many entries are the spelling of what was taken
  pub taken-whole : (whole bytes rest : List ℕ) (n : ℕ) (ks : List (Kept V)) → whole ≡ number n ++ bytes → AreTaken fits spelling bytes n rest ks → whole ≡ live_spelling spelling ks ++ rest
  taken-whole whole bytes rest n ks is all =
      let flat = flat_map (kept_spelling spelling) ks in
      is ∙ ap (λ b. number n ++ b) all.spelled ∙ sym (append_assoc (number n) flat rest) ∙ ap (λ m. (number m ++ flat) ++ rest) (sym all.many)

  pub taken-live : (bytes rest : List ℕ) (n : ℕ) (ks : List (Kept V)) → AreTaken fits spelling bytes n rest ks → n < 2 ^ 64 → AreLive fits ks
  taken-live bytes rest n ks all fit = let many = all.many in record { few = omega (arith, many, fit); rising = all.rising; each = all.good }

same_error : {T E : Type 0} (r : Result T E) (y e : E) → r ≡ Err y → r ≡ Err e → y ≡ e
same_error r y e is other = cc

-- an error that a `?` passes on
pub passed-on : {S T E : Type 0} (r : Result T E) (x y e : E) → r ≡ Err y → y ≡ x → IsErrOf r e → IsErrOf {T = S} {E = E} (Err x) e
passed-on {S} {T} {E} r x y e is same error = ap {B = Result S E} Err (sym same ∙ same_error r y e is error)
