-- Entries that were read, against the entries that the bytes may spell.
use Rattle.std.proofs.Common.{◌≡◌, ℕ, suc, ◌+◌, ◌^◌, ◌<◌, ◌≤◌, Bool, true, false, cond, Some, List, [], ◌∷◌, ◌++◌, length, map, refl, ◌∙◌, ap, sym, subst, append_assoc, arith, length-append, Result, Err, IsErrOf}
use Rattle.std.specs.List.{flat_map, AllByRecursion}
use Rattle.std.specs.Map.{keys_of}
use Rattle.std.specs.declared.cmp.Ordering.{Ordering}
use Rattle.std.specs.declared.cmp.Ordering.TheVariants.{Less}
use Rattle.std.specs.Ordering.{nat_cmp}
use Rattle.std.specs.Cmp.Lexicographic.{slice_cmp}
use Rattle.std.specs.List.Sorted.{IsStrictlySortedBy}
use Rattle.std.proofs.lemmas.List.{append-nil}
use Rattle.mrdt_model.specs.Laws.{Meaning, StandsAsWell}
use Rattle.branch_wire.specs.Fields.{number, field}
use Rattle.branch_wire.specs.Reading.{ReadsOneWay, HasLength64, AreCounted}
use Rattle.branch_wire.proofs.Numbers.{length-field}
use Rattle.branch_wire.proofs.OneWay.{pairs, fields, PairFits}
use Rattle.branch_wire.proofs.Lists.{flat_map-front, flat_map-each, flat_map-count, flat_map-push, counted-one_way, length-counted}
use Rattle.mrdt_map.specs.Keyed.{same_key, value_at, entry_spelling, entries_spelling, as_spelled, IsEntry, AreInOrder, IsEntriesSpelling, CopiesAt, map_meaning}
use Rattle.keyed_slots.specs.Slots.{IsAbove}
use Rattle.mrdt_map.specs.Reading.{as_text, IsTaken, TakesEntry, AreTaken}
use Rattle.mrdt_map.specs.AtKeys.{copies-some, copies-none}
use Rattle.mrdt_map.proofs.OnKeys.{copies}

abbrev cmp : List ℕ → List ℕ → Ordering
cmp = slice_cmp nat_cmp

-- of keys that rise, one that stands behind others is above them
above-others : (ks js : List (List ℕ)) (k : List ℕ) → IsStrictlySortedBy cmp (ks ++ (k ∷ js)) → IsAbove k ks
unfolding IsStrictlySortedBy
above-others [] js k s = tt
above-others (i ∷ ks) js k s = (behind ks js k (λ j. cmp i j ≡ Less) s.0, above-others ks js k s.1)
  where
    behind : (ks js : List (List ℕ)) (k : List ℕ) (P : List ℕ → Type 0) → AllByRecursion P (ks ++ (k ∷ js)) → P k
    behind [] js k P all = all.0
    behind (j ∷ ks) js k P all = behind ks js k P all.1

all-weaker : {X : Type 0} (P Q : X → Type 0) (xs : List X) → ((x : X) → P x → Q x) → AllByRecursion P xs → AllByRecursion Q xs
all-weaker P Q [] weaker all = tt
all-weaker P Q (x ∷ xs) weaker all = (weaker x all.0, all-weaker P Q xs weaker all.1)

all-behind : {X : Type 0} (P : X → Type 0) (xs ys : List X) (y : X) → AllByRecursion P (xs ++ (y ∷ ys)) → P y
all-behind P [] ys y all = all.0
all-behind P (x ∷ xs) ys y all = all-behind P xs ys y all.1

all-push : {X : Type 0} (P : X → Type 0) (xs : List X) (y : X) → AllByRecursion P xs → P y → AllByRecursion P (xs ++ y ∷ [])
all-push P [] y all last = (last, tt)
all-push P (x ∷ xs) y all last = (all.0, all-push P xs y all.1 last)

-- the keys still rise with one above all
sorted-push : {V : Type 0} (es : List (List ℕ × V)) (e : List ℕ × V) → IsStrictlySortedBy cmp (keys_of es) → IsAbove e.0 (keys_of es) → IsStrictlySortedBy cmp (keys_of (es ++ e ∷ []))
unfolding IsStrictlySortedBy
sorted-push {V} [] e s above = (tt, tt)
sorted-push {V} (x ∷ es) e s above = (above_push es s.0, sorted-push es e s.1 above.1)
  where
    above_push : (xs : List (List ℕ × V)) → AllByRecursion (λ j. cmp x.0 j ≡ Less) (keys_of xs) → AllByRecursion (λ j. cmp x.0 j ≡ Less) (keys_of (xs ++ e ∷ []))
    above_push [] all = (above.0, tt)
    above_push (y ∷ xs) all = (all.0, above_push xs all.1)

keys-append : {V : Type 0} (es fs : List (List ℕ × V)) → keys_of (es ++ fs) ≡ keys_of es ++ keys_of fs
keys-append [] fs = refl
keys-append (e ∷ es) fs = ap (λ ks. e.0 ∷ ks) (keys-append es fs)

abbrev pub AreShort : List ℕ × List ℕ → Type 0
AreShort = PairFits {X = List ℕ} {Y = List ℕ} HasLength64 HasLength64

-- entries are read in one way
entries_way : ReadsOneWay AreShort (entry_spelling as_spelled)
entries_way = pairs {X = List ℕ} {Y = List ℕ} HasLength64 HasLength64 field field fields fields

short-entry : (P : List ℕ → Type 0) (e : List ℕ × List ℕ) → IsEntry P e → AreShort e
short-entry P e is = (is.0.1, is.1)

module _ {V O R Q A : Type 0} (t : Meaning V O R Q A) where
  -- the entries as they are spelled
  abbrev pub texts : List (List ℕ × V) → List (List ℕ × List ℕ)
  texts es = map {B = List ℕ × List ℕ} (as_text t.state_spelling) es

  flat-texts : (es : List (List ℕ × V)) → flat_map (entry_spelling t.state_spelling) es ≡ flat_map (entry_spelling as_spelled) (texts es)
  flat-texts [] = refl
  flat-texts (e ∷ es) = ap (λ rest. (field e.0 ++ field (t.state_spelling e.1)) ++ rest) (flat-texts es)

  keys-texts : (es : List (List ℕ × V)) → keys_of (texts es) ≡ keys_of es
  keys-texts [] = refl
  keys-texts (e ∷ es) = ap (λ ks. e.0 ∷ ks) (keys-texts es)

  length-texts : (es : List (List ℕ × V)) → length (texts es) ≡ length es
  length-texts [] = refl
  length-texts (e ∷ es) = ap suc (length-texts es)

  taken-texts : (es : List (List ℕ × V)) → AllByRecursion (IsTaken t) es → AllByRecursion (IsEntry t.is_state_spelling) (texts es)
  taken-texts [] all = tt
  taken-texts (e ∷ es) all = (all.0.entry, taken-texts es all.1)

  short-texts : (es : List (List ℕ × V)) → AllByRecursion (IsTaken t) es → AllByRecursion AreShort (texts es)
  short-texts es all = all-weaker (IsEntry t.is_state_spelling) AreShort (texts es) (short-entry t.is_state_spelling) (taken-texts es all)

  -- before any entry is taken
  pub taken-none : (bytes : List ℕ) → AreTaken t bytes 0 bytes []
  unfolding IsStrictlySortedBy
  taken-none bytes = record { many = refl; good = tt; ordered = tt; spelled = refl }

  -- one more entry is taken
  pub taken-more : (bytes rest more : List ℕ) (n : ℕ) (es fs : List (List ℕ × V)) → AreTaken t bytes n rest es → TakesEntry t rest es more fs → AreTaken t bytes (n + 1) more fs
  taken-more bytes rest more n es fs so_far next = record {
    many = ap length next.entries ∙ length-append es (next.taken ∷ []) ∙ ap (λ m. m + 1) so_far.many;
    good = subst (AllByRecursion (IsTaken t)) (sym next.entries) (all-push (IsTaken t) es next.taken so_far.good next.good);
    ordered = subst (λ (xs : List (List ℕ × V)). IsStrictlySortedBy cmp (keys_of xs)) (sym next.entries) (sorted-push es next.taken so_far.ordered next.above);
    spelled =
        so_far.spelled ∙ ap (λ r. flat_map (entry_spelling t.state_spelling) es ++ r) next.spelled
        ∙ sym (append_assoc (flat_map (entry_spelling t.state_spelling) es) (entry_spelling t.state_spelling next.taken) more)
        ∙ ap (λ b. b ++ more) (sym (flat_map-push (entry_spelling t.state_spelling) es next.taken) ∙ ap (flat_map (entry_spelling t.state_spelling)) (sym next.entries));
  }

  -- what is spelled begins with what was taken
  taken-front : (bytes rest more : List ℕ) (n : ℕ) (es : List (List ℕ × V)) (fs : List (List ℕ × List ℕ)) → AreTaken t bytes n rest es → AreInOrder t.is_state_spelling fs → n ≤ length fs → bytes ≡ flat_map (entry_spelling as_spelled) fs ++ more
      → (gs : List (List ℕ × List ℕ)) × (fs ≡ texts es ++ gs) × (rest ≡ flat_map (entry_spelling as_spelled) gs ++ more)
  taken-front bytes rest more n es fs so_far inside few is =
      let many = so_far.many in
      let same : flat_map (entry_spelling as_spelled) (texts es) ++ rest ≡ flat_map (entry_spelling as_spelled) fs ++ more = ap (λ b. b ++ rest) (sym (flat-texts es)) ∙ sym so_far.spelled ∙ is in
      flat_map-front AreShort (entry_spelling as_spelled) entries_way (texts es) fs rest more (short-texts es so_far.good) (all-weaker (IsEntry t.is_state_spelling) AreShort fs (short-entry t.is_state_spelling) inside.1) (omega (arith, many, few, length-texts es)) same

  -- Where more entries are spelled than were taken, one that may be taken next is spelled at the front.
  pub taken-next : (bytes rest more : List ℕ) (n : ℕ) (es : List (List ℕ × V)) (fs : List (List ℕ × List ℕ)) → AreTaken t bytes n rest es → n < length fs → AreInOrder t.is_state_spelling fs → bytes ≡ flat_map (entry_spelling as_spelled) fs ++ more
      → ((e : List ℕ × List ℕ) (r : List ℕ) → IsEntry t.is_state_spelling e → IsAbove e.0 (keys_of es) → rest ≡ entry_spelling as_spelled e ++ r → ⊥) → ⊥
  taken-next bytes rest more n es fs so_far few inside is none =
      let front = taken-front bytes rest more n es fs so_far inside (omega arith) is in
      at front.0 front.1 front.2
    where
      at : (gs : List (List ℕ × List ℕ)) → fs ≡ texts es ++ gs → rest ≡ flat_map (entry_spelling as_spelled) gs ++ more → ⊥
      at [] same spelled = let many = so_far.many in omega (arith, few, many, length-texts es, ap length same, length-append (texts es) [])
      at (g ∷ gs) same spelled =
          let sorted : IsStrictlySortedBy cmp (keys_of es ++ (g.0 ∷ keys_of gs)) =
          subst (IsStrictlySortedBy cmp) (ap keys_of same ∙ keys-append (texts es) (g ∷ gs) ∙ ap (λ ks. ks ++ (g.0 ∷ keys_of gs)) (keys-texts es)) inside.0 in
          none g (flat_map (entry_spelling as_spelled) gs ++ more)
          (all-behind (IsEntry t.is_state_spelling) (texts es) gs g (subst (AllByRecursion (IsEntry t.is_state_spelling)) same inside.1))
          (above-others (keys_of es) (keys_of gs) g.0 sorted)
          (spelled ∙ append_assoc (entry_spelling as_spelled g) (flat_map (entry_spelling as_spelled) gs) more)

  -- Where as many entries are spelled as were taken, nothing is left.
  pub taken-all : (bytes rest : List ℕ) (n : ℕ) (es : List (List ℕ × V)) (fs : List (List ℕ × List ℕ)) → AreTaken t bytes n rest es → n ≡ length fs → AreInOrder t.is_state_spelling fs → bytes ≡ flat_map (entry_spelling as_spelled) fs → rest ≡ []
  taken-all bytes rest n es fs so_far many inside is =
      let front = taken-front bytes rest [] n es fs so_far inside (omega (arith, many)) (is ∙ sym (append-nil (flat_map (entry_spelling as_spelled) fs))) in
      at front.0 front.1 front.2
    where
      at : (gs : List (List ℕ × List ℕ)) → fs ≡ texts es ++ gs → rest ≡ flat_map (entry_spelling as_spelled) gs ++ [] → rest ≡ []
      at [] same spelled = spelled
      at (g ∷ gs) same spelled = let own = so_far.many in absurd (omega (arith, many, own, length-texts es, ap length same, length-append (texts es) (g ∷ gs)))

  -- entries that are spelled in fewer than 2 ^ 64 bytes are short
  pub counted-short : (es : List (List ℕ × V)) → length (entries_spelling t.state_spelling es) < 2 ^ 64 → AreCounted AreShort (texts es)
  counted-short es short =
      let spell = entry_spelling t.state_spelling in
      let size = length-counted spell es in
      let some = flat_map-count spell (λ e. omega (arith, length-append (field e.0) (field (t.state_spelling e.1)), length-field e.0)) es in
      (omega (arith, short, size, some, length-texts es), each es (all-weaker (λ e. length (spell e) ≤ length (flat_map spell es)) (λ e. length (spell e) < 2 ^ 64) es (λ e h. omega (arith, h, short, size)) (flat_map-each spell es)))
    where
      each : (fs : List (List ℕ × V)) → AllByRecursion (λ e. length (entry_spelling t.state_spelling e) < 2 ^ 64) fs → AllByRecursion AreShort (texts fs)
      each [] all = tt
      each (e ∷ fs) all =
          let size = length-append (field e.0) (field (t.state_spelling e.1)) in
          let few = all.0 in
          ((omega (arith, few, size, length-field e.0, length-field (t.state_spelling e.1)), omega (arith, few, size, length-field e.0, length-field (t.state_spelling e.1))), each fs all.1)

  -- entries that are spelled alike, of which the second were taken, copy at each key
  copies-texts : (os es : List (List ℕ × V)) → texts os ≡ texts es → AllByRecursion (IsTaken t) es → (k : List ℕ) → CopiesAt t (value_at os k) (value_at es k)
  copies-texts [] [] same all k = copies-none t
  copies-texts [] (e ∷ es) same all k = cc
  copies-texts (o ∷ os) [] same all k = cc
  copies-texts (o ∷ os) (e ∷ es) same all k =
      let head : as_text t.state_spelling o ≡ as_text t.state_spelling e = cc in
      let tail : texts os ≡ texts es = cc in
      at (same_key k e.0) (ap (λ (p : List ℕ × List ℕ). same_key k p.0) head) (ap (λ (p : List ℕ × List ℕ). p.1) head) (copies-texts os es tail all.1 k)
    where
      at : (p : Bool) → same_key k o.0 ≡ p → t.state_spelling o.1 ≡ t.state_spelling e.1 → CopiesAt t (value_at os k) (value_at es k) → CopiesAt t (value_at (o ∷ os) k) (cond p (Some e.1) (value_at es k))
      at true is alike rest = subst (λ p. CopiesAt t (cond p (Some o.1) (value_at os k)) (Some e.1)) (sym is) (copies-some t o.1 e.1 (all.0.stands o.1 alike))
      at false is alike rest = subst (λ p. CopiesAt t (cond p (Some o.1) (value_at os k)) (value_at es k)) (sym is) rest

  as_texts : (es : List (List ℕ × V)) → entries_spelling t.state_spelling es ≡ entries_spelling as_spelled (texts es)
  as_texts es = ap (λ n. number n ++ flat_map (entry_spelling t.state_spelling) es) (sym (length-texts es)) ∙ ap (λ b. number (length (texts es)) ++ b) (flat-texts es)

  -- maps that are spelled alike have the same texts
  pub one-texts : (os es : List (List ℕ × V)) → length (entries_spelling t.state_spelling os) < 2 ^ 64 → entries_spelling t.state_spelling os ≡ entries_spelling t.state_spelling es → texts os ≡ texts es
  one-texts os es short alike =
      let os_short = counted-short os short in
      let es_short = counted-short es (subst (λ b. length b < 2 ^ 64) alike short) in
      let same : entries_spelling as_spelled (texts os) ++ [] ≡ entries_spelling as_spelled (texts es) ++ [] = ap (λ b. b ++ []) (sym (as_texts os) ∙ alike ∙ as_texts es) in
      ((counted-one_way AreShort (entry_spelling as_spelled) entries_way).one (texts os) (texts es) [] [] os_short es_short same).0

  -- A count and as many entries, with nothing behind them, are the spelling of what was taken.
  pub taken-whole : (whole bytes rest : List ℕ) (n : ℕ) (es : List (List ℕ × V)) → whole ≡ number n ++ bytes → AreTaken t bytes n rest es → rest ≡ [] → whole ≡ entries_spelling t.state_spelling es
  taken-whole whole bytes rest n es is all none =
      let flat = flat_map (entry_spelling t.state_spelling) es in
      is ∙ ap (λ b. number n ++ b) (all.spelled ∙ ap (λ r. flat ++ r) none ∙ append-nil flat) ∙ ap (λ m. number m ++ flat) (sym all.many)

  -- they are in the grammar
  pub taken-inside : (whole bytes rest : List ℕ) (n : ℕ) (es : List (List ℕ × V)) → whole ≡ number n ++ bytes → AreTaken t bytes n rest es → rest ≡ [] → n < 2 ^ 64 → IsEntriesSpelling t.is_state_spelling whole
  taken-inside whole bytes rest n es is all none fit =
      let many = all.many in (
        texts es,
        (omega (arith, many, fit, length-texts es), (subst (IsStrictlySortedBy cmp) (sym (keys-texts es)) all.ordered, taken-texts es all.good)),
        taken-whole whole bytes rest n es is all none ∙ as_texts es,
      )

  -- what was taken stands for all that its spelling stood for
  pub taken-stands : (whole bytes rest : List ℕ) (n : ℕ) (es os : List (List ℕ × V)) → whole ≡ number n ++ bytes → AreTaken t bytes n rest es → rest ≡ [] → length whole < 2 ^ 64 → entries_spelling t.state_spelling os ≡ whole → StandsAsWell (map_meaning t) os es
  taken-stands whole bytes rest n es os is all none short alike =
      let own = taken-whole whole bytes rest n es is all none in
      copies t os es all.ordered (copies-texts os es (one-texts os es (subst (λ b. length b < 2 ^ 64) (sym alike) short) (alike ∙ own)) all.good)

same_error : {T E : Type 0} (r : Result T E) (y e : E) → r ≡ Err y → r ≡ Err e → y ≡ e
same_error r y e is other = cc

-- an error that a `?` passes on
pub passed-on : {S T E : Type 0} (r : Result T E) (x y e : E) → r ≡ Err y → y ≡ x → IsErrOf r e → IsErrOf {T = S} {E = E} (Err x) e
passed-on {S} {T} {E} r x y e is same error = ap {B = Result S E} Err (sym same ∙ same_error r y e is error)
