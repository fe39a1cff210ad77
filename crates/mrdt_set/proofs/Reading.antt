-- Members that were read, against those that the bytes may spell.
use Rattle.std.proofs.Common.{◌≡◌, ◌≢◌, ℕ, ◌+◌, ◌^◌, ◌<◌, ◌≤◌, true, false, List, [], ◌∷◌, ◌++◌, length, refl, ◌∙◌, ap, sym, subst, append_assoc, arith, length-append, Result, Err, IsErrOf}
use Rattle.std.specs.List.{flat_map, AllByRecursion}
use Rattle.std.proofs.lemmas.List.{append-nil}
use Rattle.std.specs.Map.{keys_of}
use Rattle.std.specs.declared.cmp.Ordering.TheVariants.{Less}
use Rattle.std.specs.List.Sorted.{IsStrictlySortedBy}
use Rattle.branch_wire.specs.Fields.{number, field}
use Rattle.branch_wire.specs.Reading.{ReadsOneWay, HasLength64}
use Rattle.branch_wire.proofs.OneWay.{pairs, fields, PairFits}
use Rattle.branch_wire.proofs.Lists.{flat_map-front, flat_map-push, counted-one_way}
use Rattle.live_set.specs.Effects.{has_any}
use Rattle.live_set.specs.Payloads.{IsNothing, nothing_spelling, nothing_way}
use Rattle.live_set.specs.Spelling.{live_spelling, AreLive}
use Rattle.live_set.proofs.Reading.{live_way}
use Rattle.mrdt_set.specs.Members.{Times, member_spelling, set_spelling, IsMember, AreMembers}
use Rattle.mrdt_model.proofs.Tables.{cmp}
use Rattle.keyed_slots.specs.Slots.{IsAbove}
use Rattle.mrdt_set.specs.Reading.{AreRising, TakesMember, AreTaken}

-- of elements that rise, one that stands behind others is above them
above-others : (ks js : List (List ℕ)) (k : List ℕ) → IsStrictlySortedBy cmp (ks ++ (k ∷ js)) → IsAbove k ks
unfolding IsStrictlySortedBy
above-others [] js k s = tt
above-others (i ∷ ks) js k s = (behind ks js k (λ j. cmp i j ≡ Less) s.0, above-others ks js k s.1)
  where
    behind : (ks js : List (List ℕ)) (k : List ℕ) (P : List ℕ → Type 0) → AllByRecursion P (ks ++ (k ∷ js)) → P k
    behind [] js k P all = all.0
    behind (j ∷ ks) js k P all = behind ks js k P all.1

all-weaker : {X : Type 0} (P Q : X → Type 0) (xs : List X) → ((x : X) → P x → Q x) → AllByRecursion P xs → AllByRecursion Q xs
all-weaker P Q [] weaker all = tt
all-weaker P Q (x ∷ xs) weaker all = (weaker x all.0, all-weaker P Q xs weaker all.1)

all-behind : {X : Type 0} (P : X → Type 0) (xs ys : List X) (y : X) → AllByRecursion P (xs ++ (y ∷ ys)) → P y
all-behind P [] ys y all = all.0
all-behind P (x ∷ xs) ys y all = all-behind P xs ys y all.1

all-push : {X : Type 0} (P : X → Type 0) (xs : List X) (y : X) → AllByRecursion P xs → P y → AllByRecursion P (xs ++ y ∷ [])
all-push P [] y all last = (last, tt)
all-push P (x ∷ xs) y all last = (all.0, all-push P xs y all.1 last)

keys-append : {V : Type 0} (es fs : List (List ℕ × V)) → keys_of (es ++ fs) ≡ keys_of es ++ keys_of fs
keys-append [] fs = refl
keys-append (e ∷ es) fs = ap (λ ks. e.0 ∷ ks) (keys-append es fs)

abbrev Fits : List ℕ × Times → Type 0
Fits = PairFits {X = List ℕ} {Y = Times} HasLength64 (AreLive IsNothing)

-- members are read in one way
members_way : ReadsOneWay Fits member_spelling
members_way = pairs {X = List ℕ} {Y = Times} HasLength64 (AreLive IsNothing) field (live_spelling nothing_spelling) fields (live_way IsNothing nothing_spelling nothing_way)

fits-member : (e : List ℕ × Times) → IsMember e → Fits e
fits-member e is = (is.1, is.2)

fit-all : (es : List (List ℕ × Times)) → AllByRecursion IsMember es → AllByRecursion Fits es
fit-all es all = all-weaker IsMember Fits es fits-member all

sorted-push : (es : List (List ℕ × Times)) (e : List ℕ × Times) → IsStrictlySortedBy cmp (keys_of es) → IsAbove e.0 (keys_of es) → IsStrictlySortedBy cmp (keys_of (es ++ e ∷ []))
unfolding IsStrictlySortedBy
sorted-push [] e sorted above = (tt, tt)
sorted-push (x ∷ es) e sorted above =
    (subst (AllByRecursion (λ j. cmp x.0 j ≡ Less)) (sym (keys-append es (e ∷ []))) (all-push (λ j. cmp x.0 j ≡ Less) (keys_of es) e.0 sorted.0 above.0), sorted-push es e sorted.1 above.1)

-- before any member is taken
pub taken-none : (bytes : List ℕ) → AreTaken bytes 0 bytes []
unfolding IsStrictlySortedBy
taken-none bytes = record { many = refl; rising = (tt, tt); spelled = refl }

-- one more member is taken
pub taken-more : (bytes rest more : List ℕ) (n : ℕ) (es fs : List (List ℕ × Times)) → AreTaken bytes n rest es → TakesMember rest es more fs → AreTaken bytes (n + 1) more fs
taken-more bytes rest more n es fs so_far next = record {
  many = ap length next.members ∙ length-append es (next.taken ∷ []) ∙ ap (λ m. m + 1) so_far.many;
  rising = (subst (λ (xs : List (List ℕ × Times)). IsStrictlySortedBy cmp (keys_of xs)) (sym next.members) (sorted-push es next.taken so_far.rising.0 next.above), subst (AllByRecursion IsMember) (sym next.members) (all-push IsMember es next.taken so_far.rising.1 next.good));
  spelled =
      so_far.spelled ∙ ap (λ r. flat_map member_spelling es ++ r) next.spelled
      ∙ sym (append_assoc (flat_map member_spelling es) (member_spelling next.taken) more)
      ∙ ap (λ b. b ++ more) (sym (flat_map-push member_spelling es next.taken) ∙ ap (flat_map member_spelling) (sym next.members));
}

-- what is spelled begins with what was taken
taken-front : (bytes rest more : List ℕ) (n : ℕ) (es fs : List (List ℕ × Times)) → AreTaken bytes n rest es → AreRising fs → n ≤ length fs → bytes ≡ flat_map member_spelling fs ++ more
    → (gs : List (List ℕ × Times)) × (fs ≡ es ++ gs) × (rest ≡ flat_map member_spelling gs ++ more)
taken-front bytes rest more n es fs so_far inside few is =
    let many = so_far.many in
    flat_map-front Fits member_spelling members_way es fs rest more (fit-all es so_far.rising.1) (fit-all fs inside.1) (omega (arith, many, few)) (sym so_far.spelled ∙ is)

-- Where more members are spelled than were taken, one that may be taken next is spelled at the front.
pub taken-next : (bytes rest more : List ℕ) (n : ℕ) (es fs : List (List ℕ × Times)) → AreTaken bytes n rest es → n < length fs → AreRising fs → bytes ≡ flat_map member_spelling fs ++ more
    → ((e : List ℕ × Times) (r : List ℕ) → IsMember e → IsAbove e.0 (keys_of es) → rest ≡ member_spelling e ++ r → ⊥) → ⊥
taken-next bytes rest more n es fs so_far few inside is none =
    let front = taken-front bytes rest more n es fs so_far inside (omega arith) is in
    at front.0 front.1 front.2
  where
    at : (gs : List (List ℕ × Times)) → fs ≡ es ++ gs → rest ≡ flat_map member_spelling gs ++ more → ⊥
    at [] same spelled = let many = so_far.many in omega (arith, few, many, ap length same, length-append es [])
    at (g ∷ gs) same spelled =
        let sorted : IsStrictlySortedBy cmp (keys_of es ++ (g.0 ∷ keys_of gs)) = subst (IsStrictlySortedBy cmp) (ap keys_of same ∙ keys-append es (g ∷ gs)) inside.0 in
        none g (flat_map member_spelling gs ++ more)
        (all-behind IsMember es gs g (subst (AllByRecursion IsMember) same inside.1))
        (above-others (keys_of es) (keys_of gs) g.0 sorted)
        (spelled ∙ append_assoc (member_spelling g) (flat_map member_spelling gs) more)

-- Where as many members are spelled as were taken, they are those, and nothing is left.
pub taken-all : (bytes rest : List ℕ) (n : ℕ) (es fs : List (List ℕ × Times)) → AreTaken bytes n rest es → n ≡ length fs → AreRising fs → bytes ≡ flat_map member_spelling fs → rest ≡ []
taken-all bytes rest n es fs so_far many inside is =
    let front = taken-front bytes rest [] n es fs so_far inside (omega (arith, many)) (is ∙ sym (append-nil (flat_map member_spelling fs))) in
    at front.0 front.1 front.2
  where
    at : (gs : List (List ℕ × Times)) → fs ≡ es ++ gs → rest ≡ flat_map member_spelling gs ++ [] → rest ≡ []
    at [] same spelled = spelled
    at (g ∷ gs) same spelled = let own = so_far.many in absurd (omega (arith, many, own, ap length same, length-append es (g ∷ gs)))

-- A count and as many members, with nothing behind them, are the spelling of what was taken.
pub taken-whole : (whole bytes rest : List ℕ) (n : ℕ) (es : List (List ℕ × Times)) → whole ≡ number n ++ bytes → AreTaken bytes n rest es → rest ≡ [] → whole ≡ set_spelling es
taken-whole whole bytes rest n es is all none =
    let flat = flat_map member_spelling es in
    is ∙ ap (λ b. number n ++ b) (all.spelled ∙ ap (λ r. flat ++ r) none ∙ append-nil flat) ∙ ap (λ m. number m ++ flat) (sym all.many)

-- they are in the grammar
pub taken-members : (bytes rest : List ℕ) (n : ℕ) (es : List (List ℕ × Times)) → AreTaken bytes n rest es → n < 2 ^ 64 → AreMembers es
taken-members bytes rest n es all fit = let many = all.many in record { few = omega (arith, many, fit); rising = all.rising.0; each = all.rising.1 }

-- members are read from their spelling in one way
pub same-members : (es fs : List (List ℕ × Times)) → AreMembers es → AreMembers fs → set_spelling es ≡ set_spelling fs → es ≡ fs
same-members es fs p q same =
    ((counted-one_way Fits member_spelling members_way).one es fs [] [] (p.few, fit-all es p.each) (q.few, fit-all fs q.each) (ap (λ b. b ++ []) same)).0

same_error : {T E : Type 0} (r : Result T E) (y e : E) → r ≡ Err y → r ≡ Err e → y ≡ e
same_error r y e is other = cc

-- an error that a `?` passes on
pub passed-on : {S T E : Type 0} (r : Result T E) (x y e : E) → r ≡ Err y → y ≡ x → IsErrOf r e → IsErrOf {T = S} {E = E} (Err x) e
passed-on {S} {T} {E} r x y e is same error = ap {B = Result S E} Err (sym same ∙ same_error r y e is error)

pub no-times : (times : Times) → has_any times ≡ false → times ≡ []
no-times [] h = refl
no-times (k ∷ times) h = absurd (cc h)

pub some-times : (times : Times) → has_any times ≡ true → times ≢ []
some-times [] h = absurd (cc h)
some-times (k ∷ times) h = λ is. cc

pub times_way : ReadsOneWay (AreLive IsNothing) (live_spelling nothing_spelling)
times_way = live_way IsNothing nothing_spelling nothing_way
