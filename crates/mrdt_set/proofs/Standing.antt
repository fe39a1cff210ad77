-- Sets that stand for executions, told by what they have at each element.
use Rattle.std.proofs.Common.{◌≡◌, ℕ, Bool, true, false, cond, None, Some, is_some, List, [], ◌∷◌, refl, ◌∙◌, ap, sym, subst}
use Rattle.std.specs.Map.{keys_of}
use Rattle.std.specs.List.Sorted.{IsStrictlySortedBy}
use Rattle.mrdt_model.specs.declared.time.Time.{Time}
use Rattle.mrdt_model.specs.Times.{IsTime, is_earlier, among, both, either}
use Rattle.mrdt_model.specs.Executions.{times_of, restrict, IsClosed, MayFollow, IsWellFormed, IsAfter, next_event}
use Rattle.std.proofs.lemmas.Bool.{both_ways, false_from_ne_true}
use Rattle.mrdt_model.proofs.Executions.{is_earlier-irrefl, restrict-well_formed, closed_both}
use Rattle.mrdt_model.proofs.Parts.{AllSeenIn, all_seen}
use Rattle.live_set.specs.Effects.{replacing, removing, apart, has_any, live_of, live_after}
use Rattle.live_set.specs.UnitReply.{IsAnyReply, no_reply}
use Rattle.live_set.specs.Entries.{kept_times, IsRising}
use Rattle.live_set.proofs.Standing.{merged-live, live-next, live-rising}
use Rattle.mrdt_model.proofs.SameEvents.{own-times}
use Rattle.mrdt_set.specs.declared.set.SetOp.{SetOp}
use Rattle.mrdt_set.specs.declared.set.SetOp.TheVariants.{Add, Remove, Clear}
use Rattle.mrdt_set.specs.Members.{Times, same_element, times_at, some_times, all_times, IsKept, IsMergedAt}
use Rattle.mrdt_set.specs.Set.{set_effect, times_after, IsSetOp, holds, set_of}
use Rattle.mrdt_model.proofs.Tables.{cmp, same_tables, same_bytes-sym}
use Rattle.mrdt_set.proofs.Rebuilt.{some-all, all-some}
use Rattle.mrdt_set.specs.Lawful.{Events, times-set_of, element-times, set_of-sorted, holds-element}

abbrev Sound : Events → Type 0
Sound x = IsWellFormed IsSetOp IsAnyReply x

closed_from_seen : (a : Time → Bool) (x : Events) → AllSeenIn a x → IsClosed a x
closed_from_seen a [] all = tt
closed_from_seen a (e ∷ x) all = (λ _. all.0, closed_from_seen a x all.1)

-- an event that has seen all may follow
pub next-sound : (x : Events) (t : Time) (op : SetOp) → Sound x → IsTime t → IsAfter x t → IsSetOp op → Sound (next_event x t op tt ∷ x)
next-sound x t op w time after known =
    let may : MayFollow IsSetOp IsAnyReply x (next_event x t op tt) =
    record {
      time = time;
      operation = known;
      reply = tt;
      new = false_from_ne_true (among (times_of x) t) (λ m. both_ways (is_earlier t t) (is_earlier-irrefl t) (after t m));
      after = λ s m. m;
      later = after;
      past = closed_from_seen (among (times_of x)) x (all_seen IsSetOp IsAnyReply x w);
    }
    in
    (may, w)

-- what has at each element what is live there, where something is, is the set
pub set-found : (s : List (List ℕ × Times)) (x : Events) → Sound x → IsStrictlySortedBy cmp (keys_of s) → ((k : List ℕ) → times_at s k ≡ some_times (live_of (set_effect k) x)) → s ≡ set_of x
set-found s x l sorted same = same_tables s (set_of x) sorted (set_of-sorted x) (λ k. same k ∙ sym (times-set_of k x l))

added : (b c : Bool) (t : Time) (live : Times) → b ≡ c → cond b (Some (record { time = t; payload = tt } ∷ [])) (some_times live) ≡ some_times (live_after (cond c (replacing {V = Unit {0}} tt) apart) t live)
added true true t live is = refl
added true false t live is = cc
added false true t live is = cc
added false false t live is = refl

removed : (b c : Bool) (t : Time) (live : Times) → b ≡ c → cond b None (some_times live) ≡ some_times (live_after (cond c (removing {V = Unit {0}}) apart) t live)
removed true true t live is = refl
removed true false t live is = cc
removed false true t live is = cc
removed false false t live is = refl

-- what an operation leaves of what is live of an element
times-effect : (op : SetOp) (t : Time) (k : List ℕ) (live : Times) → times_after op t k (some_times live) ≡ some_times (live_after (set_effect k op) t live)
times-effect (Add j) t k live = added (same_element j k) (same_element k j) t live (same_bytes-sym j k)
times-effect (Remove j) t k live = removed (same_element j k) (same_element k j) t live (same_bytes-sym j k)
times-effect Clear t k live = refl

-- what an operation makes of what the set has at an element
pub applied-at : (s made : List (List ℕ × Times)) (x : Events) (op : SetOp) (t : Time) (k : List ℕ) → Sound x → IsAfter x t → s ≡ set_of x → times_at made k ≡ times_after op t k (times_at s k)
    → times_at made k ≡ some_times (live_of (set_effect k) (next_event x t op tt ∷ x))
applied-at s made x op t k l after is made_is =
    let before : times_at s k ≡ some_times (live_of (set_effect k) x) = ap (λ es. times_at es k) is ∙ times-set_of k x l in
    made_is
    ∙ ap (times_after op t k) before
    ∙ times-effect op t k (live_of (set_effect k) x)
    ∙ ap some_times (sym (live-next (set_effect k) x t op tt (all_seen IsSetOp IsAnyReply x l) after))

-- a set keeps times that rise, and some, or none at all
kept-at : (k : List ℕ) (s : List (List ℕ × Times)) (x : Events) → Sound x → s ≡ set_of x → IsKept (times_at s k)
kept-at k s x l is =
    let live = live_of (set_effect k) x in
    let same : times_at s k ≡ some_times live = ap (λ es. times_at es k) is ∙ times-set_of k x l in
    subst IsKept (sym same) (record { some = some-all live; rising = subst (λ ts. IsRising (kept_times ts)) (all-some live) (live-rising (set_effect k) x) })

-- what a merge makes of what the three have at an element
pub merged-at : (base left right merged : List (List ℕ × Times)) (x : Events) (a b : Time → Bool) (k : List ℕ) → Sound x → IsClosed a x → IsClosed b x
    → base ≡ set_of (restrict (both a b) x) → left ≡ set_of (restrict a x) → right ≡ set_of (restrict b x)
    → (IsKept (times_at left k) → IsMergedAt (times_at base k) (times_at left k) (times_at right k) (times_at merged k)) → times_at merged k ≡ some_times (live_of (set_effect k) (restrict (either a b) x))
merged-at base left right merged x a b k l closed_a closed_b is_base is_left is_right merges =
    let sound = λ (c : Time → Bool) (closed : IsClosed c x). restrict-well_formed IsSetOp IsAnyReply no_reply c x closed l in
    let f = set_effect k in
    let own = λ (s : List (List ℕ × Times)) (c : Time → Bool) (closed : IsClosed c x) (is : s ≡ set_of (restrict c x)). ap (λ es. all_times (times_at es k)) is ∙ element-times k (restrict c x) (sound c closed) in
    let m = merges (kept-at k left (restrict a x) (sound a closed_a) is_left) in
    m.some
    ∙ ap some_times (merged-live f x a b (all_times (times_at base k)) (all_times (times_at left k)) (all_times (times_at right k)) (all_times (times_at merged k)) (own-times IsSetOp IsAnyReply x l) closed_a closed_b
    (own base (both a b) (closed_both a b x closed_a closed_b) is_base) (own left a closed_a is_left) (own right b closed_b is_right) m.rising m.merges)

some-any : (times : Times) → is_some (some_times times) ≡ has_any times
some-any [] = refl
some-any (k ∷ times) = refl

-- an element has times where it is held
pub contains-holds : (s : List (List ℕ × Times)) (x : Events) (k : List ℕ) → Sound x → s ≡ set_of x → is_some (times_at s k) ≡ holds x k
contains-holds s x k l is = ap (λ es. is_some (times_at es k)) is ∙ ap is_some (times-set_of k x l) ∙ some-any (live_of (set_effect k) x) ∙ sym (holds-element k x l)
