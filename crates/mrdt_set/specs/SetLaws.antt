-- The laws of the set.
use Rattle.std.proofs.Common.{◌≡◌, ℕ, ◌+◌, ◌<◌, ◌≤◌, ◌^◌, Bool, List, [], ◌∷◌, length, refl, ◌∙◌, ap, sym, inl, inr, arith, length-append}
use Rattle.std.specs.List.{AllByRecursion, flat_map}
use Rattle.std.specs.Map.{keys_of}
use Rattle.mrdt_model.specs.declared.time.Time.{Time}
use Rattle.mrdt_model.specs.Times.{both, either}
use Rattle.mrdt_model.specs.Executions.{restrict, IsClosed, IsWellFormed, IsLawful, HoldSameEvents}
use Rattle.mrdt_model.specs.Laws.{KeepsLaws, Merges, ShowTheSame}
use Rattle.mrdt_model.proofs.Executions.{restrict-well_formed, closed_both, closed_either}
use Rattle.mrdt_model.proofs.Tables.{table_of, same_tables}
use Rattle.branch_wire.specs.Fields.{field}
use Rattle.branch_wire.proofs.Numbers.{length-field}
use Rattle.branch_wire.proofs.Lists.{flat_map-each, flat_map-count, length-counted}
use Rattle.live_set.specs.Payloads.{nothing_spelling}
use Rattle.live_set.specs.Spelling.{live_spelling}
use Rattle.live_set.specs.Effects.{live_of}
use Rattle.live_set.specs.UnitReply.{IsAnyReply, no_reply}
use Rattle.mrdt_model.proofs.SameEvents.{own-times}
use Rattle.live_set.proofs.Unchanged.{left-unchanged, right-unchanged}
use Rattle.live_set.proofs.AnyOrder.{live-alike, holds-alike}
use Rattle.mrdt_set.specs.declared.set.SetOp.{SetOp}
use Rattle.mrdt_set.specs.declared.set.SetOp.TheVariants.{Add, Remove, Clear}
use Rattle.mrdt_set.specs.declared.set.SetQuery.{SetQuery}
use Rattle.mrdt_set.specs.declared.set.SetQuery.TheVariants.{Contains, Members, Size}
use Rattle.mrdt_set.specs.declared.set.SetAnswer.TheVariants.{IsIn, All, Count}
use Rattle.mrdt_set.specs.Members.{Times, times_at, some_times, all_times, member_spelling, set_spelling, IsMember, AreMembers}
use Rattle.mrdt_set.specs.Set.{set_effect, IsSetOp, members, set_of, set_answer, IsOpSpelling, op_spelling, set_meaning}
use Rattle.mrdt_set.specs.Lawful.{Events, IsLively, members-lively, keys-set_of, set_of-sorted, times-set_of, element-times, times-live}

-- what a member's spelling is at least
pub member-length : (e : List ℕ × Times) → 8 + length e.0 ≤ length (member_spelling e)
member-length e = omega (arith, length-append (field e.0) (live_spelling nothing_spelling e.1), length-field e.0)

-- members that are spelled in fewer than 2 ^ 64 bytes are few, and their elements are short
pub record AreShort (es : List (List ℕ × Times)) : Type 0 where
  pub few : length es < 2 ^ 64
  pub each : AllByRecursion (λ (e : List ℕ × Times). length e.0 < 2 ^ 64) es

shorter : (n : ℕ) (es : List (List ℕ × Times)) → n < 2 ^ 64 → AllByRecursion (λ (e : List ℕ × Times). length (member_spelling e) ≤ n) es → AllByRecursion (λ (e : List ℕ × Times). length e.0 < 2 ^ 64) es
shorter n [] few all = tt
shorter n (e ∷ es) few all = let h = all.0 in (omega (arith, member-length e, h, few), shorter n es few all.1)

pub set-short : (es : List (List ℕ × Times)) → length (set_spelling es) < 2 ^ 64 → AreShort es
set-short es short =
    let size = length-counted member_spelling es in
    let some = flat_map-count member_spelling (λ e. omega (arith, member-length e)) es in
    record {
      few = omega (arith, size, some, short);
      each = shorter (length (flat_map member_spelling es)) es (omega (arith, size, short)) (flat_map-each member_spelling es);
    }

each-member : (x : Events) (ks : List (List ℕ)) → IsLawful IsSetOp IsAnyReply no_reply x → AllByRecursion (IsLively x) ks → AllByRecursion (λ (e : List ℕ × Times). length e.0 < 2 ^ 64) (table_of (λ k. live_of (set_effect k) x) ks) → AllByRecursion IsMember (table_of (λ k. live_of (set_effect k) x) ks)
each-member x [] l lively short = tt
each-member x (k ∷ ks) l lively short = ((lively.0.bytes, short.0, times-live k x l, lively.0.some), each-member x ks l lively.1 short.1)

-- a spelling that is not too long is in the grammar
pub set_of-members : (x : Events) → IsLawful IsSetOp IsAnyReply no_reply x → length (set_spelling (set_of x)) < 2 ^ 64 → AreMembers (set_of x)
set_of-members x l short =
    let bounds = set-short (set_of x) short in
    record { few = bounds.few; rising = set_of-sorted x; each = each-member x (members x) l (members-lively x l) bounds.each }

op-inside : (op : SetOp) → IsSetOp op → IsOpSpelling (op_spelling op)
op-inside (Add x) known = inl (x, known, inl refl)
op-inside (Remove x) known = inl (x, known, inr refl)
op-inside Clear known = inr refl

one-op : (o p : SetOp) → op_spelling o ≡ op_spelling p → o ≡ p
one-op (Add u) (Add v) is = let elements_are : u ≡ v = cc is in ap Add elements_are
one-op (Add u) (Remove v) is = absurd (cc is)
one-op (Add u) Clear is = absurd (cc is)
one-op (Remove u) (Add v) is = absurd (cc is)
one-op (Remove u) (Remove v) is = let elements_are : u ≡ v = cc is in ap Remove elements_are
one-op (Remove u) Clear is = absurd (cc is)
one-op Clear (Add v) is = absurd (cc is)
one-op Clear (Remove v) is = absurd (cc is)
one-op Clear Clear is = refl

module _ (x : Events) (a b : Time → Bool) (l : IsLawful IsSetOp IsAnyReply no_reply x) (closed_a : IsClosed a x) (closed_b : IsClosed b x) where
  sound : (c : Time → Bool) → IsClosed c x → IsWellFormed IsSetOp IsAnyReply (restrict c x)
  sound c closed = restrict-well_formed IsSetOp IsAnyReply no_reply c x closed l.well_formed

  -- equal sets have the same times at each element
  times_alike : (k : List ℕ) (s t : List (List ℕ × Times)) (c d : Time → Bool) → IsClosed c x → IsClosed d x → s ≡ t → s ≡ set_of (restrict c x) → t ≡ set_of (restrict d x) → live_of (set_effect k) (restrict c x) ≡ live_of (set_effect k) (restrict d x)
  times_alike k s t c d closed_c closed_d same is_s is_t =
      sym (element-times k (restrict c x) (sound c closed_c)) ∙ ap (λ es. all_times (times_at es k)) (sym is_s ∙ same ∙ is_t) ∙ element-times k (restrict d x) (sound d closed_d)

  -- a side that has at each element what the union has is the union
  union_found : (c : Time → Bool) → IsClosed c x → ((k : List ℕ) → live_of (set_effect k) (restrict c x) ≡ live_of (set_effect k) (restrict (either a b) x)) → set_of (restrict c x) ≡ set_of (restrict (either a b) x)
  union_found c closed same =
      let union = closed_either a b x closed_a closed_b in
      same_tables (set_of (restrict c x)) (set_of (restrict (either a b) x)) (set_of-sorted (restrict c x)) (set_of-sorted (restrict (either a b) x))
      (λ k. times-set_of k (restrict c x) (sound c closed) ∙ ap some_times (same k) ∙ sym (times-set_of k (restrict (either a b) x) (sound (either a b) union)))

-- where one side is the base, the other is the union
left_unchanged : (base left right : List (List ℕ × Times)) → base ≡ left → Merges set_meaning base left right right
left_unchanged base left right same x a b l closed_a closed_b is_base is_left is_right =
    is_right
    ∙ union_found x a b l closed_a closed_b b closed_b (λ k.
    left-unchanged (set_effect k) x a b (live_of (set_effect k) (restrict (both a b) x)) (live_of (set_effect k) (restrict a x)) (live_of (set_effect k) (restrict b x)) (own-times IsSetOp IsAnyReply x l.well_formed) closed_a closed_b
    (times_alike x a b l closed_a closed_b k base left (both a b) a (closed_both a b x closed_a closed_b) closed_a same is_base is_left) refl refl refl)

right_unchanged : (base left right : List (List ℕ × Times)) → base ≡ right → Merges set_meaning base left right left
right_unchanged base left right same x a b l closed_a closed_b is_base is_left is_right =
    is_left
    ∙ union_found x a b l closed_a closed_b a closed_a (λ k.
    right-unchanged (set_effect k) x a b (live_of (set_effect k) (restrict (both a b) x)) (live_of (set_effect k) (restrict a x)) (live_of (set_effect k) (restrict b x)) (own-times IsSetOp IsAnyReply x l.well_formed) closed_a closed_b
    (times_alike x a b l closed_a closed_b k base right (both a b) b (closed_both a b x closed_a closed_b) closed_b same is_base is_right) refl refl refl)

-- executions that hold the same events have the same set
module _ (x y : Events) (l : IsLawful IsSetOp IsAnyReply no_reply x) (m : IsLawful IsSetOp IsAnyReply no_reply y) (same : HoldSameEvents x y) where
  set_alike : set_of x ≡ set_of y
  set_alike =
      same_tables (set_of x) (set_of y) (set_of-sorted x) (set_of-sorted y)
      (λ k. times-set_of k x l.well_formed ∙ ap some_times (live-alike (set_effect k) IsSetOp IsAnyReply x y l.well_formed m.well_formed same) ∙ sym (times-set_of k y m.well_formed))

  members_alike : members x ≡ members y
  members_alike = sym (keys-set_of x) ∙ ap keys_of set_alike ∙ keys-set_of y

  answers_alike : (q : SetQuery) → set_answer x q ≡ set_answer y q
  answers_alike (Contains k) = ap IsIn (holds-alike (set_effect k) IsSetOp IsAnyReply x y l.well_formed m.well_formed same)
  answers_alike Members = ap All members_alike
  answers_alike Size = ap (λ ks. Count (length ks)) members_alike

  shows_alike : ShowTheSame set_meaning x y
  shows_alike = record { replies = λ o. refl; answers = answers_alike; spellings = ap set_spelling set_alike }

pub set_laws : KeepsLaws set_meaning
set_laws = record {
  one_spelling = λ s x l is. ap set_spelling is;
  replies_in_range = λ x o l known. tt;
  spelling_inside = λ x l short. (set_of x, set_of-members x l short, refl);
  op_inside = λ o known short. op-inside o known;
  reply_inside = λ r known short. refl;
  one_op = λ o p known also short is. one-op o p is;
  one_reply = λ r s known also short is. refl;
  same_spelling = λ s t is. ap set_spelling is;
  same_stands = λ s t is. (λ x l stands. sym is ∙ stands, λ x l stands. is ∙ stands);
  unchanged_left = left_unchanged;
  unchanged_right = right_unchanged;
  any_order = shows_alike;
}
