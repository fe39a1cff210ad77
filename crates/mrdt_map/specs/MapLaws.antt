-- The laws of a map, from those of its values.
use Rattle.std.proofs.Common.{◌≡◌, ℕ, suc, ◌+◌, ◌<◌, ◌^◌, Bool, true, false, cond, ◌&&◌, Option, None, Some, List, [], ◌∷◌, ◌++◌, length, refl, ◌∙◌, ap, sym, subst, arith, length-append}
use Rattle.std.specs.List.{flat_map}
use Rattle.std.specs.declared.cmp.Ordering.{Ordering}
use Rattle.std.specs.Ordering.{nat_cmp}
use Rattle.std.specs.Cmp.Lexicographic.{slice_cmp}
use Rattle.std.specs.Map.{keys_of}
use Rattle.std.specs.BTreeSet.{BTreeSet}
use Rattle.std.specs.List.Sorted.{IsStrictlySortedBy}
use Rattle.std.proofs.lemmas.Cmp.{nat_list_cmp_total}
use Rattle.std.proofs.lemmas.Map.Lookups.{exact_bytes, btree_set_from_contains}
use Rattle.mrdt_model.specs.declared.time.Time.{Time}
use Rattle.mrdt_model.specs.Times.{both}
use Rattle.mrdt_model.specs.Laws.{Meaning, KeepsLaws, Lawful, Merges, StandsAsWell, ShowTheSame}
use Rattle.mrdt_model.specs.Executions.{Event, restrict, AreSameEvent, HoldSameEvents}
use Rattle.mrdt_model.proofs.SameEvents.{part-alike, event-first}
use Rattle.branch_wire.specs.Fields.{number, field}
use Rattle.branch_wire.proofs.Numbers.{length-number, length-field}
use Rattle.branch_wire.proofs.OneWay.{fields}
use Rattle.mrdt_map.specs.declared.map.OnKey.{OnKey}
use Rattle.mrdt_map.specs.declared.map.MapQuery.{MapQuery}
use Rattle.mrdt_map.specs.declared.map.MapQuery.TheVariants.{AtKey, Keys}
use Rattle.mrdt_map.specs.declared.map.MapAnswer.TheVariants.{OnValue, OnKeys}
use Rattle.mrdt_map.specs.Keyed.{same_key, value_at, at_key, on_key, IsOnKey, StandsAt, MergesAt, CopiesAt, AreSameEntries, touched, entry_spelling, entries_spelling, key_op_spelling, key_answer, as_spelled, map_meaning}
use Rattle.mrdt_map.specs.Keys.{on_key-lawful}
use Rattle.mrdt_map.specs.AtKeys.{merges-right, merges-both, copies-some, union-left}
use Rattle.mrdt_map.specs.OnKeys.{merges}
use Rattle.mrdt_map.specs.Touched.{not_empty, touched-any, touched-sorted, touched-length, touched-known, parts_at, parts-length, entries-one_spelling, texts, as-texts, texts-length, texts-keys, texts-inside}

abbrev cmp : List ℕ → List ℕ → Ordering
cmp = slice_cmp nat_cmp

-- in both is nothing where nothing is in one
module _ {O R : Type 0} where
  step_both_left : (p q : Bool) (e : Event O R) (l m : List (Event O R)) → cond p (e ∷ l) l ≡ [] → (l ≡ [] → m ≡ []) → cond (p && q) (e ∷ m) m ≡ []
  step_both_left true q e l m h ih = cc
  step_both_left false q e l m h ih = ih h

  both-left : (a b : Time → Bool) (y : List (Event O R)) → restrict a y ≡ [] → restrict (both a b) y ≡ []
  both-left a b [] h = refl
  both-left a b (e ∷ y) h = step_both_left (a e.time) (b e.time) e (restrict a y) (restrict (both a b) y) h (both-left a b y)

  step_both_right : (p q : Bool) (e : Event O R) (r m : List (Event O R)) → cond q (e ∷ r) r ≡ [] → (r ≡ [] → m ≡ []) → cond (p && q) (e ∷ m) m ≡ []
  step_both_right true true e r m h ih = cc
  step_both_right true false e r m h ih = ih h
  step_both_right false true e r m h ih = cc
  step_both_right false false e r m h ih = ih h

  both-right : (a b : Time → Bool) (y : List (Event O R)) → restrict b y ≡ [] → restrict (both a b) y ≡ []
  both-right a b [] h = refl
  both-right a b (e ∷ y) h = step_both_right (a e.time) (b e.time) e (restrict b y) (restrict (both a b) y) h (both-right a b y)

  -- executions that hold the same events are both empty or both not
  not_empty-alike : (x y : List (Event O R)) → HoldSameEvents x y → not_empty x ≡ not_empty y
  not_empty-alike [] [] events = refl
  not_empty-alike [] (f ∷ y) events = absurd (subst (AreSameEvent None) (event-first f y) (events f.time))
  not_empty-alike (e ∷ x) [] events = absurd (subst (λ o. AreSameEvent o None) (event-first e x) (events e.time))
  not_empty-alike (e ∷ x) (f ∷ y) events = refl

-- the same value, or none
abbrev pub AreSameAt : {V : Type 0} → (V → V → Type 0) → Option V → Option V → Type 0
AreSameAt same None None = Unit {0}
AreSameAt same None (Some w) = ⊥
AreSameAt same (Some v) None = ⊥
AreSameAt same (Some v) (Some w) = same v w

module _ {V : Type 0} (same : V → V → Type 0) where
  step_same : (p : Bool) (v w : V) (o q : Option V) → same v w → AreSameAt same o q → AreSameAt same (cond p (Some v) o) (cond p (Some w) q)
  step_same true v w o q here rest = here
  step_same false v w o q here rest = rest

  -- maps that are the same have the same value at each key
  pub same-at : (es fs : List (List ℕ × V)) → AreSameEntries same es fs → (k : List ℕ) → AreSameAt same (value_at es k) (value_at fs k)
  same-at [] [] all k = tt
  same-at [] (f ∷ fs) all k = absurd all
  same-at (e ∷ es) [] all k = absurd all
  same-at (e ∷ es) (f ∷ fs) all k =
      subst (λ j. AreSameAt same (value_at (e ∷ es) k) (cond (same_key k j) (Some f.1) (value_at fs k))) all.0
      (step_same (same_key k e.0) e.1 f.1 (value_at es k) (value_at fs k) all.1 (same-at es fs all.2 k))

  same-keys : (es fs : List (List ℕ × V)) → AreSameEntries same es fs → keys_of es ≡ keys_of fs
  same-keys [] [] all = refl
  same-keys [] (f ∷ fs) all = absurd all
  same-keys (e ∷ es) [] all = absurd all
  same-keys (e ∷ es) (f ∷ fs) all = ap (λ k. k ∷ keys_of es) all.0 ∙ ap (λ ks. f.0 ∷ ks) (same-keys es fs all.2)

  same-length : (es fs : List (List ℕ × V)) → AreSameEntries same es fs → length es ≡ length fs
  same-length [] [] all = refl
  same-length [] (f ∷ fs) all = absurd all
  same-length (e ∷ es) [] all = absurd all
  same-length (e ∷ es) (f ∷ fs) all = ap suc (same-length es fs all.2)

module _ {V O R Q A : Type 0} (t : Meaning V O R Q A) (laws : KeepsLaws t) where
  same-flat : (es fs : List (List ℕ × V)) → AreSameEntries t.is_same es fs → flat_map (entry_spelling t.state_spelling) es ≡ flat_map (entry_spelling t.state_spelling) fs
  same-flat [] [] all = refl
  same-flat [] (f ∷ fs) all = absurd all
  same-flat (e ∷ es) [] all = absurd all
  same-flat (e ∷ es) (f ∷ fs) all =
      ap (λ k. (field k ++ field (t.state_spelling e.1)) ++ flat_map (entry_spelling t.state_spelling) es) all.0
      ∙ ap (λ s. (field f.0 ++ field s) ++ flat_map (entry_spelling t.state_spelling) es) (laws.same_spelling e.1 f.1 all.1)
      ∙ ap (λ rest. (field f.0 ++ field (t.state_spelling f.1)) ++ rest) (same-flat es fs all.2)

  entries-same_spelling : (es fs : List (List ℕ × V)) → AreSameEntries t.is_same es fs → entries_spelling t.state_spelling es ≡ entries_spelling t.state_spelling fs
  entries-same_spelling es fs all =
      ap (λ n. number n ++ flat_map (entry_spelling t.state_spelling) es) (same-length t.is_same es fs all) ∙ ap (λ rest. number (length fs) ++ rest) (same-flat es fs all)

  copies-same : (o q : Option V) → AreSameAt t.is_same o q → CopiesAt t o q × CopiesAt t q o
  copies-same None None same = (λ y l is. is, λ y l is. is)
  copies-same None (Some w) same = absurd same
  copies-same (Some v) None same = absurd same
  copies-same (Some v) (Some w) same = let both_ways = laws.same_stands v w same in (copies-some t v w both_ways.0, copies-some t w v both_ways.1)

  entries-same_stands : (es fs : List (List ℕ × V)) → AreSameEntries t.is_same es fs → StandsAsWell (map_meaning t) es fs × StandsAsWell (map_meaning t) fs es
  entries-same_stands es fs all =
      let keys = same-keys t.is_same es fs all in
      let at = λ (k : List ℕ). copies-same (value_at es k) (value_at fs k) (same-at t.is_same es fs all k) in (
        λ x l is. record {
          ordered = subst (IsStrictlySortedBy cmp) keys is.ordered;
          values = λ k. (at k).0 (on_key k x) (on_key-lawful t.is_op t.is_reply t.reply_of k x l) (is.values k);
        },
        λ x l is. record {
          ordered = subst (IsStrictlySortedBy cmp) (sym keys) is.ordered;
          values = λ k. (at k).1 (on_key k x) (on_key-lawful t.is_op t.is_reply t.reply_of k x l) (is.values k);
        },
      )

  -- where the left side has the base's value, the merge has the right side's
  pub left_unchanged-at : (o l r : Option V) → AreSameAt t.is_same o l → MergesAt t o l r r
  left_unchanged-at None None r same = merges-right t None r r (λ y lawful is. is)
  left_unchanged-at None (Some l) r same = absurd same
  left_unchanged-at (Some o) None r same = absurd same
  left_unchanged-at (Some o) (Some l) None same = λ y a b lawful in_a in_b is_base left right. absurd (is_base.0 (both-right a b y right))
  left_unchanged-at (Some o) (Some l) (Some r) same = merges-both t o l r r (laws.unchanged_left o l r same)

  right_unchanged-at : (o l r : Option V) → AreSameAt t.is_same o r → MergesAt t o l r l
  right_unchanged-at None l None same = λ y a b lawful in_a in_b is_base left right. subst (StandsAt t.stands l) (sym (union-left a b y right)) left
  right_unchanged-at None l (Some r) same = absurd same
  right_unchanged-at (Some o) l None same = absurd same
  right_unchanged-at (Some o) None (Some r) same = λ y a b lawful in_a in_b is_base left right. absurd (is_base.0 (both-left a b y left))
  right_unchanged-at (Some o) (Some l) (Some r) same = merges-both t o l r l (laws.unchanged_right o l r same)

  left_unchanged : (base left right : List (List ℕ × V)) → AreSameEntries t.is_same base left → Merges (map_meaning t) base left right right
  left_unchanged base left right all x a b l in_a in_b is_base is_left is_right =
      merges t base left right right is_right.ordered (λ k. left_unchanged-at (value_at base k) (value_at left k) (value_at right k) (same-at t.is_same base left all k)) x a b l in_a in_b is_base is_left is_right

  right_unchanged : (base left right : List (List ℕ × V)) → AreSameEntries t.is_same base right → Merges (map_meaning t) base left right left
  right_unchanged base left right all x a b l in_a in_b is_base is_left is_right =
      merges t base left right left is_left.ordered (λ k. right_unchanged-at (value_at base k) (value_at left k) (value_at right k) (same-at t.is_same base right all k)) x a b l in_a in_b is_base is_left is_right

  -- each operation has a spelling of its own
  one_key_op : (o n : OnKey O) → IsOnKey t.is_op o → IsOnKey t.is_op n → length (key_op_spelling t.op_spelling o) < 2 ^ 64 → key_op_spelling t.op_spelling o ≡ key_op_spelling t.op_spelling n → o ≡ n
  one_key_op o n p q short is =
      let first = length-append (field o.key) (t.op_spelling o.operation) in
      let second = length-append (field n.key) (t.op_spelling n.operation) in
      let whole : length (key_op_spelling t.op_spelling o) ≡ length (key_op_spelling t.op_spelling n) = ap length is in
      let a = length-field o.key in
      let b = length-field n.key in
      let parts = fields.one o.key n.key (t.op_spelling o.operation) (t.op_spelling n.operation) (omega (arith, short, first, a)) (omega (arith, short, whole, second, b)) is in
      let operations : o.operation ≡ n.operation = laws.one_op o.operation n.operation p.1 q.1 (omega (arith, short, first)) parts.1 in
      let keys : o.key ≡ n.key = parts.0 in
      λ i. record { key = keys i; operation = operations i }

  module _ (x y : List (Event (OnKey O) R)) (l : Lawful (map_meaning t) x) (m : Lawful (map_meaning t) y) (events : HoldSameEvents x y) where
    alike-on : (k : List ℕ) → HoldSameEvents (on_key k x) (on_key k y)
    alike-on k = part-alike (at_key k) (IsOnKey t.is_op) t.is_reply x y l.well_formed m.well_formed events

    shown-on : (k : List ℕ) → ShowTheSame t (on_key k x) (on_key k y)
    shown-on k = laws.any_order (on_key k x) (on_key k y) (on_key-lawful t.is_op t.is_reply t.reply_of k x l) (on_key-lawful t.is_op t.is_reply t.reply_of k y m) (alike-on k)

    touched-alike : touched x ≡ touched y
    touched-alike =
        let own : BTreeSet (List ℕ) = record { keys = touched x } in
        let their : BTreeSet (List ℕ) = record { keys = touched y } in
        btree_set_from_contains nat_list_cmp_total own their (touched-sorted x) (touched-sorted y) (λ k. touched-any k x ∙ not_empty-alike (on_key k x) (on_key k y) (alike-on k) ∙ sym (touched-any k y)) exact_bytes

    same_answers : (q : MapQuery Q) → key_answer t.answer_of x q ≡ key_answer t.answer_of y q
    same_answers (AtKey k q) = ap OnValue ((shown-on k).answers q)
    same_answers Keys = ap OnKeys touched-alike

    flat-alike : (ks : List (List ℕ)) → flat_map (entry_spelling t.spelling_of) (parts_at x ks) ≡ flat_map (entry_spelling t.spelling_of) (parts_at y ks)
    flat-alike [] = refl
    flat-alike (k ∷ ks) =
        ap (λ s. (field k ++ field s) ++ flat_map (entry_spelling t.spelling_of) (parts_at x ks)) (shown-on k).spellings
        ∙ ap (λ rest. (field k ++ field (t.spelling_of (on_key k y))) ++ rest) (flat-alike ks)

    any_key_order : ShowTheSame (map_meaning t) x y
    any_key_order = record {
      replies = λ o. (shown-on o.key).replies o.operation;
      answers = same_answers;
      spellings =
          ap (λ ks. entries_spelling t.spelling_of (parts_at x ks)) touched-alike
          ∙ ap (λ n. number n ++ flat_map (entry_spelling t.spelling_of) (parts_at x (touched y))) (parts-length x (touched y) ∙ sym (parts-length y (touched y)))
          ∙ ap (λ rest. number (length (parts_at y (touched y))) ++ rest) (flat-alike (touched y));
    }

  -- the laws of a map
  pub map_laws : KeepsLaws (map_meaning t)
  map_laws = record {
    one_spelling = entries-one_spelling t laws;
    replies_in_range = λ x o l known. laws.replies_in_range (on_key o.key x) o.operation (on_key-lawful t.is_op t.is_reply t.reply_of o.key x l) known.1;
    spelling_inside = λ x l short.
        let ks = touched x in
        let shape = as-texts t laws x ks in
        let few : length x < 2 ^ 32 = l.few in
        let at_most = touched-length x in
        let count : length (texts t laws x ks) < 2 ^ 64 = omega (arith, few, at_most, texts-length t laws x ks) in
        let flat = flat_map (entry_spelling t.spelling_of) (parts_at x ks) in
        let text = flat_map (entry_spelling as_spelled) (texts t laws x ks) in
        let head = number (length (parts_at x ks)) in
        let size : length (head ++ flat) ≡ 8 + length flat = length-append head flat ∙ ap (λ n. n + length flat) (length-number (length (parts_at x ks))) in
        let text_short : length text < 2 ^ 64 = omega (arith, size, short, ap length shape) in (
          texts t laws x ks,
          (count, (subst (IsStrictlySortedBy cmp) (sym (texts-keys t laws x ks)) (touched-sorted x), texts-inside t laws x ks l (touched-known t laws x l.well_formed) text_short)),
          ap (λ rest. head ++ rest) shape ∙ ap (λ n. number n ++ text) (parts-length x ks ∙ sym (texts-length t laws x ks)),
        );
    op_inside = λ o known short.
        let rest = t.op_spelling o.operation in
        let size : length (field o.key ++ rest) ≡ 8 + length o.key + length rest = length-append (field o.key) rest ∙ ap (λ n. n + length rest) (length-field o.key) in
        (o.key, rest, (known.0, (omega (arith, size, short))), laws.op_inside o.operation known.1 (omega (arith, size, short)), refl);
    reply_inside = laws.reply_inside;
    one_op = one_key_op;
    one_reply = laws.one_reply;
    same_spelling = entries-same_spelling;
    same_stands = entries-same_stands;
    unchanged_left = left_unchanged;
    unchanged_right = right_unchanged;
    any_order = any_key_order;
  }
