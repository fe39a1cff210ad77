-- The keys of a map that stands for an execution are the touched keys, and its spelling is theirs.
use Rattle.std.proofs.Common.{◌≡◌, ℕ, suc, ◌+◌, ◌<◌, ◌≤◌, ◌^◌, Bool, true, false, cond, ◌||◌, Option, None, Some, is_some, List, [], ◌∷◌, ◌++◌, length, map, refl, ◌∙◌, ap, sym, subst, arith, length-append}
use Rattle.std.specs.List.{list_any, flat_map, AllByRecursion}
use Rattle.std.specs.declared.cmp.Ordering.{Ordering}
use Rattle.std.specs.declared.cmp.Ordering.TheVariants.{Less, Equal, Greater}
use Rattle.std.specs.Ordering.{nat_cmp, is_eq, match_ordering, ordering_reverse}
use Rattle.std.specs.Cmp.Lexicographic.{slice_cmp}
use Rattle.std.specs.Map.{keys_of}
use Rattle.std.specs.BTreeSet.{BTreeSet}
use Rattle.std.specs.List.Sorted.{IsStrictlySortedBy}
use Rattle.std.proofs.lemmas.Cmp.{nat_list_cmp_total}
use Rattle.std.proofs.lemmas.Map.Lookups.{exact_bytes, btree_set_from_contains}
use Rattle.std.proofs.lemmas.Map.Made.{is_some-lookup}
use Rattle.mrdt_model.specs.Spelled.{IsBytes}
use Rattle.branch_wire.specs.Fields.{number, field}
use Rattle.branch_wire.proofs.Numbers.{length-field}
use Rattle.mrdt_model.specs.Laws.{Meaning, KeepsLaws, Lawful}
use Rattle.mrdt_model.specs.Executions.{Event, IsWellFormed, add_part}
use Rattle.mrdt_map.specs.declared.map.OnKey.{OnKey}
use Rattle.mrdt_map.specs.Keyed.{same_key, value_at, on_key, IsOnKey, StandsAt, StandsByKey, insert_key, touched, parts, entry_spelling, entries_spelling, IsEntry, as_spelled, map_meaning}
use Rattle.mrdt_map.specs.Keys.{same_key-refl, same_key-sym, on_key-lawful}

abbrev cmp : List ℕ → List ℕ → Ordering
cmp = slice_cmp nat_cmp

abbrev Below : List ℕ → List (List ℕ) → Type 0
Below k ks = AllByRecursion (λ j. cmp k j ≡ Less) ks

below_trans : (k j : List ℕ) (ks : List (List ℕ)) → cmp k j ≡ Less → Below j ks → Below k ks
below_trans k j [] h b = tt
below_trans k j (i ∷ ks) h b = (nat_list_cmp_total.trans k j i h b.0, below_trans k j ks h b.1)

step_all : (o : Ordering) (P : List ℕ → Type 0) (k j : List ℕ) (ks rest : List (List ℕ)) → P k → P j → AllByRecursion P ks → AllByRecursion P rest → AllByRecursion P (match_ordering o (k ∷ j ∷ ks) (j ∷ ks) (j ∷ rest))
step_all Less P k j ks rest p q r s = (p, (q, r))
step_all Equal P k j ks rest p q r s = (q, r)
step_all Greater P k j ks rest p q r s = (q, s)

insert_key-all : (P : List ℕ → Type 0) (k : List ℕ) (ks : List (List ℕ)) → P k → AllByRecursion P ks → AllByRecursion P (insert_key k ks)
insert_key-all P k [] p r = (p, tt)
insert_key-all P k (j ∷ ks) p r = step_all (cmp k j) P k j ks (insert_key k ks) p r.0 r.1 (insert_key-all P k ks p r.1)

step_sorted : (o : Ordering) (k j : List ℕ) (ks rest : List (List ℕ)) → cmp k j ≡ o → IsStrictlySortedBy cmp (j ∷ ks) → Below j rest → IsStrictlySortedBy cmp rest → IsStrictlySortedBy cmp (match_ordering o (k ∷ j ∷ ks) (j ∷ ks) (j ∷ rest))
unfolding IsStrictlySortedBy
step_sorted Less k j ks rest is s b r = ((is, below_trans k j ks is s.0), s)
step_sorted Equal k j ks rest is s b r = s
step_sorted Greater k j ks rest is s b r = (b, r)

reversed : (k j : List ℕ) → cmp k j ≡ Greater → cmp j k ≡ Less
reversed k j h = nat_list_cmp_total.antisymm j k ∙ ap ordering_reverse h

-- the keys behind j, with k among them where it is above j
below_insert : (o : Ordering) (k j : List ℕ) (ks : List (List ℕ)) → cmp k j ≡ o → Below j ks → Below j (match_ordering o [] [] (insert_key k ks))
below_insert Less k j ks is b = tt
below_insert Equal k j ks is b = tt
below_insert Greater k j ks is b = insert_key-all (λ i. cmp j i ≡ Less) k ks (reversed k j is) b

step_insert : (o : Ordering) (k j : List ℕ) (ks : List (List ℕ)) → cmp k j ≡ o → IsStrictlySortedBy cmp (j ∷ ks) → IsStrictlySortedBy cmp (insert_key k ks) → IsStrictlySortedBy cmp (match_ordering o (k ∷ j ∷ ks) (j ∷ ks) (j ∷ insert_key k ks))
unfolding IsStrictlySortedBy
step_insert Less k j ks is s r = ((is, below_trans k j ks is s.0), s)
step_insert Equal k j ks is s r = s
step_insert Greater k j ks is s r = (below_insert Greater k j ks is s.0, r)

insert_key-sorted : (k : List ℕ) (ks : List (List ℕ)) → IsStrictlySortedBy cmp ks → IsStrictlySortedBy cmp (insert_key k ks)
unfolding IsStrictlySortedBy
insert_key-sorted k [] s = (tt, tt)
insert_key-sorted k (j ∷ ks) s = step_insert (cmp k j) k j ks refl s (insert_key-sorted k ks s.1)

pub touched-sorted : {O R : Type 0} (x : List (Event (OnKey O) R)) → IsStrictlySortedBy cmp (touched x)
unfolding IsStrictlySortedBy
touched-sorted [] = tt
touched-sorted (e ∷ x) = insert_key-sorted e.operation.key (touched x) (touched-sorted x)

step_any : (o : Ordering) (q k j : List ℕ) (ks rest : List (List ℕ)) → cmp k j ≡ o → list_any (same_key q) rest ≡ (same_key q k || list_any (same_key q) ks)
    → list_any (same_key q) (match_ordering o (k ∷ j ∷ ks) (j ∷ ks) (j ∷ rest)) ≡ (same_key q k || (same_key q j || list_any (same_key q) ks))
step_any Less q k j ks rest is h = refl
step_any Equal q k j ks rest is h = absorb (same_key q k) (same_key q j) (list_any (same_key q) ks) (ap (same_key q) (exact_bytes k j is))
  where
    absorb : (a b c : Bool) → a ≡ b → (b || c) ≡ (a || (b || c))
    absorb true true c e = refl
    absorb true false c e = cc
    absorb false b c e = refl
step_any Greater q k j ks rest is h = ap (λ b. same_key q j || b) h ∙ swap (same_key q j) (same_key q k) (list_any (same_key q) ks)
  where
    swap : (a b c : Bool) → (a || (b || c)) ≡ (b || (a || c))
    swap true true c = refl
    swap true false c = refl
    swap false true c = refl
    swap false false c = refl

insert_key-any : (q k : List ℕ) (ks : List (List ℕ)) → list_any (same_key q) (insert_key k ks) ≡ (same_key q k || list_any (same_key q) ks)
insert_key-any q k [] = refl
insert_key-any q k (j ∷ ks) = step_any (cmp k j) q k j ks (insert_key k ks) refl (insert_key-any q k ks)

abbrev pub not_empty : {A : Type 0} → List A → Bool
not_empty [] = false
not_empty (x ∷ xs) = true

module _ {O R : Type 0} where
  step_on_key : (p : Bool) (k : List ℕ) (e : Event (OnKey O) R) (c : O × R) (y : List (Event O R)) → not_empty (add_part e (cond p (Some c) None) y) ≡ (p || not_empty y)
  step_on_key true k e c y = refl
  step_on_key false k e c y = refl

  -- a key is touched where there are events on it
  pub touched-any : (q : List ℕ) (x : List (Event (OnKey O) R)) → list_any (same_key q) (touched x) ≡ not_empty (on_key q x)
  touched-any q [] = refl
  touched-any q (e ∷ x) =
      insert_key-any q e.operation.key (touched x) ∙ ap (λ b. same_key q e.operation.key || b) (touched-any q x)
      ∙ sym (step_on_key (same_key q e.operation.key) q e (e.operation.operation, e.reply) (on_key q x))

module _ {V O R : Type 0} (stands : V → List (Event O R) → Type 0) where
  some_at : (o : Option V) (y : List (Event O R)) → StandsAt stands o y → is_some o ≡ not_empty y
  some_at None y is = ap not_empty (sym is)
  some_at (Some v) [] is = absurd (is.0 refl)
  some_at (Some v) (e ∷ y) is = refl

  -- the keys of the entries
  pub keys-touched : (entries : List (List ℕ × V)) (x : List (Event (OnKey O) R)) → StandsByKey stands entries x → keys_of entries ≡ touched x
  keys-touched entries x is =
      let own : BTreeSet (List ℕ) = record { keys = keys_of entries } in
      let of_events : BTreeSet (List ℕ) = record { keys = touched x } in
      btree_set_from_contains nat_list_cmp_total own of_events is.ordered (touched-sorted x)
      (λ q. sym (is_some-lookup (same_key q) entries) ∙ some_at (value_at entries q) (on_key q x) (is.values q) ∙ sym (touched-any q x)) exact_bytes

less_apart : (j k : List ℕ) → cmp j k ≡ Less → same_key k j ≡ false
less_apart j k h = same_key-sym k j ∙ ap is_eq h

module _ {V : Type 0} where
  tail_values : (e : List ℕ × V) (es fs : List (List ℕ × V)) → Below e.0 (keys_of fs) → AllByRecursion (λ (f : List ℕ × V). value_at es f.0 ≡ Some f.1) fs → AllByRecursion (λ (f : List ℕ × V). value_at (e ∷ es) f.0 ≡ Some f.1) fs
  tail_values e es [] b h = tt
  tail_values e es (f ∷ fs) b h = (ap (λ p. cond p (Some e.1) (value_at es f.0)) (less_apart e.0 f.0 b.0) ∙ h.0, tail_values e es fs b.1 h.1)

  -- what is found at the key of an entry is its value
  pub own_values : (es : List (List ℕ × V)) → IsStrictlySortedBy cmp (keys_of es) → AllByRecursion (λ (e : List ℕ × V). value_at es e.0 ≡ Some e.1) es
  unfolding IsStrictlySortedBy
  own_values [] s = tt
  own_values (e ∷ es) s = (ap (λ p. cond p (Some e.1) (value_at es e.0)) (same_key-refl e.0), tail_values e es es s.0 (own_values es s.1))

step_length : (o : Ordering) (k j : List ℕ) (ks rest : List (List ℕ)) → length rest ≤ length ks + 1 → length (match_ordering o (k ∷ j ∷ ks) (j ∷ ks) (j ∷ rest)) ≤ length ks + 2
step_length Less k j ks rest h = omega arith
step_length Equal k j ks rest h = omega arith
step_length Greater k j ks rest h = omega arith

insert_key-length : (k : List ℕ) (ks : List (List ℕ)) → length (insert_key k ks) ≤ length ks + 1
insert_key-length k [] = omega arith
insert_key-length k (j ∷ ks) = let h = step_length (cmp k j) k j ks (insert_key k ks) (insert_key-length k ks) in omega (arith, h)

pub touched-length : {O R : Type 0} (x : List (Event (OnKey O) R)) → length (touched x) ≤ length x
touched-length [] = omega arith
touched-length (e ∷ x) = let h = insert_key-length e.operation.key (touched x) in let i = touched-length x in omega (arith, h, i)

module _ {O R : Type 0} where
  -- some keys with the events on them
  abbrev pub parts_at : List (Event (OnKey O) R) → List (List ℕ) → List (List ℕ × List (Event O R))
  parts_at x ks = map {B = List ℕ × List (Event O R)} (λ k. (k, on_key k x)) ks

  pub parts-length : (x : List (Event (OnKey O) R)) (ks : List (List ℕ)) → length (parts_at x ks) ≡ length ks
  parts-length x [] = refl
  parts-length x (k ∷ ks) = ap suc (parts-length x ks)

module _ {V O R Q A : Type 0} (t : Meaning V O R Q A) (laws : KeepsLaws t) where
  each_spelling : (entries : List (List ℕ × V)) (x : List (Event (OnKey O) R)) → Lawful (map_meaning t) x → StandsByKey t.stands entries x → (es : List (List ℕ × V)) → AllByRecursion (λ (e : List ℕ × V). value_at entries e.0 ≡ Some e.1) es
      → AllByRecursion (λ (e : List ℕ × V). t.state_spelling e.1 ≡ t.spelling_of (on_key e.0 x)) es
  each_spelling entries x l is [] h = tt
  each_spelling entries x l is (e ∷ es) h =
      let at : StandsAt t.stands (Some e.1) (on_key e.0 x) = subst (λ o. StandsAt t.stands o (on_key e.0 x)) h.0 (is.values e.0) in
      (laws.one_spelling e.1 (on_key e.0 x) (on_key-lawful t.is_op t.is_reply t.reply_of e.0 x l) at.1, each_spelling entries x l is es h.1)

  flat_spelling : (x : List (Event (OnKey O) R)) (es : List (List ℕ × V)) → AllByRecursion (λ (e : List ℕ × V). t.state_spelling e.1 ≡ t.spelling_of (on_key e.0 x)) es
      → flat_map (entry_spelling t.state_spelling) es ≡ flat_map (entry_spelling t.spelling_of) (parts_at x (keys_of es))
  flat_spelling x [] h = refl
  flat_spelling x (e ∷ es) h =
      ap (λ bytes. (field e.0 ++ field bytes) ++ flat_map (entry_spelling t.state_spelling) es) h.0
      ∙ ap (λ rest. (field e.0 ++ field (t.spelling_of (on_key e.0 x))) ++ rest) (flat_spelling x es h.1)

  same_length : (x : List (Event (OnKey O) R)) (es : List (List ℕ × V)) → length es ≡ length (parts_at x (keys_of es))
  same_length x [] = refl
  same_length x (e ∷ es) = ap suc (same_length x es)

  -- the spelling of a map that stands for an execution
  pub entries-one_spelling : (entries : List (List ℕ × V)) (x : List (Event (OnKey O) R)) → Lawful (map_meaning t) x → StandsByKey t.stands entries x → entries_spelling t.state_spelling entries ≡ entries_spelling t.spelling_of (parts x)
  entries-one_spelling entries x l is =
      let each = each_spelling entries x l is entries (own_values entries is.ordered) in
      ap (λ n. number n ++ flat_map (entry_spelling t.state_spelling) entries) (same_length x entries)
      ∙ ap (λ rest. number (length (parts_at x (keys_of entries))) ++ rest) (flat_spelling x entries each)
      ∙ ap (λ ks. entries_spelling t.spelling_of (parts_at x ks)) (keys-touched t.stands entries x is)

  -- the entries as texts
  abbrev pub texts : List (Event (OnKey O) R) → List (List ℕ) → List (List ℕ × List ℕ)
  texts x ks = map {B = List ℕ × List ℕ} (λ k. (k, t.spelling_of (on_key k x))) ks

  pub as-texts : (x : List (Event (OnKey O) R)) (ks : List (List ℕ)) → flat_map (entry_spelling t.spelling_of) (parts_at x ks) ≡ flat_map (entry_spelling as_spelled) (texts x ks)
  as-texts x [] = refl
  as-texts x (k ∷ ks) = ap (λ rest. (field k ++ field (t.spelling_of (on_key k x))) ++ rest) (as-texts x ks)

  pub texts-length : (x : List (Event (OnKey O) R)) (ks : List (List ℕ)) → length (texts x ks) ≡ length ks
  texts-length x [] = refl
  texts-length x (k ∷ ks) = ap suc (texts-length x ks)

  pub texts-keys : (x : List (Event (OnKey O) R)) (ks : List (List ℕ)) → keys_of (texts x ks) ≡ ks
  texts-keys x [] = refl
  texts-keys x (k ∷ ks) = ap (λ rest. k ∷ rest) (texts-keys x ks)

  -- each text is in the grammar where all together are not too long
  pub texts-inside : (x : List (Event (OnKey O) R)) (ks : List (List ℕ)) → Lawful (map_meaning t) x → AllByRecursion IsBytes ks → length (flat_map (entry_spelling as_spelled) (texts x ks)) < 2 ^ 64
      → AllByRecursion (IsEntry t.is_state_spelling) (texts x ks)
  texts-inside x [] l known short = tt
  texts-inside x (k ∷ ks) l known short =
      let value = t.spelling_of (on_key k x) in
      let rest = flat_map (entry_spelling as_spelled) (texts x ks) in
      let size : length ((field k ++ field value) ++ rest) ≡ (8 + length k) + (8 + length value) + length rest =
      length-append (field k ++ field value) rest ∙ ap (λ n. n + length rest) (length-append (field k) (field value) ∙ ap (λ n. n + length (field value)) (length-field k) ∙ ap (λ n. (8 + length k) + n) (length-field value)) in
      let value_short : length value < 2 ^ 64 = omega (arith, size, short) in
      (((known.0, omega (arith, size, short)), value_short, laws.spelling_inside (on_key k x) (on_key-lawful t.is_op t.is_reply t.reply_of k x l) value_short), texts-inside x ks l known.1 (omega (arith, size, short)))

  pub touched-known : (x : List (Event (OnKey O) R)) → IsWellFormed (IsOnKey t.is_op) t.is_reply x → AllByRecursion IsBytes (touched x)
  touched-known [] w = tt
  touched-known (e ∷ x) w = insert_key-all IsBytes e.operation.key (touched x) w.0.operation.0 (touched-known x w.1)
