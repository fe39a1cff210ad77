-- No two commits of a valid history have equal objects.
use Rattle.std.proofs.Common.{zero, suc, ◌≡◌, ◌⊎◌, inl, inr, ℕ, ◌+◌, ◌<◌, ◌≤◌, ◌^◌, true, false, ◌&&◌, List, [], ◌∷◌, ◌++◌, length, refl, sym, ◌∙◌, ap, arith, subst, append-nil, length-append, map, IsTrue, None, Some, Option, ⊎_elim, ◌||◌}
use Rattle.std.specs.Prelude.{slice_get}
use Rattle.std.specs.List.{list_any, AllByRecursion}
use Rattle.std.specs.Option.{option_map}
use Rattle.std.proofs.lemmas.Bool.{or_left, or_right, cases_lt, both_ways, and_from}
use Rattle.mrdt_model.specs.Laws.{KeepsLaws}
use Rattle.branch_wire.specs.Fields.{short_number, number, field, counted}
use Rattle.branch_wire.specs.Reading.{HasLength, ReadsOneWay}
use Rattle.branch_wire.specs.declared.action.Action.{Action}
use Rattle.branch_names.specs.declared.layout.Layout.{Layout}
use Rattle.branch_wire.specs.Objects.{action_field, value_field, CommitFields, commit_body, commit_object}
use Rattle.branch_wire.specs.StoredObjects.{Stored, same, clash, collision, fresh}
use Rattle.branch_wire.proofs.Numbers.{same_parts, short_number-same, length-short_number, length-number}
use Rattle.branch_wire.proofs.Lists.{counted-one_way}
use Rattle.branch_graph.specs.Graph.{reaches, parents_of}
use Rattle.branch_history.specs.declared.moves.Move.{Move}
use Rattle.branch_history.specs.declared.moves.Move.TheVariants as move
use Rattle.branch_names.specs.Heads.{head_of}
use Rattle.branch_history.specs.Commits.{Commit, graph_of, origin_of, visible}
use Rattle.branch_history.specs.History.{Store, new_store, after_move, store_of, operation_commit, merge_commit, received_commit}
use Rattle.branch_history.specs.Steps.{Collision}
use Rattle.branch_history.specs.Validity.{AreCommits}
use Rattle.branch_history.proofs.Reach.{reaches-self, reaches-trans, reaches-at_most}
use Rattle.branch_history.proofs.Grown.{origin_of-new, parents_of-new}
use Rattle.branch_history.proofs.Stores.{head_of-same, length-with_head}
use Rattle.branch_history.proofs.Keeps.{not_own}
use Rattle.branch_history.proofs.Later.{IsLonger, longer-same_at}
use Rattle.branch_history.specs.Laws.{IsSameAt}
use Rattle.branch_history.proofs.Lists.{AllByRecursion-more, position-none}
use Rattle.branch_history.proofs.Heads.{valid-rises, same_branch}
use Rattle.branch_history.proofs.Kept.{IsKept}
use Rattle.branch_history.proofs.Histories.{valid-kept, received-stand}
use Rattle.branch_history.proofs.Valid.{store_of-more, IsAccepted, IsAccepted-from, IsReceived, received_operation-tells, received_merge-tells}
use Rattle.branch_machine.specs.Fixed.{Form, FixedIn}
use Rattle.branch_machine.specs.Objects.{Pair, given, both, kept_address, commit_text, value_text, address_at, fields_of, value_at, pair_at, pairs_of, store_after, objects_of, new_objects}
use Rattle.branch_machine.specs.Machine.{collision_refusal, commit_with, commit_at}
use Rattle.branch_machine.specs.Laws.{HasSize, IsNew}
use Rattle.branch_machine.specs.Validity.{IsFullMove, IsFullyValid}
use Rattle.branch_machine.proofs.Valid.{by_moves, full_move-is, valid-before, valid-more}
use Rattle.branch_machine.proofs.Stored.{listed-before, listed-fresh, clash-none, same-refl}
use Rattle.branch_machine.proofs.Both.{IsListedValue, commit-listed-in, value-listed-in, listed_value-before, listed_value-fresh, collision-own, value-told, length-kept_address, kept_address-same}
use Rattle.branch_machine.proofs.Pairs.{commit_text-old, commit_text-new, value_text-old, value_text-new, addresses-old, length-pairs_of, pairs_of-one, new-pair, new-pairs, objects-more}

-- what a commit's object says of its parents, its origin and the object of its value
pub record IsSpelledBy (layout : Layout) (address : List ℕ → List ℕ) (pairs : List Pair) (parents : List ℕ) (origin : ℕ) (value text : List ℕ) : Type 0 where
  pub clock : ℕ
  pub action : Action
  pub is : text ≡ commit_object (record { parents = map (address_at address pairs) parents; branch = origin; clock = clock; value = kept_address layout (address value); action = action })
  pub few : length parents ≤ 9

abbrev own : List ℕ → List ℕ
own bytes = bytes

addresses : ReadsOneWay (HasLength 32) own
addresses = record { one = λ x y a b p q is. same_parts x a y b (p ∙ sym q) is }

-- five texts, grouped otherwise
regroup-four : (b c d e : List ℕ) → b ++ c ++ d ++ e ≡ b ++ (c ++ d ++ e)
regroup-four [] c d e = refl
regroup-four (x ∷ b) c d e = ap (λ (l : List ℕ). x ∷ l) (regroup-four b c d e)

regroup : (a b c d e : List ℕ) → a ++ b ++ c ++ d ++ e ≡ a ++ (b ++ (c ++ d ++ e))
regroup [] b c d e = regroup-four b c d e
regroup (x ∷ a) b c d e = ap (λ (l : List ℕ). x ∷ l) (regroup a b c d e)

module _ (address : List ℕ → List ℕ) (size : HasSize address) where
  pub all-sized : (pairs : List Pair) (ns : List ℕ) → AllByRecursion (HasLength 32) (map (address_at address pairs) ns)
  all-sized pairs [] = tt
  all-sized pairs (n ∷ ns) = (size (commit_text pairs n), all-sized pairs ns)

  pub few-sized : (pairs : List Pair) (ns : List ℕ) → length (map (address_at address pairs) ns) ≡ length ns
  few-sized pairs [] = refl
  few-sized pairs (n ∷ ns) = ap suc (few-sized pairs ns)

  -- equal objects of commits have equal parents' addresses, equal origins, equal addresses of their values, and do the same
  pub same-spelled : (layout : Layout) (pairs : List Pair) (ns ms : List ℕ) (a b : ℕ) (v w x y : List ℕ) → a < 2 ^ 32 → b < 2 ^ 32 → (p : IsSpelledBy layout address pairs ns a v x) → (q : IsSpelledBy layout address pairs ms b w y) → x ≡ y
      → (map (address_at address pairs) ns ≡ map (address_at address pairs) ms) × (a ≡ b) × (kept_address layout (address v) ≡ kept_address layout (address w)) × (action_field p.action ≡ action_field q.action)
  same-spelled layout pairs ns ms a b v w x y small_a small_b p q is =
      let c : CommitFields = record { parents = map (address_at address pairs) ns; branch = a; clock = p.clock; value = kept_address layout (address v); action = p.action } in
      let d : CommitFields = record { parents = map (address_at address pairs) ms; branch = b; clock = q.clock; value = kept_address layout (address w); action = q.action } in
      let whole : commit_object c ≡ commit_object d = sym p.is ∙ is ∙ q.is in
      let fields : field (commit_body c) ≡ field (commit_body d) = cc whole in
      let bodies = (same_parts (number (length (commit_body c))) (commit_body c) (number (length (commit_body d))) (commit_body d) (length-number (length (commit_body c)) ∙ sym (length-number (length (commit_body d)))) fields).1 in
      let first = (counted-one_way (HasLength 32) own addresses).one c.parents d.parents (short_number a ++ (number c.clock ++ value_field c.value ++ action_field c.action)) (short_number b ++ (number d.clock ++ value_field d.value ++ action_field d.action))
      (omega (arith, few-sized pairs ns, p.few), all-sized pairs ns) (omega (arith, few-sized pairs ms, q.few), all-sized pairs ms)
      (sym (regroup (counted own c.parents) (short_number a) (number c.clock) (value_field c.value) (action_field c.action)) ∙ bodies ∙ regroup (counted own d.parents) (short_number b) (number d.clock) (value_field d.value) (action_field d.action)) in
      let second = same_parts (short_number a) (number c.clock ++ value_field c.value ++ action_field c.action) (short_number b) (number d.clock ++ value_field d.value ++ action_field d.action) (length-short_number a ∙ sym (length-short_number b)) first.1 in
      let third = same_parts (number c.clock ++ value_field c.value) (action_field c.action) (number d.clock ++ value_field d.value) (action_field d.action)
      (omega (arith, length-append (number c.clock) (value_field c.value), length-append (number d.clock) (value_field d.value), length-number c.clock, length-number d.clock, length-kept_address layout (address v) (size v), length-kept_address layout (address w) (size w))) second.1 in
      let fourth = same_parts (number c.clock) (value_field c.value) (number d.clock) (value_field d.value) (length-number c.clock ∙ sym (length-number d.clock)) third.0 in
      (first.0, short_number-same a b small_a small_b second.0, kept_address-same layout (address v) (address w) fourth.1, third.1)

-- commits that are there are told by their addresses
pub addresses-same : (address : List ℕ → List ℕ) (pairs : List Pair) (count : ℕ) → ((j k : ℕ) → j < count → k < count → address (commit_text pairs j) ≡ address (commit_text pairs k) → j ≡ k) → (ns ms : List ℕ)
    → AllByRecursion (λ n. n < count) ns → AllByRecursion (λ n. n < count) ms → map (address_at address pairs) ns ≡ map (address_at address pairs) ms → ns ≡ ms
addresses-same address pairs count one [] [] p q is = refl
addresses-same address pairs count one [] (m ∷ ms) p q is = absurd (cc)
addresses-same address pairs count one (n ∷ ns) [] p q is = absurd (cc)
addresses-same address pairs count one (n ∷ ns) (m ∷ ms) p q is =
    let first : address (commit_text pairs n) ≡ address (commit_text pairs m) = cc is in
    let rest : map (address_at address pairs) ns ≡ map (address_at address pairs) ms = cc is in
    ap (λ (k : ℕ). k ∷ ns) (one n m p.0 q.0 first) ∙ ap (λ (l : List ℕ). m ∷ l) (addresses-same address pairs count one ns ms p.1 q.1 rest)

-- where no commit has these two objects, none has
pair-get : (pairs : List Pair) (j : ℕ) → j < length pairs → (q : Pair) × (slice_get pairs j ≡ Some q) × (value_text pairs j ≡ q.value) × (commit_text pairs j ≡ q.commit)
pair-get [] j lt = absurd (omega arith)
pair-get (q ∷ qs) zero lt = (q, refl, refl, refl)
pair-get (q ∷ qs) (suc j) lt = pair-get qs j (omega arith)

pub none-with : (pairs : List Pair) (p : Pair) (j : ℕ) → commit_with pairs p ≡ None → j < length pairs → value_text pairs j ≡ p.value → commit_text pairs j ≡ p.commit → ⊥
none-with pairs p j none lt values commits =
    let at = pair-get pairs j lt in
    let q : Pair = at.0 in
    let one : same q.value p.value ≡ true = ap (λ (x : List ℕ). same x p.value) (sym at.2 ∙ values) ∙ same-refl p.value in
    let two : same q.commit p.commit ≡ true = ap (λ (x : List ℕ). same x p.commit) (sym at.3 ∙ commits) ∙ same-refl p.commit in
    both_ways (same q.value p.value && same q.commit p.commit) (position-none (λ (q : Pair). same q.value p.value && same q.commit p.commit) 0 pairs j q none at.1) (and_from (same q.value p.value) (same q.commit p.commit) one two)

module _ {S O R Q A : Type 0} {form : Form} (fixed : FixedIn form S O R Q A) where
  abbrev first : ℕ
  first = fixed.terms.origin

  -- a commit that was made on a branch: its first parent is the branch's head, and it becomes the head
  pub record IsOwn (old new : Store O R) (c : Commit O R) : Type 0 where
    pub branch : ℕ
    pub others : List ℕ
    pub there : branch < length old.branches
    pub origin : c.origin ≡ first + branch
    pub parents : c.parents ≡ head_of old.branches branch ∷ others
    pub head : head_of new.branches branch ≡ length old.commits

  -- a commit that was received: its origin is none of the store's, and no commit has its two objects
  pub record IsForeign (old new : Store O R) (c : Commit O R) : Type 0 where
    pub origin : (q : ℕ) → q < fixed.terms.limits.branches → c.origin ≡ first + q → ⊥
    pub unseen : commit_with (pairs_of fixed old.commits) (pair_at fixed old.commits (pairs_of fixed old.commits) c) ≡ None

  -- a move that makes a commit, with nine parents at most
  pub record MakesOne (old new : Store O R) : Type 0 where
    pub made : Commit O R
    pub commits : new.commits ≡ old.commits ++ made ∷ []
    pub branches : length new.branches ≡ length old.branches
    pub few : length made.parents ≤ 9
    pub within : AllByRecursion (λ n. n < length old.commits) made.parents
    pub kind : IsOwn old new made ⊎ IsForeign old new made

  -- what the objects of a valid history keep
  pub record IsSound (s : Store O R) (stored : Stored) : Type 0 where
    -- each commit made on a branch lies at its head or below
    pub reach : (n r : ℕ) → 0 < n → n < length s.commits → r < length s.branches → origin_of s.commits n ≡ first + r → IsTrue (reaches (graph_of s.commits) (head_of s.branches r) n)
    pub spelled : (n : ℕ) → n < length s.commits → IsSpelledBy fixed.terms.layout fixed.address (pairs_of fixed s.commits) (parents_of (graph_of s.commits) n) (origin_of s.commits n) (value_text (pairs_of fixed s.commits) n) (commit_text (pairs_of fixed s.commits) n)
    pub listed : (n : ℕ) → n < length s.commits → list_any (same (commit_text (pairs_of fixed s.commits) n)) stored ≡ true
    pub listed_values : (n : ℕ) → n < length s.commits → IsListedValue fixed.terms.layout stored (value_text (pairs_of fixed s.commits) n)
    -- commits whose objects have one address have one object
    pub one : (j k : ℕ) → j < length s.commits → k < length s.commits → fixed.address (commit_text (pairs_of fixed s.commits) j) ≡ fixed.address (commit_text (pairs_of fixed s.commits) k) → commit_text (pairs_of fixed s.commits) j ≡ commit_text (pairs_of fixed s.commits) k
    pub distinct : (j k : ℕ) → j < length s.commits → k < length s.commits → commit_text (pairs_of fixed s.commits) j ≡ commit_text (pairs_of fixed s.commits) k → j ≡ k

  abbrev root : Commit O R
  root = record { parents = []; origin = 0; clock = 0; event = None }

  -- the spelling of the value of a commit that comes behind others
  abbrev spelling_at : List (Commit O R) → Commit O R → List ℕ
  spelling_at before c = fixed.meaning.spelling_of (visible (before ++ c ∷ []) (length before))

  abbrev root_pair : Pair
  root_pair = pair_at fixed [] [] root

  abbrev root_stored : Stored
  root_stored = fresh [] (both root_pair ++ [])

  sound-none : IsSound new_store root_stored
  unfolding pairs_of
  sound-none = record {
    reach = λ n r positive lt there own. absurd (omega arith);
    spelled = elim [ zero ↦ λ lt. record { clock = 0; action = (fields_of fixed [] root_pair.value root).action; is = refl; few = omega arith } | suc n ↦ λ lt. absurd (omega arith) ];
    listed = elim [ zero ↦ λ lt. listed-fresh root_pair.commit [] (both root_pair ++ []) (listed-before root_pair.commit (both root_pair) [] (commit-listed-in root_pair)) | suc n ↦ λ lt. absurd (omega arith) ];
    listed_values = elim [
      | zero ↦ λ lt.
          listed_value-fresh fixed.terms.layout root_pair.value [] (both root_pair ++ []) (listed_value-before fixed.terms.layout root_pair.value (both root_pair) [] (value-listed-in fixed.terms.layout (spelling_at [] root) root_pair.commit))
      | suc n ↦ λ lt. absurd (omega arith)
    ];
    one = λ j k in_j in_k is. ap (commit_text (pairs_of fixed (root ∷ []))) (both-zero j k in_j in_k);
    distinct = λ j k in_j in_k is. both-zero j k in_j in_k;
  }
    where
      both-zero : (j k : ℕ) → j < 1 → k < 1 → j ≡ k
      both-zero j k in_j in_k = omega arith

  module _ (s new : Store O R) (stored : Stored) (kept : IsKept fixed.meaning fixed.terms s) (next : IsKept fixed.meaning fixed.terms new) (sound : IsSound s stored) (size : HasSize fixed.address) where
    abbrev pairs : List Pair
    pairs = pairs_of fixed s.commits

    abbrev more : List Pair
    more = pairs_of fixed new.commits

    module _ (m : MakesOne s new) where
      abbrev n : ℕ
      n = length s.commits

      abbrev p : Pair
      p = pair_at fixed s.commits pairs m.made

      grown : more ≡ pairs ++ p ∷ []
      grown = ap (pairs_of fixed) m.commits ∙ pairs_of-one fixed s.commits m.made

      text-old : (k : ℕ) → k < n → commit_text more k ≡ commit_text pairs k
      text-old k lt = ap (λ (ps : List Pair). commit_text ps k) grown ∙ commit_text-old pairs (p ∷ []) k (omega (arith, length-pairs_of fixed s.commits))

      text-new : commit_text more n ≡ p.commit
      text-new = ap (λ (ps : List Pair). commit_text ps n) grown ∙ ap (commit_text (pairs ++ p ∷ [])) (sym (length-pairs_of fixed s.commits)) ∙ commit_text-new pairs p

      value-old : (k : ℕ) → k < n → value_text more k ≡ value_text pairs k
      value-old k lt = ap (λ (ps : List Pair). value_text ps k) grown ∙ value_text-old pairs (p ∷ []) k (omega (arith, length-pairs_of fixed s.commits))

      value-new : value_text more n ≡ p.value
      value-new = ap (λ (ps : List Pair). value_text ps n) grown ∙ ap (value_text (pairs ++ p ∷ [])) (sym (length-pairs_of fixed s.commits)) ∙ value_text-new pairs p

      longer : IsLonger s.commits new.commits
      longer = record { more = m.made ∷ []; is = m.commits }

      count : length new.commits ≡ n + 1
      count = ap length m.commits ∙ length-append s.commits (m.made ∷ [])

      -- an old commit, or the new one
      each : (P : ℕ → Type 0) → ((k : ℕ) → k < n → P k) → P n → (k : ℕ) → k < length new.commits → P k
      each P old at k lt = ⊎_elim (λ less. old k less) (λ le. let same : n ≡ k = omega (arith, count) in subst P same at) (cases_lt k n)

      abbrev g : List (List ℕ)
      g = graph_of new.commits

      same-at : (k : ℕ) → k < n → IsSameAt s.commits new.commits k
      same-at k lt = longer-same_at s.commits new.commits longer kept.ordered.ranked k lt

      parents-new : parents_of g n ≡ m.made.parents
      parents-new = ap (λ (cs : List (Commit O R)). parents_of (graph_of cs) n) m.commits ∙ parents_of-new s.commits m.made

      origin-new : origin_of new.commits n ≡ m.made.origin
      origin-new = ap (λ (cs : List (Commit O R)). origin_of cs n) m.commits ∙ origin_of-new s.commits m.made

      in-range : (k : ℕ) (ns : List ℕ) → k ≤ n → AllByRecursion (λ j. j < k) ns → AllByRecursion (λ j. j < length pairs) ns
      in-range k ns le all = AllByRecursion-more (λ j. j < k) (λ j. j < length pairs) ns (λ j lt. omega (arith, length-pairs_of fixed s.commits)) all

      -- the addresses of old commits stay
      moved : (k : ℕ) (ns : List ℕ) → k ≤ n → AllByRecursion (λ j. j < k) ns → map (address_at fixed.address pairs) ns ≡ map (address_at fixed.address more) ns
      moved k ns le all = sym (ap (λ (ps : List Pair). map (address_at fixed.address ps) ns) grown ∙ addresses-old fixed.address pairs (p ∷ []) ns (in-range k ns le all))

      spelled-as : (ns ms : List ℕ) (a b : ℕ) (v w x y : List ℕ) → IsSpelledBy fixed.terms.layout fixed.address pairs ns a v x → map (address_at fixed.address pairs) ns ≡ map (address_at fixed.address more) ms → a ≡ b → v ≡ w → y ≡ x → length ms ≤ 9 → IsSpelledBy fixed.terms.layout fixed.address more ms b w y
      spelled-as ns ms a b v w x y q addresses origins values texts few = record {
        clock = q.clock;
        action = q.action;
        is = texts ∙ q.is
            ∙ ap (λ (l : List (List ℕ)). commit_object (record { parents = l; branch = a; clock = q.clock; value = kept_address fixed.terms.layout (fixed.address v); action = q.action })) addresses
            ∙ ap (λ (r : ℕ). commit_object (record { parents = map (address_at fixed.address more) ms; branch = r; clock = q.clock; value = kept_address fixed.terms.layout (fixed.address v); action = q.action })) origins
            ∙ ap (λ (u : List ℕ). commit_object (record { parents = map (address_at fixed.address more) ms; branch = b; clock = q.clock; value = kept_address fixed.terms.layout (fixed.address u); action = q.action })) values;
        few = few;
      }

      spelled-new : (k : ℕ) → k < length new.commits → IsSpelledBy fixed.terms.layout fixed.address more (parents_of g k) (origin_of new.commits k) (value_text more k) (commit_text more k)
      spelled-new =
          each (λ k. IsSpelledBy fixed.terms.layout fixed.address more (parents_of g k) (origin_of new.commits k) (value_text more k) (commit_text more k))
          (λ k lt.
          let q = sound.spelled k lt in
          let old : List ℕ = parents_of (graph_of s.commits) k in
          let same = same-at k lt in
          spelled-as old (parents_of g k) (origin_of s.commits k) (origin_of new.commits k) (value_text pairs k) (value_text more k) (commit_text pairs k) (commit_text more k) q
          (moved k old (omega arith) (kept.ordered.ranked k) ∙ ap (map (address_at fixed.address more)) (sym same.parents)) (sym same.origin) (sym (value-old k lt)) (text-old k lt) (omega (arith, q.few, ap length same.parents)))
          (spelled-as m.made.parents (parents_of g n) m.made.origin (origin_of new.commits n) p.value (value_text more n) p.commit (commit_text more n)
          (record { clock = m.made.clock; action = (fields_of fixed pairs p.value m.made).action; is = refl; few = m.few })
          (moved n m.made.parents (omega arith) m.within ∙ ap (map (address_at fixed.address more)) (sym parents-new)) (sym origin-new) (sym value-new) text-new (omega (arith, m.few, ap length parents-new)))

      module _ (free : collision fixed.address stored (both p) ≡ None) where
        hits : (k : ℕ) → k < n → fixed.address (commit_text more k) ≡ fixed.address (commit_text more n) → commit_text more k ≡ commit_text more n
        hits k lt is =
            let found : commit_text pairs k ≡ p.commit =
            clash-none fixed.address p.commit (commit_text pairs k) (stored ++ given p.value) (collision-own fixed.address p.value p.commit stored free)
            (listed-before (commit_text pairs k) stored (given p.value) (sound.listed k lt))
            (ap fixed.address (sym (text-old k lt)) ∙ is ∙ ap fixed.address text-new) in
            text-old k lt ∙ found ∙ sym text-new

        one-new : (j k : ℕ) → j < length new.commits → k < length new.commits → fixed.address (commit_text more j) ≡ fixed.address (commit_text more k) → commit_text more j ≡ commit_text more k
        one-new j k in_j in_k =
            each (λ j. fixed.address (commit_text more j) ≡ fixed.address (commit_text more k) → commit_text more j ≡ commit_text more k)
            (λ j lt.
            each (λ k. fixed.address (commit_text more j) ≡ fixed.address (commit_text more k) → commit_text more j ≡ commit_text more k)
            (λ k less is. text-old j lt ∙ sound.one j k lt less (ap fixed.address (sym (text-old j lt)) ∙ is ∙ ap fixed.address (text-old k less)) ∙ sym (text-old k less))
            (hits j lt) k in_k)
            (each (λ k. fixed.address (commit_text more n) ≡ fixed.address (commit_text more k) → commit_text more n ≡ commit_text more k) (λ k less is. sym (hits k less (sym is))) (λ is. refl) k in_k)
            j in_j

        -- an old commit whose object is the new one's has its parents, its origin, and the address of its value
        spelled-alike : (j : ℕ) → j < n → commit_text more j ≡ commit_text more n → (map (address_at fixed.address more) (parents_of g j) ≡ map (address_at fixed.address more) (parents_of g n)) × (origin_of new.commits j ≡ origin_of new.commits n) × (kept_address fixed.terms.layout (fixed.address (value_text more j)) ≡ kept_address fixed.terms.layout (fixed.address (value_text more n)))
        spelled-alike j lt is =
            let in_j : j < length new.commits = omega (arith, count) in
            let in_n : n < length new.commits = omega (arith, count) in
            let told = same-spelled fixed.address size fixed.terms.layout more (parents_of g j) (parents_of g n) (origin_of new.commits j) (origin_of new.commits n) (value_text more j) (value_text more n) (commit_text more j) (commit_text more n) (next.ordered.small j in_j) (next.ordered.small n in_n) (spelled-new j in_j) (spelled-new n in_n) is in
            (told.0, told.1, told.2)

        -- no commit of the branch lies above its head
        own-differs : IsOwn s new m.made → (j : ℕ) → j < n → commit_text more j ≡ commit_text more n → ⊥
        own-differs own j lt is =
            let alike = spelled-alike j lt is in
            let parents : map (address_at fixed.address more) (parents_of g j) ≡ fixed.address (commit_text more (head_of s.branches own.branch)) ∷ map (address_at fixed.address more) own.others =
            alike.0 ∙ ap (map (address_at fixed.address more)) (parents-new ∙ own.parents) in
            by-parents (parents_of g j) refl parents (sym (same-at j lt).origin ∙ alike.1 ∙ origin-new ∙ own.origin)
          where
            by-parents : (ps : List ℕ) → parents_of g j ≡ ps → map (address_at fixed.address more) ps ≡ fixed.address (commit_text more (head_of s.branches own.branch)) ∷ map (address_at fixed.address more) own.others → origin_of s.commits j ≡ first + own.branch → ⊥
            by-parents [] ps alike origin = cc
            by-parents (a ∷ rest) ps alike origin =
                let h : ℕ = head_of s.branches own.branch in
                let below = subst (AllByRecursion (λ i. i < j)) ps (next.ordered.ranked j) in
                let in_h : h < n = kept.ordered.heads own.branch own.there in
                let in_a : a < n = omega (arith, below.0, lt) in
                let address_same : fixed.address (commit_text more a) ≡ fixed.address (commit_text more h) = cc alike in
                let text_same : commit_text pairs a ≡ commit_text pairs h = sound.one a h in_a in_h (ap fixed.address (sym (text-old a in_a)) ∙ address_same ∙ ap fixed.address (text-old h in_h)) in
                let a_is : a ≡ h = sound.distinct a h in_a in_h text_same in
                let positive : 0 < j = omega (arith, below.0) in
                let up : IsTrue (reaches (graph_of s.commits) h j) = sound.reach j own.branch positive lt own.there origin in
                omega (arith, reaches-at_most (graph_of s.commits) kept.ordered.ranked h j up, below.0, a_is)

        -- a commit with the same object has the same value, so what was received would have been here
        foreign-differs : IsForeign s new m.made → (j : ℕ) → j < n → commit_text more j ≡ commit_text more n → ⊥
        foreign-differs foreign j lt is =
            let kept = λ (v : List ℕ). kept_address fixed.terms.layout (fixed.address v) in
            let alike = spelled-alike j lt is in
            let value : value_text pairs j ≡ p.value =
            value-told fixed.terms.layout fixed.address (spelling_at s.commits m.made) p.commit (value_text pairs j) stored free (sound.listed_values j lt)
            (ap kept (sym (value-old j lt)) ∙ alike.2 ∙ ap kept value-new) in
            none-with pairs p j foreign.unseen (omega (arith, length-pairs_of fixed s.commits)) value (sym (text-old j lt) ∙ is ∙ text-new)

        -- an old commit's object is not the new one's
        differs : (j : ℕ) → j < n → commit_text more j ≡ commit_text more n → ⊥
        differs j lt is = ⊎_elim (λ own. own-differs own j lt is) (λ foreign. foreign-differs foreign j lt is) m.kind

        distinct-new : (j k : ℕ) → j < length new.commits → k < length new.commits → commit_text more j ≡ commit_text more k → j ≡ k
        distinct-new j k in_j in_k =
            each (λ j. commit_text more j ≡ commit_text more k → j ≡ k)
            (λ j lt. each (λ k. commit_text more j ≡ commit_text more k → j ≡ k) (λ k less is. sound.distinct j k lt less (sym (text-old j lt) ∙ is ∙ text-old k less)) (λ is. absurd (differs j lt is)) k in_k)
            (each (λ k. commit_text more n ≡ commit_text more k → n ≡ k) (λ k less is. absurd (differs k less (sym is))) (λ is. refl) k in_k)
            j in_j

        -- the new commit, where it has the origin of a branch
        reach-new : (r : ℕ) → r < length new.branches → m.made.origin ≡ first + r → IsTrue (reaches g (head_of new.branches r) n)
        reach-new r there origin =
            ⊎_elim
            (λ own.
            let same : r ≡ own.branch = omega (arith, origin, own.origin) in
            ap (λ b. reaches g (head_of new.branches b) n) same ∙ ap (λ t. reaches g t n) own.head ∙ reaches-self g next.ordered.ranked n)
            (λ foreign. let few = next.few_branches in absurd (foreign.origin r (omega arith) origin))
            m.kind

        sound-made : (all : Stored) → all ≡ stored ++ fresh stored (both p) → ((r : ℕ) → r < length s.branches → IsTrue (reaches g (head_of new.branches r) (head_of s.branches r))) → IsSound new all
        sound-made all grows rises = record {
          reach = λ k r positive in_k there.
              each (λ k. 0 < k → origin_of new.commits k ≡ first + r → IsTrue (reaches g (head_of new.branches r) k))
              (λ k lt pos origin.
              let before : r < length s.branches = omega (arith, m.branches) in
              let top : ℕ = head_of s.branches r in
              let in_top = kept.ordered.heads r before in
              reaches-trans g next.ordered.ranked (head_of new.branches r) top k (rises r before) ((same-at top in_top).reach k ∙ sound.reach k r pos lt before (sym (same-at k lt).origin ∙ origin)))
              (λ pos origin. reach-new r there (sym origin-new ∙ origin))
              k in_k positive;
          spelled = spelled-new;
          listed = each (λ k. list_any (same (commit_text more k)) all ≡ true)
              (λ k lt. ap (λ (x : List ℕ). list_any (same x) all) (text-old k lt) ∙ ap (list_any (same (commit_text pairs k))) grows ∙ listed-before (commit_text pairs k) stored (fresh stored (both p)) (sound.listed k lt))
              (ap (λ (x : List ℕ). list_any (same x) all) text-new ∙ ap (list_any (same p.commit)) grows
              ∙ listed-fresh p.commit stored (both p) (commit-listed-in p));
          listed_values = each (λ k. IsListedValue fixed.terms.layout all (value_text more k))
              (λ k lt.
              subst (IsListedValue fixed.terms.layout all) (sym (value-old k lt))
              (subst (λ (xs : Stored). IsListedValue fixed.terms.layout xs (value_text pairs k)) (sym grows) (listed_value-before fixed.terms.layout (value_text pairs k) stored (fresh stored (both p)) (sound.listed_values k lt))))
              (subst (IsListedValue fixed.terms.layout all) (sym value-new)
              (subst (λ (xs : Stored). IsListedValue fixed.terms.layout xs p.value) (sym grows)
              (listed_value-fresh fixed.terms.layout p.value stored (both p) (value-listed-in fixed.terms.layout (spelling_at s.commits m.made) p.commit))));
          one = one-new;
          distinct = distinct-new;
        }

    -- a move that makes no commit
    sound-same : new.commits ≡ s.commits → length s.branches ≤ length new.branches → (all : Stored) → all ≡ stored → ((r : ℕ) → r < length s.branches → IsTrue (reaches (graph_of new.commits) (head_of new.branches r) (head_of s.branches r))) → IsSound new all
    sound-same unmoved grows all stays rises = record {
      reach = λ k r positive lt there origin.
          let in_k : k < length s.commits = subst (λ (cs : List (Commit O R)). k < length cs) unmoved lt in
          let was : origin_of s.commits k ≡ first + r = ap (λ (cs : List (Commit O R)). origin_of cs k) (sym unmoved) ∙ origin in
          ⊎_elim
          (λ before.
          let down = ap (λ (cs : List (Commit O R)). reaches (graph_of cs) (head_of s.branches r) k) unmoved ∙ sound.reach k r positive in_k before was in
          reaches-trans (graph_of new.commits) next.ordered.ranked (head_of new.branches r) (head_of s.branches r) k (rises r before) down)
          (λ above. let few = next.few_branches in absurd (kept.ordered.origins k r in_k above (omega arith) was))
          (cases_lt r (length s.branches));
      spelled = subst (λ (cs : List (Commit O R)). (n : ℕ) → n < length cs → IsSpelledBy fixed.terms.layout fixed.address (pairs_of fixed cs) (parents_of (graph_of cs) n) (origin_of cs n) (value_text (pairs_of fixed cs) n) (commit_text (pairs_of fixed cs) n)) (sym unmoved) sound.spelled;
      listed = subst (λ (all : Stored). (n : ℕ) → n < length new.commits → list_any (same (commit_text (pairs_of fixed new.commits) n)) all ≡ true) (sym stays)
          (subst (λ (cs : List (Commit O R)). (n : ℕ) → n < length cs → list_any (same (commit_text (pairs_of fixed cs) n)) stored ≡ true) (sym unmoved) sound.listed);
      listed_values = subst (λ (all : Stored). (n : ℕ) → n < length new.commits → IsListedValue fixed.terms.layout all (value_text (pairs_of fixed new.commits) n)) (sym stays)
          (subst (λ (cs : List (Commit O R)). (n : ℕ) → n < length cs → IsListedValue fixed.terms.layout stored (value_text (pairs_of fixed cs) n)) (sym unmoved) sound.listed_values);
      one = subst (λ (cs : List (Commit O R)). (j k : ℕ) → j < length cs → k < length cs → fixed.address (commit_text (pairs_of fixed cs) j) ≡ fixed.address (commit_text (pairs_of fixed cs) k) → commit_text (pairs_of fixed cs) j ≡ commit_text (pairs_of fixed cs) k) (sym unmoved) sound.one;
      distinct = subst (λ (cs : List (Commit O R)). (j k : ℕ) → j < length cs → k < length cs → commit_text (pairs_of fixed cs) j ≡ commit_text (pairs_of fixed cs) k → j ≡ k) (sym unmoved) sound.distinct;
    }

  -- an operation, and a merge of several commits, make a commit on their branch
  abbrev pub operation-makes : (moves : List (Move O R)) (r : ℕ) (op : O) (reply : R) → IsKept fixed.meaning fixed.terms (store_after fixed moves) → r < length (store_after fixed moves).branches → MakesOne (store_after fixed moves) (after_move first (store_after fixed moves) (move.Operation r op reply))
  operation-makes moves r op reply kept there =
      let s = store_after fixed moves in
      record {
        made = operation_commit s.commits (first + r) (head_of s.branches r) op reply;
        commits = refl;
        branches = length-with_head s.branches r (length s.commits);
        few = omega arith;
        within = (kept.ordered.heads r there, tt);
        kind = inl (record { branch = r; others = []; there = there; origin = refl; parents = refl; head = head_of-same s.branches r (length s.commits) there });
      }

  abbrev pub join-makes : (moves : List (Move O R)) (r : ℕ) (ks : List ℕ) → IsKept fixed.meaning fixed.terms (store_after fixed moves) → r < length (store_after fixed moves).branches → AreCommits (store_after fixed moves).commits ks → length ks ≤ 8 → MakesOne (store_after fixed moves) (after_move first (store_after fixed moves) (move.Join r ks))
  join-makes moves r ks kept there stand few =
      let s = store_after fixed moves in
      record {
        made = merge_commit s.commits (first + r) (head_of s.branches r ∷ ks);
        commits = refl;
        branches = length-with_head s.branches r (length s.commits);
        few = omega (arith, few);
        within = (kept.ordered.heads r there, stand);
        kind = inl (record { branch = r; others = ks; there = there; origin = refl; parents = refl; head = head_of-same s.branches r (length s.commits) there });
      }

  abbrev pub merge-makes : (moves : List (Move O R)) (r k : ℕ) → IsKept fixed.meaning fixed.terms (store_after fixed moves) → r < length (store_after fixed moves).branches → k < length (store_after fixed moves).commits → MakesOne (store_after fixed moves) (after_move first (store_after fixed moves) (move.Merge r k))
  merge-makes moves r k kept there stands = join-makes moves r (k ∷ []) kept there (stands, tt) (omega arith)

  received-few : (moves : List (Move O R)) (parents : List ℕ) (origin clock : ℕ) (act : Option (O × R)) → IsReceived fixed.meaning fixed.terms moves parents origin clock act → (length parents ≤ 9) × ((q : ℕ) → q < fixed.terms.limits.branches → origin ≡ first + q → ⊥)
  received-few moves parents origin clock None is = (omega (arith, ap length is.parents_are, is.few.few), (λ q lt own. not_own fixed.terms origin q (received_merge-tells fixed.meaning fixed.terms moves origin parents is.received).0 lt own))
  received-few moves parents origin clock (Some d) is = (omega (arith, ap length is.parents_are), (λ q lt own. not_own fixed.terms origin q (received_operation-tells fixed.meaning fixed.terms moves origin is.parent d.0 is.received).0 lt own))

  pub received-nine : (moves : List (Move O R)) (parents : List ℕ) (origin clock : ℕ) (act : Option (O × R)) → IsReceived fixed.meaning fixed.terms moves parents origin clock act → length parents ≤ 9
  received-nine moves parents origin clock act is = (received-few moves parents origin clock act is).0

  pub received-foreign : (moves : List (Move O R)) (parents : List ℕ) (origin clock : ℕ) (act : Option (O × R)) → IsReceived fixed.meaning fixed.terms moves parents origin clock act → IsNew fixed moves (move.Received parents origin clock act)
      → IsForeign (store_after fixed moves) (after_move first (store_after fixed moves) (move.Received parents origin clock act)) (received_commit (store_after fixed moves).commits parents origin clock act)
  unfolding commit_at
  received-foreign moves parents origin clock act is unseen = record { origin = (received-few moves parents origin clock act is).1; unseen = unseen }

  -- what is received makes a commit of another store
  pub received-makes : (moves : List (Move O R)) (parents : List ℕ) (origin clock : ℕ) (act : Option (O × R)) → IsReceived fixed.meaning fixed.terms moves parents origin clock act → IsNew fixed moves (move.Received parents origin clock act) → MakesOne (store_after fixed moves) (after_move first (store_after fixed moves) (move.Received parents origin clock act))
  unfolding commit_at
  received-makes moves parents origin clock act is unseen =
      let s = store_after fixed moves in
      let tells = received-few moves parents origin clock act is in
      record {
        made = received_commit s.commits parents origin clock act;
        commits = refl;
        branches = refl;
        few = tells.0;
        within = received-stand fixed.meaning fixed.terms moves parents origin clock act is;
        kind = inr (record { origin = tells.1; unseen = unseen });
      }

  -- what a move makes
  pub makes-one : (moves : List (Move O R)) (m : Move O R) → IsKept fixed.meaning fixed.terms (store_after fixed moves) → IsAccepted fixed.meaning fixed.terms moves m → IsNew fixed moves m
      → MakesOne (store_after fixed moves) (after_move first (store_after fixed moves) m) ⊎ ((after_move first (store_after fixed moves) m).commits ≡ (store_after fixed moves).commits)
  makes-one moves (move.Fork name position from) kept is unseen = inr refl
  makes-one moves (move.Operation r op reply) kept is unseen = inl (operation-makes moves r op reply kept is.there)
  makes-one moves (move.Merge r k) kept is unseen = inl (merge-makes moves r k kept is.there is.stands)
  makes-one moves (move.Join r ks) kept is unseen = inl (join-makes moves r ks kept is.there is.stands is.few)
  makes-one moves (move.Forward r k) kept is unseen = inr refl
  makes-one moves (move.Received parents origin clock act) kept is unseen = inl (received-makes moves parents origin clock act is unseen)
  makes-one moves (move.Place name position k) kept is unseen = inr refl
  makes-one moves (move.Drop r) kept is unseen = inr refl

  pub one-or-none : (moves : List (Move O R)) (m : Move O R) → IsKept fixed.meaning fixed.terms (store_after fixed moves) → IsAccepted fixed.meaning fixed.terms moves m → IsNew fixed moves m → MakesOne (store_after fixed moves) (store_after fixed (moves ++ m ∷ [])) ⊎ ((store_after fixed (moves ++ m ∷ [])).commits ≡ (store_after fixed moves).commits)
  one-or-none moves m kept is unseen = subst (λ (new : Store O R). MakesOne (store_after fixed moves) new ⊎ (new.commits ≡ (store_after fixed moves).commits)) (sym (store_of-more first moves m)) (makes-one moves m kept is unseen)

  -- the objects of the commit that a move makes
  pub made-objects : (moves : List (Move O R)) (m : Move O R) (one : MakesOne (store_after fixed moves) (store_after fixed (moves ++ m ∷ []))) → new_objects fixed moves m ≡ both (pair_at fixed (store_after fixed moves).commits (pairs_of fixed (store_after fixed moves).commits) one.made)
  made-objects moves m one =
      let old : List (Commit O R) = (store_after fixed moves).commits in
      new-pair fixed moves m old (old ++ one.made ∷ []) (pair_at fixed old (pairs_of fixed old) one.made) refl one.commits (pairs_of-one fixed old one.made)

  pub no-objects : (moves : List (Move O R)) (m : Move O R) → (store_after fixed (moves ++ m ∷ [])).commits ≡ (store_after fixed moves).commits → new_objects fixed moves m ≡ []
  no-objects moves m unmoved =
      let old : List (Commit O R) = (store_after fixed moves).commits in
      new-pairs fixed moves m old old [] refl unmoved (sym (append-nil (pairs_of fixed old)))

  pub no-collision : (moves : List (Move O R)) (m : Move O R) → collision_refusal fixed moves m ≡ None → collision fixed.address (objects_of fixed moves) (new_objects fixed moves m) ≡ None
  unfolding collision_refusal
  no-collision moves m none = at (collision fixed.address (objects_of fixed moves) (new_objects fixed moves m)) none
    where
      at : (o : Option (List ℕ × List ℕ)) → option_map (λ c. Collision (fixed.address c.1) c.0 c.1) o ≡ None → o ≡ None
      at None is = refl
      at (Some c) is = cc

  -- branches stay
  more-branches : (moves : List (Move O R)) (m : Move O R) → length (store_after fixed moves).branches ≤ length (store_after fixed (moves ++ m ∷ [])).branches
  more-branches moves m = at (length (store_after fixed moves).branches) refl
    where
      at : (k : ℕ) → length (store_after fixed moves).branches ≡ k → length (store_after fixed moves).branches ≤ length (store_after fixed (moves ++ m ∷ [])).branches
      at zero is = omega (arith, is)
      at (suc k) is = let there = (same_branch first moves (m ∷ []) k (omega (arith, is))).there in omega (arith, is, there)

  module _ (laws : KeepsLaws fixed.meaning) (size : HasSize fixed.address) where
    sound-start : IsSound (store_after fixed []) (objects_of fixed [])
    unfolding store_of objects_of pairs_of
    sound-start = sound-none

    sound-step : (moves : List (Move O R)) (m : Move O R) → IsFullyValid fixed moves → IsSound (store_after fixed moves) (objects_of fixed moves) → IsFullMove fixed moves m → IsSound (store_after fixed (moves ++ m ∷ [])) (objects_of fixed (moves ++ m ∷ []))
    sound-step moves m valid sound is =
        let s = store_after fixed moves in
        let new = store_after fixed (moves ++ m ∷ []) in
        let full = full_move-is fixed moves m is in
        let before = valid-before fixed moves valid in
        let after = valid-before fixed (moves ++ m ∷ []) (valid-more fixed moves m valid is) in
        let kept = valid-kept fixed.meaning fixed.terms laws moves before in
        let next = valid-kept fixed.meaning fixed.terms laws (moves ++ m ∷ []) after in
        let rises = λ (r : ℕ) (lt : r < length s.branches). valid-rises fixed.meaning fixed.terms laws moves (m ∷ []) r after lt in
        let grows : length s.branches ≤ length new.branches = more-branches moves m in
        let free = no-collision moves m full.2 in
        ⊎_elim
        (λ one.
        let objects = made-objects moves m one in
        sound-made s new (objects_of fixed moves) kept next sound size one
        (ap (collision fixed.address (objects_of fixed moves)) (sym objects) ∙ free)
        (objects_of fixed (moves ++ m ∷ []))
        (objects-more fixed moves m ∙ ap (λ (xs : Stored). objects_of fixed moves ++ fresh (objects_of fixed moves) xs) objects)
        rises)
        (λ unmoved.
        sound-same s new (objects_of fixed moves) kept next sound size unmoved grows (objects_of fixed (moves ++ m ∷ []))
        (objects-more fixed moves m ∙ ap (λ (xs : Stored). objects_of fixed moves ++ fresh (objects_of fixed moves) xs) (no-objects moves m unmoved) ∙ append-nil (objects_of fixed moves))
        rises)
        (one-or-none moves m kept (IsAccepted-from fixed.meaning fixed.terms moves m full.0) full.1)

    -- the objects of each valid history
    pub valid-sound : (moves : List (Move O R)) → IsFullyValid fixed moves → IsSound (store_after fixed moves) (objects_of fixed moves)
    valid-sound moves valid = by_moves fixed (λ ms. IsSound (store_after fixed ms) (objects_of fixed ms)) sound-start sound-step moves valid

    pub valid-distinct : (moves : List (Move O R)) → IsFullyValid fixed moves → (j k : ℕ) → j < length (store_after fixed moves).commits → k < length (store_after fixed moves).commits → commit_text (pairs_of fixed (store_after fixed moves).commits) j ≡ commit_text (pairs_of fixed (store_after fixed moves).commits) k → j ≡ k
    valid-distinct moves valid = (valid-sound moves valid).distinct
