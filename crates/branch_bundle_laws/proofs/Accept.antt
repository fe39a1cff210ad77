-- A bundle of a valid history is accepted by one that holds what was left out.
use Rattle.std.proofs.Common.{zero, suc, ◌≡◌, ◌⊎◌, inl, inr, ℕ, ◌+◌, ◌<◌, Bool, true, false, cond, ◌&&◌, ◌||◌, ◌==◌, List, [], ◌∷◌, ◌++◌, length, map, filter, refl, ap, sym, ◌∙◌, arith, IsTrue, subst, Option, Some, None, append-nil, ⊎_elim}
use Rattle.std.specs.Prelude.{not, slice_get}
use Rattle.std.specs.Option.{option_map_or}
use Rattle.std.specs.List.{AllByRecursion, position_from, range_with_len}
use Rattle.std.proofs.lemmas.Bool.{eqb-true, or_left, or_right, both_ways, cases_lt}
use Rattle.mrdt_model.specs.Laws.{Meaning, KeepsLaws}
use Rattle.branch_wire.specs.StoredObjects.{same}
use Rattle.branch_wire.specs.Objects.{commit_object}
use Rattle.branch_wire.specs.declared.action.Action.TheVariants as wire
use Rattle.branch_graph.specs.Graph.{parents_of, IsRanked, reaches, any_reaches}
use Rattle.branch_history.specs.declared.moves.Move.{Move}
use Rattle.branch_history.specs.declared.moves.Move.TheVariants as move
use Rattle.branch_names.specs.declared.layout.Layout.{Layout}
use Rattle.branch_names.specs.declared.terms.Terms.{Terms}
use Rattle.branch_history.specs.Commits.{Commit, graph_of, visible}
use Rattle.branch_names.specs.Heads.{branch_named}
use Rattle.branch_history.specs.Steps.{Step, Here, Forked, Place, Turn}
use Rattle.branch_history.specs.Machine.{answers, fork_refusal}
use Rattle.branch_history.proofs.Lists.{any-more, all_of, AllByRecursion-more, AllByRecursion-both, position-none, position-within, position-found}
use Rattle.branch_history.proofs.Reach.{reaches-self, reaches-step, reaches-trans, reaches-at_most}
use Rattle.branch_history.proofs.Grown.{length-graph}
use Rattle.branch_history.proofs.Later.{commits-longer}
use Rattle.branch_history.proofs.Valid.{store_of-none}
use Rattle.branch_history.proofs.Kept.{IsKept}
use Rattle.branch_machine.specs.Fixed.{Fixed, fix}
use Rattle.branch_machine.specs.Objects.{Pair, kept_value, kept_address, commit_text, value_text, pair_at, pairs_of, store_after}
use Rattle.branch_machine.specs.Machine.{commit_at, full_turn}
use Rattle.branch_machine.specs.Laws.{HasSize}
use Rattle.branch_machine.specs.Validity.{IsFullyValid, IsItem, Receives}
use Rattle.branch_machine.proofs.Stored.{same-eq, same-refl}
use Rattle.branch_machine.proofs.Pairs.{length-pairs_of, pairs_of-longer}
use Rattle.branch_machine.proofs.Items.{at-found}
use Rattle.branch_bundle_laws.specs.Bundles.{Bundle, item_at, is_sent, sent}
use Rattle.branch_bundle_laws.specs.Text.{bundle_text, IsBundle}
use Rattle.branch_bundle_laws.specs.Receiving.{IsTaken, made_by, ReceivesAll, addressed, ReceivesBundle, Placed, ReceivesBytes}
use Rattle.branch_bundle_laws.specs.Laws.{IsAnswered, MeetsNothing}
use Rattle.branch_bundle_laws.proofs.Fields.{kept, one-address}
use Rattle.branch_bundle_laws.proofs.Alike.{IsAlike}
use Rattle.branch_bundle_laws.proofs.Item.{item-of}
use Rattle.branch_bundle_laws.proofs.Turns.{IsReceivedAs, WasHere, WasNew, WasRefused, WasBad, received-as}
use Rattle.branch_bundle_laws.proofs.Placed.{free}
use Rattle.branch_bundle_laws.proofs.Folds.{Held, IsGrown, held-later, not-taken, turn-grown, turn-held, several, all-grown}

-- three tests: a commit that is not sent is 0 or reached by others, and one that these reach is not sent
pub unsent : (a b c : Bool) → IsTrue a → (a && not b && not c) ≡ false → IsTrue b ⊎ IsTrue c
unsent true true c is none = inl refl
unsent true false true is none = inr refl
unsent true false false is none = absurd (cc)
unsent false b c is none = absurd (cc)

reached-unsent : (a b c : Bool) → IsTrue c → (a && not b && not c) ≡ false
reached-unsent true true true is = refl
reached-unsent true false true is = refl
reached-unsent false b true is = refl
reached-unsent a b false is = cc

sent-tells : (a b c : Bool) → (a && not b && not c) ≡ true → IsTrue a × (b ≡ false)
sent-tells true false c is = (refl, refl)
sent-tells true true c is = cc
sent-tells false b c is = cc

-- a commit reaches its parents
any-own : (g : List (List ℕ)) → IsRanked g → (ns : List ℕ) → AllByRecursion (λ p. IsTrue (any_reaches g ns p)) ns
any-own g ranked [] = tt
any-own g ranked (n ∷ ns) = (
  or_left (reaches g n n) (any_reaches g ns n) (reaches-self g ranked n),
  AllByRecursion-more (λ p. IsTrue (any_reaches g ns p)) (λ p. IsTrue (reaches g n p || any_reaches g ns p)) ns (λ p is. or_right (reaches g n p) (any_reaches g ns p) is) (any-own g ranked ns),
)

reach-parents : (g : List (List ℕ)) → IsRanked g → (n : ℕ) → AllByRecursion (λ p. IsTrue (reaches g n p)) (parents_of g n)
reach-parents g ranked n =
    AllByRecursion-more (λ p. IsTrue (any_reaches g (parents_of g n) p)) (λ p. IsTrue (reaches g n p)) (parents_of g n)
    (λ p is. reaches-step g ranked n p ∙ or_right (n == p) (any_reaches g (parents_of g n) p) is) (any-own g ranked (parents_of g n))

-- one that passes a test is found, or one in front of it
pub position-some : {X : Type 0} (f : X → Bool) (i : ℕ) (xs : List X) (k : ℕ) (x : X) → slice_get xs k ≡ Some x → f x ≡ true → (j : ℕ) × (position_from f i xs ≡ Some j)
position-some f i xs k x there is = at (position_from f i xs) refl
  where
    at : (o : Option ℕ) → position_from f i xs ≡ o → (j : ℕ) × (position_from f i xs ≡ Some j)
    at (Some j) found = (j, found)
    at None none = absurd (both_ways (f x) (position-none f i xs k x none there) is)

-- a pair of a list, and its two objects
pub get-pair : (pairs : List Pair) (k : ℕ) → k < length pairs → (q : Pair) × (slice_get pairs k ≡ Some q) × (q.value ≡ value_text pairs k) × (q.commit ≡ commit_text pairs k)
get-pair [] k lt = absurd (omega arith)
get-pair (q ∷ qs) zero lt = (q, refl, refl, refl)
get-pair (q ∷ qs) (suc k) lt = get-pair qs k (omega arith)

-- commit 0 has the same objects in all histories of a layout
module _ {S O R Q A : Type 0} (fixed : Fixed S O R Q A) where
  abbrev root : Commit O R
  root = record { parents = []; origin = 0; clock = 0; event = None }

  abbrev root_pair : Pair
  root_pair = pair_at fixed [] [] root

  root-alone : pairs_of fixed (root ∷ []) ≡ root_pair ∷ []
  unfolding pairs_of
  root-alone = refl

  root-first : (moves : List (Move O R)) → (more : List Pair) × (pairs_of fixed (store_after fixed moves).commits ≡ root_pair ∷ more)
  root-first moves =
      let longer = commits-longer fixed.terms.origin [] moves in
      let start = store_of-none {O = O} {R = R} fixed.terms.origin in
      let commits : (store_after fixed moves).commits ≡ (root ∷ []) ++ longer.more = longer.is ∙ ap (λ s. s.commits ++ longer.more) start in
      let grown = pairs_of-longer fixed (root ∷ []) longer.more in
      (grown.more, ap (pairs_of fixed) commits ∙ grown.is ∙ ap (λ (l : List Pair). l ++ grown.more) root-alone)

module _ {S O R Q A : Type 0} (meaning : Meaning S O R Q A) (laws : KeepsLaws meaning) (address : List ℕ → List ℕ) (size : HasSize address) (terms others : Terms) (moves : List (Move O R)) (valid : IsFullyValid (fix meaning terms address) moves) (tip : ℕ) (stands : tip < length (store_after (fix meaning terms address) moves).commits) (here : List ℕ) (layouts : terms.layout ≡ others.layout) where
  abbrev one : Fixed S O R Q A
  one = fix meaning terms address

  abbrev other : Fixed S O R Q A
  other = fix meaning others address

  abbrev cs : List (Commit O R)
  cs = (store_after one moves).commits

  abbrev ps : List Pair
  ps = pairs_of one cs

  abbrev g : List (List ℕ)
  g = graph_of cs

  abbrev item : ℕ → Pair
  item n = item_at ps n

  kept-one : IsKept meaning terms (store_after one moves)
  kept-one = kept one laws size moves valid

  -- the objects of commit 0 in a layout
  abbrev root_in : Layout → Pair
  root_in layout =
      let value = kept_value layout (meaning.spelling_of (visible (root one ∷ []) 0)) in
      record { value = value; commit = commit_object (record { parents = []; branch = 0; clock = 0; value = kept_address layout (address value); action = wire.Root }) }

  root-held : (later : List (Move O R)) → Held other later (item 0)
  unfolding commit_at
  root-held later =
      let first = root-first one moves in
      let second = root-first other later in
      let r : Pair = root_pair one in
      let alike : pairs_of other (store_after other later).commits ≡ r ∷ second.0 = second.1 ∙ ap (λ (p : Pair). p ∷ second.0) (sym (ap root_in layouts)) in
      let test : Pair → Pair → Bool = λ p q. same q.value p.value && same q.commit p.commit in
      let passes : test r r ≡ true = ap (λ b. b && same r.commit r.commit) (same-refl r.value) ∙ same-refl r.commit in
      let found : position_from (test r) 0 (r ∷ second.0) ≡ Some 0 = ap (λ b. cond b (Some 0) (position_from (test r) 1 second.0)) passes in
      (0, ap (position_from (test (item 0)) 0) alike ∙ ap (λ (l : List Pair). position_from (test (item_at l 0)) 0 (r ∷ second.0)) first.1 ∙ found)

  -- what is held so far: the commits below a number, and those that are not sent
  record Known (from : ℕ) (later : List (Move O R)) : Type 0 where
    pub below : (m : ℕ) → IsTrue (reaches g tip m) → m < from → Held other later (item m)
    pub left : (m : ℕ) → IsTrue (reaches g tip m) → is_sent g tip here m ≡ false → Held other later (item m)

  known-later : (from : ℕ) (later last : List (Move O R)) → IsGrown other later last → Known from later → Known from last
  known-later from later last grown known = record {
    below = λ m is lt. held-later other later last (item m) grown (known.below m is lt);
    left = λ m is none. held-later other later last (item m) grown (known.left m is none);
  }

  known-next : (from : ℕ) (later : List (Move O R)) → Known from later → (IsTrue (reaches g tip from) → Held other later (item from)) → Known (from + 1) later
  known-next from later known next = record {
    below = λ m is lt. ⊎_elim (λ less. known.below m is less) (λ le. let at : from ≡ m = omega arith in subst (λ (k : ℕ). Held other later (item k)) at (next (subst (λ (k : ℕ). IsTrue (reaches g tip k)) (sym at) is))) (cases_lt m from);
    left = known.left;
  }

  -- the next item, where it is sent
  module _ (from : ℕ) (later : List (Move O R)) (also : IsFullyValid other later) (known : Known from later) where
    abbrev D : ℕ → Type 0
    D n = IsTrue (reaches g tip n) × ((n < from) ⊎ (is_sent g tip here n ≡ false))

    abbrev to : ℕ → ℕ
    to n = option_map_or (λ k. k) (commit_at other later (item n)) 0

    inside : (n : ℕ) → D n → n < length cs
    inside n d = let le = reaches-at_most g kept-one.ordered.ranked tip n d.0 in omega (arith, le, stands)

    down-one : (n p : ℕ) → D n → p < n → IsTrue (reaches g n p) → D p
    down-one n p d less is = (
      reaches-trans g kept-one.ordered.ranked tip n p d.0 is,
      ⊎_elim
          (λ lt. inl (omega arith))
          (λ none. ⊎_elim
          (λ zero_n. let z : n ≡ 0 = eqb-true n 0 zero_n in absurd (omega arith))
          (λ any. inr (reached-unsent (reaches g tip p) (p == 0) (any_reaches g here p)
          (any-more (λ _. Unit {0}) (λ k. reaches g k n) (λ k. reaches g k p) here (all_of here) (λ k _ reach. reaches-trans g kept-one.ordered.ranked k n p reach is) any)))
          (unsent (reaches g tip n) (n == 0) (any_reaches g here n) d.0 none))
          d.1,
    )

    down : (n : ℕ) → D n → AllByRecursion D (parents_of g n)
    down n d =
        AllByRecursion-more (λ p. (p < n) × IsTrue (reaches g n p)) D (parents_of g n) (λ p both. down-one n p d both.0 both.1)
        (AllByRecursion-both (λ p. p < n) (λ p. IsTrue (reaches g n p)) (parents_of g n) (kept-one.ordered.ranked n) (reach-parents g kept-one.ordered.ranked n))

    held-of : (n : ℕ) → D n → Held other later (item n)
    held-of n d = ⊎_elim (λ lt. known.below n d.0 lt) (λ none. known.left n d.0 none) d.1

    alike : (n : ℕ) → D n → (to n < length (store_after other later).commits) × IsAlike ps (pairs_of other (store_after other later).commits) n (to n)
    alike n d =
        let held = held-of n d in
        let at : held.0 ≡ to n = sym (ap (λ o. option_map_or (λ (k : ℕ). k) o 0) held.1) in
        let found = at-found other later (item n) held.0 held.1 in
        subst (λ (k : ℕ). (k < length (store_after other later).commits) × IsAlike ps (pairs_of other (store_after other later).commits) n k) at
        (omega (arith, found.0, length-pairs_of other (store_after other later).commits), record { there = found.0; value = sym found.1; text = sym found.2 })

    next-item : is_sent g tip here from ≡ true → (step : Step O Q) × IsItem other later step (item from)
    next-item is =
        let tells = sent-tells (reaches g tip from) (from == 0) (any_reaches g here from) is in
        let le = reaches-at_most g kept-one.ordered.ranked tip from tells.0 in
        let positive : 0 < from = not-zero from tells.1 in
        item-of meaning laws address size terms others moves later valid also D to inside down alike from (omega (arith, le, stands)) positive
        (AllByRecursion-more (λ p. (p < from) × IsTrue (reaches g from p)) D (parents_of g from) (λ p both. (reaches-trans g kept-one.ordered.ranked tip from p tells.0 both.1, inl both.0))
        (AllByRecursion-both (λ p. p < from) (λ p. IsTrue (reaches g from p)) (parents_of g from) (kept-one.ordered.ranked from) (reach-parents g kept-one.ordered.ranked from)))
      where
        not-zero : (n : ℕ) → (n == 0) ≡ false → 0 < n
        not-zero zero is = absurd (cc)
        not-zero (suc n) is = omega arith

    -- an answer to it
    answered : (t : Turn O R A) → is_sent g tip here from ≡ true → IsReceivedAs other later (item from) t → IsAnswered t × (IsTaken t ⊎ ¬ IsTaken t)
    answered t is (WasHere n there e) = let taken : IsTaken t = (n, inl (ap (λ (u : Turn O R A). u.outcome) e)) in (inl taken, inl taken)
    answered t is (WasNew m e full pairs branches how) = let taken : IsTaken t = (length (store_after other later).commits, inr (ap (λ (u : Turn O R A). u.outcome) e)) in (inl taken, inl taken)
    answered t is (WasRefused r may e) = (inr (r, ap (λ (u : Turn O R A). u.outcome) e, may), inr (λ taken. not-taken other t r e taken))
    answered t is (WasBad nowhere e) = absurd (let next = next-item is in nowhere next.0 next.1)

    known-taken : (t : Turn O R A) → IsTaken t → IsReceivedAs other later (item from) t → Known (from + 1) (later ++ t.made)
    known-taken t taken received =
        known-next from (later ++ t.made) (known-later from later (later ++ t.made) (turn-grown other later (item from) t also received) known) (λ _. turn-held other later (item from) t taken received)

    known-skipped : is_sent g tip here from ≡ false → Known (from + 1) later
    known-skipped none = known-next from later known (λ is. known.left from is none)

  abbrev items : ℕ → ℕ → List Pair
  items from count = map item (filter (is_sent g tip here) (range_with_len from count))

  abbrev Accepts : ℕ → List (Move O R) → List (Turn O R A) → Type 0
  Accepts last later ts = AllByRecursion IsAnswered ts × (AllByRecursion IsTaken ts → Known last (later ++ made_by ts))

  abbrev AcceptsFrom : ℕ → ℕ → Type 0
  AcceptsFrom from count = (later : List (Move O R)) → IsFullyValid other later → Known from later → (ts : List (Turn O R A)) → ReceivesAll other later (items from count) ts → Accepts (from + count) later ts

  accept : (count from : ℕ) → AcceptsFrom from count
  accept zero from later also known ts none =
      subst (Accepts (from + 0) later) (sym none) (tt, λ _. subst (Known (from + 0)) (sym (append-nil later)) (let e : from ≡ from + 0 = omega arith in subst (λ (k : ℕ). Known k later) e known))
  accept (suc count) from later also known ts received = step (λ later also known ts rest. accept count (from + 1) later also known ts rest) (is_sent g tip here from) refl ts received
    where
      more : (ts : List (Turn O R A)) (later : List (Move O R)) → Accepts (from + 1 + count) later ts → Accepts (from + suc count) later ts
      more ts later = let e : from + 1 + count ≡ from + suc count = omega arith in subst (λ (k : ℕ). Accepts k later ts) e

      step : AcceptsFrom (from + 1) count → (b : Bool) → is_sent g tip here from ≡ b → (ts : List (Turn O R A)) → ReceivesAll other later (map item (cond b (from ∷ filter (is_sent g tip here) (range_with_len (from + 1) count)) (filter (is_sent g tip here) (range_with_len (from + 1) count)))) ts → Accepts (from + suc count) later ts
      step rest false is ts received = more ts later (rest later also (known-skipped from later also known is) ts received)
      step rest true is [] none = absurd none
      step rest true is (t ∷ ts) (first, inl (taken, behind)) =
          let received = received-as other later (item from) t first in
          let grown = turn-grown other later (item from) t also received in
          let below = more ts (later ++ t.made) (rest (later ++ t.made) grown.valid (known-taken from later also known t taken received) ts behind) in
          (((answered from later also known t is received).0, below.0), λ all. subst (Known (from + suc count)) (several other later t ts) (below.1 all.1))
      step rest true is (t ∷ ts) (first, inr (refused, none)) =
          let received = received-as other later (item from) t first in
          let alone_t : AllByRecursion IsAnswered (t ∷ ts) = ((answered from later also known t is received).0, subst (AllByRecursion IsAnswered) (sym none) tt) in
          (alone_t, λ all. absurd (refused all.0))

  -- and there are answers
  abbrev Answers : List (Move O R) → List Pair → Type 0
  Answers later list = (ts : List (Turn O R A)) × ReceivesAll other later list ts

  abbrev AnswersFrom : ℕ → ℕ → Type 0
  AnswersFrom from count = (later : List (Move O R)) → IsFullyValid other later → Known from later → Answers later (items from count)

  answer : (count from : ℕ) → AnswersFrom from count
  answer zero from later also known = ([], refl)
  answer (suc count) from later also known = step (λ later also known. answer count (from + 1) later also known) (is_sent g tip here from) refl
    where
      behind : AnswersFrom (from + 1) count → (t : Turn O R A) → Receives other later (item from) t → IsReceivedAs other later (item from) t → IsTaken t ⊎ ¬ IsTaken t → Answers later (item from ∷ items (from + 1) count)
      behind rest t first received (inl taken) =
          let grown = turn-grown other later (item from) t also received in
          let below = rest (later ++ t.made) grown.valid (known-taken from later also known t taken received) in
          (t ∷ below.0, (first, inl (taken, below.1)))
      behind rest t first received (inr refused) = (t ∷ [], (first, inr (refused, refl)))

      by-turn : AnswersFrom (from + 1) count → is_sent g tip here from ≡ true → (t : Turn O R A) → Receives other later (item from) t → Answers later (item from ∷ items (from + 1) count)
      by-turn rest is t first = let received = received-as other later (item from) t first in behind rest t first received (answered from later also known t is received).1

      found : AnswersFrom (from + 1) count → is_sent g tip here from ≡ true → (o : Option ℕ) → commit_at other later (item from) ≡ o → Answers later (item from ∷ items (from + 1) count)
      found rest is (Some n) there = by-turn rest is (answers (Here n)) (inl (n, there, refl))
      found rest is None none = let next = next-item from later also known is in by-turn rest is (full_turn other later next.0) (inr (inl (none, next.0, next.1, refl)))

      step : AnswersFrom (from + 1) count → (b : Bool) → is_sent g tip here from ≡ b → Answers later (map item (cond b (from ∷ filter (is_sent g tip here) (range_with_len (from + 1) count)) (filter (is_sent g tip here) (range_with_len (from + 1) count))))
      step rest true is = found rest is (commit_at other later (item from)) refl
      step rest false is = rest later also (known-skipped from later also known is)

  module _ (more : List (Move O R)) (also : IsFullyValid other more) (holds : (n : ℕ) → IsTrue (reaches g tip n) → 0 < n → is_sent g tip here n ≡ false → Held other more (item n)) where
    start : Known 0 more
    start = record { below = λ m is lt. absurd (omega arith); left = elim [ zero ↦ λ is none. root-held more | suc m ↦ λ is none. holds (suc m) is (omega arith) none ] }

    -- the tip is there behind all its items
    tip-there : (last : List (Move O R)) → IsFullyValid other last → Held other last (item tip)
        → (k : ℕ) × (addressed other last (address (commit_text ps tip)) ≡ Some k) × (item_at (pairs_of other (store_after other last).commits) k ≡ item tip)
    tip-there last done held =
        let qs = pairs_of other (store_after other last).commits in
        let test : Pair → Bool = λ p. same (address p.commit) (address (commit_text ps tip)) in
        let found = at-found other last (item tip) held.0 held.1 in
        let many = length-pairs_of other (store_after other last).commits in
        let get = get-pair qs held.0 found.0 in
        let passes : test get.0 ≡ true = ap (λ (x : List ℕ). same (address x) (address (commit_text ps tip))) (get.3 ∙ found.2) ∙ same-refl (address (commit_text ps tip)) in
        let some = position-some test 0 qs held.0 get.0 get.1 passes in
        let within = (position-within test 0 some.0 qs some.1).1 in
        let from_zero : some.0 ≡ 0 + some.0 = omega arith in
        let first = position-found test 0 some.0 some.0 qs some.1 from_zero in
        let texts : first.0.commit ≡ commit_text qs some.0 = sym (ap (λ o. option_map_or (λ (p : Pair). p.commit) o []) first.1) in
        let addresses : address (commit_text qs some.0) ≡ address (commit_text qs held.0) = ap address (sym texts) ∙ same-eq (address first.0.commit) (address (commit_text ps tip)) first.2 ∙ ap address (sym found.2) in
        let one_number : some.0 ≡ held.0 = one-address other laws size last done some.0 held.0 (omega (arith, within, many)) (omega (arith, found.0, many)) addresses in
        (some.0, some.1, ap (item_at qs) one_number ∙ ap (λ v. record { value = v; commit = commit_text qs held.0 }) found.1 ∙ ap (λ c. record { value = value_text ps tip; commit = c }) found.2)

    pub accepted : (ts : List (Turn O R A)) → ReceivesAll other more (map item (sent g tip here)) ts
        → AllByRecursion IsAnswered ts
        × (AllByRecursion IsTaken ts
        → let qs = pairs_of other (store_after other (more ++ made_by ts)).commits in
        (k : ℕ) × (addressed other (more ++ made_by ts) (address (commit_text ps tip)) ≡ Some k) × (item_at qs k ≡ item tip))
    accepted ts received =
        let all = accept (length g) 0 more also start ts received in
        let grown = all-grown other more (map item (sent g tip here)) ts also received in
        (all.0, λ taken. tip-there (more ++ made_by ts) grown.valid ((all.1 taken).below tip (reaches-self g kept-one.ordered.ranked tip) (omega (arith, stands, length-graph cs))))

    pub there-are : (ts : List (Turn O R A)) × ReceivesAll other more (map item (sent g tip here)) ts
    there-are = answer (length g) 0 more also start

    -- where nothing else is met, all are taken
    all-taken : (ts : List (Turn O R A)) → AllByRecursion IsAnswered ts → MeetsNothing ts → AllByRecursion IsTaken ts
    all-taken [] answered_all none = tt
    all-taken (t ∷ ts) answered_all none = (⊎_elim (λ taken. taken) (λ met. absurd (none.0 met.0 met.2 met.1)) answered_all.0, all-taken ts answered_all.1 none.1)

    pub taken-whole : (ts : List (Turn O R A)) → let b : Bundle = record { tip = address (commit_text ps tip); items = map item (sent g tip here) } in
        ReceivesAll other more b.items ts → MeetsNothing ts → (name : List ℕ) → branch_named (store_after other more).branches name ≡ None → fork_refusal others (more ++ made_by ts) ≡ None
        → let qs = pairs_of other (store_after other (more ++ made_by ts)).commits in
        (placed : Turn O R A) × (k : ℕ) × ReceivesBundle other more b name ts placed × (placed.outcome ≡ Forked (length (store_after other more).branches) k) × (item_at qs k ≡ item tip)
    taken-whole ts received none name named room =
        let all = accepted ts received in
        let taken = all-taken ts all.0 none in
        let there = all.1 taken in
        let after : List (Move O R) = more ++ made_by ts in
        let grown = all-grown other more (map item (sent g tip here)) ts also received in
        let placed = full_turn other after (Place name there.0) in
        let makes_one = free other after name there.0 (ap (λ bs. branch_named bs name) grown.branches ∙ named) room in (
          placed,
          there.0,
          record { received = received; taken = taken; tip = there.0; there = there.1; turn = refl },
          ap (λ (u : Turn O R A). u.outcome) makes_one ∙ ap (λ bs. Forked (length bs) there.0) grown.branches,
          there.2,
        )

    -- and so are its bytes
    pub bytes-taken : (ts : List (Turn O R A)) → let b : Bundle = record { tip = address (commit_text ps tip); items = map item (sent g tip here) } in
        IsBundle terms.layout b → ReceivesAll other more b.items ts → MeetsNothing ts → (name : List ℕ) → branch_named (store_after other more).branches name ≡ None → fork_refusal others (more ++ made_by ts) ≡ None
        → let number = length (store_after other more).branches in
        let qs = pairs_of other (store_after other (more ++ made_by ts)).commits in
        (k : ℕ) × ReceivesBytes other more (bundle_text terms.layout b) name (Placed (length (made_by ts)) number k) (made_by ts ++ move.Place name number k ∷ []) × (item_at qs k ≡ item tip)
    bytes-taken ts fits received none name named room =
        let b : Bundle = record { tip = address (commit_text ps tip); items = map item (sent g tip here) } in
        let all = accepted ts received in
        let taken = all-taken ts all.0 none in
        let there = all.1 taken in
        let after : List (Move O R) = more ++ made_by ts in
        let grown = all-grown other more (map item (sent g tip here)) ts also received in
        let makes_one = free other after name there.0 (ap (λ bs. branch_named bs name) grown.branches ∙ named) room in
        let outcome = ap (λ (u : Turn O R A). u.outcome) makes_one ∙ ap (λ bs. Forked (length bs) there.0) grown.branches in
        let made = ap (λ (u : Turn O R A). u.made) makes_one ∙ ap (λ bs. move.Place name (length bs) there.0 ∷ []) grown.branches in
        let good : IsBundle others.layout b = subst (λ l. IsBundle l b) layouts fits in
        (there.0, inr (named, inr (b, good, ap (λ l. bundle_text l b) layouts, (ts, (move.Place name (length (store_after other more).branches) there.0 ∷ []), received, (taken, there.1, outcome, refl, sym made), refl))), there.2)
