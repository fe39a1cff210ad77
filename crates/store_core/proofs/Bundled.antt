-- The marks of commits, and the items of those that are sent.
use Rattle.std.proofs.Common.{zero, suc, ◌≡◌, ℕ, ◌+◌, ◌<◌, Bool, true, false, cond, ◌||◌, ◌&&◌, ◌==◌, List, [], ◌∷◌, ◌++◌, length, map, refl, ap, sym, ◌∙◌, subst, arith, append-nil, IsTrue, Option, Some, None, slice_get}
use Rattle.std.specs.Prelude.{not, filter}
use Rattle.std.specs.List.{list_any, range_with_len}
use Rattle.std.proofs.lemmas.Bool.{eq-eqb, eqb-true, both_ways}
use Rattle.std.proofs.lemmas.List.{map-append, length-map}
use Rattle.std.proofs.lemmas.List.Folds.{list_any-append}
use Rattle.branch_wire.specs.StoredObjects.{same}
use Rattle.mrdt_model.specs.Laws.{KeepsLaws}
use Rattle.branch_graph.specs.Graph.{reaches, any_reaches}
use Rattle.branch_graph.proofs.Members.{same_truth}
use Rattle.branch_history.specs.declared.moves.Move.{Move}
use Rattle.branch_history.specs.Commits.{graph_of}
use Rattle.branch_history.proofs.Lists.{position-none, position-within, position-found}
use Rattle.branch_machine.specs.Fixed.{Fixed}
use Rattle.branch_machine.specs.Objects.{Pair, address_at, pairs_of, store_after}
use Rattle.branch_machine.specs.Laws.{HasSize}
use Rattle.branch_machine.specs.Validity.{IsFullyValid}
use Rattle.branch_machine.proofs.Stored.{same-eq, same-refl}
use Rattle.branch_machine.proofs.Pairs.{length-pairs_of}
use Rattle.branch_machine.proofs.Distinct.{valid-sound}
use Rattle.recorded_history.specs.Machine.{addresses_of, commit_of_address}
use Rattle.recorded_history.proofs.Steps.{address-found}
use Rattle.recorded_history.proofs.Found.{pair-there}
use Rattle.branch_bundle_laws.specs.Bundles.{Bundle as Plain, commits_here, is_sent, sent, item_at}
use Rattle.branch_bundle.specs.declared.bundle.Bundle.{Bundle}
use Rattle.branch_bundle.specs.declared.bundle.Item.{Item}
use Rattle.branch_bundle.specs.Held.{pair_of, numbered}
use Rattle.branch_compact.specs.Marks.{is_marked, AreMarkedBelow}
use Rattle.branch_compact.proofs.Live.{any-at, any-found}
use Rattle.store_core.specs.Bundling.{IsBundleOf, with_number, is_here, is_number, marked_alone, items_below}

-- marks that began on one commit, without that of commit 0
pub tip-marked : (graph : List (List ℕ)) (tip : ℕ) (none first below last : List Bool) → ((n : ℕ) → is_marked none n ≡ false)
    → ((n : ℕ) → is_marked first n ≡ (is_marked none n || (tip == n))) → AreMarkedBelow graph first below
    → ((n : ℕ) → is_marked last n ≡ (is_marked below n && not (n == 0))) → (n : ℕ) → is_marked last n ≡ (reaches graph tip n && not (n == 0))
tip-marked graph tip none first below last empty begin marked cut n = cut n ∙ ap (λ b. b && not (n == 0)) (same_truth (is_marked below n) (reaches graph tip n) forth back)
  where
    only : (k : ℕ) → is_marked first k ≡ (tip == k)
    only k = begin k ∙ ap (λ b. b || (tip == k)) (empty k)

    forth : IsTrue (is_marked below n) → IsTrue (reaches graph tip n)
    forth is =
        let from = marked.only n is in
        ap (λ k. reaches graph k n) (eqb-true tip from.0 (sym (only from.0) ∙ from.1)) ∙ from.2

    back : IsTrue (reaches graph tip n) → IsTrue (is_marked below n)
    back is = marked.reached tip n (only tip ∙ eq-eqb tip tip refl) is

-- marks that began on some commits
pub some-marked : (graph : List (List ℕ)) (here : ℕ → Bool) (ns : List ℕ) (none first below : List Bool) → ((n : ℕ) → is_marked none n ≡ false)
    → ((n : ℕ) → is_marked first n ≡ (is_marked none n || here n))
    → ((k : ℕ) → here k ≡ true → (i : ℕ) × (slice_get ns i ≡ Some k)) → ((i k : ℕ) → slice_get ns i ≡ Some k → here k ≡ true)
    → AreMarkedBelow graph first below → (n : ℕ) → is_marked below n ≡ any_reaches graph ns n
some-marked graph here ns none first below empty begin listed of marked n = same_truth (is_marked below n) (any_reaches graph ns n) forth back
  where
    only : (k : ℕ) → is_marked first k ≡ here k
    only k = begin k ∙ ap (λ b. b || here k) (empty k)

    forth : IsTrue (is_marked below n) → IsTrue (any_reaches graph ns n)
    forth is =
        let from = marked.only n is in
        let at = listed from.0 (sym (only from.0) ∙ from.1) in
        any-at (λ k. reaches graph k n) ns at.0 from.0 at.1 from.2

    back : IsTrue (any_reaches graph ns n) → IsTrue (is_marked below n)
    back is =
        let found = any-found (λ k. reaches graph k n) ns is in
        marked.reached found.1 n (only found.1 ∙ of found.0 found.1 found.2) found.3

-- with one more address
pub here-more : {S O R Q A : Type 0} (fixed : Fixed S O R Q A) (moves : List (Move O R)) (here : List (List ℕ)) (a : List ℕ) (n : ℕ) → is_here fixed moves (here ++ a ∷ []) n ≡ (is_here fixed moves here n || is_number (commit_of_address fixed moves a) n)
here-more fixed moves here a n =
    list_any-append (λ b. is_number (commit_of_address fixed moves b) n) here (a ∷ []) ∙ ap (λ b. is_here fixed moves here n || b) (or-false (is_number (commit_of_address fixed moves a) n))
  where
    or-false : (b : Bool) → (b || false) ≡ b
    or-false true = refl
    or-false false = refl

-- rows of numbers
row-push : (a n k : ℕ) → k ≡ a + n → range_with_len a (suc n) ≡ range_with_len a n ++ k ∷ []
row-push a zero k is = let here : a ≡ k = omega (arith, is) in ap (λ (j : ℕ). j ∷ []) here
row-push a (suc n) k is = ap (λ (l : List ℕ). a ∷ l) (row-push (a + 1) n k (omega (arith, is)))

filter-push : {X : Type 0} (f : X → Bool) (xs : List X) (x : X) → filter f (xs ++ x ∷ []) ≡ filter f xs ++ cond (f x) (x ∷ []) []
filter-push f [] x = at (f x)
  where
    at : (b : Bool) → cond b (x ∷ []) [] ≡ [] ++ cond b (x ∷ []) []
    at true = refl
    at false = refl
filter-push f (y ∷ ys) x = at (f y) (filter-push f ys x)
  where
    at : (b : Bool) → filter f (ys ++ x ∷ []) ≡ filter f ys ++ cond (f x) (x ∷ []) [] → cond b (y ∷ filter f (ys ++ x ∷ [])) (filter f (ys ++ x ∷ [])) ≡ cond b (y ∷ filter f ys) (filter f ys) ++ cond (f x) (x ∷ []) []
    at true is = ap (λ l. y ∷ l) is
    at false is = is

-- one more is numbered
numbered-push : (n k : ℕ) (ps : List Pair) (p : Pair) → k ≡ n + length ps → numbered n (ps ++ p ∷ []) ≡ numbered n ps ++ with_number p k ∷ []
numbered-push n k [] p is = ap (λ (j : ℕ). with_number p j ∷ []) (omega (arith, is))
numbered-push n k (q ∷ ps) p is = ap (λ (l : List Item). with_number q n ∷ l) (numbered-push (n + 1) k ps p (omega (arith, is)))

length-numbered : (n : ℕ) (ps : List Pair) → length (numbered n ps) ≡ length ps
length-numbered n [] = refl
length-numbered n (p ∷ ps) = ap suc (length-numbered (n + 1) ps)

-- without the numbers
plain-numbered : (n : ℕ) (ps : List Pair) → map pair_of (numbered n ps) ≡ ps
plain-numbered n [] = refl
plain-numbered n (p ∷ ps) = ap (λ (l : List Pair). p ∷ l) (plain-numbered (n + 1) ps)

module _ (ps : List Pair) (reached held : List Bool) where
  abbrev item : ℕ → Pair
  item = item_at ps

  alone-push : (n : ℕ) → marked_alone reached held (n + 1) ≡ marked_alone reached held n ++ cond (is_marked reached n && not (is_marked held n)) (n ∷ []) []
  alone-push n =
      let next : n + 1 ≡ suc n = omega arith in
      let own : n ≡ 0 + n = omega arith in
      ap (marked_alone reached held) next
      ∙ ap (filter (λ k. is_marked reached k && not (is_marked held k))) (row-push 0 n n own)
      ∙ filter-push (λ k. is_marked reached k && not (is_marked held k)) (range_with_len 0 n) n

  pub items-none : (items : List Item) → items ≡ [] → items ≡ items_below ps reached held 0
  items-none items is = is

  -- the next commit is sent
  pub items-sent : (n : ℕ) (items next : List Item) → items ≡ items_below ps reached held n → (is_marked reached n && not (is_marked held n)) ≡ true
      → next ≡ items ++ with_number (item n) (length items + 1) ∷ [] → next ≡ items_below ps reached held (n + 1)
  items-sent n items next is passes pushed =
      let ns : List ℕ = marked_alone reached held n in
      let row : marked_alone reached held (n + 1) ≡ ns ++ n ∷ [] = alone-push n ∙ ap (λ b. ns ++ cond b (n ∷ []) []) passes in
      let many : length items + 1 ≡ 1 + length (map item ns) = omega (arith, ap length is, length-numbered 1 (map item ns)) in
      pushed ∙ ap (λ (l : List Item). l ++ with_number (item n) (length items + 1) ∷ []) is
      ∙ sym (numbered-push 1 (length items + 1) (map item ns) (item n) many)
      ∙ ap (numbered 1) (sym (map-append item ns (n ∷ []))) ∙ ap (λ (l : List ℕ). numbered 1 (map item l)) (sym row)

  -- or it is not
  pub items-same : (n : ℕ) (items : List Item) → items ≡ items_below ps reached held n → (is_marked reached n && not (is_marked held n)) ≡ false → items ≡ items_below ps reached held (n + 1)
  items-same n items is fails =
      let ns : List ℕ = marked_alone reached held n in
      let row : marked_alone reached held (n + 1) ≡ ns = alone-push n ∙ ap (λ b. ns ++ cond b (n ∷ []) []) fails ∙ append-nil ns in
      is ∙ ap (λ (l : List ℕ). numbered 1 (map item l)) (sym row)

-- where a test passes
module _ {X : Type 0} (f : X → Bool) where
  filter-get : (xs : List X) (j : ℕ) (x : X) → slice_get xs j ≡ Some x → f x ≡ true → (i : ℕ) × (slice_get (filter f xs) i ≡ Some x)
  filter-get [] j x at is = absurd (cc)
  filter-get (y ∷ ys) zero x at is =
      let here : y ≡ x = cc at in
      (zero, ap (λ b. slice_get (cond b (y ∷ filter f ys) (filter f ys)) zero) (ap f here ∙ is) ∙ at)
  filter-get (y ∷ ys) (suc j) x at is = step (f y) (filter-get ys j x at is)
    where
      step : (b : Bool) → (i : ℕ) × (slice_get (filter f ys) i ≡ Some x) → (i : ℕ) × (slice_get (cond b (y ∷ filter f ys) (filter f ys)) i ≡ Some x)
      step true rest = (suc rest.0, rest.1)
      step false rest = rest

  get-filter : (xs : List X) (i : ℕ) (x : X) → slice_get (filter f xs) i ≡ Some x → (j : ℕ) × (slice_get xs j ≡ Some x) × (f x ≡ true)
  get-filter [] i x at = absurd (cc)
  get-filter (y ∷ ys) i x at = step i (f y) refl at (λ k there. get-filter ys k x there)
    where
      step : (i : ℕ) (b : Bool) → f y ≡ b → slice_get (cond b (y ∷ filter f ys) (filter f ys)) i ≡ Some x → ((k : ℕ) → slice_get (filter f ys) k ≡ Some x → (j : ℕ) × (slice_get ys j ≡ Some x) × (f x ≡ true)) → (j : ℕ) × (slice_get (y ∷ ys) j ≡ Some x) × (f x ≡ true)
      step zero true e there rest = let here : y ≡ x = cc there in (zero, there, ap f (sym here) ∙ e)
      step (suc k) true e there rest = let found = rest k there in (suc found.0, found.1, found.2)
      step k false e there rest = let found = rest k there in (suc found.0, found.1, found.2)

row-get : (a n k j : ℕ) → k < n → j ≡ a + k → slice_get (range_with_len a n) k ≡ Some j
row-get a zero k j lt is = absurd (omega (arith, lt))
row-get a (suc n) zero j lt is = let here : a ≡ j = omega (arith, is) in ap Some here
row-get a (suc n) (suc k) j lt is = row-get (a + 1) n k j (omega (arith, lt)) (omega (arith, is))

get-row : (a n i k : ℕ) → slice_get (range_with_len a n) i ≡ Some k → k < a + n
get-row a zero i k at = absurd (cc)
get-row a (suc n) zero k at = let here : a ≡ k = cc at in omega (arith, here)
get-row a (suc n) (suc i) k at = let rest = get-row (a + 1) n i k at in omega (arith, rest)

filter-same : {X : Type 0} (f g : X → Bool) → ((x : X) → f x ≡ g x) → (xs : List X) → filter f xs ≡ filter g xs
filter-same f g same_as [] = refl
filter-same f g same_as (x ∷ xs) = ap (λ b. cond b (x ∷ filter f xs) (filter f xs)) (same_as x) ∙ ap (λ l. cond (g x) (x ∷ l) l) (filter-same f g same_as xs)

address-get : (address : List ℕ → List ℕ) (ps : List Pair) (k : ℕ) → k < length ps → slice_get (map (λ p. address p.commit) ps) k ≡ Some (address_at address ps k)
address-get address [] k lt = absurd (omega (arith, lt))
address-get address (p ∷ ps) zero lt = refl
address-get address (p ∷ ps) (suc k) lt = address-get address ps k (omega (arith, lt))

-- what is found stands there
pub address-within : {S O R Q A : Type 0} (fixed : Fixed S O R Q A) (moves : List (Move O R)) (a : List ℕ) (k : ℕ) → commit_of_address fixed moves a ≡ Some k → k < length (store_after fixed moves).commits
address-within fixed moves a k is =
    let ps : List Pair = pairs_of fixed (store_after fixed moves).commits in
    let within = position-within (same a) 0 k (addresses_of fixed moves) is in
    let less = within.1 in
    let many = length-map ps (λ p. fixed.address p.commit) in
    let count = length-pairs_of fixed (store_after fixed moves).commits in
    omega (arith, less, many, count)

-- there is an item of each commit, and an address
pub item-there : {S O R Q A : Type 0} (fixed : Fixed S O R Q A) (moves : List (Move O R)) (k : ℕ) → k < length (store_after fixed moves).commits → None ≡ slice_get (pairs_of fixed (store_after fixed moves).commits) k → ⊥
item-there fixed moves k lt none =
    let ps : List Pair = pairs_of fixed (store_after fixed moves).commits in
    let count = length-pairs_of fixed (store_after fixed moves).commits in
    let some = pair-there ps k (omega (arith, lt, count)) ∙ sym none in
    cc

pub address-of-all : {S O R Q A : Type 0} (fixed : Fixed S O R Q A) (moves : List (Move O R)) (k : ℕ) → k < length (store_after fixed moves).commits → None ≡ slice_get (addresses_of fixed moves) k → ⊥
address-of-all fixed moves k lt none =
    let ps : List Pair = pairs_of fixed (store_after fixed moves).commits in
    let count = length-pairs_of fixed (store_after fixed moves).commits in
    let some = address-get fixed.address ps k (omega (arith, lt, count)) in
    let both = none ∙ some in
    cc

-- the history that is written, where no move is pending
pub written-valid : {S O R Q A : Type 0} (fixed : Fixed S O R Q A) (written pending : List (Move O R)) → pending ≡ [] → IsFullyValid fixed (written ++ pending) → IsFullyValid fixed written
written-valid {S} {O} {R} fixed written pending none valid = subst (λ (l : List (Move O R)). IsFullyValid fixed l) (ap (λ (l : List (Move O R)). written ++ l) none ∙ append-nil written) valid

number-is : (o : Option ℕ) (n : ℕ) → is_number o n ≡ true → o ≡ Some n
number-is None n is = absurd (cc)
number-is (Some m) n is = ap Some (eqb-true m n is)

module _ {S O R Q A : Type 0} (fixed : Fixed S O R Q A) (laws : KeepsLaws fixed.meaning) (size : HasSize fixed.address) (moves : List (Move O R)) (valid : IsFullyValid fixed moves) where
  abbrev pairs : List Pair
  pairs = pairs_of fixed (store_after fixed moves).commits

  abbrev addresses : List (List ℕ)
  addresses = addresses_of fixed moves

  count : length pairs ≡ length (store_after fixed moves).commits
  count = length-pairs_of fixed (store_after fixed moves).commits

  counted : length addresses ≡ length pairs
  counted = length-map pairs (λ p. fixed.address p.commit)

  one-number : (j k : ℕ) → j < length pairs → k < length pairs → address_at fixed.address pairs j ≡ address_at fixed.address pairs k → j ≡ k
  one-number j k lt le is =
      let sound = valid-sound fixed laws size moves valid in
      let same_count = count in
      let low : j < length (store_after fixed moves).commits = omega (arith, lt, same_count) in
      let other : k < length (store_after fixed moves).commits = omega (arith, le, same_count) in
      sound.distinct j k low other (sound.one j k low other is)

  -- the address of a commit that is found is the one that was asked for
  found-address : (a : List ℕ) (k : ℕ) → commit_of_address fixed moves a ≡ Some k → (k < length pairs) × (address_at fixed.address pairs k ≡ a)
  found-address a k is =
      let zero_k : k ≡ 0 + k = omega arith in
      let found = position-found (same a) 0 k k addresses is zero_k in
      let within = position-within (same a) 0 k addresses is in
      let many = counted in
      let less = within.1 in
      (omega (arith, less, many), address-found fixed.address pairs k found.0 found.1 ∙ sym (same-eq a found.0 found.2))

  -- a commit is found by its own address
  address-there : (k : ℕ) → k < length pairs → commit_of_address fixed moves (address_at fixed.address pairs k) ≡ Some k
  address-there k lt = step (commit_of_address fixed moves (address_at fixed.address pairs k)) refl
    where
      step : (o : Option ℕ) → commit_of_address fixed moves (address_at fixed.address pairs k) ≡ o → commit_of_address fixed moves (address_at fixed.address pairs k) ≡ Some k
      step None none =
          let a : List ℕ = address_at fixed.address pairs k in
          absurd (both_ways (same a a) (position-none (same a) 0 addresses k a none (address-get fixed.address pairs k lt)) (same-refl a))
      step (Some j) is = let found = found-address (address_at fixed.address pairs k) j is in is ∙ ap Some (one-number j k found.0 lt found.1)

  module _ (here : List (List ℕ)) where
    abbrev ns : List ℕ
    ns = commits_here fixed.address pairs here

    abbrev is_listed : ℕ → Bool
    is_listed n = list_any (same (address_at fixed.address pairs n)) here

    pub here-listed : (k : ℕ) → is_here fixed moves here k ≡ true → (i : ℕ) × (slice_get ns i ≡ Some k)
    here-listed k is =
        let any = any-found (λ a. is_number (commit_of_address fixed moves a) k) here is in
        let found = found-address any.1 k (number-is (commit_of_address fixed moves any.1) k any.3) in
        let passes : list_any (same (address_at fixed.address pairs k)) here ≡ true =
        any-at (same (address_at fixed.address pairs k)) here any.0 any.1 any.2 (ap (λ b. same b any.1) found.1 ∙ same-refl any.1) in
        filter-get is_listed (range_with_len 0 (length pairs)) k k (row-get 0 (length pairs) k k found.0 (omega arith)) passes

    pub listed-here : (i k : ℕ) → slice_get ns i ≡ Some k → is_here fixed moves here k ≡ true
    listed-here i k at =
        let found = get-filter is_listed (range_with_len 0 (length pairs)) i k at in
        let lt = get-row 0 (length pairs) found.0 k found.1 in
        let any = any-found (same (address_at fixed.address pairs k)) here found.2 in
        let own : any.1 ≡ address_at fixed.address pairs k = sym (same-eq (address_at fixed.address pairs k) any.1 any.3) in
        any-at (λ a. is_number (commit_of_address fixed moves a) k) here any.0 any.1 any.2
        (ap (λ a. is_number (commit_of_address fixed moves a) k) own ∙ ap (λ o. is_number o k) (address-there k (omega (arith, lt))) ∙ eq-eqb k k refl)

    -- the items of the commits that are sent, and the address of the tip
    pub bundle-is : (tip : ℕ) (reached held : List Bool) (address : List ℕ) (items : List Item) (b : Bundle)
        → length reached ≡ length (graph_of (store_after fixed moves).commits)
        → ((n : ℕ) → is_marked reached n ≡ (reaches (graph_of (store_after fixed moves).commits) tip n && not (n == 0)))
        → ((n : ℕ) → is_marked held n ≡ any_reaches (graph_of (store_after fixed moves).commits) ns n)
        → slice_get addresses tip ≡ Some address → items ≡ items_below pairs reached held (length reached)
        → b.tip ≡ address → b.items ≡ items → IsBundleOf fixed moves tip here b
    bundle-is tip reached held address items b many first other at listed tip_is items_are =
        let graph : List (List ℕ) = graph_of (store_after fixed moves).commits in
        let row : marked_alone reached held (length reached) ≡ sent graph tip ns =
        filter-same (λ n. is_marked reached n && not (is_marked held n)) (is_sent graph tip ns) (λ n. ap (λ x. x && not (is_marked held n)) (first n) ∙ ap (λ x. (reaches graph tip n && not (n == 0)) && not x) (other n)) (range_with_len 0 (length reached))
        ∙ ap (λ k. filter (is_sent graph tip ns) (range_with_len 0 k)) many in
        let ps : List Pair = map (item_at pairs) (sent graph tip ns) in
        let all : b.items ≡ numbered 1 ps = items_are ∙ listed ∙ ap (λ l. numbered 1 (map (item_at pairs) l)) row in
        let bare : map pair_of b.items ≡ ps = ap (map pair_of) all ∙ plain-numbered 1 ps in
        let end : b.tip ≡ address_at fixed.address pairs tip = tip_is ∙ sym (address-found fixed.address pairs tip address at) in
        record {
          is = ap (λ (t : List ℕ). let p : Plain = record { tip = t; items = map pair_of b.items } in p) end ∙ ap (λ (l : List Pair). let p : Plain = record { tip = address_at fixed.address pairs tip; items = l } in p) bare;
          numbers = all ∙ ap (numbered 1) (sym bare);
        }

    -- by the graph that was made of the moves
    pub bundle-sent : (tip : ℕ) (reached held : List Bool) (address : List ℕ) (items : List Item) (b : Bundle) (graph : List (List ℕ)) → graph ≡ graph_of (store_after fixed moves).commits
        → length reached ≡ length graph → ((n : ℕ) → is_marked reached n ≡ (reaches graph tip n && not (n == 0))) → ((n : ℕ) → is_marked held n ≡ any_reaches graph ns n)
        → slice_get addresses tip ≡ Some address → (first other : List Bool) → first ≡ reached → other ≡ held → items ≡ items_below pairs first other (length first)
        → b.tip ≡ address → b.items ≡ items → IsBundleOf fixed moves tip here b
    bundle-sent tip reached held address items b graph is many first_marks other_marks at first other same same_other listed tip_is items_are =
        bundle-is tip reached held address items b
        (many ∙ ap length is)
        (λ n. first_marks n ∙ ap (λ (g : List (List ℕ)). reaches g tip n && not (n == 0)) is)
        (λ n. other_marks n ∙ ap (λ (g : List (List ℕ)). any_reaches g ns n) is)
        at
        (listed ∙ ap (λ (l : List Bool). items_below pairs l other (length l)) same ∙ ap (λ (l : List Bool). items_below pairs reached l (length reached)) same_other)
        tip_is items_are
