-- What a history has behind what it received.
use Rattle.std.proofs.Common.{◌≡◌, inl, inr, ℕ, ◌+◌, ◌<◌, arith, Bool, List, [], ◌∷◌, ◌++◌, length, refl, ap, sym, ◌∙◌, subst, Option, Some, append_assoc, append-nil, length-append}
use Rattle.std.specs.Option.{option_map_or}
use Rattle.std.specs.List.{AllByRecursion}
use Rattle.mrdt_model.specs.Laws.{Meaning}
use Rattle.branch_wire.specs.StoredObjects.{same}
use Rattle.branch_names.specs.declared.branch.Branch.{Branch}
use Rattle.branch_names.specs.declared.terms.Terms.{Terms}
use Rattle.branch_names.specs.Heads.{head_of, branch_named, with_branch}
use Rattle.branch_history.specs.declared.moves.Move.{Move}
use Rattle.branch_history.specs.Commits.{Commit}
use Rattle.branch_history.specs.Steps.{Sees, Forked, Landed, Merged, Joined, Forwarded, Same, New, Here, DroppedAt, Answered, Refused, Outcome, Turn}
use Rattle.branch_history.proofs.Later.{commits-longer}
use Rattle.branch_history.proofs.Lists.{AllByRecursion-more, position-within, position-found}
use Rattle.branch_machine.specs.Fixed.{Fixed, fix}
use Rattle.branch_machine.specs.Objects.{Pair, address_at, pairs_of, store_after}
use Rattle.branch_machine.specs.Machine.{commit_with, commit_at}
use Rattle.branch_machine.specs.Validity.{IsFullyValid, Receives}
use Rattle.branch_machine.proofs.Pairs.{length-pairs_of, pairs_of-longer}
use Rattle.branch_machine.proofs.Stored.{same-eq}
use Rattle.branch_bundle_laws.specs.Bundles.{Bundle}
use Rattle.branch_bundle_laws.specs.Text.{bundle_text, IsBundle}
use Rattle.branch_bundle_laws.specs.Receiving.{made_by, ReceivesAll, addressed, ReceivesBundle, Receipt, NoBundle, Stopped, NotPlaced, Placed, placing, EndsAs, ReceivesFree}
use Rattle.branch_bundle_laws.specs.Laws.{AddsItems, AddsAllItems, PlacesBranches}
use Rattle.branch_receipts.specs.Receipts.{KeepsCommits, AreKept, Keeps, HasNew, HasReceived}
use Rattle.branch_receipts.proofs.Places.{stays}

module _ {S O R Q A : Type 0} (fixed : Fixed S O R Q A) where
  -- more moves leave all commits
  pub commits-kept : (moves made : List (Move O R)) → KeepsCommits fixed moves made
  commits-kept moves made =
      let longer = commits-longer fixed.terms.origin moves made in
      let objects = pairs_of-longer fixed (store_after fixed moves).commits longer.more in
      record { more = longer.more; commits = longer.is; objects = objects.more; pairs = ap (pairs_of fixed) longer.is ∙ objects.is }

  -- the commit with an address has it
  tip-there : (moves : List (Move O R)) (tip : List ℕ) (k : ℕ) → addressed fixed moves tip ≡ Some k
      → let commits = (store_after fixed moves).commits in
      (k < length commits) × (address_at fixed.address (pairs_of fixed commits) k ≡ tip)
  tip-there moves tip k is =
      let commits : List (Commit O R) = (store_after fixed moves).commits in
      let pairs : List Pair = pairs_of fixed commits in
      let test : Pair → Bool = λ p. same (fixed.address p.commit) tip in
      let within = (position-within test 0 k pairs is).1 in
      let many = length-pairs_of fixed commits in
      let from_zero : k ≡ 0 + k = omega arith in
      let found = position-found test 0 k k pairs is from_zero in
      (omega (arith, within, many), ap (λ (o : Option Pair). fixed.address (option_map_or (λ p. p.commit) o [])) found.1 ∙ same-eq (fixed.address found.0.commit) tip found.2)

  -- what commits have, other moves with the same commits have too
  held-same : (moves later : List (Move O R)) → (store_after fixed later).commits ≡ (store_after fixed moves).commits → (items : List Pair)
      → AllByRecursion (λ item. (n : ℕ) × (commit_at fixed moves item ≡ Some n)) items → AllByRecursion (λ item. (n : ℕ) × (commit_at fixed later item ≡ Some n)) items
  unfolding commit_at
  held-same moves later is items held =
      AllByRecursion-more (λ item. (n : ℕ) × (commit_with (pairs_of fixed (store_after fixed moves).commits) item ≡ Some n)) (λ item. (n : ℕ) × (commit_with (pairs_of fixed (store_after fixed later).commits) item ≡ Some n)) items
      (λ item has. (has.0, ap (λ (cs : List (Commit O R)). commit_with (pairs_of fixed cs) item) is ∙ has.1)) held

  -- nothing more was made
  none-more : (moves made last : List (Move O R)) → last ≡ [] → moves ++ (made ++ last) ≡ moves ++ made
  none-more moves made last none = ap (λ (l : List (Move O R)). moves ++ (made ++ l)) none ∙ ap (λ (l : List (Move O R)). moves ++ l) (append-nil made)

module _ {S O R Q A : Type 0} (meaning : Meaning S O R Q A) (terms : Terms) (address : List ℕ → List ℕ) where
  abbrev fixed : Fixed S O R Q A
  fixed = fix meaning terms address

  abbrev commits_at : List (Move O R) → List (Commit O R)
  commits_at moves = (store_after fixed moves).commits

  abbrev branches_at : List (Move O R) → List Branch
  branches_at moves = (store_after fixed moves).branches

  -- each move that a turn makes is a new commit, and the history stays valid
  abbrev Counts : List (Move O R) → List (Move O R) → Type 0
  Counts moves made = IsFullyValid fixed (moves ++ made) × HasNew fixed moves made (length made)

  counts-none : (moves made : List (Move O R)) → IsFullyValid fixed moves → made ≡ [] → Counts moves made
  counts-none moves made valid none =
      let same_moves : moves ≡ moves ++ made = sym (append-nil moves) ∙ ap (λ (l : List (Move O R)). moves ++ l) (sym none) in
      (subst (IsFullyValid fixed) same_moves valid, ap (λ (l : List (Move O R)). length (commits_at l)) (sym same_moves) ∙ (let zero_made : length made ≡ 0 = ap length none in omega (arith, zero_made)))

  counts-turn : AddsItems meaning → (moves : List (Move O R)) → IsFullyValid fixed moves → (item : Pair) (t : Turn O R A) → Receives fixed moves item t → Counts moves t.made
  counts-turn adds moves valid item t received = by t.outcome refl
    where
      old : ((n : ℕ) → ¬ (t.outcome ≡ New n)) → Counts moves t.made
      old none = counts-none moves t.made valid ((adds terms address moves valid item t received).1 none)

      by : (o : Outcome A R) → t.outcome ≡ o → Counts moves t.made
      by (New n) is =
          let has = (adds terms address moves valid item t received).0 n is in
          let one_made : length t.made ≡ 1 = ap length has.one.2 in
          let longer : length (pairs_of fixed (commits_at (moves ++ t.made))) ≡ length (pairs_of fixed (commits_at moves)) + 1 = ap length has.pairs ∙ length-append (pairs_of fixed (commits_at moves)) (item ∷ []) in
          (has.valid, omega (arith, one_made, longer, length-pairs_of fixed (commits_at (moves ++ t.made)), length-pairs_of fixed (commits_at moves)))
      by (Sees n h) is = old (λ n new. let clash = sym is ∙ new in cc clash)
      by (Forked r h) is = old (λ n new. let clash = sym is ∙ new in cc clash)
      by (Landed c time reply) is = old (λ n new. let clash = sym is ∙ new in cc clash)
      by (Merged c) is = old (λ n new. let clash = sym is ∙ new in cc clash)
      by (Joined c) is = old (λ n new. let clash = sym is ∙ new in cc clash)
      by (Forwarded c) is = old (λ n new. let clash = sym is ∙ new in cc clash)
      by Same is = old (λ n new. let clash = sym is ∙ new in cc clash)
      by (Here c) is = old (λ n new. let clash = sym is ∙ new in cc clash)
      by (DroppedAt r h) is = old (λ n new. let clash = sym is ∙ new in cc clash)
      by (Answered a) is = old (λ n new. let clash = sym is ∙ new in cc clash)
      by (Refused r) is = old (λ n new. let clash = sym is ∙ new in cc clash)

  -- one behind another
  counts-both : (moves first second : List (Move O R)) → Counts moves first → Counts (moves ++ first) second → Counts moves (first ++ second)
  counts-both moves first second one two =
      let joined : (moves ++ first) ++ second ≡ moves ++ (first ++ second) = append_assoc moves first second in
      (subst (IsFullyValid fixed) joined two.0, ap (λ (l : List (Move O R)). length (commits_at l)) (sym joined) ∙ (let a = one.1 in let b = two.1 in omega (arith, a, b, length-append first second)))

  counts-all : AddsItems meaning → (moves : List (Move O R)) → IsFullyValid fixed moves → (items : List Pair) (ts : List (Turn O R A)) → ReceivesAll fixed moves items ts → Counts moves (made_by ts)
  counts-all adds moves valid [] ts none = counts-none moves (made_by ts) valid (ap (λ (l : List (Turn O R A)). made_by l) none)
  counts-all adds moves valid (item ∷ items) [] none = absurd none
  counts-all adds moves valid (item ∷ items) (t ∷ ts) (first, inl (taken, rest)) =
      let one = counts-turn adds moves valid item t first in
      counts-both moves t.made (made_by ts) one (counts-all adds (moves ++ t.made) one.0 items ts rest)
  counts-all adds moves valid (item ∷ items) (t ∷ ts) (first, inr (refused, none)) =
      let one = counts-turn adds moves valid item t first in
      counts-both moves t.made (made_by ts) one (counts-none (moves ++ t.made) (made_by ts) one.0 (ap (λ (l : List (Turn O R A)). made_by l) none))

  module _ (all : AddsAllItems meaning) (moves : List (Move O R)) (valid : IsFullyValid fixed moves) (name : List ℕ) where
    -- behind items
    pub items-keep : (items : List Pair) (ts : List (Turn O R A)) → ReceivesAll fixed moves items ts → Keeps fixed moves name (made_by ts)
    items-keep items ts received = record { commits = commits-kept fixed moves (made_by ts); branches = inl (all terms address moves valid items ts received).branches }

    -- and behind all of them and the branch
    pub bundle-keeps : (bundle : Bundle) (ts : List (Turn O R A)) (placed : Turn O R A) → ReceivesBundle fixed moves bundle name ts placed → Keeps fixed moves name (made_by ts ++ placed.made)
    bundle-keeps bundle ts placed received =
        let grown = all terms address moves valid bundle.items ts received.received in
        let after : List (Move O R) = moves ++ made_by ts in
        let kept : AreKept (branches_at after) name (branches_at (after ++ placed.made)) =
        subst (λ (t : Turn O R A). AreKept (branches_at after) name (branches_at (after ++ t.made))) (sym received.turn) (stays fixed after name received.tip).1 in
        let joined : after ++ placed.made ≡ moves ++ (made_by ts ++ placed.made) = append_assoc moves (made_by ts) placed.made in
        record {
          commits = commits-kept fixed moves (made_by ts ++ placed.made);
          branches = subst (λ (l : List (Move O R)). AreKept (branches_at moves) name (branches_at l)) joined (subst (λ (bs : List Branch). AreKept bs name (branches_at (after ++ placed.made))) grown.branches kept);
        }

    module _ (adds : AddsItems meaning) (places : PlacesBranches meaning) (bytes : List ℕ) where
      abbrev Has : Receipt → List (Move O R) → Type 0
      Has receipt made = HasReceived fixed moves bytes name made receipt

      -- the branch that was placed
      placed-has : (b : Bundle) → IsBundle terms.layout b → bytes ≡ bundle_text terms.layout b → (ts : List (Turn O R A)) → ReceivesAll fixed moves b.items ts
          → (count number head : ℕ) (last : List (Move O R)) → EndsAs fixed (moves ++ made_by ts) b.tip name ts (Placed count number head) last → Has (Placed count number head) (made_by ts ++ last)
      placed-has b fits text ts received count number head last ends =
          let after : List (Move O R) = moves ++ made_by ts in
          let t : Turn O R A = placing fixed after name head in
          let grown = all terms address moves valid b.items ts received in
          let whole : after ++ t.made ≡ moves ++ (made_by ts ++ last) = append_assoc moves (made_by ts) t.made ∙ ap (λ (l : List (Move O R)). moves ++ (made_by ts ++ l)) (sym ends.4) in
          let now : List (Move O R) = moves ++ (made_by ts ++ last) in
          let placed = places terms address moves b name ts t number head (record { received = received; taken = ends.0; tip = head; there = ends.1; turn = refl }) ends.2 in
          let stood : head_of (branches_at now) number ≡ head = ap (λ (l : List (Move O R)). head_of (branches_at l) number) (sym whole) ∙ placed.0 in
          let named : branch_named (branches_at now) name ≡ Some number = ap (λ (l : List (Move O R)). branch_named (branches_at l) name) (sym whole) ∙ placed.1 in
          let branches : branches_at now ≡ with_branch (branches_at after) name head = ap (λ (l : List (Move O R)). branches_at l) (sym whole) ∙ placed.2 in
          let commits : commits_at now ≡ commits_at after = ap (λ (l : List (Move O R)). commits_at l) (sym whole) ∙ placed.3 in
          let counted = (counts-all adds moves valid b.items ts received).1 in
          let tip = tip-there fixed after b.tip head ends.1 in
          record {
            commits = commits-kept fixed moves (made_by ts ++ last);
            branches = branches ∙ ap (λ (bs : List Branch). with_branch bs name head) grown.branches;
            placed = (
              ap length commits ∙ counted ∙ ap (λ (k : ℕ). length (commits_at moves) + k) (sym ends.3),
              b,
              fits,
              text,
              record {
                items = held-same fixed after now commits b.items (grown.here ends.0);
                there = subst (λ (cs : List (Commit O R)). head < length cs) (sym commits) tip.0;
                tip = ap (λ (cs : List (Commit O R)). address_at address (pairs_of fixed cs) head) commits ∙ tip.1;
                named = named;
                stands = stood;
              },
            );
          }

      -- or none was
      unplaced-branches : (items : List Pair) (ts : List (Turn O R A)) → ReceivesAll fixed moves items ts → (last : List (Move O R)) → last ≡ [] → branches_at (moves ++ (made_by ts ++ last)) ≡ branches_at moves
      unplaced-branches items ts received last none = ap (λ (l : List (Move O R)). branches_at l) (none-more fixed moves (made_by ts) last none) ∙ (all terms address moves valid items ts received).branches

      ends-have : (b : Bundle) → IsBundle terms.layout b → bytes ≡ bundle_text terms.layout b → (ts : List (Turn O R A)) → ReceivesAll fixed moves b.items ts
          → (receipt : Receipt) (last : List (Move O R)) → EndsAs fixed (moves ++ made_by ts) b.tip name ts receipt last → Has receipt (made_by ts ++ last)
      ends-have b fits text ts received NoBundle last ends = record { commits = commits-kept fixed moves (made_by ts ++ last); branches = unplaced-branches b.items ts received last ends.2; placed = tt }
      ends-have b fits text ts received (Stopped i r) last ends = record { commits = commits-kept fixed moves (made_by ts ++ last); branches = unplaced-branches b.items ts received last ends.2; placed = tt }
      ends-have b fits text ts received (NotPlaced r) last ends = record { commits = commits-kept fixed moves (made_by ts ++ last); branches = unplaced-branches b.items ts received last ends.2; placed = tt }
      ends-have b fits text ts received (Placed count number head) last ends = placed-has b fits text ts received count number head last ends

      unread-has : Has NoBundle []
      unread-has = record { commits = commits-kept fixed moves []; branches = ap (λ (l : List (Move O R)). branches_at l) (append-nil moves); placed = tt }

      pub received-has : (receipt : Receipt) (made : List (Move O R)) → ReceivesFree fixed moves bytes name receipt made → Has receipt made
      received-has receipt made (inl (never, is, none)) = subst (λ (r : Receipt). Has r made) (sym is) (subst (Has NoBundle) (sym none) unread-has)
      received-has receipt made (inr (b, fits, text, (ts, last, received, ends, is))) = subst (Has receipt) (sym is) (ends-have b fits text ts received receipt last ends)
