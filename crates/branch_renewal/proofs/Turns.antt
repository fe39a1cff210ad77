-- The turns of a machine behind a renewed history.
use Rattle.std.proofs.Common.{◌≡◌, ◌⊎◌, inl, inr, ℕ, ◌+◌, ◌<◌, ◌≤◌, Bool, true, false, List, [], ◌∷◌, ◌++◌, length, refl, ap, sym, ◌∙◌, subst, Option, Some, None, IsTrue, arith}
use Rattle.std.specs.Prelude.{nat_le, nat_lt, not, if◌then◌else◌, ◌==◌}
use Rattle.std.specs.Option.{option_map}
use Rattle.std.specs.List.{AllByRecursion}
use Rattle.mrdt_model.specs.Laws.{Meaning, Lawful, KeepsLaws}
use Rattle.mrdt_renewal.specs.Renewals.{Renews, renewed_events}
use Rattle.branch_wire.specs.StoredObjects.{collision}
use Rattle.branch_graph.specs.Graph.{reaches}
use Rattle.branch_history.specs.declared.moves.Move.{Move}
use Rattle.branch_history.specs.declared.moves.Move.TheVariants as move
use Rattle.branch_names.specs.declared.branch.Branch.{Branch}
use Rattle.branch_names.specs.declared.terms.Terms.{Terms}
use Rattle.branch_names.specs.Heads.{name_of, head_of, is_dropped, branch_named, IsKeptBranch, AreDistinct}
use Rattle.branch_names.proofs.Branches.{branch_named-none, branch_named-kept, branch_named-is}
use Rattle.branch_history.specs.Commits.{Commit, graph_of, clock_of, visible, all_events}
use Rattle.branch_history.specs.Merging.{brought}
use Rattle.branch_history.specs.History.{Store, store_of}
use Rattle.branch_history.specs.Steps.{Step, Turn, Outcome, Refusal, Refused, Exhausted, ValueTooLarge, FullMoves, FullCommits, FullBranches, Dropped, Stale, Collision, Landed, Merged, Forwarded, Forked}
use Rattle.branch_history.specs.Steps as machine
use Rattle.branch_history.specs.Machine.{refusal_if, operation_refusal, merge_refusal, move_refusal, room_refusal, fork_refusal, forward_refusal, commit_refusal, event_made, event_length, answers, makes, unless, fork_turn, land_turn, merge_turn, turn}
use Rattle.branch_history.specs.Laws.{IsOrdered}
use Rattle.branch_history.specs.Validity.{IsStep, IsValid}
use Rattle.branch_history.proofs.Valid.{IsFork, IsOperation, IsMerge, IsForward, IsAccepted, IsAccepted-from, refusal_if-none, commit-tells, forward-tells}
use Rattle.branch_history.proofs.Merging.{brought-one}
use Rattle.branch_history.proofs.Kept.{IsKept, visible-closed, closed-lawful}
use Rattle.branch_history.proofs.Histories.{valid-kept}
use Rattle.branch_machine.specs.Fixed.{Form, FixedIn, fix_in}
use Rattle.branch_machine.specs.Objects.{objects_of, new_objects, store_after}
use Rattle.branch_machine.specs.Machine.{collision_refusal, unless_made, full_turn}
use Rattle.branch_machine.specs.Validity.{IsFullMove, IsFullyValidAfter, IsFullyValid}
use Rattle.branch_machine.proofs.Valid.{full_move-is, valid-before, valid-none, valid-more}
use Rattle.branch_renewal.specs.Renewed.{renewed, renewed_moves, renewed_commits, renewed_store}
use Rattle.branch_renewal.specs.Laws.{IsOfFirstKinds, MakesAgain, IsOfBytes, MakesOrRefuses, Repeats, RepeatsAll}
use Rattle.branch_renewal.proofs.Stores.{length-mapped, mapped-append, graph-renewed, clock-renewed, visible-renewed, store-renewed}

-- the branch that has the name of one that was not dropped is that one
named_some : (branches : List Branch) (r : ℕ) (o : Option ℕ) → AreDistinct branches → IsKeptBranch branches r → branch_named branches (name_of branches r) ≡ o → branch_named branches (name_of branches r) ≡ Some r
named_some branches r None distinct kept is = absurd (branch_named-none branches (name_of branches r) r is kept refl)
named_some branches r (Some q) distinct kept is =
    is ∙ ap Some (distinct q r (branch_named-kept branches (name_of branches r) q is) kept (branch_named-is branches (name_of branches r) q is))

-- what is visible at a commit of a valid history is lawful
pub lawful-at : {S O R Q A : Type 0} (meaning : Meaning S O R Q A) (terms : Terms) → KeepsLaws meaning → (moves : List (Move O R)) → IsValid meaning terms moves → (n : ℕ) → Lawful meaning (visible (store_of terms.origin moves).commits n)
lawful-at meaning terms laws moves valid n =
    let kept = valid-kept meaning terms laws moves valid in
    let commits = (store_of terms.origin moves).commits in
    closed-lawful meaning (visible commits n) (all_events commits) kept.lawful (visible-closed commits kept.ordered.ranked kept.ordered.rising kept.events kept.distinct n)

module _ {S O R Q A : Type 0} {form : Form} (now : FixedIn form S O R Q A) (moves : List (Move O R)) (m : Move O R) where
  made_or_collides : (o : Option (List ℕ × List ℕ)) (t : Turn O R A) → t.made ≡ m ∷ [] → MakesOrRefuses (unless (option_map (λ c. Collision (now.address c.1) c.0 c.1) o) t) m
  made_or_collides None t is = inl is
  made_or_collides (Some c) t is = inr (Collision (now.address c.1) c.0 c.1, inr (now.address c.1, c.0, c.1, refl), refl)

  made_full : (t : Turn O R A) (ms : List (Move O R)) → t.made ≡ ms → t.made ≡ m ∷ [] → MakesOrRefuses (unless_made (collision_refusal now moves) ms t) m
  unfolding collision_refusal
  made_full t [] is made = absurd (cc)
  made_full t (x ∷ xs) is made = made_or_collides (collision now.address (objects_of now moves) (new_objects now moves x)) t made

  -- what holds of the turn of a machine that keeps no objects holds of the full one
  pub full_of : (t : Turn O R A) → MakesOrRefuses t m → MakesOrRefuses (unless_made (collision_refusal now moves) t.made t) m
  full_of t (inl made) = made_full t t.made refl made
  full_of t (inr refused) =
      let at : t.made ≡ [] = ap (λ (u : Turn O R A). u.made) refused.2 in
      inr (refused.0, refused.1, ap (λ ms. unless_made (collision_refusal now moves) ms t) at ∙ refused.2)

-- refusals that look at the branches and at counts alone
module _ {O1 O2 R : Type 0} (terms : Terms) (before : List (Move O1 R)) (after : List (Move O2 R))
    (same : (store_of terms.origin after).branches ≡ (store_of terms.origin before).branches)
    (count : length (store_of terms.origin after).commits ≡ length (store_of terms.origin before).commits)
    (moves : length after ≡ length before) where
  move_refusal-same : move_refusal terms after ≡ move_refusal terms before
  unfolding move_refusal
  move_refusal-same = ap (λ k. refusal_if (nat_le terms.limits.moves k) (FullMoves k) None) moves

  room_refusal-same : room_refusal terms after ≡ room_refusal terms before
  unfolding room_refusal
  room_refusal-same =
      ap (λ k. refusal_if (nat_le terms.limits.commits k) (FullCommits k) (move_refusal terms after)) count
      ∙ ap (λ o. refusal_if (nat_le terms.limits.commits (length (store_of terms.origin before).commits)) (FullCommits (length (store_of terms.origin before).commits)) o) move_refusal-same

  pub fork_refusal-same : fork_refusal terms after ≡ fork_refusal terms before
  unfolding fork_refusal
  fork_refusal-same =
      ap (λ (b : List Branch). refusal_if (nat_le terms.limits.branches (length b)) (FullBranches (length b)) (move_refusal terms after)) same
      ∙ ap (λ o. refusal_if (nat_le terms.limits.branches (length (store_of terms.origin before).branches)) (FullBranches (length (store_of terms.origin before).branches)) o) move_refusal-same

  pub forward_refusal-same : (r h : ℕ) → forward_refusal terms after r h ≡ forward_refusal terms before r h
  unfolding forward_refusal
  forward_refusal-same r h =
      ap (λ (b : List Branch). refusal_if (is_dropped b r) (Dropped r) (refusal_if (not (head_of b r == h)) (Stale (head_of b r)) (move_refusal terms after))) same
      ∙ ap (λ o. refusal_if (is_dropped (store_of terms.origin before).branches r) (Dropped r) (refusal_if (not (head_of (store_of terms.origin before).branches r == h)) (Stale (head_of (store_of terms.origin before).branches r)) o)) move_refusal-same

  pub commit_refusal-same : (r h : ℕ) → commit_refusal terms after r h ≡ commit_refusal terms before r h
  unfolding commit_refusal
  commit_refusal-same r h =
      ap (λ (b : List Branch). refusal_if (is_dropped b r) (Dropped r) (refusal_if (not (head_of b r == h)) (Stale (head_of b r)) (room_refusal terms after))) same
      ∙ ap (λ o. refusal_if (is_dropped (store_of terms.origin before).branches r) (Dropped r) (refusal_if (not (head_of (store_of terms.origin before).branches r == h)) (Stale (head_of (store_of terms.origin before).branches r)) o)) room_refusal-same

-- a refusal for the length of a value alone, or none
module _ {O R A : Type 0} (size : ℕ) (t : Turn O R A) (m : Move O R) (made : t.made ≡ m ∷ []) where
  pub size_or_makes : (test : Bool) → MakesOrRefuses (unless (refusal_if test (ValueTooLarge size) None) t) m
  size_or_makes true = inr (ValueTooLarge size, inl (size, refl), refl)
  size_or_makes false = inl made

module _ {S1 O1 S2 O2 R Q A : Type 0} (old_form new_form : Form) (old : Meaning S1 O1 R Q A) (new : Meaning S2 O2 R Q A) (f : O1 → O2)
    (laws : KeepsLaws old) (renews : Renews old new f) (terms : Terms) (address : List ℕ → List ℕ) (moves : List (Move O1 R)) (valid : IsValid old terms moves) where
  abbrev s : Store O1 R
  s = store_of terms.origin moves

  abbrev after : List (Move O2 R)
  after = renewed_moves f moves

  abbrev t : Store O2 R
  t = store_of terms.origin after

  kept : IsKept old terms s
  kept = valid-kept old terms laws moves valid

  is_renewed : t ≡ renewed_store f s
  is_renewed = store-renewed f terms.origin moves

  branches : t.branches ≡ s.branches
  branches = ap (λ (u : Store O2 R). u.branches) is_renewed

  commits : t.commits ≡ renewed_commits f s.commits
  commits = ap (λ (u : Store O2 R). u.commits) is_renewed

  graph : graph_of t.commits ≡ graph_of s.commits
  graph = ap (λ (cs : List (Commit O2 R)). graph_of cs) commits ∙ graph-renewed f s.commits

  count : length t.commits ≡ length s.commits
  count = ap (λ (cs : List (Commit O2 R)). length cs) commits ∙ length-mapped _ s.commits

  clock : (n : ℕ) → clock_of t.commits n ≡ clock_of s.commits n
  clock n = ap (λ (cs : List (Commit O2 R)). clock_of cs n) commits ∙ clock-renewed f s.commits n

  seen : (n : ℕ) → visible t.commits n ≡ renewed_events f (visible s.commits n)
  seen n = ap (λ (cs : List (Commit O2 R)). visible cs n) commits ∙ visible-renewed f s.commits n

  head : (r : ℕ) → head_of t.branches r ≡ head_of s.branches r
  head r = ap (λ (b : List Branch). head_of b r) branches

  long : length after ≡ length moves
  long = length-mapped _ moves

  -- the answers at a commit
  pub answer-renewed : (n : ℕ) (q : Q) → new.answer_of (visible t.commits n) q ≡ old.answer_of (visible s.commits n) q
  answer-renewed n q = ap (λ x. new.answer_of x q) (seen n) ∙ renews.answers (visible s.commits n) (lawful-at old terms laws moves valid n) q

  abbrev now : FixedIn new_form S2 O2 R Q A
  now = fix_in new_form new terms address

  -- the step is one, and its full turn makes the move or refuses it for bytes
  abbrev Again : Step O2 Q → Move O2 R → Type 0
  Again step m = IsStep new t step × MakesOrRefuses (full_turn now after step) m

  fork_made : (name from : List ℕ) (r : ℕ) (taken o : Option ℕ) → taken ≡ None → o ≡ Some r → fork_refusal terms after ≡ None
      → (fork_turn {O = O2} {R = R} {A = A} terms after name from taken o).made ≡ move.Fork name (length t.branches) r ∷ []
  fork_made name from r taken None free there none = absurd (cc)
  fork_made name from r (Some k) (Some q) free there none = absurd (cc)
  fork_made name from r None (Some q) free there none =
      let same : q ≡ r = cc in
      ap (λ o. (unless {O = O2} {R = R} {A = A} o (makes (move.Fork name (length t.branches) q) (Forked (length t.branches) (head_of t.branches q)))).made) none
      ∙ ap (λ k. move.Fork name (length t.branches) k ∷ []) same

  repeats-fork : (name : List ℕ) (number from : ℕ) → IsFork terms moves name number from → Again (machine.Fork name (name_of t.branches from)) (move.Fork name number from)
  unfolding full_turn turn
  repeats-fork name number from is =
      let named = name_of t.branches from in
      let free : branch_named t.branches name ≡ None = ap (λ (b : List Branch). branch_named b name) branches ∙ is.free in
      let there : branch_named t.branches named ≡ Some from =
      ap (λ (b : List Branch). branch_named b (name_of b from)) branches ∙ named_some s.branches from _ kept.ordered.distinct is.there refl in
      let none : fork_refusal terms after ≡ None = fork_refusal-same terms moves after branches count long ∙ is.landed in
      let number_is : length t.branches ≡ number = ap (λ (b : List Branch). length b) branches ∙ sym is.next in
      let turn_is = fork_turn {O = O2} {R = R} {A = A} terms after name named (branch_named t.branches name) (branch_named t.branches named) in
      let made : turn_is.made ≡ move.Fork name number from ∷ [] =
      fork_made name named from (branch_named t.branches name) (branch_named t.branches named) free there none ∙ ap (λ k. move.Fork name k from ∷ []) number_is in
      (is.named, full_of now after (move.Fork name number from) turn_is (inl made))

  abbrev LandTurn : ℕ → ℕ → O1 → Turn O2 R A
  LandTurn r h op = land_turn {Q = Q} {A = A} new terms after r h (f op)

  reply-renewed : (h : ℕ) (op : O1) → old.is_op op → new.reply_of (visible t.commits h) (f op) ≡ old.reply_of (visible s.commits h) op
  reply-renewed h op known = ap (λ x. new.reply_of x (f op)) (seen h) ∙ renews.replies (visible s.commits h) (lawful-at old terms laws moves valid h) op known

  -- an operation that was prepared in the old history is refused for its value alone
  operation-same : (origin h : ℕ) (op : O1) → operation_refusal old terms.limits s.commits origin h op ≡ None
      → operation_refusal new terms.limits t.commits origin h (f op)
      ≡ refusal_if (nat_lt terms.limits.value (event_length new (event_made new t.commits origin h (f op)) (visible t.commits h))) (ValueTooLarge (event_length new (event_made new t.commits origin h (f op)) (visible t.commits h))) None
  unfolding operation_refusal
  operation-same origin h op none =
      let size : ℕ = event_length new (event_made new t.commits origin h (f op)) (visible t.commits h) in
      let old_size : ℕ = event_length old (event_made old s.commits origin h op) (visible s.commits h) in
      let clock_before : ℕ = clock_of s.commits h in
      let test = (refusal_if-none (nat_le terms.limits.clock clock_before) (Exhausted clock_before) (refusal_if (nat_lt terms.limits.value old_size) (ValueTooLarge old_size) None) none).0 in
      ap (λ k. refusal_if (nat_le terms.limits.clock k) (Exhausted k) (refusal_if (nat_lt terms.limits.value size) (ValueTooLarge size) None)) (clock h)
      ∙ ap (λ b. refusal_if b (Exhausted clock_before) (refusal_if (nat_lt terms.limits.value size) (ValueTooLarge size) None)) test

  repeats-operation : (r : ℕ) (op : O1) (reply : R) → IsOperation old terms moves r op reply → Again (machine.Land r (head_of t.branches r) (f op)) (move.Operation r (f op) reply)
  unfolding full_turn turn
  repeats-operation r op reply is =
      let h : ℕ = head_of t.branches r in
      let at : head_of s.branches r ≡ h = sym (head r) in
      let prepared : operation_refusal old terms.limits s.commits (terms.origin + r) h op ≡ None = subst (λ (k : ℕ). operation_refusal old terms.limits s.commits (terms.origin + r) k op ≡ None) at is.prepared in
      let landed : commit_refusal terms after r h ≡ None = commit_refusal-same terms moves after branches count long r h ∙ subst (λ (k : ℕ). commit_refusal terms moves r k ≡ None) at is.landed in
      let e = event_made new t.commits (terms.origin + r) h (f op) in
      let size : ℕ = event_length new e (visible t.commits h) in
      let replied : e.reply ≡ reply = reply-renewed h op is.known ∙ sym (subst (λ (k : ℕ). reply ≡ old.reply_of (visible s.commits k) op) at is.replies) in
      let last : Turn O2 R A = makes (move.Operation r (f op) e.reply) (Landed (length t.commits) e.time e.reply) in
      let made : (unless (commit_refusal terms after r h) last).made ≡ move.Operation r (f op) reply ∷ [] =
      ap (λ o. (unless o last).made) landed ∙ ap (λ k. move.Operation r (f op) k ∷ []) replied in
      let turned = size_or_makes size (unless (commit_refusal terms after r h) last) (move.Operation r (f op) reply) made (nat_lt terms.limits.value size) in
      let whole = subst (λ (o : Option Refusal). MakesOrRefuses (unless o (unless (commit_refusal terms after r h) last)) (move.Operation r (f op) reply)) (sym (operation-same (terms.origin + r) h op prepared)) turned in
      let there : r < length t.branches = subst (λ (b : List Branch). r < length b) (sym branches) is.there in
      let stands : h < length t.commits = subst (λ (k : ℕ). h < k) (sym count) (subst (λ (k : ℕ). k < length s.commits) at (kept.ordered.heads r is.there)) in
      ((there, stands, renews.ops op is.known), full_of now after (move.Operation r (f op) reply) (LandTurn r h op) whole)

  -- a merge of one commit that the head does not reach
  abbrev OneTurn : ℕ → ℕ → ℕ → Turn O2 R A
  OneTurn r h m = merge_turn {Q = Q} {A = A} new terms after r h (m ∷ [])

  merge_is : (r h m : ℕ) → reaches (graph_of s.commits) h m ≡ false → merge_turn {Q = Q} {A = A} new terms after r h (brought (graph_of t.commits) h (m ∷ [])) ≡ OneTurn r h m
  merge_is r h m above = ap (λ ms. merge_turn {Q = Q} {A = A} new terms after r h ms) (brought-one (graph_of t.commits) h m (ap (λ g. reaches g h m) graph ∙ above))

  one_step : (r m : ℕ) → r < length s.branches → m < length s.commits → IsStep new t (machine.Merge r (head_of t.branches r) (m ∷ []))
  one_step r m there stands = (
    subst (λ (b : List Branch). r < length b) (sym branches) there,
    subst (λ (k : ℕ). head_of t.branches r < k) (sym count) (subst (λ (k : ℕ). k < length s.commits) (sym (head r)) (kept.ordered.heads r there)),
    (subst (λ (k : ℕ). m < k) (sym count) stands, tt),
    record { some = omega arith; few = omega arith },
  )

  repeats-merge : (r m : ℕ) → IsMerge old terms moves r m → Again (machine.Merge r (head_of t.branches r) (m ∷ [])) (move.Merge r m)
  unfolding full_turn turn merge_refusal
  repeats-merge r m is =
      let h : ℕ = head_of t.branches r in
      let at : head_of s.branches r ≡ h = sym (head r) in
      let above : reaches (graph_of s.commits) h m ≡ false = subst (λ (k : ℕ). reaches (graph_of s.commits) k m ≡ false) at is.above in
      let below : reaches (graph_of t.commits) m h ≡ false = ap (λ g. reaches g m h) graph ∙ subst (λ (k : ℕ). reaches (graph_of s.commits) m k ≡ false) at is.below in
      let landed : commit_refusal terms after r h ≡ None = commit_refusal-same terms moves after branches count long r h ∙ subst (λ (k : ℕ). commit_refusal terms moves r k ≡ None) at is.landed in
      let last : Turn O2 R A = makes (move.Merge r m) (Merged (length t.commits)) in
      let made : (unless (commit_refusal terms after r h) last).made ≡ move.Merge r m ∷ [] = ap (λ o. (unless o last).made) landed in
      let merged : Turn O2 R A = unless (merge_refusal new terms.limits t.commits (h ∷ m ∷ [])) (unless (commit_refusal terms after r h) last) in
      let turned : MakesOrRefuses merged (move.Merge r m) = size_or_makes _ (unless (commit_refusal terms after r h) last) (move.Merge r m) made _ in
      let forwarded : Turn O2 R A = unless (forward_refusal terms after r h) (makes (move.Forward r m) (Forwarded m)) in
      let one : OneTurn r h m ≡ merged = ap (λ b. if b then forwarded else merged) below in
      let whole = subst (λ (u : Turn O2 R A). MakesOrRefuses u (move.Merge r m)) (sym (merge_is r h m above ∙ one)) turned in
      (one_step r m is.there is.stands, full_of now after (move.Merge r m) (merge_turn {Q = Q} {A = A} new terms after r h (brought (graph_of t.commits) h (m ∷ []))) whole)

  repeats-forward : (r m : ℕ) → IsForward terms moves r m → Again (machine.Merge r (head_of t.branches r) (m ∷ [])) (move.Forward r m)
  unfolding full_turn turn
  repeats-forward r m is =
      let h : ℕ = head_of t.branches r in
      let at : head_of s.branches r ≡ h = sym (head r) in
      let above : reaches (graph_of s.commits) h m ≡ false = subst (λ (k : ℕ). reaches (graph_of s.commits) k m ≡ false) at is.above in
      let below : reaches (graph_of t.commits) m h ≡ true = ap (λ g. reaches g m h) graph ∙ subst (λ (k : ℕ). reaches (graph_of s.commits) m k ≡ true) at is.below in
      let landed : forward_refusal terms after r h ≡ None = forward_refusal-same terms moves after branches count long r h ∙ subst (λ (k : ℕ). forward_refusal terms moves r k ≡ None) at is.landed in
      let last : Turn O2 R A = makes (move.Forward r m) (Forwarded m) in
      let merged : Turn O2 R A = unless (merge_refusal new terms.limits t.commits (h ∷ m ∷ [])) (unless (commit_refusal terms after r h) (makes (move.Merge r m) (Merged (length t.commits)))) in
      let one : OneTurn r h m ≡ unless (forward_refusal terms after r h) last = ap (λ b. if b then unless (forward_refusal terms after r h) last else merged) below in
      let made : (merge_turn {Q = Q} {A = A} new terms after r h (brought (graph_of t.commits) h (m ∷ []))).made ≡ move.Forward r m ∷ [] =
      ap (λ (u : Turn O2 R A). u.made) (merge_is r h m above ∙ one) ∙ ap (λ o. (unless o last).made) landed in
      (one_step r m is.there is.stands, full_of now after (move.Forward r m) (merge_turn {Q = Q} {A = A} new terms after r h (brought (graph_of t.commits) h (m ∷ []))) (inl made))

  kept_branch : (r : ℕ) → IsKeptBranch s.branches r → IsKeptBranch t.branches r
  kept_branch r is = subst (λ (b : List Branch). IsKeptBranch b r) (sym branches) is

  not_dropped : (r : ℕ) → r < length s.branches → commit_refusal terms moves r (head_of s.branches r) ≡ None → IsKeptBranch t.branches r
  not_dropped r there landed = kept_branch r (there, (commit-tells old terms moves r (head_of s.branches r) landed).0)

  accepted_repeats : (made : Move O1 R) → IsAccepted old terms moves made → IsOfFirstKinds made → Repeats now after (renewed f made)
  accepted_repeats (move.Fork name number from) is first =
      let again = repeats-fork name number from is in
      (machine.Fork name (name_of t.branches from), record { again = (kept_branch from is.there, refl); may = again.0; turns = again.1 })
  accepted_repeats (move.Operation r op reply) is first =
      let again = repeats-operation r op reply is in
      (machine.Land r (head_of t.branches r) (f op), record { again = (not_dropped r is.there is.landed, refl); may = again.0; turns = again.1 })
  accepted_repeats (move.Merge r m) is first =
      let again = repeats-merge r m is in
      (machine.Merge r (head_of t.branches r) (m ∷ []), record { again = (not_dropped r is.there is.landed, refl); may = again.0; turns = again.1 })
  accepted_repeats (move.Join r ms) is first = absurd first
  accepted_repeats (move.Forward r m) is first =
      let again = repeats-forward r m is in
      let kept_r = kept_branch r (is.there, (forward-tells old terms moves r (head_of s.branches r) is.landed).0) in
      (machine.Merge r (head_of t.branches r) (m ∷ []), record { again = (kept_r, refl); may = again.0; turns = again.1 })
  accepted_repeats (move.Received parents origin clock act) is first = absurd first
  accepted_repeats (move.Place name number n) is first = absurd first
  accepted_repeats (move.Drop r) is first = absurd first

  pub move-renewed : (made : Move O1 R) → IsFullMove (fix_in old_form old terms address) moves made → IsOfFirstKinds made → Repeats now after (renewed f made)
  move-renewed made is first = accepted_repeats made (IsAccepted-from old terms moves made (full_move-is (fix_in old_form old terms address) moves made is).0) first

module _ {S1 O1 S2 O2 R Q A : Type 0} (old_form new_form : Form) (old : Meaning S1 O1 R Q A) (new : Meaning S2 O2 R Q A) (f : O1 → O2)
    (laws : KeepsLaws old) (renews : Renews old new f) (terms : Terms) (address : List ℕ → List ℕ) where
  moves-renewed : (before ms : List (Move O1 R)) → IsFullyValid (fix_in old_form old terms address) before → IsFullyValidAfter (fix_in old_form old terms address) before ms → AllByRecursion IsOfFirstKinds ms
      → RepeatsAll (fix_in new_form new terms address) (renewed_moves f before) (renewed_moves f ms)
  moves-renewed before [] is valid first = tt
  moves-renewed before (m ∷ ms) is valid first =
      let rest = moves-renewed (before ++ m ∷ []) ms (valid-more (fix_in old_form old terms address) before m is valid.0) valid.1 first.1 in (
        move-renewed old_form new_form old new f laws renews terms address before (valid-before (fix_in old_form old terms address) before is) m valid.0 first.0,
        subst (λ (b : List (Move O2 R)). RepeatsAll (fix_in new_form new terms address) b (renewed_moves f ms)) (mapped-append (renewed f) before (m ∷ [])) rest,
      )

  pub all-renewed : (moves : List (Move O1 R)) → IsFullyValid (fix_in old_form old terms address) moves → AllByRecursion IsOfFirstKinds moves → RepeatsAll (fix_in new_form new terms address) [] (renewed_moves f moves)
  unfolding IsFullyValid
  all-renewed moves valid first = moves-renewed [] moves (valid-none (fix_in old_form old terms address)) valid first
