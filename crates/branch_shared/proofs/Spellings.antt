-- The value that a landing brings is spelled as it was prepared: what was visible at the commits of the look is so where it lands.
use Rattle.std.proofs.Common.{◌≡◌, ℕ, ◌+◌, ◌-◌, ◌<◌, Bool, true, false, cond, List, [], ◌∷◌, ◌++◌, length, refl, ap, sym, ◌∙◌, arith, subst, length-append, Option, Some, None, Result, Ok, Err, IfOk, OnOk}
use mathlib.Core.List.{IsPrefix}
use Rattle.mrdt_model.specs.Executions.{Event, next_event}
use Rattle.mrdt_model.specs.Laws.{Meaning, KeepsLaws}
use Rattle.branch_front.proofs.Prefixes.{prefix_trans}
use Rattle.branch_graph.proofs.Ranked.{AllByRecursion-from_All}
use Rattle.branch_graph.specs.Graph.{reaches}
use Rattle.branch_names.specs.declared.terms.Terms.{Terms}
use Rattle.branch_names.specs.Heads.{head_of}
use Rattle.branch_history.specs.declared.moves.Move.{Move}
use Rattle.branch_history.specs.declared.moves.Move.TheVariants as move
use Rattle.branch_history.specs.Commits.{Commit, clock_of, graph_of, visible, visible_at_all}
use Rattle.branch_history.specs.History.{Store, store_of, operation_commit, merge_commit}
use Rattle.branch_history.specs.Laws.{IsSameAt}
use Rattle.branch_history.specs.Machine.{turn, unless, makes, event_made, operation_refusal, merge_refusal, forward_refusal, commit_refusal, merge_turn}
use Rattle.branch_history.specs.Merging.{brought}
use Rattle.branch_history.specs.Steps as machine
use Rattle.branch_history.specs.Validity.{AreCommits}
use Rattle.branch_history.proofs.Heads.{same_branch}
use Rattle.branch_history.proofs.Histories.{valid-kept}
use Rattle.branch_history.proofs.Kept.{IsKept}
use Rattle.branch_history.proofs.Lists.{AllByRecursion-more}
use Rattle.branch_history.proofs.Later.{IsLonger, commits-longer, longer-same_at, longer-same_at_all}
use Rattle.branch_history.proofs.Sees.{operation-visible, merge-visible, join-visible}
use Rattle.branch_history.proofs.Valid.{store_of-more, made_unless, commit-tells, forward-tells}
use Rattle.branch_machine.specs.Fixed.{Fixed, fix}
use Rattle.branch_machine.specs.Machine.{collision_refusal, commit_here, unless_here, unless_made, full_turn}
use Rattle.branch_machine.specs.Validity.{IsFullyValid}
use Rattle.branch_machine.proofs.Valid.{valid-before}
use Rattle.store_seen.specs.declared.prepared.Written.{Written}
use Rattle.store_seen.specs.declared.prepared.Written.TheVariants as written
use Rattle.store_seen.specs.Keeps.{IsSeen}
use Rattle.store_seen.specs.Turns.{move_of, step_of}
use Rattle.store_seen.specs.Views.{SeenView, PreparedView, Work, Operation, Merge, Join, Forward}
use Rattle.store_seen.specs.Written.{IsWritten, IsWrittenWork}
use Rattle.store_seen.specs.declared.answers.Landed.{Landed}
use Rattle.store_core.specs.Turns.{step_made}
use Rattle.branch_shared.specs.Passes.{PassView, LandedAt}
use Rattle.branch_shared.specs.Spelled.{LandsSpelled, SpellsLandings}

-- a turn that makes a move does so where nothing is kept
module _ {O R A : Type 0} where
  here-made : (o : Option ℕ) (t : machine.Turn O R A) (m : Move O R) → (unless_here o t).made ≡ m ∷ [] → t.made ≡ m ∷ []
  here-made None t m is = is
  here-made (Some n) t m is = absurd (cc)

  kept-made : (refusal : Move O R → Option machine.Refusal) (ms : List (Move O R)) (t : machine.Turn O R A) (m : Move O R) → (unless_made refusal ms t).made ≡ m ∷ [] → t.made ≡ m ∷ []
  kept-made refusal [] t m is = is
  kept-made refusal (x ∷ ms) t m is = (made_unless (refusal x) t m is).1

-- who landed saw the head
module _ {S O R Q A : Type 0} (fixed : Fixed S O R Q A) (moves : List (Move O R)) where
  turn-made : (step : machine.Step O Q) (m : Move O R) → (full_turn fixed moves step).made ≡ m ∷ [] → (turn fixed.meaning fixed.terms moves step).made ≡ m ∷ []
  unfolding full_turn
  turn-made step m is =
      let t = turn fixed.meaning fixed.terms moves step in
      kept-made (collision_refusal fixed moves) t.made t m (here-made (commit_here fixed moves step) (unless_made (collision_refusal fixed moves) t.made t) m is)

  abbrev head_at : ℕ → ℕ
  head_at r = head_of (store_of fixed.terms.origin moves).branches r

  land-head : (r h : ℕ) (op : O) (m : Move O R) → (turn fixed.meaning fixed.terms moves (machine.Land r h op)).made ≡ m ∷ [] → head_at r ≡ h
  unfolding turn
  land-head r h op m is =
      let commits = (store_of fixed.terms.origin moves).commits in
      let e = event_made fixed.meaning commits (fixed.terms.origin + r) h op in
      let new : machine.Turn O R A = makes (move.Operation r op e.reply) (machine.Landed (length commits) e.time e.reply) in
      let one = made_unless (operation_refusal fixed.meaning fixed.terms.limits commits (fixed.terms.origin + r) h op) (unless (commit_refusal fixed.terms moves r h) new) m is in
      (commit-tells fixed.meaning fixed.terms moves r h (made_unless (commit_refusal fixed.terms moves r h) new m one.1).0).1

  apart-head : (r h : ℕ) (before : Option machine.Refusal) (new : machine.Turn O R A) (m : Move O R) → (unless before (unless (commit_refusal fixed.terms moves r h) new)).made ≡ m ∷ [] → head_at r ≡ h
  apart-head r h before new m is =
      let one = made_unless before (unless (commit_refusal fixed.terms moves r h) new) m is in
      (commit-tells fixed.meaning fixed.terms moves r h (made_unless (commit_refusal fixed.terms moves r h) new m one.1).0).1

  one-head : (r h : ℕ) (below : Bool) (before : Option machine.Refusal) (up new : machine.Turn O R A) (m : Move O R)
      → (cond below (unless (forward_refusal fixed.terms moves r h) up) (unless before (unless (commit_refusal fixed.terms moves r h) new))).made ≡ m ∷ [] → head_at r ≡ h
  one-head r h true before up new m is = (forward-tells fixed.meaning fixed.terms moves r h (made_unless (forward_refusal fixed.terms moves r h) up m is).0).1
  one-head r h false before up new m is = apart-head r h before new m is

  brought-head : (r h : ℕ) (ms : List ℕ) (m : Move O R) → (merge_turn fixed.meaning fixed.terms moves r h ms).made ≡ m ∷ [] → head_at r ≡ h
  brought-head r h [] m is = absurd (cc)
  brought-head r h (k ∷ []) m is =
      let commits = (store_of fixed.terms.origin moves).commits in
      one-head r h (reaches (graph_of commits) k h) (merge_refusal fixed.meaning fixed.terms.limits commits (h ∷ k ∷ [])) (makes (move.Forward r k) (machine.Forwarded k)) (makes (move.Merge r k) (machine.Merged (length commits))) m is
  brought-head r h (k ∷ j ∷ ks) m is =
      let commits = (store_of fixed.terms.origin moves).commits in
      apart-head r h (merge_refusal fixed.meaning fixed.terms.limits commits (h ∷ k ∷ j ∷ ks)) (makes (move.Join r (k ∷ j ∷ ks)) (machine.Joined (length commits))) m is

  merge-head : (r h : ℕ) (ms : List ℕ) (m : Move O R) → (turn fixed.meaning fixed.terms moves (machine.Merge r h ms)).made ≡ m ∷ [] → head_at r ≡ h
  unfolding turn
  merge-head r h ms m is = brought-head r h (brought (graph_of (store_of fixed.terms.origin moves).commits) h ms) m is

  plain-head : (seen : SeenView (Move O R)) (work : Work O R) (m : Move O R) → (turn fixed.meaning fixed.terms moves (step_of seen work)).made ≡ m ∷ [] → head_at seen.branch ≡ seen.head
  plain-head seen (Operation op reply) m is = land-head seen.branch seen.head op m is
  plain-head seen (Merge commit) m is = merge-head seen.branch seen.head (commit ∷ []) m is
  plain-head seen (Join commits) m is = merge-head seen.branch seen.head commits m is
  plain-head seen (Forward commit) m is = merge-head seen.branch seen.head (commit ∷ []) m is

  landed-head : (made : PreparedView O R) (m : Move O R) → (full_turn fixed moves (step_made made)).made ≡ m ∷ [] → head_at made.seen.branch ≡ made.seen.head
  landed-head made m is = plain-head made.seen made.work m (turn-made (step_made made) m is)

module _ {S O R Q A : Type 0} (meaning : Meaning S O R Q A) (laws : KeepsLaws meaning) (terms : Terms) (address : List ℕ → List ℕ) (history : List (Move O R)) (valid : IsFullyValid (fix meaning terms address) history)
    (seen : SeenView (Move O R)) (is : IsSeen meaning seen) (prefix : IsPrefix seen.history history) (under : seen.terms ≡ terms) where
  abbrev commits : List (Commit O R)
  commits = (store_of terms.origin history).commits

  abbrev before : List (Commit O R)
  before = (store_of seen.terms.origin seen.history).commits

  abbrev origin : ℕ
  origin = terms.origin + seen.branch

  abbrev head : ℕ
  head = head_of (store_of terms.origin history).branches seen.branch

  kept : IsKept meaning terms (store_of terms.origin history)
  kept = valid-kept meaning terms laws history (valid-before (fix meaning terms address) history valid)

  seen-kept : IsKept meaning seen.terms (store_of seen.terms.origin seen.history)
  seen-kept = valid-kept meaning seen.terms laws seen.history is.valid

  longer : IsLonger before commits
  longer =
      subst (λ (l : List (Move O R)). IsLonger before (store_of terms.origin l).commits) prefix.1
      (subst (λ (t : Terms). IsLonger before (store_of t.origin (seen.history ++ prefix.0)).commits) under (commits-longer seen.terms.origin seen.history prefix.0))

  same : (n : ℕ) → n < length before → IsSameAt before commits n
  same n lt = longer-same_at before commits longer seen-kept.ordered.ranked n lt

  there : seen.branch < length (store_of terms.origin history).branches
  there =
      subst (λ (l : List (Move O R)). seen.branch < length (store_of terms.origin l).branches) prefix.1
      (subst (λ (t : Terms). seen.branch < length (store_of t.origin (seen.history ++ prefix.0)).branches) under (same_branch seen.terms.origin seen.history prefix.0 seen.branch is.branch).there)

  commit-there : (n : ℕ) → n < length before → n < length commits
  commit-there n lt = let more = ap length longer.is in omega (arith, more, length-append before longer.more)

  -- the spelling of what is visible at the newest commit after one move more
  abbrev newest : Move O R → List ℕ
  newest made = let grown = (store_of terms.origin (history ++ made ∷ [])).commits in meaning.spelling_of (visible grown (length grown - 1))

  at-newest : (made : Move O R) (c : Commit O R) → (store_of terms.origin (history ++ made ∷ [])).commits ≡ commits ++ c ∷ [] → meaning.spelling_of (visible (store_of terms.origin (history ++ made ∷ [])).commits (length commits)) ≡ newest made
  at-newest made c one =
      let grown = (store_of terms.origin (history ++ made ∷ [])).commits in
      let last : length commits ≡ length grown - 1 = omega (arith, ap length one, length-append commits (c ∷ [])) in
      ap (λ (n : ℕ). meaning.spelling_of (visible grown n)) last

  module _ (at_head : head ≡ seen.head) where
    -- the spelling of a value, by the clock and the events that the operation has seen and its reply
    abbrev spelled_with : O → ℕ → ℕ → List (Event O R) → R → List ℕ
    spelled_with op o n y r = meaning.spelling_of (next_event y (record { clock = n + 1; origin = o }) op r ∷ y)

    operation-lands : (op : O) (reply : R) → reply ≡ meaning.reply_of (visible before seen.head) op
        → meaning.spelling_of (event_made meaning before (seen.terms.origin + seen.branch) seen.head op ∷ visible before seen.head) ≡ newest (move.Operation seen.branch op reply)
    operation-lands op reply replies =
        let at = same seen.head is.head in
        let made : Move O R = move.Operation seen.branch op reply in
        ap (λ (t : Terms). spelled_with op (t.origin + seen.branch) (clock_of before seen.head) (visible before seen.head) (meaning.reply_of (visible before seen.head) op)) under
        ∙ (ap (λ (r : R). spelled_with op origin (clock_of before seen.head) (visible before seen.head) r) (sym replies)
        ∙ (ap (λ (n : ℕ). spelled_with op origin n (visible before seen.head) reply) (sym at.clock)
        ∙ (ap (λ (y : List (Event O R)). spelled_with op origin (clock_of commits seen.head) y reply) (sym at.visible)
        ∙ (ap (λ (k : ℕ). spelled_with op origin (clock_of commits k) (visible commits k) reply) (sym at_head)
        ∙ (ap meaning.spelling_of (sym (operation-visible terms history kept.ordered seen.branch there op reply))
        ∙ at-newest made (operation_commit commits origin head op reply) (ap (λ (s : Store O R). s.commits) (store_of-more terms.origin history made)))))))

    merge-lands : (other : ℕ) → other < length before → meaning.spelling_of (visible_at_all before (seen.head ∷ other ∷ [])) ≡ newest (move.Merge seen.branch other)
    merge-lands other stands =
        let made : Move O R = move.Merge seen.branch other in
        ap meaning.spelling_of (sym (longer-same_at_all before commits longer seen-kept.ordered.ranked (seen.head ∷ other ∷ []) [] (is.head, (stands, tt)) tt).visible)
        ∙ (ap (λ (k : ℕ). meaning.spelling_of (visible_at_all commits (k ∷ other ∷ []))) (sym at_head)
        ∙ (ap meaning.spelling_of (sym (merge-visible terms history kept.ordered seen.branch there other (commit-there other stands)))
        ∙ at-newest made (merge_commit commits origin (head ∷ other ∷ [])) (ap (λ (s : Store O R). s.commits) (store_of-more terms.origin history made))))

    join-lands : (others : List ℕ) → AreCommits before others → meaning.spelling_of (visible_at_all before (seen.head ∷ others)) ≡ newest (move.Join seen.branch others)
    join-lands others stand =
        let made : Move O R = move.Join seen.branch others in
        ap meaning.spelling_of (sym (longer-same_at_all before commits longer seen-kept.ordered.ranked (seen.head ∷ others) [] (is.head, stand) tt).visible)
        ∙ (ap (λ (k : ℕ). meaning.spelling_of (visible_at_all commits (k ∷ others))) (sym at_head)
        ∙ (ap meaning.spelling_of (sym (join-visible terms history kept.ordered seen.branch there others (AllByRecursion-more (λ n. n < length before) (λ n. n < length commits) others commit-there stand)))
        ∙ at-newest made (merge_commit commits origin (head ∷ others)) (ap (λ (s : Store O R). s.commits) (store_of-more terms.origin history made))))

    work-lands : (work : Work O R) (is_written : Written) → IsWrittenWork meaning seen work is_written → LandsSpelled (fix meaning terms address) (record { seen = seen; work = work }) (history ++ move_of seen.branch work ∷ [])
    work-lands (Operation op reply) (written.Operation clock size value_bytes op_bytes reply_bytes) w = operation-lands op reply w.replies
    work-lands (Operation op reply) (written.Merge other clock size value_bytes) w = absurd w
    work-lands (Operation op reply) (written.Join others clock size value_bytes) w = absurd w
    work-lands (Operation op reply) (written.Forward other) w = absurd w
    work-lands (Merge commit) (written.Operation clock size value_bytes op_bytes reply_bytes) w = absurd w
    work-lands (Merge commit) (written.Merge other clock size value_bytes) w = merge-lands commit w.there
    work-lands (Merge commit) (written.Join others clock size value_bytes) w = absurd w
    work-lands (Merge commit) (written.Forward other) w = absurd w
    work-lands (Join joined) (written.Operation clock size value_bytes op_bytes reply_bytes) w = absurd w
    work-lands (Join joined) (written.Merge other clock size value_bytes) w = absurd w
    work-lands (Join joined) (written.Join others clock size value_bytes) w = join-lands joined (AllByRecursion-from_All (λ n. n < length before) joined w.there)
    work-lands (Join joined) (written.Forward other) w = absurd w
    work-lands (Forward commit) is_written w = tt

-- what was prepared on a beginning of the history lands there with its spelling
pub lands-spelled : {S O R Q A : Type 0} (meaning : Meaning S O R Q A) (laws : KeepsLaws meaning) (terms : Terms) (address : List ℕ → List ℕ) (history : List (Move O R)) (made : PreparedView O R) (is_written : Written)
    → IsFullyValid (fix meaning terms address) history → IsSeen meaning made.seen → IsPrefix made.seen.history history → made.seen.terms ≡ terms → IsWritten meaning made is_written
    → (full_turn (fix meaning terms address) history (step_made made)).made ≡ move_of made.seen.branch made.work ∷ []
    → LandsSpelled (fix meaning terms address) made (history ++ move_of made.seen.branch made.work ∷ [])
lands-spelled meaning laws terms address history made is_written valid is prefix under w moved =
    work-lands meaning laws terms address history valid made.seen is prefix under (landed-head (fix meaning terms address) history made (move_of made.seen.branch made.work) moved) made.work is_written w

-- and so it is where it landed for a pass
pub spelled-landed : {S O R Q A E : Type 0} (meaning : Meaning S O R Q A) (address : List ℕ → List ℕ) (terms : Terms) (made : PreparedView O R) (old new : PassView (Move O R)) (result : Result (Landed R) E) → SpellsLandings meaning address made
    → IsPrefix made.seen.history old.moves → made.seen.terms ≡ terms → IsFullyValid (fix meaning terms address) new.moves → IfOk result (λ landed. LandedAt (fix meaning terms address) made old new landed.moves landed.kind)
    → OnOk result (LandsSpelled (fix meaning terms address) made new.moves)
spelled-landed {S} {O} {R} {Q} {A} meaning address terms made old new (Err refused) spells prefix under valid landed = tt
spelled-landed {S} {O} {R} {Q} {A} meaning address terms made old new (Ok is) spells prefix under valid landed =
    let fixed = fix meaning terms address in
    subst (λ (h : List (Move O R)). LandsSpelled fixed made h) (sym landed.last)
    (spells terms landed.before (subst (λ (h : List (Move O R)). IsFullyValid fixed h) landed.last valid) (prefix_trans made.seen.history old.moves landed.before prefix landed.seen) under
    (ap (λ (t : machine.Turn O R A). t.made) landed.turn_is))
