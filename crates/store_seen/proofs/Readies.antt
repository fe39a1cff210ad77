-- What is ready stays ready while the history goes on.
use Rattle.std.proofs.Common.{◌≡◌, ℕ, ◌+◌, ◌<◌, max, Bool, true, false, List, [], ◌∷◌, ◌++◌, length, refl, ap, sym, ◌∙◌, arith, All, IsTrue, Some, None, subst, length-append, ◌≤◌, Result, IfErr}
use Rattle.std.proofs.lemmas.List.Elements.{All-weaker}
use Rattle.std.proofs.lemmas.Result.{IfErr-weaker}
use mathlib.Core.List.{IsPrefix}
use Rattle.mrdt_model.specs.declared.time.Time.{Time}
use Rattle.mrdt_model.specs.Executions.{Event, next_event}
use Rattle.mrdt_model.specs.Laws.{Meaning, KeepsLaws}
use Rattle.branch_graph.specs.Graph.{reaches}
use Rattle.branch_graph.proofs.Ranked.{AllByRecursion-from_All}
use Rattle.branch_names.specs.declared.terms.Terms.{Terms}
use Rattle.branch_names.specs.Heads.{head_of}
use Rattle.branch_history.specs.declared.moves.Move.{Move}
use Rattle.branch_history.specs.Commits.{Commit, graph_of, clock_of, greatest_clock, visible}
use Rattle.branch_history.specs.History.{Store, store_of}
use Rattle.branch_history.specs.Laws.{IsSameAt, IsSameAtAll}
use Rattle.branch_history.specs.Machine.{refusal_if, operation_refusal, merge_refusal, commit_refusal, forward_refusal, room_refusal, move_refusal}
use Rattle.branch_history.specs.Steps as machine
use Rattle.branch_history.specs.Validity.{AreCommits, IsValid}
use Rattle.branch_history.proofs.Histories.{valid-kept}
use Rattle.branch_history.proofs.Reach.{reaches-trans}
use Rattle.branch_history.proofs.Heads.{same_branch, valid-rises}
use Rattle.branch_history.proofs.Later.{IsLonger, commits-longer, longer-same_at_all, operation_refusal-same, merge_refusal-same}
use Rattle.branch_history.proofs.Lists.{AllByRecursion-more}
use Rattle.branch_history.proofs.Turns.{land-refused, merge-refused, forward-refused}
use Rattle.store_seen.specs.declared.answers.LandRefused.{LandRefused}
use Rattle.store_seen.specs.declared.answers.LandRefused.TheVariants as land_refusal
use Rattle.store_seen.specs.Keeps.{IsSeen, IsReadyOperation, IsReadyMerge, IsReadyJoin, IsReadyForward}
use Rattle.store_seen.specs.Views.{SeenView, CoreView, Work, Operation, Merge, Join, Forward}
use Rattle.store_seen.specs.Turns.{at_head, step_of, Refuses, RefusedBy, LandRefusedAs}
use Rattle.store_seen.proofs.Brought.{brought-same}
use Rattle.store_seen.proofs.Joins.{several-refused}
use Rattle.store_seen.proofs.Looks.{seen-kept, seen-there, same-later}

-- of these four refusals, in their order, the second alone is stale
stale_is : (d t u v : Bool) (branch head commits moves newest : ℕ)
    → refusal_if d (machine.Dropped branch) (refusal_if t (machine.Stale head) (refusal_if u (machine.FullCommits commits) (refusal_if v (machine.FullMoves moves) None))) ≡ Some (machine.Stale newest) → newest ≡ head
stale_is true t u v branch head commits moves newest is = absurd (cc)
stale_is false true u v branch head commits moves newest is = cc
stale_is false false true v branch head commits moves newest is = absurd (cc)
stale_is false false false true branch head commits moves newest is = absurd (cc)
stale_is false false false false branch head commits moves newest is = absurd (cc)

module _ {S O R Q A : Type 0} (meaning : Meaning S O R Q A) (laws : KeepsLaws meaning) (seen : SeenView (Move O R)) (is : IsSeen meaning seen) (core : CoreView (Move O R)) (prefix : IsPrefix seen.history core.history) (terms : seen.terms ≡ core.terms) where
  abbrev old : List (Commit O R)
  old = (store_of seen.terms.origin seen.history).commits

  abbrev new : List (Commit O R)
  new = (store_of core.terms.origin core.history).commits

  abbrev now : SeenView (Move O R)
  now = at_head core seen.branch seen.head

  now_is : store_of {O = O} {R = R} seen.terms.origin core.history ≡ store_of core.terms.origin core.history
  now_is = ap (λ (t : Terms). store_of t.origin core.history) terms

  same_at : (n : ℕ) → n < length old → IsSameAt old new n
  same_at n lt = subst (λ (s : Store O R). IsSameAt old s.commits n) now_is (same-later meaning laws seen is n lt core.history prefix)

  same-head : IsSameAt old new seen.head
  same-head = same_at seen.head (seen-there meaning laws seen is)

  longer : IsLonger old new
  longer =
      subst (λ (s : Store O R). IsLonger old s.commits) now_is
      (subst (λ (l : List (Move O R)). IsLonger old (store_of seen.terms.origin l).commits) prefix.1 (commits-longer seen.terms.origin seen.history prefix.0))

  more : length old ≤ length new
  more = let e : length new ≡ length old + length longer.more = ap length longer.is ∙ length-append old longer.more in omega arith

  same-all : (ls rs : List ℕ) → AreCommits old ls → AreCommits old rs → IsSameAtAll old new ls rs
  same-all = longer-same_at_all old new longer (seen-kept meaning laws seen is).ordered.ranked

  pub head-now : seen.head < length new
  head-now = let there = is.head in let size = more in omega arith

  pub branch-now : seen.branch < length (store_of core.terms.origin core.history).branches
  branch-now =
      let there = (same_branch seen.terms.origin seen.history prefix.0 seen.branch is.branch).there in
      subst (λ (s : Store O R). seen.branch < length s.branches) now_is
      (subst (λ (l : List (Move O R)). seen.branch < length (store_of seen.terms.origin l).branches) prefix.1 there)

  pub operation-now : (time : Time) (value : S) (op : O) (reply : R) → IsReadyOperation meaning seen time value op reply → IsReadyOperation meaning now time value op reply
  operation-now time value op reply was = record {
    known = was.known;
    known_reply = was.known_reply;
    fits =
        let same = operation_refusal-same meaning seen.terms.limits old new (seen.terms.origin + seen.branch) seen.head op same-head ∙ was.fits in
        subst (λ (t : Terms). operation_refusal meaning t.limits new (t.origin + seen.branch) seen.head op ≡ None) terms same;
    timed =
        was.timed
        ∙ ap (λ n. record { clock = n + 1; origin = seen.terms.origin + seen.branch }) (sym same-head.clock)
        ∙ ap (λ (t : Terms). record { clock = clock_of new seen.head + 1; origin = t.origin + seen.branch }) terms;
    replies = was.replies ∙ ap (λ y. meaning.reply_of y op) (sym same-head.visible);
    stands =
        let P : Terms → ℕ → List (Event O R) → Type 0 = λ t n y. meaning.stands value (next_event y (record { clock = n + 1; origin = t.origin + seen.branch }) op (meaning.reply_of y op) ∷ y) in
        subst (λ (t : Terms). P t (clock_of new seen.head) (visible new seen.head)) terms
        (subst (λ (n : ℕ). P seen.terms n (visible new seen.head)) (sym same-head.clock) (subst (P seen.terms (clock_of old seen.head)) (sym same-head.visible) was.stands));
  }

  module _ (commit : ℕ) (there : commit < length old) where
    same-other : IsSameAt old new commit
    same-other = same_at commit there

    same-pair : IsSameAtAll old new (seen.head ∷ commit ∷ []) []
    same-pair = same-all (seen.head ∷ commit ∷ []) [] (seen-there meaning laws seen is, (there, tt)) tt

    pub merge-now : (clock : ℕ) (value : S) → IsReadyMerge meaning seen commit clock value → IsReadyMerge meaning now commit clock value
    merge-now clock value was = record {
      there = omega (arith, more);
      above = same-head.reach commit ∙ was.above;
      below = same-other.reach seen.head ∙ was.below;
      fits =
          let same = merge_refusal-same meaning seen.terms.limits old new (seen.head ∷ commit ∷ []) same-pair.visible ∙ was.fits in
          subst (λ (t : Terms). merge_refusal meaning t.limits new (seen.head ∷ commit ∷ []) ≡ None) terms same;
      timed = was.timed ∙ ap (λ n. max n (max (clock_of old commit) 0)) (sym same-head.clock) ∙ ap (λ n. max (clock_of new seen.head) (max n 0)) (sym same-other.clock);
      stands = subst (λ (y : List (Event O R)). meaning.stands value y) (sym same-pair.visible) was.stands;
    }

    pub forward-now : IsReadyForward seen.terms seen.history seen.head commit → IsReadyForward core.terms core.history seen.head commit
    forward-now was = record {
      there = omega (arith, more);
      above = same-head.reach commit ∙ was.above;
      below = same-other.reach seen.head ∙ was.below;
    }

  module _ (others : List ℕ) (there : All (λ n. n < length old) others) where
    all_there : AreCommits old others
    all_there = AllByRecursion-from_All (λ n. n < length old) others there

    same_several : IsSameAtAll old new (seen.head ∷ others) []
    same_several = same-all (seen.head ∷ others) [] (seen-there meaning laws seen is, all_there) tt

    greatest_same : (ns : List ℕ) → AreCommits old ns → greatest_clock old ns ≡ greatest_clock new ns
    greatest_same [] all = refl
    greatest_same (n ∷ ns) all = ap (λ k. max k (greatest_clock old ns)) (sym (same_at n all.0).clock) ∙ ap (λ k. max (clock_of new n) k) (greatest_same ns all.1)

    pub join-now : (clock : ℕ) (value : S) → IsReadyJoin meaning seen others clock value → IsReadyJoin meaning now others clock value
    join-now clock value was = record {
      there = All-weaker (λ n. n < length old) (λ n. n < length new) (λ n lt. let size = more in omega arith) others there;
      several = was.several;
      few = was.few;
      brought =
          brought-same (graph_of old) (graph_of new) seen.head same-head.reach others
          (AllByRecursion-more (λ n. n < length old) (λ n. (m : ℕ) → reaches (graph_of new) n m ≡ reaches (graph_of old) n m) others (λ n lt. (same_at n lt).reach) all_there)
          ∙ was.brought;
      fits =
          let same = merge_refusal-same meaning seen.terms.limits old new (seen.head ∷ others) same_several.visible ∙ was.fits in
          subst (λ (t : Terms). merge_refusal meaning t.limits new (seen.head ∷ others) ≡ None) terms same;
      timed = was.timed ∙ greatest_same (seen.head ∷ others) (seen-there meaning laws seen is, all_there);
      stands = subst (λ (y : List (Event O R)). meaning.stands value y) (sym same_several.visible) was.stands;
    }

  -- the newest head reaches the one that was seen
  pub head-below : IsValid meaning core.terms core.history → IsTrue (reaches (graph_of new) (head_of (store_of core.terms.origin core.history).branches seen.branch) seen.head)
  head-below valid =
      let e = prefix.1 in
      let here : IsValid meaning seen.terms core.history = subst (λ (t : Terms). IsValid meaning t core.history) (sym terms) valid in
      let all : IsValid meaning seen.terms (seen.history ++ prefix.0) = subst (λ (l : List (Move O R)). IsValid meaning seen.terms l) (sym e) here in
      let then_head : ℕ = head_of (store_of seen.terms.origin seen.history).branches seen.branch in
      let there : then_head < length old = (seen-kept meaning laws seen is).ordered.heads seen.branch is.branch in
      let up = valid-rises meaning seen.terms laws seen.history prefix.0 seen.branch all is.branch in
      let later : Store O R = store_of seen.terms.origin core.history in
      let rises : IsTrue (reaches (graph_of later.commits) (head_of later.branches seen.branch) then_head) =
      subst (λ (l : List (Move O R)). IsTrue (reaches (graph_of (store_of seen.terms.origin l).commits) (head_of (store_of seen.terms.origin l).branches seen.branch) then_head)) e up in
      let ranked = (valid-kept meaning seen.terms laws core.history here).ordered.ranked in
      subst (λ (s : Store O R). IsTrue (reaches (graph_of s.commits) (head_of s.branches seen.branch) seen.head)) now_is
      (reaches-trans (graph_of later.commits) ranked (head_of later.branches seen.branch) then_head seen.head rises
      ((same-later meaning laws seen is then_head there core.history prefix).reach seen.head ∙ is.below))

  module _ (branch head : ℕ) (at_branch : branch ≡ seen.branch) (at : head ≡ seen.head) where
    pub branch-there : branch < length (store_of core.terms.origin core.history).branches
    branch-there = subst (λ (b : ℕ). b < length (store_of core.terms.origin core.history).branches) (sym at_branch) branch-now

    at_seen : {X : Type 0} (f : ℕ → ℕ → X) → f seen.branch seen.head ≡ f branch head
    at_seen f = sym (ap (λ b. f b head) at_branch ∙ ap (f seen.branch) at)

    pub operation-ready : (time : Time) (value : S) (op : O) (reply : R) → IsReadyOperation meaning seen time value op reply → IsReadyOperation meaning (at_head core branch head) time value op reply
    operation-ready time value op reply was =
        subst (λ (v : SeenView (Move O R)). IsReadyOperation meaning v time value op reply) (at_seen (at_head core)) (operation-now time value op reply was)

    pub merge-ready : (commit clock : ℕ) (value : S) → IsReadyMerge meaning seen commit clock value → IsReadyMerge meaning (at_head core branch head) commit clock value
    merge-ready commit clock value was =
        subst (λ (v : SeenView (Move O R)). IsReadyMerge meaning v commit clock value) (at_seen (at_head core)) (merge-now commit was.there clock value was)

    pub join-ready : (others : List ℕ) (clock : ℕ) (value : S) → IsReadyJoin meaning seen others clock value → IsReadyJoin meaning (at_head core branch head) others clock value
    join-ready others clock value was =
        subst (λ (v : SeenView (Move O R)). IsReadyJoin meaning v others clock value) (at_seen (at_head core)) (join-now others was.there clock value was)

    pub forward-ready : (commit : ℕ) → IsReadyForward seen.terms seen.history seen.head commit → IsReadyForward core.terms core.history head commit
    forward-ready commit was = subst (λ (h : ℕ). IsReadyForward core.terms core.history h commit) (sym at) (forward-now commit was.there was)

    module _ (valid : IsValid meaning core.terms core.history) where
      commit_stale : (newest : ℕ) → commit_refusal core.terms core.history seen.branch seen.head ≡ Some (machine.Stale newest) → IsTrue (reaches (graph_of new) newest seen.head)
      unfolding commit_refusal room_refusal move_refusal
      commit_stale newest is =
          let e = stale_is _ _ _ _ _ _ _ _ newest is in
          subst (λ (n : ℕ). IsTrue (reaches (graph_of new) n seen.head)) (sym e) (head-below valid)

      forward_stale : (newest : ℕ) → forward_refusal core.terms core.history seen.branch seen.head ≡ Some (machine.Stale newest) → IsTrue (reaches (graph_of new) newest seen.head)
      unfolding forward_refusal move_refusal
      forward_stale newest is =
          let e = stale_is _ _ false _ _ _ 0 _ newest is in
          subst (λ (n : ℕ). IsTrue (reaches (graph_of new) n seen.head)) (sym e) (head-below valid)

      -- a refusal of the move is the machine's, whatever work it is of which the machine refuses all that this refuses
      commit_refused : (work : Work O R) → ((refusal : machine.Refusal) → commit_refusal core.terms core.history seen.branch seen.head ≡ Some refusal → Refuses meaning core.terms core.history (step_of seen work) refusal)
          → (refusal : LandRefused) → RefusedBy (commit_refusal core.terms core.history branch head) refusal → LandRefusedAs meaning (record { seen = seen; work = work }) core refusal
      commit_refused work turns (land_refusal.Stale newest) is =
          let here = at_seen (commit_refusal core.terms core.history) ∙ is in
          (turns (machine.Stale newest) here, commit_stale newest here)
      commit_refused work turns (land_refusal.Dropped gone) is = turns (machine.Dropped gone) (at_seen (commit_refusal core.terms core.history) ∙ is)
      commit_refused work turns (land_refusal.FullCommits count) is = turns (machine.FullCommits count) (at_seen (commit_refusal core.terms core.history) ∙ is)
      commit_refused work turns (land_refusal.FullMoves count) is = turns (machine.FullMoves count) (at_seen (commit_refusal core.terms core.history) ∙ is)
      commit_refused work turns land_refusal.Memory is = tt

      forward_refused : (work : Work O R) → ((refusal : machine.Refusal) → forward_refusal core.terms core.history seen.branch seen.head ≡ Some refusal → Refuses meaning core.terms core.history (step_of seen work) refusal)
          → (refusal : LandRefused) → RefusedBy (forward_refusal core.terms core.history branch head) refusal → LandRefusedAs meaning (record { seen = seen; work = work }) core refusal
      forward_refused work turns (land_refusal.Stale newest) is =
          let here = at_seen (forward_refusal core.terms core.history) ∙ is in
          (turns (machine.Stale newest) here, forward_stale newest here)
      forward_refused work turns (land_refusal.Dropped gone) is = turns (machine.Dropped gone) (at_seen (forward_refusal core.terms core.history) ∙ is)
      forward_refused work turns (land_refusal.FullCommits count) is = turns (machine.FullCommits count) (at_seen (forward_refusal core.terms core.history) ∙ is)
      forward_refused work turns (land_refusal.FullMoves count) is = turns (machine.FullMoves count) (at_seen (forward_refusal core.terms core.history) ∙ is)
      forward_refused work turns land_refusal.Memory is = tt

      module _ {X : Type 0} (r : Result X LandRefused) where
        pub operation-refused : (time : Time) (value : S) (op : O) (reply : R) → IsReadyOperation meaning seen time value op reply → IfErr r (RefusedBy (commit_refusal core.terms core.history branch head)) → IfErr r (LandRefusedAs meaning (record { seen = seen; work = Operation op reply }) core)
        operation-refused time value op reply was =
            let fits = (operation-now time value op reply was).fits in
            IfErr-weaker r (RefusedBy (commit_refusal core.terms core.history branch head)) (LandRefusedAs meaning (record { seen = seen; work = Operation op reply }) core)
            (commit_refused (Operation op reply) (λ refusal is. land-refused meaning core.terms core.history seen.branch seen.head op refusal fits is))

        pub merge-is_refused : (commit clock : ℕ) (value : S) → IsReadyMerge meaning seen commit clock value → IfErr r (RefusedBy (commit_refusal core.terms core.history branch head)) → IfErr r (LandRefusedAs meaning (record { seen = seen; work = Merge commit }) core)
        merge-is_refused commit clock value was =
            let here = merge-now commit was.there clock value was in
            IfErr-weaker r (RefusedBy (commit_refusal core.terms core.history branch head)) (LandRefusedAs meaning (record { seen = seen; work = Merge commit }) core)
            (commit_refused (Merge commit) (λ refusal is. merge-refused meaning core.terms core.history seen.branch seen.head commit refusal here.above here.below here.fits is))

        pub join-is_refused : (others : List ℕ) (clock : ℕ) (value : S) → IsReadyJoin meaning seen others clock value → IfErr r (RefusedBy (commit_refusal core.terms core.history branch head)) → IfErr r (LandRefusedAs meaning (record { seen = seen; work = Join others }) core)
        join-is_refused others clock value was =
            let here = join-now others was.there clock value was in
            IfErr-weaker r (RefusedBy (commit_refusal core.terms core.history branch head)) (LandRefusedAs meaning (record { seen = seen; work = Join others }) core)
            (commit_refused (Join others) (λ refusal is. several-refused meaning core.terms core.history seen.branch seen.head others here.several refusal here.brought here.fits is))

        pub forward-is_refused : (commit : ℕ) → IsReadyForward seen.terms seen.history seen.head commit → IfErr r (RefusedBy (forward_refusal core.terms core.history branch head)) → IfErr r (LandRefusedAs meaning (record { seen = seen; work = Forward commit }) core)
        forward-is_refused commit was =
            let here = forward-now commit was.there was in
            IfErr-weaker r (RefusedBy (forward_refusal core.terms core.history branch head)) (LandRefusedAs meaning (record { seen = seen; work = Forward commit }) core)
            (forward_refused (Forward commit) (λ refusal is. forward-refused meaning core.terms core.history seen.branch seen.head commit refusal here.above here.below is))
