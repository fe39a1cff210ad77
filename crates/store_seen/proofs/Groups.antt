-- What a look and several commits come to: what a merge of them brings, and what the machine does with it from now on.
use Rattle.std.proofs.Common.{◌≡◌, ℕ, ◌<◌, ◌≤◌, List, [], ◌∷◌, ◌++◌, length, get_or, map, suc, refl, ap, sym, ◌∙◌, arith, Some, subst, Result, IfOk, IfErr, All}
use Rattle.std.specs.Prelude.{Contains}
use Rattle.std.specs.List.{AllByRecursion}
use Rattle.std.proofs.lemmas.List.Elements.{All-map, All-contains_itself}
use Rattle.std.proofs.lemmas.Result.{IfOk-weaker, IfErr-weaker}
use mathlib.Core.List.{IsPrefix}
use Rattle.mrdt_model.specs.Executions.{Event}
use Rattle.mrdt_model.specs.Laws.{Meaning, KeepsLaws}
use Rattle.branch_graph.specs.Graph.{reaches}
use Rattle.branch_graph.proofs.Ranked.{AllByRecursion-from_All, All-from_AllByRecursion}
use Rattle.branch_history.specs.declared.moves.Move.{Move}
use Rattle.branch_history.specs.Commits.{Commit, graph_of, greatest_clock, visible_at_all, all_events}
use Rattle.branch_history.specs.History.{store_of}
use Rattle.branch_history.specs.Laws.{IsSameAtAll}
use Rattle.branch_history.specs.Machine.{turn, answers, merge_refusal}
use Rattle.branch_history.specs.Merging.{brought}
use Rattle.branch_history.specs.Steps as machine
use Rattle.branch_history.specs.Validity.{AreCommits}
use Rattle.branch_history.proofs.Kept.{IsKept, visible_at_all-closed, closed-lawful}
use Rattle.branch_history.proofs.Later.{commits-longer, longer-same_at_all, merge_refusal-same}
use Rattle.branch_history.proofs.Lists.{AllByRecursion-more}
use Rattle.branch_history.proofs.Merging.{brought-all, brought-again, brought-shorter}
use Rattle.branch_history.proofs.Turns.{merge-too_large, merge-none as unrefused}
use Rattle.store_seen.specs.declared.answers.PairPrepareRefused.{PairPrepareRefused}
use Rattle.store_seen.specs.declared.answers.PairPrepareRefused.TheVariants as prepare_refusal
use Rattle.store_seen.specs.declared.pair.PairStep.{PairStep}
use Rattle.store_seen.specs.declared.pair.PairStep.TheVariants as step
use Rattle.store_seen.specs.declared.prepared.Ready.{Ready}
use Rattle.store_seen.specs.declared.prepared.Ready.TheVariants as ready
use Rattle.store_seen.specs.Groups.{look_of, grouped_at, others_of, pair_in, brought_by, AreHeads, MergesAllAs, AsksFor, IsWorkOfAll, IsStepOfAll, MergeAllRefusedAs}
use Rattle.store_seen.specs.Keeps.{IsSeen, IsReadyJoin, IsJoinReady, work_of}
use Rattle.store_seen.specs.Pairs.{paired_at, IsWorkOf, IsStepOf, MergeRefusedAs}
use Rattle.store_seen.specs.Turns.{FromOn, at_head}
use Rattle.store_seen.specs.Views.{CoreView, SeenView, PairView, look_in, GroupView, Work, Operation, Merge, Join, Forward}
use Rattle.store_seen.proofs.Brought.{brought-same}
use Rattle.store_seen.proofs.Joins.{merge-brings, merge-none, several-unprepared}
use Rattle.store_seen.proofs.Looks.{seen-kept, same-later}

module _ {S O R Q A : Type 0} (meaning : Meaning S O R Q A) (laws : KeepsLaws meaning) (group : GroupView (Move O R)) (is : IsSeen meaning (look_of group)) (there : All (λ n. n < length (store_of group.terms.origin group.history).commits) group.others) where
  abbrev commits : List (Commit O R)
  commits = (store_of group.terms.origin group.history).commits

  abbrev graph : List (List ℕ)
  graph = graph_of (store_of group.terms.origin group.history).commits

  all_there : AreCommits commits group.others
  all_there = AllByRecursion-from_All (λ n. n < length commits) group.others there

  pub brought-there : AreCommits commits (brought_by group)
  brought-there = brought-all graph group.head (λ n. n < length commits) group.others all_there

  pub brought-all_there : All (λ n. n < length commits) (brought_by group)
  brought-all_there = All-from_AllByRecursion (λ n. n < length commits) (brought_by group) brought-there

  -- what is brought was given
  pub brought-given : All (Contains group.others) (brought_by group)
  brought-given =
      All-from_AllByRecursion (Contains group.others) (brought_by group)
      (brought-all graph group.head (Contains group.others) group.others (AllByRecursion-from_All (Contains group.others) group.others (All-contains_itself group.others)))

  -- the head and what is brought, as the parents of a join
  pub parents-there : (ms parents : List ℕ) (head size : ℕ) → parents ≡ head ∷ ms → head ≡ group.head → ms ≡ brought_by group → size ≡ length commits → All (λ n. n < size) parents
  parents-there ms parents head size listed at are counted =
      let same : group.head ∷ brought_by group ≡ parents = ap (λ l. group.head ∷ l) (sym are) ∙ ap (λ h. h ∷ ms) (sym at) ∙ sym listed in
      All-from_AllByRecursion (λ n. n < size) parents
      (subst (λ (k : ℕ). AllByRecursion (λ n. n < k) parents) (sym counted) (subst (λ (l : List ℕ). AllByRecursion (λ n. n < length commits) l) same (is.head, brought-there)))

  module _ (later : List (Move O R)) (prefix : IsPrefix group.history later) where
    abbrev later_graph : List (List ℕ)
    later_graph = graph_of (store_of group.terms.origin later).commits

    later_brought : (ns : List ℕ) → AreCommits commits ns → brought later_graph group.head ns ≡ brought graph group.head ns
    later_brought ns all =
        brought-same graph later_graph group.head (same-later meaning laws (look_of group) is group.head is.head later prefix).reach ns
        (AllByRecursion-more (λ n. n < length commits) (λ n. (m : ℕ) → reaches later_graph n m ≡ reaches graph n m) ns (λ n lt. (same-later meaning laws (look_of group) is n lt later prefix).reach) all)

    same_all : (ns : List ℕ) → AreCommits commits ns → IsSameAtAll commits (store_of group.terms.origin later).commits ns []
    same_all ns all =
        subst (λ (l : List (Move O R)). IsSameAtAll commits (store_of group.terms.origin l).commits ns []) prefix.1
        (longer-same_at_all commits (store_of group.terms.origin (group.history ++ prefix.0)).commits (commits-longer group.terms.origin group.history prefix.0) (seen-kept meaning laws (look_of group) is).ordered.ranked ns [] all tt)

  -- a merge of the commits is one of what they bring, from now on
  asks : (ms : List ℕ) → brought_by group ≡ ms
      → FromOn meaning group.terms group.history (λ later. turn meaning group.terms later (machine.Merge group.branch group.head group.others) ≡ turn meaning group.terms later (machine.Merge group.branch group.head ms))
  asks ms e later prefix =
      merge-brings meaning group.terms later group.branch group.head group.others
      ∙ ap (λ l. turn meaning group.terms later (machine.Merge group.branch group.head l)) (later_brought later prefix group.others all_there ∙ e)

  pub same-from_on : (ms : List ℕ) → ms ≡ brought_by group → length ms < 1 → MergesAllAs meaning group machine.Same
  same-from_on [] are none later prefix = asks [] (sym are) later prefix ∙ merge-none meaning group.terms later group.branch group.head
  same-from_on (m ∷ ms) are none later prefix = absurd (omega arith)

  -- one commit is brought
  module _ (one : ℕ) (is_one : brought_by group ≡ one ∷ []) where
    pub one-given : Contains group.others one
    one-given =
        let all = subst (λ (l : List ℕ). AllByRecursion (Contains group.others) l) is_one (AllByRecursion-from_All (Contains group.others) (brought_by group) brought-given) in
        all.0

    pub one-there : one < length commits
    one-there =
        let all = subst (λ (l : List ℕ). AreCommits commits l) is_one brought-there in
        all.0

    one_work : (work : Work O R) → IsWorkOf meaning (pair_in group one) work → IsWorkOfAll meaning group work × AsksFor meaning group work
    one_work (Operation op reply) w = absurd w
    one_work (Merge commit) w =
        let only : brought_by group ≡ commit ∷ [] = is_one ∙ ap (λ n. n ∷ []) (sym w.0) in (
          (
            only,
            ap (λ n. reaches graph n group.head) w.0 ∙ w.2,
            ap (λ n. merge_refusal meaning group.terms.limits commits (group.head ∷ n ∷ [])) w.0 ∙ w.3,
          ),
          asks (commit ∷ []) only,
        )
    one_work (Join ns) w = absurd w
    one_work (Forward commit) w =
        let only : brought_by group ≡ commit ∷ [] = is_one ∙ ap (λ n. n ∷ []) (sym w.0) in
        ((only, ap (λ n. reaches graph n group.head) w.0 ∙ w.2), asks (commit ∷ []) only)

    one_step : (s : PairStep S O Q A R) → IsStepOf meaning (pair_in group one) s → IsStepOfAll meaning group s
    one_step step.Same w = λ later prefix. asks (one ∷ []) is_one later prefix ∙ w later prefix
    one_step (step.Land made) w =
        let work = one_work made.work w.1 in
        (w.0, work.0, work.1)

    one_refused : (refusal : PairPrepareRefused) → MergeRefusedAs meaning (pair_in group one) refusal → MergeAllRefusedAs meaning group refusal
    one_refused (prepare_refusal.ValueTooLarge size) w = λ later prefix. asks (one ∷ []) is_one later prefix ∙ w later prefix
    one_refused prepare_refusal.Memory w = tt

    pub one-step : {E : Type 0} (r : Result (PairStep S O Q A R) E) → IfOk r (IsStepOf meaning (pair_in group one)) → IfOk r (IsStepOfAll meaning group)
    one-step r = IfOk-weaker r (IsStepOf meaning (pair_in group one)) (IsStepOfAll meaning group) one_step

    pub one-refused : {X : Type 0} (r : Result X PairPrepareRefused) → IfErr r (MergeRefusedAs meaning (pair_in group one)) → IfErr r (MergeAllRefusedAs meaning group)
    one-refused r = IfErr-weaker r (MergeRefusedAs meaning (pair_in group one)) (MergeAllRefusedAs meaning group) one_refused

  -- several commits are brought
  module _ (ms : List ℕ) (are : ms ≡ brought_by group) (several : 2 ≤ length ms) where
    pub join-there : AreCommits commits ms
    join-there = subst (λ (l : List ℕ). AreCommits commits l) (sym are) brought-there

    again : brought graph group.head ms ≡ ms
    again = ap (brought graph group.head) are ∙ brought-again graph group.head group.others ∙ sym are

    pub join-given : All (Contains group.others) ms
    join-given = subst (λ (l : List ℕ). All (Contains group.others) l) (sym are) brought-given

    kept : IsKept meaning group.terms (store_of group.terms.origin group.history)
    kept = seen-kept meaning laws (look_of group) is

    -- what the head or one of them sees
    abbrev union : List (Event O R)
    union = visible_at_all (store_of group.terms.origin group.history).commits (group.head ∷ ms)

    refused_from_on : (refusal : machine.Refusal) → merge_refusal meaning group.terms.limits commits (group.head ∷ ms) ≡ Some refusal → MergesAllAs meaning group (machine.Refused refusal)
    refused_from_on refusal e later prefix =
        asks ms (sym are) later prefix
        ∙ several-unprepared meaning group.terms later group.branch group.head ms several refusal (later_brought later prefix ms join-there ∙ again)
        (merge_refusal-same meaning group.terms.limits commits (store_of group.terms.origin later).commits (group.head ∷ ms) (same_all later prefix (group.head ∷ ms) (is.head, join-there)).visible ∙ e)

    module _ (value : S) (stands : meaning.stands value union) where
      join_size : length (meaning.state_spelling value) ≡ length (meaning.spelling_of union)
      join_size =
          let part = visible_at_all-closed commits kept.ordered.ranked kept.ordered.rising kept.events kept.distinct (group.head ∷ ms) in
          ap length (laws.one_spelling value union (closed-lawful meaning union (all_events commits) kept.lawful part) stands)

      pub join-too_large : (size : ℕ) → size ≡ length (meaning.state_spelling value) → group.terms.limits.value < size → MergesAllAs meaning group (machine.Refused (machine.ValueTooLarge size))
      join-too_large size e large =
          let spelled = e ∙ join_size in
          refused_from_on (machine.ValueTooLarge size)
          (merge-too_large meaning group.terms.limits commits (group.head ∷ ms) (subst (λ (n : ℕ). group.terms.limits.value < n) spelled large) ∙ ap (λ n. Some (machine.ValueTooLarge n)) (sym spelled))

      pub join-ready : length group.others ≤ 8 → (clock size : ℕ) → clock ≡ greatest_clock commits (group.head ∷ ms) → size ≡ length (meaning.state_spelling value) → size ≤ group.terms.limits.value → IsReadyJoin meaning (look_of group) ms clock value
      join-ready few clock size timed e fits = record {
        there = All-from_AllByRecursion (λ n. n < length commits) ms join-there;
        several = several;
        few = let shorter = brought-shorter graph group.head group.others in let count = ap length are in omega arith;
        brought = again;
        fits = unrefused meaning group.terms.limits commits (group.head ∷ ms) (subst (λ (n : ℕ). n ≤ group.terms.limits.value) (e ∙ join_size) fits);
        timed = timed;
        stands = stands;
      }

    -- and are the work of the group
    pub join-work : (made : Ready S O R) → IsJoinReady meaning (look_of group) ms made → IsWorkOfAll meaning group (work_of made) × AsksFor meaning group (work_of made)
    join-work (ready.Operation time value op reply spelled) w = absurd w
    join-work (ready.Merge commit clock value spelled) w = absurd w
    join-work (ready.Join ns clock value spelled) w =
        let only : brought_by group ≡ ns = sym are ∙ sym w.0 in
        let join = w.1 in
        ((only, join.several, join.fits), asks ns only)
    join-work (ready.Forward commit) w = absurd w

-- a list of one number
pub single : (ms : List ℕ) → 1 ≤ length ms → length ms < 2 → ms ≡ get_or ms 0 0 ∷ []
single [] some few = absurd (omega arith)
single (m ∷ []) some few = refl
single (m ∷ k ∷ ks) some few = absurd (omega arith)

-- the commits of pairs are there
pub others-there : {M : Type 0} (pairs : List (PairView M)) (n : ℕ) → All (λ p. p.other < n) pairs → All (λ k. k < n) (map (λ p. p.other) pairs)
others-there pairs n all = All-map (λ k. k < n) (λ p. p.other) pairs all

-- and one name more with its head
pub AreHeads-push : {S O R Q A : Type 0} (meaning : Meaning S O R Q A) (core : CoreView (Move O R)) (names : List (List ℕ)) (heads : List ℕ) → AreHeads meaning core names heads → (name : List ℕ) (source head : ℕ)
    → turn meaning core.terms core.history (machine.Look name) ≡ answers {A = A} (machine.Sees source head) → AreHeads meaning core (names ++ name ∷ []) (heads ++ head ∷ [])
AreHeads-push meaning core [] [] are name source head sees = ((source, sees), tt)
AreHeads-push meaning core [] (h ∷ heads) are name source head sees = absurd are
AreHeads-push meaning core (n ∷ names) [] are name source head sees = absurd are
AreHeads-push meaning core (n ∷ names) (h ∷ heads) are name source head sees = (are.0, AreHeads-push meaning core names heads are.1 name source head sees)

-- the pairs of a look at a core with some commits
module _ {O R : Type 0} (core : CoreView (Move O R)) (seen : SeenView (Move O R)) where
  pub looks-paired : (others : List ℕ) → All (λ p. look_in p ≡ at_head core seen.branch seen.head) (map (paired_at core seen) others)
  looks-paired others =
      All-map (λ p. look_in p ≡ at_head core seen.branch seen.head) (paired_at core seen) others (All-from_AllByRecursion (λ n. look_in (paired_at core seen n) ≡ at_head core seen.branch seen.head) others (each others))
    where
      each : (ns : List ℕ) → AllByRecursion (λ n. look_in (paired_at core seen n) ≡ at_head core seen.branch seen.head) ns
      each [] = tt
      each (n ∷ ns) = (refl, each ns)

  pub there-paired : (others : List ℕ) (size : ℕ) → All (λ n. n < size) others → All (λ p. p.other < size) (map (paired_at core seen) others)
  there-paired others size all = All-map (λ p. p.other < size) (paired_at core seen) others all

  pub others-paired : (others : List ℕ) → map (λ p. p.other) (map (paired_at core seen) others) ≡ others
  others-paired [] = refl
  others-paired (n ∷ ns) = ap (λ l. n ∷ l) (others-paired ns)

  pub length-paired : (others : List ℕ) → length (map (paired_at core seen) others) ≡ length others
  length-paired [] = refl
  length-paired (n ∷ ns) = ap suc (length-paired ns)

  abbrev view_of : SeenView (Move O R) → List ℕ → GroupView (Move O R)
  view_of s others = record { history = s.history; terms = s.terms; branch = s.branch; head = s.head; others = others }

  pub group-view : (look : SeenView (Move O R)) (pairs : List (PairView (Move O R))) (others : List ℕ) → look ≡ at_head core seen.branch seen.head → pairs ≡ map (paired_at core seen) others → view_of look (others_of pairs) ≡ grouped_at core seen others
  group-view look pairs others look_is pairs_are =
      ap (λ s. view_of s (others_of pairs)) look_is ∙ ap (λ l. view_of (at_head core seen.branch seen.head) (others_of l)) pairs_are ∙ ap (view_of (at_head core seen.branch seen.head)) (others-paired others)
