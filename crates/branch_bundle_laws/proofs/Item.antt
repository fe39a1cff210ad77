-- A commit of one valid history whose parents another has: some step of that receives it.
use Rattle.std.proofs.Common.{◌≡◌, ℕ, ◌+◌, ◌<◌, ◌^◌, Bool, true, false, cond, List, [], ◌∷◌, ◌++◌, length, map, refl, ap, sym, ◌∙◌, arith, subst, Option, Some, None}
use Rattle.std.specs.List.{AllByRecursion, cons_option}
use Rattle.mrdt_model.specs.declared.time.Time.{Time}
use Rattle.mrdt_model.specs.Times.{IsTime, same_time, among}
use Rattle.mrdt_model.specs.Executions.{Event, event_at, IsSameEvent, AreSameEvent, HoldSameEvents}
use Rattle.mrdt_model.specs.Laws.{Meaning, KeepsLaws, Lawful}
use Rattle.mrdt_model.proofs.Executions.{next-lawful}
use Rattle.mrdt_model.proofs.SameEvents.{times-alike}
use Rattle.branch_wire.specs.declared.action.Action.TheVariants as wire
use Rattle.branch_history.specs.Laws.{IsEventAt}
use Rattle.branch_graph.specs.Graph.{parents_of, reaches}
use Rattle.branch_history.specs.declared.moves.Move.{Move}
use Rattle.branch_names.specs.declared.terms.Terms.{Terms}
use Rattle.branch_history.specs.Commits.{greatest_clock, Commit, graph_of, clock_of, origin_of, event_of, visible, visible_at_all, all_events}
use Rattle.branch_history.specs.History.{operation_commit, merge_commit}
use Rattle.branch_history.specs.Steps.{Step, ReceiveOperation, ReceiveMerge}
use Rattle.branch_history.specs.Machine.{event_made}
use Rattle.branch_history.specs.Validity.{AreCommits}
use Rattle.branch_history.proofs.Grown.{visible-chosen, visible_at_all-one, visible-new}
use Rattle.branch_history.proofs.Kept.{IsKept, visible-after, visible_at_all-closed, closed-lawful}
use Rattle.branch_history.proofs.Histories.{visible-lawful, few_chosen}
use Rattle.branch_machine.specs.Fixed.{Fixed, fix}
use Rattle.branch_machine.specs.Objects.{Pair, kept_value, kept_address, commit_text, value_text, address_at, silent_action, action_of, pair_at, pairs_of, store_after}
use Rattle.branch_machine.specs.Machine.{pair_next}
use Rattle.branch_machine.specs.Laws.{HasSize}
use Rattle.branch_machine.specs.Validity.{IsFullyValid, IsItem}
use Rattle.branch_machine.proofs.Valid.{valid-before}
use Rattle.branch_bundle_laws.specs.Bundles.{item_at}
use Rattle.branch_bundle_laws.proofs.Mapped.{few-mapped, apart-mapped}
use Rattle.branch_bundle_laws.proofs.Made.{IsOperationOn, IsMergeOn, IsMadeOn}
use Rattle.branch_bundle_laws.proofs.Behind.{object}
use Rattle.branch_bundle_laws.proofs.Fields.{kept, made, behind}
use Rattle.branch_bundle_laws.proofs.Alike.{IsAlike, layout-to, one-to, addresses-to, within-to, clock-to, greatest-to, reach-same, hold-same, hold-all}

-- one more event that is the same
hold-more : {O R : Type 0} (e f : Event O R) (x y : List (Event O R)) → IsSameEvent e f → HoldSameEvents x y → HoldSameEvents (e ∷ x) (f ∷ y)
hold-more e f x y same hold t =
    subst (λ b. AreSameEvent (event_at (e ∷ x) t) (cond b (Some f) (event_at y t))) (ap (λ s. same_time t s) same.time) (step (same_time t e.time))
  where
    step : (b : Bool) → AreSameEvent (cond b (Some e) (event_at x t)) (cond b (Some f) (event_at y t))
    step true = same
    step false = hold t

module _ {S O R Q A : Type 0} (meaning : Meaning S O R Q A) (laws : KeepsLaws meaning) (address : List ℕ → List ℕ) (size : HasSize address) (terms others : Terms) (moves more : List (Move O R)) (valid : IsFullyValid (fix meaning terms address) moves) (also : IsFullyValid (fix meaning others address) more) where
  abbrev one : Fixed S O R Q A
  one = fix meaning terms address

  abbrev other : Fixed S O R Q A
  other = fix meaning others address

  abbrev cs : List (Commit O R)
  cs = (store_after one moves).commits

  abbrev ds : List (Commit O R)
  ds = (store_after other more).commits

  abbrev ps : List Pair
  ps = pairs_of one cs

  abbrev qs : List Pair
  qs = pairs_of other ds

  abbrev g : List (List ℕ)
  g = graph_of cs

  kept-one : IsKept meaning terms (store_after one moves)
  kept-one = kept one laws size moves valid

  kept-other : IsKept meaning others (store_after other more)
  kept-other = kept other laws size more also

  few-visible : (k : ℕ) → length (visible ds k) < length ds
  few-visible k = subst (λ (y : List (Event O R)). length y < length ds) (sym (visible-chosen ds k)) (few_chosen meaning others laws more (valid-before other more also) (reaches (graph_of ds) k))

  all-lawful : (ns : List ℕ) → Lawful meaning (visible_at_all ds ns)
  all-lawful ns = closed-lawful meaning (visible_at_all ds ns) (all_events ds) kept-other.lawful (visible_at_all-closed ds kept-other.ordered.ranked kept-other.ordered.rising kept-other.events kept-other.distinct ns)

  module _ (D : ℕ → Type 0) (to : ℕ → ℕ) (inside : (n : ℕ) → D n → n < length cs) (down : (n : ℕ) → D n → AllByRecursion D (parents_of g n)) (alike : (n : ℕ) → D n → (to n < length ds) × IsAlike ps qs n (to n)) (n : ℕ) (lt : n < length cs) where
    -- a commit that would come next has the objects of commit n, if it has its fields and shows the same
    same-objects : terms.layout ≡ others.layout → (c : Commit O R) (ns : List ℕ) → AllByRecursion D ns → parents_of g n ≡ ns → c.parents ≡ map to ns → c.origin ≡ origin_of cs n → c.clock ≡ clock_of cs n
        → action_of other c.parents c.event ≡ action_of one (parents_of g n) (event_of cs n) → meaning.spelling_of (visible (ds ++ c ∷ []) (length ds)) ≡ meaning.spelling_of (visible cs n)
        → pair_next other more c ≡ item_at ps n
    same-objects layouts c ns all parents_are parents origins clocks actions spellings =
        let p : Pair = pair_at other ds qs c in
        let values : p.value ≡ value_text ps n =
        ap (kept_value others.layout) spellings ∙ ap (λ l. kept_value l (meaning.spelling_of (visible cs n))) (sym layouts) ∙ sym (behind one laws size moves valid n lt).value in
        let lists : map (address_at address qs) c.parents ≡ map (address_at address ps) (parents_of g n) =
        ap (map (address_at address qs)) parents ∙ sym (addresses-to meaning laws address size terms others moves more valid also D to inside down alike ns all) ∙ ap (map (address_at address ps)) (sym parents_are) in
        let texts : p.commit ≡ commit_text ps n =
        ap (λ l. object l c.origin c.clock (kept_address others.layout (address p.value)) (action_of other c.parents c.event)) lists
        ∙ ap (λ k. object (map (address_at address ps) (parents_of g n)) k c.clock (kept_address others.layout (address p.value)) (action_of other c.parents c.event)) origins
        ∙ ap (λ k. object (map (address_at address ps) (parents_of g n)) (origin_of cs n) k (kept_address others.layout (address p.value)) (action_of other c.parents c.event)) clocks
        ∙ ap (λ v. object (map (address_at address ps) (parents_of g n)) (origin_of cs n) (clock_of cs n) (kept_address others.layout (address v)) (action_of other c.parents c.event)) values
        ∙ ap (λ l. object (map (address_at address ps) (parents_of g n)) (origin_of cs n) (clock_of cs n) (kept_address l (address (value_text ps n))) (action_of other c.parents c.event)) (sym layouts)
        ∙ ap (λ a. object (map (address_at address ps) (parents_of g n)) (origin_of cs n) (clock_of cs n) (kept_address terms.layout (address (value_text ps n))) a) actions
        ∙ sym (behind one laws size moves valid n lt).text in
        ap (λ v. record { value = v; commit = p.commit }) values ∙ ap (λ t. record { value = value_text ps n; commit = t }) texts

    in-range : clock_of cs n < 2 ^ 64
    in-range = let low = kept-one.low n in let high = terms.limits.in_range.clock_high in omega arith

    abbrev Item : Type 0
    Item = (step : Step O Q) × IsItem other more step (item_at ps n)

    -- an operation
    module _ (e : Event O R) (is : event_of cs n ≡ Some e) (eo : IsOperationOn meaning terms.limits.value cs (parents_of g n) e) (all : AllByRecursion D (parents_of g n)) where
      ea : IsEventAt cs n e
      ea = kept-one.events n e is

      abbrev p : ℕ
      p = ea.parent

      known : AllByRecursion D (p ∷ [])
      known = subst (AllByRecursion D) ea.parents all

      less : to p < length ds
      less = (alike p known.0).0

      parent : eo.parent ≡ p
      parent = let lists : eo.parent ∷ [] ≡ p ∷ [] = sym eo.parents_are ∙ ea.parents in cc lists

      abbrev op : O
      op = e.operation

      abbrev reply : R
      reply = meaning.reply_of (visible ds (to p)) op

      abbrev c : Commit O R
      c = operation_commit ds (origin_of cs n) (to p) op reply

      abbrev f : Event O R
      f = event_made meaning ds (origin_of cs n) (to p) op

      hold : HoldSameEvents (visible cs p) (visible ds (to p))
      hold = hold-same meaning laws address size terms others moves more valid also D to inside down alike p known.0

      replies : e.reply ≡ reply
      replies =
          eo.replies ∙ ap (λ k. meaning.reply_of (visible cs k) op) parent
          ∙ (laws.any_order (visible cs p) (visible ds (to p)) (visible-lawful meaning terms (store_after one moves) kept-one p) (visible-lawful meaning others (store_after other more) kept-other (to p)) hold).replies op

      clocks : clock_of cs n ≡ clock_of ds (to p) + 1
      clocks = ea.next ∙ ap (λ k. k + 1) (clock-to meaning laws address size terms others moves more valid also D to inside down alike p known.0)

      same : IsSameEvent e f
      same = record {
        time = ea.time ∙ ap (λ k. record { clock = k; origin = origin_of cs n }) clocks;
        operation = refl;
        reply = replies;
        seen = λ t. ap (λ (l : List Time). among l t) ea.seen ∙ times-alike (visible cs p) (visible ds (to p)) hold t;
      }

      lawful : Lawful meaning (f ∷ visible ds (to p))
      lawful =
          let x = visible ds (to p) in
          let before = visible-lawful meaning others (store_after other more) kept-other (to p) in
          let low = kept-one.low n in
          let high = terms.limits.in_range.clock_high in
          let time : IsTime f.time = (omega (arith, clocks), kept-one.ordered.small n lt) in
          let later = visible-after ds kept-other.ordered.ranked kept-other.ordered.rising kept-other.events (to p) (origin_of cs n) in
          let few = few-visible (to p) in
          let commits = kept-other.few_commits in
          let most = others.limits.in_range.commits_high in
          let room : length x + 1 < 2 ^ 32 = omega arith in
          next-lawful meaning.is_op meaning.is_reply meaning.reply_of x f.time op reply before time later eo.known (laws.replies_in_range x op before eo.known) refl room

      sees-one : visible cs n ≡ e ∷ visible cs p
      sees-one =
          (behind one laws size moves valid n lt).sees ∙ ap (λ o. cons_option o (visible_at_all cs (parents_of g n))) is ∙ ap (λ (l : List ℕ). e ∷ visible_at_all cs l) ea.parents
          ∙ ap (λ (x : List (Event O R)). e ∷ x) (visible_at_all-one cs p)

      sees-other : visible (ds ++ c ∷ []) (length ds) ≡ f ∷ visible ds (to p)
      sees-other = visible-new ds c kept-other.ordered.ranked (less, tt) ∙ ap (λ (x : List (Event O R)). f ∷ x) (visible_at_all-one ds (to p))

      spellings : meaning.spelling_of (visible (ds ++ c ∷ []) (length ds)) ≡ meaning.spelling_of (visible cs n)
      spellings =
          let first = subst (λ (x : List (Event O R)). Lawful meaning x) sees-one (visible-lawful meaning terms (store_after one moves) kept-one n) in
          ap meaning.spelling_of sees-other
          ∙ sym (laws.any_order (e ∷ visible cs p) (f ∷ visible ds (to p)) first lawful (hold-more e f (visible cs p) (visible ds (to p)) same hold)).spellings
          ∙ ap meaning.spelling_of (sym sees-one)

      actions : action_of other c.parents c.event ≡ action_of one (parents_of g n) (event_of cs n)
      actions = sym (ap (action_of one (parents_of g n)) is ∙ ap (λ r. wire.Operation (meaning.op_spelling op) (meaning.reply_spelling r)) replies)

      operation-item : Item
      operation-item = (
        ReceiveOperation (origin_of cs n) (to p) op,
        record {
          may = (kept-one.ordered.small n lt, less, eo.known);
          commit = c;
          received = refl;
          clock = omega (arith, clocks, in-range);
          objects = same-objects (layout-to meaning laws address size terms others moves more valid also D to inside down alike p known.0) c (p ∷ []) known ea.parents refl refl (sym clocks) actions spellings;
        },
      )

    -- a merge
    module _ (is : event_of cs n ≡ None) (mo : IsMergeOn cs (parents_of g n) (clock_of cs n)) (all : AllByRecursion D (parents_of g n)) where
      abbrev a : ℕ
      a = mo.parent

      abbrev ms : List ℕ
      ms = mo.others

      known-all : AllByRecursion D (a ∷ ms)
      known-all = subst (AllByRecursion D) mo.parents_are all

      abbrev merged : Commit O R
      merged = merge_commit ds (origin_of cs n) (to a ∷ map to ms)

      within : AreCommits ds (to a ∷ map to ms)
      within = within-to meaning laws address size terms others moves more valid also D to inside down alike (a ∷ ms) known-all

      hold-both : HoldSameEvents (visible_at_all cs (a ∷ ms)) (visible_at_all ds (to a ∷ map to ms))
      hold-both = hold-all meaning laws address size terms others moves more valid also D to inside down alike (a ∷ ms) known-all

      sees-one-all : visible cs n ≡ visible_at_all cs (a ∷ ms)
      sees-one-all = (behind one laws size moves valid n lt).sees ∙ ap (λ o. cons_option o (visible_at_all cs (parents_of g n))) is ∙ ap (visible_at_all cs) mo.parents_are

      spelled : meaning.spelling_of (visible (ds ++ merged ∷ []) (length ds)) ≡ meaning.spelling_of (visible cs n)
      spelled =
          let first = subst (λ (x : List (Event O R)). Lawful meaning x) sees-one-all (visible-lawful meaning terms (store_after one moves) kept-one n) in
          ap meaning.spelling_of (visible-new ds merged kept-other.ordered.ranked within)
          ∙ sym (laws.any_order (visible_at_all cs (a ∷ ms)) (visible_at_all ds (to a ∷ map to ms)) first (all-lawful (to a ∷ map to ms)) hold-both).spellings
          ∙ ap meaning.spelling_of (sym sees-one-all)

      merge-actions : action_of other merged.parents merged.event ≡ action_of one (parents_of g n) (event_of cs n)
      merge-actions = sym (ap (action_of one (parents_of g n)) is ∙ ap silent_action mo.parents_are)

      merge-clocks : clock_of cs n ≡ greatest_clock ds (to a ∷ map to ms)
      merge-clocks = mo.greatest ∙ greatest-to meaning laws address size terms others moves more valid also D to inside down alike (a ∷ ms) known-all

      merge-item : Item
      merge-item = (
        ReceiveMerge (origin_of cs n) (to a) (map to ms),
        record {
          may = (
            kept-one.ordered.small n lt,
            within.0,
            within.1,
            few-mapped to ms mo.few,
            apart-mapped to D (one-to meaning laws address size terms others moves more valid also D to inside down alike) g (graph_of ds) (reach-same meaning laws address size terms others moves more valid also D to inside down alike) a ms known-all.0 known-all.1 mo.apart,
          );
          commit = merged;
          received = refl;
          clock = omega (arith, merge-clocks, in-range);
          objects = same-objects (layout-to meaning laws address size terms others moves more valid also D to inside down alike a known-all.0) merged (a ∷ ms) known-all mo.parents_are refl refl (sym merge-clocks) merge-actions spelled;
        },
      )

    -- some step receives commit n, if its parents are there
    pub item-of : 0 < n → AllByRecursion D (parents_of g n) → Item
    item-of positive all = at (event_of cs n) refl
      where
        at : (o : Option (Event O R)) → event_of cs n ≡ o → Item
        at (Some e) is = operation-item e is (subst (λ o. IsMadeOn meaning terms.limits.value cs (parents_of g n) (clock_of cs n) o) is (made one laws size moves valid n positive lt)) all
        at None is = merge-item is (subst (λ o. IsMadeOn meaning terms.limits.value cs (parents_of g n) (clock_of cs n) o) is (made one laws size moves valid n positive lt)) all
