-- Commits of another store, made anew and received.
use Rattle.std.proofs.Common.{◌≡◌, ℕ, ◌+◌, ◌<◌, ◌≤◌, ◌^◌, true, false, List, [], ◌∷◌, ◌++◌, length, refl, ap, sym, ◌∙◌, arith, All, Option, Some, None, subst}
use Rattle.std.proofs.lemmas.List.Elements.{All-nil, All-cons}
use Rattle.std.specs.Option.{option_map}
use Rattle.mrdt_model.specs.declared.time.Time.{Time}
use Rattle.mrdt_model.specs.Times.{IsTime}
use Rattle.mrdt_model.specs.Executions.{Event, IsAfter, next_event}
use Rattle.mrdt_model.specs.Laws.{Meaning, Lawful, KeepsLaws, Applies}
use Rattle.mrdt_model.proofs.Executions.{next-lawful}
use Rattle.branch_graph.specs.Graph.{reaches}
use Rattle.branch_graph.proofs.Ranked.{All-from_AllByRecursion}
use Rattle.branch_names.specs.declared.terms.Terms.{Terms}
use Rattle.branch_names.specs.Terms.{is_own}
use Rattle.branch_history.specs.declared.moves.Move.{Move}
use Rattle.branch_history.specs.declared.moves.Move.TheVariants as move
use Rattle.branch_history.specs.Commits.{Commit, graph_of, clock_of, greatest_clock, visible, visible_at_all, all_events}
use Rattle.branch_history.specs.History.{Store, store_of, received_commit, operation_commit}
use Rattle.branch_history.specs.Machine.{turn, makes, unless, or_later, event_made, event_length, clash_refusal, operation_refusal, merge_refusal, room_refusal, received_operation_refusal, received_merge_refusal}
use Rattle.branch_history.specs.Steps as machine
use Rattle.branch_history.specs.Validity.{AreCommits, IsStep, IsValid}
use Rattle.branch_history.proofs.Grown.{visible-chosen, visible-new, visible_at_all-one}
use Rattle.branch_history.proofs.Histories.{valid-kept, visible-lawful, few_chosen, received-operation}
use Rattle.branch_history.proofs.Kept.{IsKept, visible-after, visible_at_all-closed, closed-lawful}
use Rattle.branch_history.proofs.Turns.{refusal_if-true, refusal_if-false, operation-exhausted, operation-too_large, operation-none, merge-too_large, merge-none}
use Rattle.branch_history.proofs.Valid.{store_of-more, made_unless}
use Rattle.machine_answers.specs.Answers.{Made, TurnsAs}
use Rattle.store_seen.specs.declared.answers.ReceiveRefused.{ReceiveRefused}
use Rattle.store_seen.specs.declared.answers.ReceiveRefused.TheVariants as receive_refusal
use Rattle.store_seen.specs.Answers.{not_received}
use Rattle.store_seen.specs.Arrivals.{receive_merge, ReceiveRefusedBy, IsRemadeOperation, IsRemadeMerge, IsWrittenOperation}
use Rattle.store_seen.specs.Keeps.{kept_spelling, AreSpelled}
use Rattle.store_seen.specs.Nodes.{AddsReceived}
use Rattle.store_seen.specs.Times.{received_at}
use Rattle.store_seen.specs.Turns.{Steps}
use Rattle.store_seen.specs.Views.{CoreView, VersionsView, SpelledView}
use Rattle.store_seen.proofs.Times.{time-found, low-clocks}

-- a refusal of the machine is told as one
pub refused-turn : {O R A : Type 0} (refusal : Option machine.Refusal) (t whole : machine.Turn O R A) → whole ≡ unless refusal t → (e : ReceiveRefused) → ReceiveRefusedBy refusal e → TurnsAs (not_received e) whole
refused-turn refusal t whole is receive_refusal.OwnOrigin by = is ∙ ap (λ o. unless o t) by
refused-turn refusal t whole is (receive_refusal.TimeClash number) by = is ∙ ap (λ o. unless o t) by
refused-turn refusal t whole is (receive_refusal.Exhausted clock) by = is ∙ ap (λ o. unless o t) by
refused-turn refusal t whole is (receive_refusal.ValueTooLarge length) by = is ∙ ap (λ o. unless o t) by
refused-turn refusal t whole is (receive_refusal.FullCommits count) by = is ∙ ap (λ o. unless o t) by
refused-turn refusal t whole is (receive_refusal.FullMoves count) by = is ∙ ap (λ o. unless o t) by
refused-turn refusal t whole is receive_refusal.Memory by = tt

pub made-turn : {O R A : Type 0} (refusal : Option machine.Refusal) (t whole : machine.Turn O R A) → whole ≡ unless refusal t → refusal ≡ None → whole ≡ t
made-turn refusal t whole is none = is ∙ ap (λ o. unless o t) none

-- what holds of a merge with a first parent holds of one with parents, of which there are some
pub by_parents : {S O R Q A : Type 0} (meaning : Meaning S O R Q A) (s : Store O R) (origin : ℕ) (P : machine.Step O Q → Type 0) (parents : List ℕ) → IsStep meaning s (receive_merge {Q = Q} origin parents)
    → ((h : ℕ) (ms : List ℕ) → parents ≡ h ∷ ms → P (machine.ReceiveMerge origin h ms)) → P (receive_merge origin parents)
by_parents meaning s origin P [] step holds = let some = step.3.some in absurd (omega (arith, some))
by_parents meaning s origin P (h ∷ ms) step holds = holds h ms refl

module _ {S O R Q A : Type 0} (meaning : Meaning S O R Q A) (laws : KeepsLaws meaning) (terms : Terms) (history : List (Move O R)) (valid : IsValid meaning terms history) where
  abbrev s : Store O R
  s = store_of terms.origin history

  kept : IsKept meaning terms s
  kept = valid-kept meaning terms laws history valid

  -- there is a clock after that of each commit
  pub clock-fits : (n : ℕ) → n < length s.commits → clock_of s.commits n + 1 < 2 ^ 64
  clock-fits n there =
      let low = low-clocks meaning laws terms history valid n in
      let few = kept.few_commits in
      let most = terms.limits.in_range.commits_high in
      omega (arith, low, few, most, there)

  -- what is visible at some of several commits is lawful
  all-lawful : (ns : List ℕ) → Lawful meaning (visible_at_all s.commits ns)
  all-lawful ns =
      closed-lawful meaning (visible_at_all s.commits ns) (all_events s.commits) kept.lawful
      (visible_at_all-closed s.commits kept.ordered.ranked kept.ordered.rising kept.events kept.distinct ns)

  -- the value of a merge is spelled as the history means it
  pub merge-spelled : (ns : List ℕ) (value : S) → meaning.stands value (visible_at_all s.commits ns) → meaning.state_spelling value ≡ meaning.spelling_of (visible_at_all s.commits ns)
  merge-spelled ns value stands = laws.one_spelling value (visible_at_all s.commits ns) (all-lawful ns) stands

  module _ (origin h : ℕ) (op : O) where
    abbrev x : List (Event O R)
    x = visible s.commits h

    abbrev e : Event O R
    e = event_made meaning s.commits origin h op

    module _ (small : origin < 2 ^ 32) (there : h < length s.commits) (known : meaning.is_op op) where
      after : IsAfter x (record { clock = clock_of s.commits h + 1; origin = origin })
      after = visible-after s.commits kept.ordered.ranked kept.ordered.rising kept.events h origin

      lawful : Lawful meaning x
      lawful = visible-lawful meaning terms s kept h

      -- its event is lawful in front of what it has seen, whatever the limits
      pub arrived-lawful : Lawful meaning (e ∷ x)
      arrived-lawful =
          let t : Time = record { clock = clock_of s.commits h + 1; origin = origin } in
          let time : IsTime t = (clock-fits h there, small) in
          let few : length x < length s.commits = subst (λ (y : List (Event O R)). length y < length s.commits) (sym (visible-chosen s.commits h)) (few_chosen meaning terms laws history valid (reaches (graph_of s.commits) h)) in
          let commits = kept.few_commits in
          let most = terms.limits.in_range.commits_high in
          let room : length x + 1 < 2 ^ 32 = omega (arith, few, commits, most) in
          next-lawful meaning.is_op meaning.is_reply meaning.reply_of x t op (meaning.reply_of x op) lawful time after known (laws.replies_in_range x op lawful known) refl room

      -- what applying it on the value of the commit gives
      pub arrived-operation : (state : S) → meaning.stands state x → (value : S) (reply : R) (clock : ℕ) → clock ≡ clock_of s.commits h + 1 → meaning.is_reply reply → Applies meaning state op (record { clock = clock; origin = origin }) value reply
          → IsRemadeOperation meaning s.commits origin h clock value op reply
      arrived-operation state stands value reply clock timed known_reply applies =
          let here : Applies meaning state op (record { clock = clock_of s.commits h + 1; origin = origin }) value reply =
          subst (λ (n : ℕ). Applies meaning state op (record { clock = n; origin = origin }) value reply) timed applies in
          let both = here x lawful stands after in
          record {
            timed = timed;
            known_reply = known_reply;
            replies = both.0;
            stands = subst (λ (r : R). meaning.stands value (next_event x (record { clock = clock_of s.commits h + 1; origin = origin }) op r ∷ x)) both.0 both.1;
          }

      -- how long its spellings are
      pub arrived-size : (value : S) (reply : R) → meaning.stands value (e ∷ x) → reply ≡ meaning.reply_of x op → (size : ℕ) → size ≡ length (meaning.state_spelling value) + length (meaning.op_spelling op) + length (meaning.reply_spelling reply) → size ≡ event_length meaning e x
      arrived-size value reply stands replies size is =
          is
          ∙ ap (λ l. length l + length (meaning.op_spelling op) + length (meaning.reply_spelling reply)) (laws.one_spelling value (e ∷ x) arrived-lawful stands)
          ∙ ap (λ r. length (meaning.spelling_of (e ∷ x)) + length (meaning.op_spelling op) + length (meaning.reply_spelling r)) replies

      -- what is written of it
      pub operation-written : (clock : ℕ) (value : S) (reply : R) (spelled : SpelledView) → IsRemadeOperation meaning s.commits origin h clock value op reply → AreSpelled meaning terms.layout value op reply spelled
          → IsWrittenOperation meaning terms.layout s.commits origin h op h clock spelled.size spelled.value spelled.op spelled.reply
      operation-written clock value reply spelled is are = record {
        parent_is = refl;
        clock_is = is.timed;
        size_is = are.size_is ∙ ap length (laws.one_spelling value (e ∷ x) arrived-lawful is.stands);
        value_is = are.value_is ∙ ap (kept_spelling terms.layout) (laws.one_spelling value (e ∷ x) arrived-lawful is.stands);
        op_is = are.op_is;
        reply_is = are.reply_is ∙ ap meaning.reply_spelling is.replies;
      }

    abbrev made_by : Move O R
    made_by = move.Received (h ∷ []) origin (clock_of s.commits h + 1) (Some (op, meaning.reply_of x op))

    -- the turn that receives it
    pub operation-turn : turn meaning terms history (machine.ReceiveOperation origin h op) ≡ unless {A = A} (received_operation_refusal meaning terms history origin h op) (makes made_by (machine.New (length s.commits)))
    unfolding turn
    operation-turn = refl

    -- where it makes a move there is no refusal
    pub operation-free : (m : Move O R) (outcome : machine.Outcome A R) → turn meaning terms history (machine.ReceiveOperation origin h op) ≡ makes m outcome → received_operation_refusal meaning terms history origin h op ≡ None
    operation-free m outcome is =
        (made_unless {O = O} {R = R} {A = A} (received_operation_refusal meaning terms history origin h op) (makes made_by (machine.New (length s.commits))) m (ap (λ (t : machine.Turn O R A). t.made) (sym operation-turn ∙ is))).0

    abbrev last : Option machine.Refusal
    last = or_later (operation_refusal meaning terms.limits s.commits origin h op) (room_refusal terms history)

    pub operation-own : is_own terms origin ≡ true → received_operation_refusal meaning terms history origin h op ≡ Some machine.OwnOrigin
    unfolding received_operation_refusal
    operation-own own = refusal_if-true (is_own terms origin) machine.OwnOrigin (or_later (clash_refusal s.commits e.time) last) own

    module _ (foreign : is_own terms origin ≡ false) where
      past_own : received_operation_refusal meaning terms history origin h op ≡ or_later (clash_refusal s.commits e.time) last
      unfolding received_operation_refusal
      past_own = refusal_if-false (is_own terms origin) machine.OwnOrigin (or_later (clash_refusal s.commits e.time) last) foreign

      past_look : (o : Option ℕ) → received_at history (clock_of s.commits h + 1, origin) ≡ o → received_operation_refusal meaning terms history origin h op ≡ or_later (option_map (λ n. machine.TimeClash n) o) last
      past_look o is = past_own ∙ ap (λ p. or_later (option_map (λ n. machine.TimeClash n) p) last) (time-found meaning laws terms history valid e.time foreign ∙ is)

      pub operation-clash : (n : ℕ) → received_at history (clock_of s.commits h + 1, origin) ≡ Some n → received_operation_refusal meaning terms history origin h op ≡ Some (machine.TimeClash n)
      operation-clash n is = past_look (Some n) is

      module _ (free : received_at history (clock_of s.commits h + 1, origin) ≡ None) where
        pub operation-late : terms.limits.clock ≤ clock_of s.commits h → received_operation_refusal meaning terms history origin h op ≡ Some (machine.Exhausted (clock_of s.commits h))
        operation-late le = past_look None free ∙ ap (λ o. or_later o (room_refusal terms history)) (operation-exhausted meaning terms.limits s.commits origin h op le)

        module _ (low : clock_of s.commits h < terms.limits.clock) where
          pub operation-large : terms.limits.value < event_length meaning e x → received_operation_refusal meaning terms history origin h op ≡ Some (machine.ValueTooLarge (event_length meaning e x))
          operation-large large = past_look None free ∙ ap (λ o. or_later o (room_refusal terms history)) (operation-too_large meaning terms.limits s.commits origin h op low large)

          pub operation-room : event_length meaning e x ≤ terms.limits.value → received_operation_refusal meaning terms history origin h op ≡ room_refusal terms history
          operation-room fits = past_look None free ∙ ap (λ o. or_later o (room_refusal terms history)) (operation-none meaning terms.limits s.commits origin h op low fits)

    -- the commit that the move adds
    module _ (clock : ℕ) (value : S) (reply : R) (is : IsRemadeOperation meaning s.commits origin h clock value op reply) (step : IsStep meaning s (machine.ReceiveOperation origin h op)) (free : received_operation_refusal meaning terms history origin h op ≡ None) where
      same_move : made_by ≡ move.Received (h ∷ []) origin clock (Some (op, reply))
      same_move =
          ap (λ n. move.Received (h ∷ []) origin n (Some (op, meaning.reply_of x op))) (sym is.timed)
          ∙ ap (λ r. move.Received (h ∷ []) origin clock (Some (op, r))) (sym is.replies)

      pub operation-makes : turn meaning terms history (machine.ReceiveOperation origin h op) ≡ makes {A = A} (move.Received (h ∷ []) origin clock (Some (op, reply))) (machine.New (length s.commits))
      operation-makes =
          made-turn (received_operation_refusal meaning terms history origin h op) (makes made_by (machine.New (length s.commits))) (turn meaning terms history (machine.ReceiveOperation origin h op)) operation-turn free
          ∙ ap (λ m. makes m (machine.New (length s.commits))) same_move

      pub operation-adds : (parents : List ℕ) → parents ≡ h ∷ [] → AddsReceived meaning terms history parents origin clock (Some (op, reply)) value
      operation-adds parents listed =
          let m : Move O R = move.Received (h ∷ []) origin clock (Some (op, reply)) in
          let c : Commit O R = received_commit s.commits (h ∷ []) origin clock (Some (op, reply)) in
          let sees : visible (s.commits ++ c ∷ []) (length s.commits) ≡ e ∷ x =
          ap (λ (d : Commit O R). visible (s.commits ++ d ∷ []) (length s.commits)) (received-operation meaning terms s.commits h origin clock op reply is.timed)
          ∙ visible-new s.commits (operation_commit s.commits origin h op reply) kept.ordered.ranked (step.1, tt)
          ∙ ap (λ (y : List (Event O R)). next_event x (record { clock = clock_of s.commits h + 1; origin = origin }) op reply ∷ y) (visible_at_all-one s.commits h)
          ∙ ap (λ (r : R). next_event x (record { clock = clock_of s.commits h + 1; origin = origin }) op r ∷ x) is.replies in
          subst (λ (l : List ℕ). AddsReceived meaning terms history l origin clock (Some (op, reply)) value) (sym listed)
          (record {
            moves = (machine.ReceiveOperation origin h op, step, ap (λ t. t.made) operation-makes);
            below = All-cons (λ n. n < length s.commits) h [] step.1 (All-nil (λ n. n < length s.commits));
            stands =
                subst (λ (y : List (Event O R)). meaning.stands value y)
                (sym (ap (λ (z : Store O R). visible z.commits (length s.commits)) (store_of-more terms.origin history m) ∙ sees)) is.stands;
          })

  -- what may be received now
  pub operation-received : (origin h : ℕ) (op : O) (clock : ℕ) (value : S) (reply : R) → IsRemadeOperation meaning s.commits origin h clock value op reply → IsStep meaning s (machine.ReceiveOperation origin h op)
      → (m : Move O R) (outcome : machine.Outcome A R) → turn meaning terms history (machine.ReceiveOperation origin h op) ≡ makes m outcome → (parents : List ℕ) → parents ≡ h ∷ []
      → AddsReceived meaning terms history parents origin clock (Some (op, reply)) value
      × (turn meaning terms history (machine.ReceiveOperation origin h op) ≡ makes {A = A} (move.Received parents origin clock (Some (op, reply))) (machine.New (length s.commits)))
  operation-received origin h op clock value reply is step m outcome makes_it parents listed =
      let free = operation-free origin h op m outcome makes_it in (
        operation-adds origin h op clock value reply is step free parents listed,
        operation-makes origin h op clock value reply is step free ∙ ap (λ l. makes (move.Received l origin clock (Some (op, reply))) (machine.New (length s.commits))) (sym listed),
      )

  module _ (origin h : ℕ) (ms : List ℕ) where
    abbrev parents : List ℕ
    parents = h ∷ ms

    abbrev merge_made : Move O R
    merge_made = move.Received parents origin (greatest_clock s.commits parents) None

    pub merge-turn : turn meaning terms history (machine.ReceiveMerge origin h ms) ≡ unless {A = A} (received_merge_refusal meaning terms history origin parents) (makes merge_made (machine.New (length s.commits)))
    unfolding turn
    merge-turn = refl

    pub merge-free : (m : Move O R) (outcome : machine.Outcome A R) → turn meaning terms history (machine.ReceiveMerge origin h ms) ≡ makes m outcome → received_merge_refusal meaning terms history origin parents ≡ None
    merge-free m outcome is =
        (made_unless {O = O} {R = R} {A = A} (received_merge_refusal meaning terms history origin parents) (makes merge_made (machine.New (length s.commits))) m (ap (λ (t : machine.Turn O R A). t.made) (sym merge-turn ∙ is))).0

    module _ (clock : ℕ) (value : S) (is : IsRemadeMerge meaning s.commits parents clock value) (step : IsStep meaning s (machine.ReceiveMerge origin h ms)) (free : received_merge_refusal meaning terms history origin parents ≡ None) where
      pub merge-makes : turn meaning terms history (machine.ReceiveMerge origin h ms) ≡ makes {A = A} (move.Received parents origin clock None) (machine.New (length s.commits))
      merge-makes =
          made-turn (received_merge_refusal meaning terms history origin parents) (makes merge_made (machine.New (length s.commits))) (turn meaning terms history (machine.ReceiveMerge origin h ms)) merge-turn free
          ∙ ap (λ n. makes (move.Received parents origin n None) (machine.New (length s.commits))) (sym is.timed)

      pub merge-adds : All (λ n. n < length s.commits) parents → AddsReceived meaning terms history parents origin clock None value
      merge-adds below =
          let m : Move O R = move.Received parents origin clock None in
          let c : Commit O R = received_commit s.commits parents origin clock None in
          let all : AreCommits s.commits parents = (step.1, step.2) in
          let sees : visible (s.commits ++ c ∷ []) (length s.commits) ≡ visible_at_all s.commits parents =
          visible-new s.commits c kept.ordered.ranked all in
          record {
            moves = (machine.ReceiveMerge origin h ms, step, ap (λ t. t.made) merge-makes);
            below = below;
            stands =
                subst (λ (y : List (Event O R)). meaning.stands value y)
                (sym (ap (λ (z : Store O R). visible z.commits (length s.commits)) (store_of-more terms.origin history m) ∙ sees)) is.stands;
          }

  pub merge-received : (origin : ℕ) (parents : List ℕ) (clock : ℕ) (value : S) → IsRemadeMerge meaning s.commits parents clock value → IsStep meaning s (receive_merge {O = O} {Q = Q} origin parents)
      → (m : Move O R) (outcome : machine.Outcome A R) → turn meaning terms history (receive_merge origin parents) ≡ makes m outcome
      → AddsReceived meaning terms history parents origin clock None value
      × (turn meaning terms history (receive_merge origin parents) ≡ makes {A = A} (move.Received parents origin clock None) (machine.New (length s.commits)))
  merge-received origin [] clock value is step m outcome makes_it = let some = step.3.some in absurd (omega (arith, some))
  merge-received origin (h ∷ ms) clock value is step m outcome makes_it =
      let free = merge-free origin h ms m outcome makes_it in
      let below = All-cons (λ n. n < length s.commits) h ms step.1 (All-from_AllByRecursion (λ n. n < length s.commits) ms step.2) in
      (merge-adds origin h ms clock value is step free below, merge-makes origin h ms clock value is step free)

  -- of a list of parents
  module _ (origin : ℕ) (parents : List ℕ) where
    pub merge-own : is_own terms origin ≡ true → received_merge_refusal meaning terms history origin parents ≡ Some machine.OwnOrigin
    unfolding received_merge_refusal
    merge-own own = refusal_if-true (is_own terms origin) machine.OwnOrigin (or_later (merge_refusal meaning terms.limits s.commits parents) (room_refusal terms history)) own

    module _ (foreign : is_own terms origin ≡ false) where
      past_own_merge : received_merge_refusal meaning terms history origin parents ≡ or_later (merge_refusal meaning terms.limits s.commits parents) (room_refusal terms history)
      unfolding received_merge_refusal
      past_own_merge = refusal_if-false (is_own terms origin) machine.OwnOrigin (or_later (merge_refusal meaning terms.limits s.commits parents) (room_refusal terms history)) foreign

      module _ (size : ℕ) (is : size ≡ length (meaning.spelling_of (visible_at_all s.commits parents))) where
        pub merge-large : terms.limits.value < size → received_merge_refusal meaning terms history origin parents ≡ Some (machine.ValueTooLarge size)
        merge-large large =
            past_own_merge
            ∙ ap (λ o. or_later o (room_refusal terms history)) (merge-too_large meaning terms.limits s.commits parents (subst (λ (n : ℕ). terms.limits.value < n) is large))
            ∙ ap (λ n. Some (machine.ValueTooLarge n)) (sym is)

        pub merge-room : size ≤ terms.limits.value → received_merge_refusal meaning terms history origin parents ≡ room_refusal terms history
        merge-room fits =
            past_own_merge
            ∙ ap (λ o. or_later o (room_refusal terms history)) (merge-none meaning terms.limits s.commits parents (subst (λ (n : ℕ). n ≤ terms.limits.value) is fits))

module _ {S O R Q A : Type 0} (meaning : Meaning S O R Q A) (step : machine.Step O Q) (old new : VersionsView (Move O R)) where
  -- what is not received changes nothing
  pub not_received-steps : new ≡ old → (e : ReceiveRefused) → TurnsAs (not_received e) (turn meaning old.core.terms old.core.history step) → Steps meaning step old new old.addresses (not_received e)
  not_received-steps same e is = subst (λ (v : VersionsView (Move O R)). Steps meaning step old v old.addresses (not_received e)) (sym same) (stays e is)
    where
      stays : (e : ReceiveRefused) → TurnsAs (not_received e) (turn meaning old.core.terms old.core.history step) → Steps meaning step old old old.addresses (not_received e)
      stays receive_refusal.OwnOrigin is = record { takes = record { turns = is; history = refl; counted = tt }; rest = refl }
      stays (receive_refusal.TimeClash number) is = record { takes = record { turns = is; history = refl; counted = tt }; rest = refl }
      stays (receive_refusal.Exhausted clock) is = record { takes = record { turns = is; history = refl; counted = tt }; rest = refl }
      stays (receive_refusal.ValueTooLarge length) is = record { takes = record { turns = is; history = refl; counted = tt }; rest = refl }
      stays (receive_refusal.FullCommits count) is = record { takes = record { turns = is; history = refl; counted = tt }; rest = refl }
      stays (receive_refusal.FullMoves count) is = record { takes = record { turns = is; history = refl; counted = tt }; rest = refl }
      stays receive_refusal.Memory is = record { takes = record { turns = tt; history = refl; counted = tt }; rest = refl }

  -- the history goes on by the move, and the new commit's object has an address
  pub step-added : (made : Move O R) (outcome : machine.Outcome A R) (moves : ℕ) (addresses : List (List ℕ)) → turn meaning old.core.terms old.core.history step ≡ makes made outcome → new.core ≡ record old.core { history = old.core.history ++ made ∷ [] }
      → new.addresses ≡ addresses → moves ≡ length new.core.history → length new.core.history ≤ 2 ^ 48 → Steps meaning step old new addresses (Made outcome moves)
  step-added made outcome moves addresses turn_is grown addressed counted few = record {
    takes = record {
      turns = (made, turn_is);
      history = ap (λ (c : CoreView (Move O R)). c.history) grown ∙ ap (λ (t : machine.Turn O R A). old.core.history ++ t.made) (sym turn_is);
      counted = (counted, few);
    };
    rest =
        ap (λ (c : CoreView (Move O R)). let v : VersionsView (Move O R) = record { core = record { history = new.core.history; terms = c.terms }; addresses = new.addresses } in v) grown
        ∙ ap (λ a. let v : VersionsView (Move O R) = record { core = record { history = new.core.history; terms = old.core.terms }; addresses = a } in v) addressed;
  }
