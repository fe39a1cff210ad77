-- What looks and prepared works keep of a history.
use Rattle.std.specs.Prelude.{◌≡◌, ℕ, ◌+◌, ◌<◌, ◌≤◌, All, false, List, [], ◌∷◌, length, IsTrue, IfSome}
use Rattle.std.specs.declared.option.Option.{Option}
use Rattle.std.specs.declared.option.Option.TheVariants.{Some, None}
use Rattle.std.specs.Borrow.{Bor}
use Rattle.std.specs.Option.{option_map}
use Rattle.mrdt_model.specs.declared.time.Time.{Time}
use Rattle.mrdt_model.specs.Laws.{Meaning}
use Rattle.branch_graph.specs.Graph.{reaches}
use Rattle.branch_names.specs.declared.layout.Layout.{Layout}
use Rattle.branch_names.specs.declared.layout.Layout.TheVariants.{Whole, Changes}
use Rattle.branch_names.specs.declared.terms.Terms.{Terms}
use Rattle.branch_names.specs.Heads.{head_of}
use Rattle.branch_history.specs.declared.moves.Move.{Move}
use Rattle.branch_history.specs.Commits.{Commit, graph_of, clock_of, greatest_clock, visible, visible_at_all}
use Rattle.branch_history.specs.History.{store_of}
use Rattle.branch_history.specs.Merging.{brought}
use Rattle.branch_history.specs.Machine.{event_made, operation_refusal, merge_refusal}
use Rattle.branch_history.specs.Validity.{IsValid}
use Rattle.store_seen.specs.declared.prepared.Ready.{Ready}
use Rattle.store_seen.specs.declared.prepared.Ready.TheVariants as ready
use Rattle.store_seen.specs.declared.spelled.SpelledValue.{SpelledValue}
use Rattle.virtual_base.specs.Nodes.{NodesView, AreNodesOf}
use Rattle.store_seen.specs.Pairs.{IsBaseAt}
use Rattle.store_seen.specs.Views.{SeenView, PairView, look_in, SpelledView, Work, Operation, Merge, Join, Forward}

-- a clock and a value are those of a commit: the value stands for what is visible there
pub record IsNode {S O R Q A : Type 0} (meaning : Meaning S O R Q A) (commits : List (Commit O R)) (n clock : ℕ) (value : S) : Type 0 where
  pub there : n < length commits
  pub timed : clock ≡ clock_of commits n
  pub stands : meaning.stands value (visible commits n)

-- a valid history, with one of its branches, and a commit that this branch's head is or lies above
pub record IsSeen {S O R Q A : Type 0} (meaning : Meaning S O R Q A) (seen : SeenView (Move O R)) : Type 0 where
  pub valid : IsValid meaning seen.terms seen.history
  pub branch : seen.branch < length (store_of seen.terms.origin seen.history).branches
  pub head : seen.head < length (store_of seen.terms.origin seen.history).commits
  pub below : IsTrue (reaches (graph_of (store_of seen.terms.origin seen.history).commits) (head_of (store_of seen.terms.origin seen.history).branches seen.branch) seen.head)

-- a look, with the clock and the value of the head
pub record IsLook {S O R Q A : Type 0} (meaning : Meaning S O R Q A) (seen : SeenView (Move O R)) (moves clock : ℕ) (value : S) : Type 0 where
  pub look : IsSeen meaning seen
  pub counted : moves ≡ length seen.history
  pub node : IsNode meaning (store_of seen.terms.origin seen.history).commits seen.head clock value

-- the work for which a commit's parts are ready
abbrev pub work_of : {S O R : Type 0} → Ready S O R → Work O R
work_of (ready.Operation time value op reply spelled) = Operation op reply
work_of (ready.Merge commit clock value spelled) = Merge commit
work_of (ready.Join commits clock value spelled) = Join commits
work_of (ready.Forward commit) = Forward commit

-- an operation that is not refused, with its time and its reply, and a value that stands for its event and what it has seen
pub record IsReadyOperation {S O R Q A : Type 0} (meaning : Meaning S O R Q A) (seen : SeenView (Move O R)) (time : Time) (value : S) (op : O) (reply : R) : Type 0 where
  pub known : meaning.is_op op
  pub known_reply : meaning.is_reply reply
  pub fits : operation_refusal meaning seen.terms.limits (store_of seen.terms.origin seen.history).commits (seen.terms.origin + seen.branch) seen.head op ≡ None
  pub timed : time ≡ record { clock = clock_of (store_of seen.terms.origin seen.history).commits seen.head + 1; origin = seen.terms.origin + seen.branch }
  pub replies : reply ≡ meaning.reply_of (visible (store_of seen.terms.origin seen.history).commits seen.head) op
  pub stands : meaning.stands value (event_made meaning (store_of seen.terms.origin seen.history).commits (seen.terms.origin + seen.branch) seen.head op ∷ visible (store_of seen.terms.origin seen.history).commits seen.head)

-- a merge that is not refused, with the greater of the two clocks, and a value that stands for what either commit sees
pub record IsReadyMerge {S O R Q A : Type 0} (meaning : Meaning S O R Q A) (seen : SeenView (Move O R)) (commit clock : ℕ) (value : S) : Type 0 where
  pub there : commit < length (store_of seen.terms.origin seen.history).commits
  pub above : reaches (graph_of (store_of seen.terms.origin seen.history).commits) seen.head commit ≡ false
  pub below : reaches (graph_of (store_of seen.terms.origin seen.history).commits) commit seen.head ≡ false
  pub fits : merge_refusal meaning seen.terms.limits (store_of seen.terms.origin seen.history).commits (seen.head ∷ commit ∷ []) ≡ None
  pub timed : clock ≡ greatest_clock (store_of seen.terms.origin seen.history).commits (seen.head ∷ commit ∷ [])
  pub stands : meaning.stands value (visible_at_all (store_of seen.terms.origin seen.history).commits (seen.head ∷ commit ∷ []))

-- A join that is not refused: two to eight commits that the merge brings, all of them, with the greatest of all clocks, and a value that stands for what the head or one of them sees.
pub record IsReadyJoin {S O R Q A : Type 0} (meaning : Meaning S O R Q A) (seen : SeenView (Move O R)) (commits : List ℕ) (clock : ℕ) (value : S) : Type 0 where
  pub there : All (λ n. n < length (store_of seen.terms.origin seen.history).commits) commits
  pub several : 2 ≤ length commits
  pub few : length commits ≤ 8
  pub brought : brought (graph_of (store_of seen.terms.origin seen.history).commits) seen.head commits ≡ commits
  pub fits : merge_refusal meaning seen.terms.limits (store_of seen.terms.origin seen.history).commits (seen.head ∷ commits) ≡ None
  pub timed : clock ≡ greatest_clock (store_of seen.terms.origin seen.history).commits (seen.head ∷ commits)
  pub stands : meaning.stands value (visible_at_all (store_of seen.terms.origin seen.history).commits (seen.head ∷ commits))

-- the head lies below the commit
pub record IsReadyForward {O R : Type 0} (terms : Terms) (history : List (Move O R)) (head commit : ℕ) : Type 0 where
  pub there : commit < length (store_of terms.origin history).commits
  pub above : reaches (graph_of (store_of terms.origin history).commits) head commit ≡ false
  pub below : IsTrue (reaches (graph_of (store_of terms.origin history).commits) commit head)

-- a layout keeps the spelling of a value, or none
abbrev pub kept_spelling : Layout → List ℕ → Option (List ℕ)
kept_spelling Whole spelling = Some spelling
kept_spelling Changes spelling = None

-- the bytes behind a reference, where there is one
abbrev pub bytes_at : Option (Bor (List ℕ)) → Option (List ℕ)
bytes_at bytes = option_map (λ b. b.now) bytes

-- how many bytes the spelling of a value has, and the spelling where the layout keeps it
pub record IsSpelledValue {S O R Q A : Type 0} (meaning : Meaning S O R Q A) (layout : Layout) (value : S) (spelled : SpelledValue) : Type 0 where
  pub size_is : spelled.size ≡ length (meaning.state_spelling value)
  pub bytes_are : spelled.bytes ≡ kept_spelling layout (meaning.state_spelling value)

-- the same, and the spellings of an operation and its reply
pub record AreSpelled {S O R Q A : Type 0} (meaning : Meaning S O R Q A) (layout : Layout) (value : S) (op : O) (reply : R) (spelled : SpelledView) : Type 0 where
  pub size_is : spelled.size ≡ length (meaning.state_spelling value)
  pub value_is : spelled.value ≡ kept_spelling layout (meaning.state_spelling value)
  pub op_is : spelled.op ≡ meaning.op_spelling op
  pub reply_is : spelled.reply ≡ meaning.reply_spelling reply

-- what is ready on a look, with the spellings of what is to be written of it, and the length of that of the value
abbrev pub IsReady : {S O R Q A : Type 0} → Meaning S O R Q A → SeenView (Move O R) → Ready S O R → Type 0
IsReady meaning seen (ready.Operation time value op reply spelled) = IsReadyOperation meaning seen time value op reply × AreSpelled meaning seen.terms.layout value op reply spelled
IsReady meaning seen (ready.Merge commit clock value spelled) = IsReadyMerge meaning seen commit clock value × IsSpelledValue meaning seen.terms.layout value spelled
IsReady meaning seen (ready.Join commits clock value spelled) = IsReadyJoin meaning seen commits clock value × IsSpelledValue meaning seen.terms.layout value spelled
IsReady meaning seen (ready.Forward commit) = IsReadyForward seen.terms seen.history seen.head commit

-- such a merge of this commit
abbrev pub IsMergeReady : {S O R Q A : Type 0} → Meaning S O R Q A → SeenView (Move O R) → ℕ → Ready S O R → Type 0
IsMergeReady meaning seen other (ready.Operation time value op reply spelled) = ⊥
IsMergeReady meaning seen other (ready.Merge commit clock value spelled) = (commit ≡ other) × IsReadyMerge meaning seen commit clock value × IsSpelledValue meaning seen.terms.layout value spelled
IsMergeReady meaning seen other (ready.Join commits clock value spelled) = ⊥
IsMergeReady meaning seen other (ready.Forward commit) = ⊥

-- what is ready on a look, which is at a branch of an origin, and its head
pub record IsPrepared {S O R Q A : Type 0} (meaning : Meaning S O R Q A) (seen : SeenView (Move O R)) (origin branch head : ℕ) (made : Ready S O R) : Type 0 where
  pub look : IsSeen meaning seen
  pub own : origin ≡ seen.terms.origin + seen.branch
  pub at_branch : branch ≡ seen.branch
  pub newest : head ≡ seen.head
  pub ready : IsReady meaning seen made

-- a look and another commit of its history, with that commit's clock, the nodes of the history's commits, and maybe the base of the two commits
pub record IsPair {S O R Q A : Type 0} (meaning : Meaning S O R Q A) (seen : SeenView (Move O R)) (other clock : ℕ) (nodes : NodesView S) (base : Option S) : Type 0 where
  pub there : other < length (store_of seen.terms.origin seen.history).commits
  pub timed : clock ≡ clock_of (store_of seen.terms.origin seen.history).commits other
  pub nodes_are : AreNodesOf meaning (store_of seen.terms.origin seen.history).commits nodes
  pub base_is : IfSome base (IsBaseAt meaning (store_of seen.terms.origin seen.history).commits seen.head other)

-- such a join of these commits
abbrev pub IsJoinReady : {S O R Q A : Type 0} → Meaning S O R Q A → SeenView (Move O R) → List ℕ → Ready S O R → Type 0
IsJoinReady meaning seen others (ready.Operation time value op reply spelled) = ⊥
IsJoinReady meaning seen others (ready.Merge commit clock value spelled) = ⊥
IsJoinReady meaning seen others (ready.Join commits clock value spelled) = (commits ≡ others) × IsReadyJoin meaning seen commits clock value × IsSpelledValue meaning seen.terms.layout value spelled
IsJoinReady meaning seen others (ready.Forward commit) = ⊥

-- a look and its pairs with one to eight commits, all at one history, and the nodes of the history's commits
pub record IsGroup {S O R Q A : Type 0} (meaning : Meaning S O R Q A) (seen : SeenView (Move O R)) (pairs : List (PairView (Move O R))) (nodes : NodesView S) : Type 0 where
  pub looks : All (λ p. look_in p ≡ seen) pairs
  pub there : All (λ p. p.other < length (store_of seen.terms.origin seen.history).commits) pairs
  pub some : 1 ≤ length pairs
  pub few : length pairs ≤ 8
  pub nodes_are : AreNodesOf meaning (store_of seen.terms.origin seen.history).commits nodes
