-- What a core keeps of its history, and the commit that a move adds to it.
use Rattle.std.specs.Prelude.{◌≡◌, ℕ, ◌+◌, ◌<◌, List, [], ◌∷◌, ◌++◌, All, length, take, slice_get, cond, Some, None}
use Rattle.std.specs.declared.option.Option.{Option}
use Rattle.std.specs.List.{position_from}
use Rattle.std.specs.Str.{bytes_eq}
use Rattle.mrdt_model.specs.Executions.{Event}
use Rattle.mrdt_model.specs.Laws.{Meaning}
use Rattle.branch_graph.specs.Graph.{Ancestry}
use Rattle.branch_names.specs.declared.terms.Terms.{Terms}
use Rattle.branch_names.specs.Heads.{Table, IsKeptBranch}
use Rattle.branch_history.specs.declared.moves.Move.{Move}
use Rattle.branch_history.specs.declared.moves.Move.TheVariants as move
use Rattle.branch_history.specs.Commits.{graph_of, visible}
use Rattle.branch_history.specs.History.{store_of, with_commit}
use Rattle.branch_history.specs.Validity.{IsMove, IsValid}
use Rattle.virtual_base.specs.Memos.{MemoView, IsMemoOf}
use Rattle.virtual_base.specs.Nodes.{NodesView}
use Rattle.store_seen.specs.Keeps.{IsNode}

-- so many of the first nodes
abbrev pub first_nodes : {S : Type 0} → ℕ → NodesView S → NodesView S
first_nodes count nodes = record { graph = record nodes.graph { commits = take count nodes.graph.commits }; values = take count nodes.values; addresses = take count nodes.addresses }

-- no folds are kept, or those of a memo of the nodes, of which there are some
abbrev pub AreFoldsOf : {S O R Q A : Type 0} → Meaning S O R Q A → NodesView S → Option (MemoView S) → Type 0
AreFoldsOf meaning nodes None = Unit {0}
AreFoldsOf meaning nodes (Some memo) = (0 < length nodes.graph.commits) × IsMemoOf meaning nodes memo

-- a valid history, the table of its branches, the graph of its commits, and a clock and a value for each of these
pub record IsCore {S O R Q A : Type 0} (meaning : Meaning S O R Q A) (terms : Terms) (history : List (Move O R)) (table : Table) (graph : Ancestry) (clocks : List ℕ) (values : List S) : Type 0 where
  pub valid : IsValid meaning terms history
  pub heads : table ≡ record { limit = terms.limits.branches; branches = (store_of terms.origin history).branches }
  pub parents : graph ≡ record { limit = terms.limits.commits; commits = graph_of (store_of terms.origin history).commits }
  pub count : length clocks ≡ length (store_of terms.origin history).commits
  pub valued : length values ≡ length (store_of terms.origin history).commits
  pub each : (n clock : ℕ) (value : S) → slice_get clocks n ≡ Some clock → slice_get values n ≡ Some value → IsNode meaning (store_of terms.origin history).commits n clock value

-- after a history, a move makes a commit on a branch that was not dropped, with these parents, a clock and a value
pub record AddsCommit {S O R Q A : Type 0} (meaning : Meaning S O R Q A) (terms : Terms) (history : List (Move O R)) (made : Move O R) (branch : ℕ) (parents : List ℕ) (clock : ℕ) (value : S) : Type 0 where
  pub moves : IsMove meaning terms history made
  pub there : IsKeptBranch (store_of terms.origin history).branches branch
  pub room : length (store_of terms.origin history).commits < terms.limits.commits
  pub below : All (λ p. p < length (store_of terms.origin history).commits) parents
  pub event : Option (Event O R)
  pub store : store_of terms.origin (history ++ made ∷ []) ≡ with_commit (store_of terms.origin history) branch (record { parents = parents; origin = terms.origin + branch; clock = clock; event = event })
  pub stands : meaning.stands value (visible (store_of terms.origin (history ++ made ∷ [])).commits (length (store_of terms.origin history).commits))

-- the first commit whose object has an address
abbrev pub commit_at : List (List ℕ) → List ℕ → Option ℕ
commit_at addresses address = position_from (λ a. bytes_eq address a) 0 addresses

-- an index finds every commit that is the first with its address; of other addresses it may say anything
abbrev pub FindsCommits : List (List ℕ) → (List ℕ → Option ℕ) → Type 0
FindsCommits addresses find = (address : List ℕ) (n : ℕ) → commit_at addresses address ≡ Some n → find address ≡ Some n

-- where no earlier commit has an address, an index finds the next one by it from now on; of other addresses it says what it said
abbrev pub Notes : Option ℕ → List ℕ → ℕ → (List ℕ → Option ℕ) → (List ℕ → Option ℕ) → Type 0
Notes (Some n) address next before after = (other : List ℕ) → after other ≡ before other
Notes None address next before after = (other : List ℕ) → after other ≡ cond (bytes_eq address other) (Some next) (before other)

-- after a history, a move receives a commit of an origin with these parents, a clock and a value
pub record AddsReceived {S O R Q A : Type 0} (meaning : Meaning S O R Q A) (terms : Terms) (history : List (Move O R)) (parents : List ℕ) (origin clock : ℕ) (act : Option (O × R)) (value : S) : Type 0 where
  pub moves : IsMove meaning terms history (move.Received parents origin clock act)
  pub below : All (λ p. p < length (store_of terms.origin history).commits) parents
  pub stands : meaning.stands value (visible (store_of terms.origin (history ++ move.Received parents origin clock act ∷ [])).commits (length (store_of terms.origin history).commits))
