-- The nodes of branches, one by one, and the whole graph.
use Rattle.std.proofs.Common.{◌≡◌, ℕ, Bool, true, false, cond, List, [], ◌++◌, sym, ap, ◌∙◌, append-nil, append_assoc, Some, None}
use Rattle.std.specs.Prelude.{Option, option_map, codes}
use Rattle.std.specs.Option.{option_map_or}
use Rattle.branch_names.specs.declared.branch.Branch.{Branch}
use Rattle.branch_history.specs.History.{Store}
use Rattle.branch_print.specs.Texts.{line_end}
use Rattle.branch_log.specs.Graphs.{head_node, branch_node, commits_text, branches_text, graph_text}

-- the node of a branch, where there is one: none, of one that was dropped
pub dropped_node : (number : ℕ) (o : Option Branch) (old : List ℕ) → option_map_or (λ (b : Branch). b.dropped) o false ≡ true → old ≡ old ++ option_map_or (branch_node number) o []
dropped_node number None old gone = absurd (cc gone)
dropped_node number (Some b) old gone = sym (ap (λ (t : Bool). old ++ cond t [] (head_node number b.name b.head)) gone ∙ append-nil old)

-- and its name and head, of one that was not
pub kept_node : (number : ℕ) (o : Option Branch) (found : List ℕ × ℕ) (old new : List ℕ) → option_map_or (λ (b : Branch). b.dropped) o false ≡ false → option_map (λ (b : Branch). (b.name, b.head)) o ≡ Some found
    → new ≡ old ++ head_node number found.0 found.1 → new ≡ old ++ option_map_or (branch_node number) o []
kept_node number None found old new kept is added = absurd (cc is)
kept_node number (Some b) found old new kept is added =
    let pair : List ℕ × ℕ = (b.name, b.head) in
    let same : pair ≡ found = cc is in
    added ∙ ap (λ (f : List ℕ × ℕ). old ++ head_node number f.0 f.1) (sym same) ∙ ap (λ (t : Bool). old ++ cond t [] (head_node number b.name b.head)) (sym kept)

-- the commits, the branches, and what stands around them
pub whole_graph : {O R : Type 0} (store : Store O R) (old first commits branches last : List ℕ) → first ≡ old ++ (codes "digraph history {" ++ line_end)
    → commits ≡ first ++ commits_text store.commits → branches ≡ commits ++ branches_text store.branches → last ≡ branches ++ (codes "}" ++ line_end) → last ≡ old ++ graph_text store
unfolding graph_text
whole_graph store old first commits branches last is-first is-commits is-branches is-last =
    let top : List ℕ = codes "digraph history {" ++ line_end in
    let all : List ℕ = commits_text store.commits in
    let heads : List ℕ = branches_text store.branches in
    let end : List ℕ = codes "}" ++ line_end in
    let one = append_assoc old top all in
    let two = ap (λ t. t ++ heads) one ∙ append_assoc old (top ++ all) heads in
    let three = ap (λ t. t ++ end) two ∙ append_assoc old ((top ++ all) ++ heads) end in
    is-last ∙ ap (λ t. t ++ end) (is-branches ∙ ap (λ t. t ++ heads) (is-commits ∙ ap (λ t. t ++ all) is-first))
    ∙ three ∙ ap (λ t. old ++ t) (sym (append_assoc ((top ++ all) ++ heads) (codes "}") line_end))
