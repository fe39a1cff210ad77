-- The report of a store, branch by branch.
use Rattle.std.proofs.Common.{◌≡◌, ℕ, ◌+◌, ◌<◌, ◌≤◌, Bool, true, false, cond, List, [], ◌∷◌, ◌++◌, length, get_or, take, sym, ap, ◌∙◌, append-nil, append_assoc, take_all, subst, Some, None}
use Rattle.std.specs.Prelude.{Option, slice_get, option_map, IfSome}
use Rattle.std.specs.Option.{option_map_or}
use Rattle.std.proofs.lemmas.List.{take_more}
use Rattle.std.proofs.lemmas.Option.{slice_get-get_or}
use Rattle.std.proofs.lemmas.Grind.{flat_map-append}
use Rattle.branch_names.specs.declared.branch.Branch.{Branch}
use Rattle.branch_history.specs.declared.moves.Move.{Move}
use Rattle.branch_history.specs.History.{store_of}
use Rattle.branch_print.specs.Texts.{line_end}
use Rattle.branch_print.specs.Reports.{branch_text, branch_line, branches_text, totals_text, report_text}

abbrev pair_of : Branch → List ℕ × ℕ
pair_of b = (b.name, b.head)

abbrev other : Branch
other = record { name = []; head = 0; dropped = false }

-- the line of a branch, where there is one: none, of one that was dropped
pub dropped_line : (o : Option Branch) (old : List ℕ) → option_map_or (λ (b : Branch). b.dropped) o false ≡ true → IfSome o (λ b. old ≡ old ++ branch_line b)
dropped_line None old gone = tt
dropped_line (Some b) old gone = sym (ap (λ (t : Bool). old ++ cond t [] (branch_text b.name b.head ++ line_end)) gone ∙ append-nil old)

-- and its name and head, of one that was not
pub kept_line : (o : Option Branch) (found : List ℕ × ℕ) (old new : List ℕ) → option_map_or (λ (b : Branch). b.dropped) o false ≡ false → option_map (λ (b : Branch). (b.name, b.head)) o ≡ Some found
    → new ≡ old ++ (branch_text found.0 found.1 ++ line_end) → IfSome o (λ b. new ≡ old ++ branch_line b)
kept_line None found old new kept is added = tt
kept_line (Some b) found old new kept is added =
    let same : pair_of b ≡ found = cc is in
    added ∙ ap (λ (f : List ℕ × ℕ). old ++ (branch_text f.0 f.1 ++ line_end)) (sym same) ∙ ap (λ (t : Bool). old ++ cond t [] (branch_text b.name b.head ++ line_end)) (sym kept)

-- one branch more
pub next_branch : (branches : List Branch) (i : ℕ) (old mid new : List ℕ) → i < length branches → IfSome (slice_get branches i) (λ b. new ≡ mid ++ branch_line b)
    → mid ≡ old ++ branches_text (take i branches) → new ≡ old ++ branches_text (take (i + 1) branches)
next_branch branches i old mid new inside line before =
    let b : Branch = get_or branches i other in
    let added : new ≡ mid ++ branch_line b = subst (λ (o : Option Branch). IfSome o (λ b. new ≡ mid ++ branch_line b)) (slice_get-get_or branches i other inside) line in
    let one : branches_text (b ∷ []) ≡ branch_line b = append-nil (branch_line b) in
    let more : branches_text (take (i + 1) branches) ≡ branches_text (take i branches) ++ branch_line b =
    ap branches_text (take_more branches i other inside) ∙ flat_map-append branch_line (take i branches) (b ∷ []) ∙ ap (λ t. branches_text (take i branches) ++ t) one in
    added ∙ ap (λ t. t ++ branch_line b) before ∙ append_assoc old (branches_text (take i branches)) (branch_line b) ∙ ap (λ t. old ++ t) (sym more)

-- all branches, and the totals
pub whole_report : {O R : Type 0} (first : ℕ) (moves : List (Move O R)) (old mid new : List ℕ) (i m n k : ℕ) → length (store_of first moves).branches ≤ i → mid ≡ old ++ branches_text (take i (store_of first moves).branches)
    → m ≡ length moves → n ≡ length (store_of first moves).commits → k ≡ length (store_of first moves).branches → new ≡ mid ++ (totals_text m n k ++ line_end) → new ≡ old ++ report_text first moves
unfolding report_text
whole_report first moves old mid new i m n k all before is-m is-n is-k added =
    let branches : List Branch = (store_of first moves).branches in
    let text : List ℕ = totals_text (length moves) (length (store_of first moves).commits) (length branches) ++ line_end in
    let every : branches_text (take i branches) ≡ branches_text branches = ap branches_text (take_all i branches all) in
    added ∙ ap (λ t. mid ++ t) (simp (is-m, is-n, is-k)) ∙ ap (λ t. t ++ text) (before ∙ ap (λ t. old ++ t) every) ∙ append_assoc old (branches_text branches) text
    ∙ ap (λ t. old ++ t) (sym (append_assoc (branches_text branches) (totals_text (length moves) (length (store_of first moves).commits) (length branches)) line_end))
