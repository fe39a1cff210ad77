-- The texts of commits, by what is kept of them.
use Rattle.std.proofs.Common.{◌≡◌, ℕ, ◌+◌, ◌-◌, ◌<◌, ◌≤◌, ◌^◌, zero, suc, Bool, true, false, cond, List, [], ◌∷◌, ◌++◌, length, map, filter, take, drop, refl, ap, sym, ◌∙◌, arith, Option, None, Some, append_assoc, append-nil}
use Rattle.std.specs.Prelude.{slice_get, option_map, unwrap_or, codes, decimal}
use Rattle.std.specs.List.{flat_map}
use Rattle.std.specs.Option.{option_map_or}
use Rattle.std.proofs.Math.Path.{fun_ext}
use Rattle.std.proofs.lemmas.List.{length-map, take_all, drop_all}
use Rattle.std.proofs.lemmas.Option.{slice_get-map}
use Rattle.mrdt_model.specs.Executions.{Event}
use Rattle.branch_doc.specs.declared.plain.PlainOp.{PlainOp}
use Rattle.branch_doc.specs.declared.plain.PlainReply.{PlainReply}
use Rattle.branch_graph.specs.Graph.{parents_of, reaches, falling}
use Rattle.branch_history.specs.declared.moves.Move.{Move}
use Rattle.branch_history.specs.Commits.{Commit, graph_of}
use Rattle.branch_print.specs.Texts.{line_end}
use Rattle.branch_compact.specs.Marks.{is_marked}
use Rattle.branch_log.specs.declared.reading.Made.{Made}
use Rattle.branch_log.specs.Made.{event_told, commit_told, told_at, unseen, AreRead}
use Rattle.branch_log.specs.Logs.{act_text, commit_line, line_at, first_of, log_text}
use Rattle.branch_log.specs.Graphs.{numbered, label_time, edge_text, commit_node}
use Rattle.branch_log.specs.Told.{line_told, lines_told}
use Rattle.branch_log.proofs.Made.{count-made}

-- a commit, but for what its event has seen
abbrev pub unseen_commit : {O R : Type 0} → Commit O R → Commit O R
unseen_commit c = record { parents = c.parents; origin = c.origin; clock = c.clock; event = option_map unseen c.event }

module _ {O R : Type 0} (moves : List (Move O R)) (commits : List (Commit O R)) (graph : List (List ℕ)) (made : List Made) (read : AreRead moves commits graph made) where
  parents-at : (n : ℕ) (c : Commit O R) → slice_get commits n ≡ Some c → parents_of graph n ≡ c.parents
  parents-at n c at =
      ap (λ g. parents_of g n) read.parents ∙ ap (λ o. option_map_or (λ (ps : List ℕ). ps) o []) (slice_get-map (λ (c : Commit O R). c.parents) commits n ∙ ap (option_map (λ (c : Commit O R). c.parents)) at)

  -- the same field of what is kept and of the commit
  same-at : {X : Type 0} (f : Made → X) (g : Commit O R → X) → map f made ≡ map g commits → (n : ℕ) → option_map f (slice_get made n) ≡ option_map g (slice_get commits n)
  same-at {X} f g same n = sym (slice_get-map f made n) ∙ ap (λ (xs : List X). slice_get xs n) same ∙ slice_get-map g commits n

  -- the commit of each number is told
  pub is-told : (n : ℕ) → told_at moves graph made n ≡ option_map unseen_commit (slice_get commits n)
  is-told n = by_cases (slice_get made n) (slice_get commits n) refl
      (same-at (λ (m : Made). m.origin) (λ (c : Commit O R). c.origin) read.kept.origins n)
      (same-at (λ (m : Made). m.clock) (λ (c : Commit O R). c.clock) read.kept.clocks n)
      (same-at (event_told moves) (λ (c : Commit O R). option_map unseen c.event) read.kept.events n)
    where
      by_cases : (a : Option Made) (b : Option (Commit O R)) → slice_get commits n ≡ b
          → option_map (λ (m : Made). m.origin) a ≡ option_map (λ (c : Commit O R). c.origin) b
          → option_map (λ (m : Made). m.clock) a ≡ option_map (λ (c : Commit O R). c.clock) b
          → option_map (event_told moves) a ≡ option_map (λ (c : Commit O R). option_map unseen c.event) b
          → option_map (commit_told moves (parents_of graph n)) a ≡ option_map unseen_commit b
      by_cases None None at origin clock event = refl
      by_cases None (Some c) at origin clock event = absurd (cc)
      by_cases (Some m) None at origin clock event = absurd (cc)
      by_cases (Some m) (Some c) at origin clock event =
          let origins : m.origin ≡ c.origin = cc in
          let clocks : m.clock ≡ c.clock = cc in
          let events : event_told moves m ≡ option_map unseen c.event = cc in
          let whole : List ℕ → ℕ → ℕ → Option (Event O R) → Option (Commit O R) = λ ps o k e. Some (record { parents = ps; origin = o; clock = k; event = e }) in
          ap (λ ps. whole ps m.origin m.clock (event_told moves m)) (parents-at n c at)
          ∙ ap (λ o. whole c.parents o m.clock (event_told moves m)) origins
          ∙ ap (λ k. whole c.parents c.origin k (event_told moves m)) clocks
          ∙ ap (λ e. whole c.parents c.origin c.clock e) events

  pub counts : length made ≡ length commits
  counts = count-made moves commits made read.kept

  pub counts-graph : length made ≡ length graph
  counts-graph = counts ∙ sym (length-map commits (λ (c : Commit O R). c.parents)) ∙ sym (ap length read.parents)

  -- the node of each
  pub node-told : (n : ℕ) → option_map_or (commit_node n) (told_at moves graph made n) [] ≡ option_map_or (commit_node n) (slice_get commits n) []
  node-told n = ap (λ (o : Option (Commit O R)). option_map_or (commit_node n) o []) (is-told n) ∙ of_one (slice_get commits n)
    where
      label : (e : Option (Event O R)) → label_time (option_map unseen e) ≡ label_time e
      label None = refl
      label (Some e) = refl

      of_one : (o : Option (Commit O R)) → option_map_or (commit_node n) (option_map unseen_commit o) [] ≡ option_map_or (commit_node n) o []
      of_one None = refl
      of_one (Some c) =
          ap (λ l. codes "  c" ++ decimal n ++ codes " [label=\"#" ++ decimal n ++ l ++ codes "\"];" ++ line_end ++ flat_map (edge_text n) c.parents) (label c.event)

  module _ (plain_op : O → PlainOp) (plain_reply : R → PlainReply) where
    -- the line of each
    pub line-is : (n : ℕ) → line_told plain_op plain_reply moves graph made n ≡ line_at plain_op plain_reply commits n
    line-is n = ap (λ (o : Option (Commit O R)). option_map_or (commit_line plain_op plain_reply n) o []) (is-told n) ∙ of_one (slice_get commits n)
      where
        act : (e : Option (Event O R)) (parents : List ℕ) → act_text plain_op plain_reply (option_map unseen e) parents ≡ act_text plain_op plain_reply e parents
        act None parents = refl
        act (Some e) parents = refl

        of_one : (o : Option (Commit O R)) → option_map_or (commit_line plain_op plain_reply n) (option_map unseen_commit o) [] ≡ option_map_or (commit_line plain_op plain_reply n) o []
        of_one None = refl
        of_one (Some c) = ap (λ a. codes "#" ++ decimal n ++ codes " " ++ a ++ line_end) (act c.event c.parents)

    -- the lines of those that are marked are the log
    pub lines-are : (at : ℕ) (count : Option ℕ) (marks : List Bool) (end : ℕ) → end ≡ length commits → end < 2 ^ 32 → ((n : ℕ) → is_marked marks n ≡ reaches graph at n)
        → lines_told plain_op plain_reply moves graph made marks (unwrap_or count 18446744073709551615) end ≡ log_text plain_op plain_reply commits at count
    unfolding log_text
    lines-are at count marks end is_end few marked =
        let same : is_marked marks ≡ reaches (graph_of commits) at = fun_ext marked ∙ ap (λ g. reaches g at) read.parents in
        let numbers : filter (is_marked marks) (falling end) ≡ filter (reaches (graph_of commits) at) (falling (length commits)) =
        ap (λ keep. filter keep (falling end)) same ∙ ap (λ k. filter (reaches (graph_of commits) at) (falling k)) is_end in
        ap (λ text. flat_map text (take (unwrap_or count 18446744073709551615) (filter (is_marked marks) (falling end)))) (fun_ext line-is)
        ∙ ap (flat_map (line_at plain_op plain_reply commits)) (first count ∙ ap (first_of count) numbers)
      where
        fewer : (keep : ℕ → Bool) (k : ℕ) → length (filter keep (falling k)) ≤ k
        fewer keep zero = omega arith
        fewer keep (suc k) = step (keep k) (fewer keep k)
          where
            step : (t : Bool) → length (filter keep (falling k)) ≤ k → length (cond t (k ∷ filter keep (falling k)) (filter keep (falling k))) ≤ suc k
            step true le = omega (arith, le)
            step false le = omega (arith, le)

        first : (count : Option ℕ) → take (unwrap_or count 18446744073709551615) (filter (is_marked marks) (falling end)) ≡ first_of count (filter (is_marked marks) (falling end))
        first None = take_all 18446744073709551615 (filter (is_marked marks) (falling end)) (let h = fewer (is_marked marks) end in omega (arith, h, few))
        first (Some n) = refl

-- the commit of which this is kept
module _ {O R : Type 0} (moves : List (Move O R)) (graph : List (List ℕ)) (made : List Made) (n : ℕ) (m : Made) (at : slice_get made n ≡ Some m) where
  -- its node
  pub node-of : option_map_or (commit_node n) (told_at moves graph made n) [] ≡ commit_node n (commit_told moves (parents_of graph n) m)
  node-of = ap (λ (o : Option Made). option_map_or (commit_node n) (option_map (commit_told moves (parents_of graph n)) o) []) at

  -- its line
  pub line-of : (plain_op : O → PlainOp) (plain_reply : R → PlainReply) → line_told plain_op plain_reply moves graph made n ≡ commit_line plain_op plain_reply n (commit_told moves (parents_of graph n) m)
  line-of plain_op plain_reply = ap (λ (o : Option Made). option_map_or (commit_line plain_op plain_reply n) (option_map (commit_told moves (parents_of graph n)) o) []) at

-- the marked lines that are left, one number on
module _ {O R : Type 0} (plain_op : O → PlainOp) (plain_reply : R → PlainReply) (moves : List (Move O R)) (graph : List (List ℕ)) (made : List Made) (marks : List Bool) where
  line : ℕ → List ℕ
  line n = line_told plain_op plain_reply moves graph made n

  left_lines : ℕ → ℕ → List ℕ
  left_lines left n = lines_told plain_op plain_reply moves graph made marks left n

  step : (t : Bool) (left n : ℕ) (rest : List ℕ) → 0 < left → flat_map line (take left (cond t (n ∷ rest) rest)) ≡ cond t (line n) [] ++ flat_map line (take (cond t (left - 1) left) rest)
  step t zero n rest more = absurd (omega (arith, more))
  step true (suc left) n rest more = let e : left ≡ suc left - 1 = omega arith in ap (λ k. line n ++ flat_map line (take k rest)) e
  step false (suc left) n rest more = refl

  pub lines-more : (left from n : ℕ) → from ≡ n + 1 → 0 < left
      → lines_told plain_op plain_reply moves graph made marks left from
      ≡ cond (is_marked marks n) (line_told plain_op plain_reply moves graph made n) [] ++ lines_told plain_op plain_reply moves graph made marks (cond (is_marked marks n) (left - 1) left) n
  unfolding line left_lines
  lines-more left from n next more = let e : from ≡ suc n = omega (arith, next) in ap (left_lines left) e ∙ step (is_marked marks n) left n (filter (is_marked marks) (falling n)) more

  -- no lines are left
  pub lines-none : (left n : ℕ) → (0 < n → 0 < left → ⊥) → lines_told plain_op plain_reply moves graph made marks left n ≡ []
  lines-none zero n none = refl
  lines-none (suc left) zero none = refl
  lines-none (suc left) (suc n) none = absurd (none (omega arith) (omega arith))

  -- the next line, if it is marked, and those that are left then
  pub written-more : (first out old : List ℕ) (left fewer from n : ℕ) → from ≡ n + 1 → 0 < left → first ++ lines_told plain_op plain_reply moves graph made marks left from ≡ old
      → out ≡ first ++ cond (is_marked marks n) (line_told plain_op plain_reply moves graph made n) [] → fewer ≡ cond (is_marked marks n) (left - 1) left
      → out ++ lines_told plain_op plain_reply moves graph made marks fewer n ≡ old
  unfolding left_lines
  written-more first out old left fewer from n next more was is is_left =
      let text = cond (is_marked marks n) (line_told plain_op plain_reply moves graph made n) [] in
      let later = cond (is_marked marks n) (left - 1) left in
      ap (λ o. o ++ left_lines fewer n) is ∙ ap (λ k. (first ++ text) ++ left_lines k n) is_left
      ∙ append_assoc first text (left_lines later n) ∙ ap (λ l. first ++ l) (sym (lines-more left from n next more)) ∙ was

  pub written-all : (out old : List ℕ) (left n : ℕ) → (0 < n → 0 < left → ⊥) → out ++ lines_told plain_op plain_reply moves graph made marks left n ≡ old → out ≡ old
  written-all out old left n none is = sym (append-nil out) ∙ ap (λ l. out ++ l) (sym (lines-none left n none)) ∙ is

-- the texts of the items from a place on
numbered-suc : {X : Type 0} (text : ℕ → X → List ℕ) (n k : ℕ) (xs : List X) → numbered text n (drop k xs) ≡ option_map_or (text n) (slice_get xs k) [] ++ numbered text (suc n) (drop (suc k) xs)
numbered-suc text n zero [] = refl
numbered-suc text n (suc k) [] = refl
numbered-suc text n zero (x ∷ xs) = refl
numbered-suc text n (suc k) (x ∷ xs) = numbered-suc text n k xs

pub numbered-more : {X : Type 0} (text : ℕ → X → List ℕ) (n : ℕ) (xs : List X) (first out old : List ℕ) → first ++ numbered text n (drop n xs) ≡ old
    → out ≡ first ++ option_map_or (text n) (slice_get xs n) [] → out ++ numbered text (n + 1) (drop (n + 1) xs) ≡ old
numbered-more text n xs first out old was is =
    let e : n + 1 ≡ suc n = omega arith in
    let here = option_map_or (text n) (slice_get xs n) [] in
    ap (λ k. out ++ numbered text k (drop k xs)) e ∙ ap (λ o. o ++ numbered text (suc n) (drop (suc n) xs)) is
    ∙ append_assoc first here (numbered text (suc n) (drop (suc n) xs)) ∙ ap (λ l. first ++ l) (sym (numbered-suc text n n xs)) ∙ was

pub numbered-all : {X : Type 0} (text : ℕ → X → List ℕ) (n : ℕ) (xs : List X) (out old : List ℕ) → length xs ≤ n → out ++ numbered text n (drop n xs) ≡ old → out ≡ old
numbered-all text n xs out old end is = sym (append-nil out) ∙ ap (λ l. out ++ numbered text n l) (sym (drop_all n xs end)) ∙ is
