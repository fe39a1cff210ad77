-- A core without its last move.
use Rattle.std.proofs.Common.{zero, suc, ◌≡◌, ℕ, ◌+◌, ◌-◌, ◌<◌, List, [], ◌∷◌, ◌++◌, length, take, true, false, refl, ap, sym, ◌∙◌, arith, subst, length-append, Option, None}
use Rattle.std.proofs.lemmas.List.{take_all, length-take-le}
use Rattle.std.proofs.lemmas.Option.{slice_get_within}
use Rattle.std.proofs.Math.Seq.{take-append_seam}
use Rattle.mrdt_model.specs.Executions.{Event}
use Rattle.mrdt_model.specs.Laws.{Meaning, KeepsLaws}
use Rattle.branch_graph.specs.Graph.{Ancestry}
use Rattle.branch_names.specs.declared.terms.Terms.{Terms}
use Rattle.branch_names.specs.declared.branch.Branch.{Branch}
use Rattle.branch_names.specs.Heads.{Table, name_of, head_of, is_dropped, branch_named, with_head, with_branch, with_drop, without_drop, IsKeptBranch}
use Rattle.branch_names.proofs.Branches.{length-with_branch, length-with_head, is_dropped-with_head, length-with_drop, name_of-with_drop}
use Rattle.branch_names.proofs.Tables.{drop_undone}
use Rattle.branch_history.specs.declared.moves.Move.{Move}
use Rattle.branch_history.specs.declared.moves.Move.TheVariants as move
use Rattle.branch_history.specs.Commits.{Commit, graph_of}
use Rattle.branch_history.specs.History.{Store, store_of, after_move, operation_commit, merge_commit, received_commit}
use Rattle.branch_history.specs.Validity.{IsValid}
use Rattle.branch_history.proofs.Grown.{length-graph, graph_of-append}
use Rattle.branch_history.proofs.Heads.{valid-frees}
use Rattle.branch_history.proofs.Histories.{valid-kept}
use Rattle.branch_history.proofs.Kept.{IsKept}
use Rattle.branch_history.proofs.Later.{IsLonger, commits-longer, longer-same_at}
use Rattle.branch_history.proofs.Valid.{IsValid-first, IsValid-second, IsAccepted, IsAccepted-from, store_of-more, commit-tells, forward-tells}
use Rattle.store_seen.specs.Keeps.{IsNode}
use Rattle.store_seen.specs.Nodes.{IsCore}
use Rattle.store_seen.specs.Turns.{StoodAt, Undone}
use Rattle.store_seen.specs.Views.{VersionsView}
use Rattle.store_seen.proofs.Firsts.{slice_get-first, same_without_last, without_last-is}

-- a head that is put back where it stood
pub with_head-back : (branches : List Branch) (r n : ℕ) → r < length branches → with_head (with_head branches r n) r (head_of branches r) ≡ branches
with_head-back [] r n lt = absurd (omega arith)
with_head-back (b ∷ bs) zero n lt = refl
with_head-back (b ∷ bs) (suc r) n lt = ap (λ l. b ∷ l) (with_head-back bs r n (omega arith))

module _ {S O R Q A : Type 0} (meaning : Meaning S O R Q A) (laws : KeepsLaws meaning) (terms : Terms) (history : List (Move O R)) (table : Table) (graph : Ancestry) (clocks : List ℕ) (values : List S) (core : IsCore meaning terms history table graph clocks values) (moves : List (Move O R)) (made : Move O R) (last : history ≡ moves ++ made ∷ []) where
  abbrev old : List (Commit O R)
  old = (store_of terms.origin moves).commits

  abbrev count : ℕ
  count = length (store_of terms.origin moves).commits

  all : IsValid meaning terms (moves ++ made ∷ [])
  all = subst (λ (l : List (Move O R)). IsValid meaning terms l) last core.valid

  valid : IsValid meaning terms moves
  valid = IsValid-first meaning terms moves (made ∷ []) all

  pub undone-accepted : IsAccepted meaning terms moves made
  undone-accepted = IsAccepted-from meaning terms moves made (IsValid-second meaning terms moves (made ∷ []) all).0

  kept : IsKept meaning terms (store_of terms.origin moves)
  kept = valid-kept meaning terms laws moves valid

  pub undone-store : store_of terms.origin history ≡ after_move terms.origin (store_of terms.origin moves) made
  undone-store = ap (λ (l : List (Move O R)). store_of terms.origin l) last ∙ store_of-more terms.origin moves made

  pub undone-branches : table.branches ≡ (after_move terms.origin (store_of terms.origin moves) made).branches
  undone-branches = ap (λ (t : Table). t.branches) core.heads ∙ ap (λ (s : Store O R). s.branches) undone-store

  longer : IsLonger old (store_of terms.origin history).commits
  longer = subst (λ (l : List (Move O R)). IsLonger old (store_of terms.origin l).commits) (sym last) (commits-longer terms.origin moves (made ∷ []))

  size : length (store_of terms.origin history).commits ≡ count + length longer.more
  size = ap length longer.is ∙ length-append old longer.more

  node-before : (n clock : ℕ) (value : S) → n < count → IsNode meaning (store_of terms.origin history).commits n clock value → IsNode meaning old n clock value
  node-before n clock value lt was =
      let same = longer-same_at old (store_of terms.origin history).commits longer kept.ordered.ranked n lt in
      record {
        there = lt;
        timed = was.timed ∙ same.clock;
        stands = subst (λ (x : List (Event O R)). meaning.stands value x) same.visible was.stands;
      }

  graph-before : take count graph.commits ≡ graph_of old
  graph-before =
      ap (λ (g : Ancestry). take count g.commits) core.parents
      ∙ ap (λ (cs : List (Commit O R)). take count (graph_of cs)) longer.is
      ∙ ap (take count) (graph_of-append old longer.more)
      ∙ ap (λ n. take n (graph_of old ++ graph_of longer.more)) (sym (length-graph old))
      ∙ take-append_seam (graph_of old) (graph_of longer.more)

  -- what a core has of the moves before
  pub undone-core : (new_table : Table) → new_table ≡ record table { branches = (store_of terms.origin moves).branches } → IsCore meaning terms moves new_table (record graph { commits = take count graph.commits }) (take count clocks) (take count values)
  undone-core new_table branches =
      let counted = core.count in
      let valued = core.valued in
      let more = size in
      record {
        valid = valid;
        heads = branches ∙ ap (λ t. record { limit = t.limit; branches = (store_of terms.origin moves).branches }) core.heads;
        parents = ap (λ l. record { limit = graph.limit; commits = l }) graph-before ∙ ap (λ g. record { limit = g.limit; commits = graph_of old }) core.parents;
        count = length-take-le count clocks (omega arith);
        valued = length-take-le count values (omega arith);
        each = λ n k v timed is.
            let lt : n < length (take count clocks) = slice_get_within (take count clocks) n k timed in
            let cut = length-take-le count clocks (omega arith) in
            let there : n < count = omega arith in
            node-before n k v there (core.each n k v (sym (slice_get-first clocks count n there) ∙ timed) (sym (slice_get-first values count n there) ∙ is));
      }

  -- a move that made no commit
  pub undone-same : (store_of terms.origin history).commits ≡ old → (new_table : Table) → new_table ≡ record table { branches = (store_of terms.origin moves).branches } → IsCore meaning terms moves new_table graph clocks values
  undone-same same new_table branches =
      let is = undone-core new_table branches in
      let counted = core.count in
      let valued = core.valued in
      let sized = ap length same in
      let grown = ap (λ (g : Ancestry). length g.commits) core.parents ∙ length-graph (store_of terms.origin history).commits in
      subst (λ (l : List (List ℕ)). IsCore meaning terms moves new_table (record { limit = graph.limit; commits = l }) clocks values) (take_all count graph.commits (omega arith))
      (subst (λ (l : List ℕ). IsCore meaning terms moves new_table (record { limit = graph.limit; commits = take count graph.commits }) l values) (take_all count clocks (omega arith))
      (subst (λ (l : List S). IsCore meaning terms moves new_table (record { limit = graph.limit; commits = take count graph.commits }) (take count clocks) l) (take_all count values (omega arith)) is))

  -- and its nodes, which are as many as the commits
  pub undone-count : (store_of terms.origin history).commits ≡ old → length graph.commits ≡ count
  undone-count same =
      ap (λ (g : Ancestry). length g.commits) core.parents ∙ length-graph (store_of terms.origin history).commits ∙ ap length same

  pub undone-addresses : (store_of terms.origin history).commits ≡ old → (addresses : List (List ℕ)) → length addresses ≡ length graph.commits → addresses ≡ take count addresses
  undone-addresses same addresses addressed = let sized = undone-count same in sym (take_all count addresses (omega arith))

  -- a branch that is new is not there before
  module _ (name : List ℕ) (head : ℕ) (grown : store_of terms.origin history ≡ record { commits = old; branches = with_branch (store_of terms.origin moves).branches name head }) where
    pub new-same : (store_of terms.origin history).commits ≡ old
    new-same = ap (λ (s : Store O R). s.commits) grown

    new_branches : table.branches ≡ with_branch (store_of terms.origin moves).branches name head
    new_branches = ap (λ (t : Table). t.branches) core.heads ∙ ap (λ (s : Store O R). s.branches) grown

    pub new-some : 1 < length table.branches
    new-some =
        let there = kept.ordered.main.0 in
        let more = ap length new_branches ∙ length-with_branch (store_of terms.origin moves).branches name head in
        omega arith

    pub new-undone : (new_table : Table) → new_table ≡ record table { branches = take (length table.branches - 1) table.branches } → IsCore meaning terms moves new_table graph clocks values
    new-undone new_table cut =
        undone-same new-same new_table
        (cut
        ∙ ap (λ bs. record table { branches = bs })
        (ap (λ (bs : List Branch). take (length bs - 1) bs) new_branches ∙ without_last-is (store_of terms.origin moves).branches (record { name = name; head = head; dropped = false })))

  -- a commit that was made is gone
  module _ (c : Commit O R) (made_commit : (store_of terms.origin history).commits ≡ old ++ c ∷ []) where
    pub commit-count : length graph.commits - 1 ≡ count
    commit-count =
        let sized = ap (λ (g : Ancestry). length g.commits) core.parents ∙ length-graph (store_of terms.origin history).commits ∙ ap length made_commit ∙ length-append old (c ∷ []) in
        omega arith

    pub commit-some : 0 < length graph.commits
    commit-some =
        let sized = ap (λ (g : Ancestry). length g.commits) core.parents ∙ length-graph (store_of terms.origin history).commits ∙ ap length made_commit ∙ length-append old (c ∷ []) in
        omega arith

    pub commit-undone : (new_table : Table) → new_table ≡ record table { branches = (store_of terms.origin moves).branches }
        → (cut : Ancestry) → cut ≡ record graph { commits = take (length graph.commits - 1) graph.commits } → (fewer_clocks : List ℕ) → fewer_clocks ≡ take (length clocks - 1) clocks → (fewer_values : List S) → fewer_values ≡ take (length graph.commits - 1) values
        → IsCore meaning terms moves new_table cut fewer_clocks fewer_values
    commit-undone new_table put cut graph_is fewer_clocks clocks_are fewer_values values_are =
        let counted = core.count ∙ ap length made_commit ∙ length-append old (c ∷ []) in
        let of_graph = commit-count in
        let of_clocks : length clocks - 1 ≡ count = omega arith in
        subst (λ (g : Ancestry). IsCore meaning terms moves new_table g fewer_clocks fewer_values) (sym (graph_is ∙ ap (λ n. record graph { commits = take n graph.commits }) of_graph))
        (subst (λ (l : List ℕ). IsCore meaning terms moves new_table (record graph { commits = take count graph.commits }) l fewer_values) (sym (clocks_are ∙ ap (λ n. take n clocks) of_clocks))
        (subst (λ (l : List S). IsCore meaning terms moves new_table (record graph { commits = take count graph.commits }) (take count clocks) l) (sym (values_are ∙ ap (λ n. take n values) of_graph))
        (undone-core new_table put)))

  -- a branch whose head was moved stands where it stood
  module _ (r n : ℕ) (there : IsKeptBranch (store_of terms.origin moves).branches r) (moved : (store_of terms.origin history).branches ≡ with_head (store_of terms.origin moves).branches r n) where
    moved_branches : table.branches ≡ with_head (store_of terms.origin moves).branches r n
    moved_branches = ap (λ (t : Table). t.branches) core.heads ∙ moved

    pub moved-there : IsKeptBranch table.branches r
    moved-there =
        let same = ap length moved_branches ∙ length-with_head (store_of terms.origin moves).branches r n in
        let lt = there.0 in
        (omega arith, ap (λ (bs : List Branch). is_dropped bs r) moved_branches ∙ is_dropped-with_head (store_of terms.origin moves).branches r n r ∙ there.1)

    pub moved-back : (head : ℕ) → head ≡ head_of (store_of terms.origin moves).branches r → (new_table : Table) → new_table ≡ record table { branches = with_head table.branches r head } → new_table ≡ record table { branches = (store_of terms.origin moves).branches }
    moved-back head stood new_table put =
        put
        ∙ ap (λ bs. record table { branches = with_head bs r head }) moved_branches
        ∙ ap (λ h. record table { branches = with_head (with_head (store_of terms.origin moves).branches r n) r h }) stood
        ∙ ap (λ bs. record table { branches = bs }) (with_head-back (store_of terms.origin moves).branches r n there.0)

  -- what each kind of move moved and made
  accepted_as : (m : Move O R) → made ≡ m → IsAccepted meaning terms moves m
  accepted_as m is = subst (λ (l : Move O R). IsAccepted meaning terms moves l) is undone-accepted

  store_as : (m : Move O R) → made ≡ m → store_of terms.origin history ≡ after_move terms.origin (store_of terms.origin moves) m
  store_as m is = undone-store ∙ ap (after_move terms.origin (store_of terms.origin moves)) is

  module _ (name : List ℕ) (number from : ℕ) (is : made ≡ move.Fork name number from) where
    pub fork-grown : store_of terms.origin history ≡ record { commits = old; branches = with_branch (store_of terms.origin moves).branches name (head_of (store_of terms.origin moves).branches from) }
    fork-grown = store_as (move.Fork name number from) is

  module _ (name : List ℕ) (number commit : ℕ) (is : made ≡ move.Place name number commit) where
    pub place-grown : store_of terms.origin history ≡ record { commits = old; branches = with_branch (store_of terms.origin moves).branches name commit }
    place-grown = store_as (move.Place name number commit) is

  module _ (r : ℕ) (op : O) (reply : R) (is : made ≡ move.Operation r op reply) where
    pub operation-there : IsKeptBranch (store_of terms.origin moves).branches r
    operation-there =
        let accepted = accepted_as (move.Operation r op reply) is in
        (accepted.there, (commit-tells meaning terms moves r (head_of (store_of terms.origin moves).branches r) accepted.landed).0)

    pub operation-moved : (store_of terms.origin history).branches ≡ with_head (store_of terms.origin moves).branches r (length old)
    operation-moved = ap (λ (s : Store O R). s.branches) (store_as (move.Operation r op reply) is)

    pub operation-made : (store_of terms.origin history).commits ≡ old ++ operation_commit old (terms.origin + r) (head_of (store_of terms.origin moves).branches r) op reply ∷ []
    operation-made = ap (λ (s : Store O R). s.commits) (store_as (move.Operation r op reply) is)

    pub operation-stood : (head : ℕ) → StoodAt terms moves made head → head ≡ head_of (store_of terms.origin moves).branches r
    operation-stood head stood = subst (λ (l : Move O R). StoodAt terms moves l head) is stood

  module _ (r m : ℕ) (is : made ≡ move.Merge r m) where
    pub merge-there : IsKeptBranch (store_of terms.origin moves).branches r
    merge-there =
        let accepted = accepted_as (move.Merge r m) is in
        (accepted.there, (commit-tells meaning terms moves r (head_of (store_of terms.origin moves).branches r) accepted.landed).0)

    pub merge-moved : (store_of terms.origin history).branches ≡ with_head (store_of terms.origin moves).branches r (length old)
    merge-moved = ap (λ (s : Store O R). s.branches) (store_as (move.Merge r m) is)

    pub merge-made : (store_of terms.origin history).commits ≡ old ++ merge_commit old (terms.origin + r) (head_of (store_of terms.origin moves).branches r ∷ m ∷ []) ∷ []
    merge-made = ap (λ (s : Store O R). s.commits) (store_as (move.Merge r m) is)

    pub merge-stood : (head : ℕ) → StoodAt terms moves made head → head ≡ head_of (store_of terms.origin moves).branches r
    merge-stood head stood = subst (λ (l : Move O R). StoodAt terms moves l head) is stood

  module _ (r : ℕ) (ms : List ℕ) (is : made ≡ move.Join r ms) where
    pub join-there : IsKeptBranch (store_of terms.origin moves).branches r
    join-there =
        let accepted = accepted_as (move.Join r ms) is in
        (accepted.there, (commit-tells meaning terms moves r (head_of (store_of terms.origin moves).branches r) accepted.landed).0)

    pub join-moved : (store_of terms.origin history).branches ≡ with_head (store_of terms.origin moves).branches r (length old)
    join-moved = ap (λ (s : Store O R). s.branches) (store_as (move.Join r ms) is)

    pub join-made : (store_of terms.origin history).commits ≡ old ++ merge_commit old (terms.origin + r) (head_of (store_of terms.origin moves).branches r ∷ ms) ∷ []
    join-made = ap (λ (s : Store O R). s.commits) (store_as (move.Join r ms) is)

    pub join-stood : (head : ℕ) → StoodAt terms moves made head → head ≡ head_of (store_of terms.origin moves).branches r
    join-stood head stood = subst (λ (l : Move O R). StoodAt terms moves l head) is stood

  module _ (r m : ℕ) (is : made ≡ move.Forward r m) where
    pub forward-there : IsKeptBranch (store_of terms.origin moves).branches r
    forward-there =
        let accepted = accepted_as (move.Forward r m) is in
        (accepted.there, (forward-tells meaning terms moves r (head_of (store_of terms.origin moves).branches r) accepted.landed).0)

    pub forward-moved : (store_of terms.origin history).branches ≡ with_head (store_of terms.origin moves).branches r m
    forward-moved = ap (λ (s : Store O R). s.branches) (store_as (move.Forward r m) is)

    pub forward-same : (store_of terms.origin history).commits ≡ old
    forward-same = ap (λ (s : Store O R). s.commits) (store_as (move.Forward r m) is)

    pub forward-stood : (head : ℕ) → StoodAt terms moves made head → head ≡ head_of (store_of terms.origin moves).branches r
    forward-stood head stood = subst (λ (l : Move O R). StoodAt terms moves l head) is stood

  -- no branch was moved
  module _ (parents : List ℕ) (origin clock : ℕ) (act : Option (O × R)) (is : made ≡ move.Received parents origin clock act) where
    pub received-made : (store_of terms.origin history).commits ≡ old ++ received_commit old parents origin clock act ∷ []
    received-made = ap (λ (s : Store O R). s.commits) (store_as (move.Received parents origin clock act) is)

    pub received-back : table ≡ record table { branches = (store_of terms.origin moves).branches }
    received-back =
        ap (λ (bs : List Branch). let t : Table = record table { branches = bs } in t)
        (ap (λ (t : Table). t.branches) core.heads ∙ ap (λ (s : Store O R). s.branches) (store_as (move.Received parents origin clock act) is))

  -- a branch that was dropped is one again
  module _ (r : ℕ) (is : made ≡ move.Drop r) where
    abbrev after : List (Move O R)
    after = moves ++ move.Drop r ∷ []

    frees : IsKeptBranch (store_of terms.origin moves).branches r × (is_dropped (store_of terms.origin after).branches r ≡ true) × (branch_named (store_of terms.origin after).branches (name_of (store_of terms.origin moves).branches r) ≡ None)
    frees = valid-frees meaning terms laws moves r (subst (λ (m : Move O R). IsValid meaning terms (moves ++ m ∷ [])) is all)

    pub drop-same : (store_of terms.origin history).commits ≡ old
    drop-same = ap (λ (s : Store O R). s.commits) (store_as (move.Drop r) is)

    drop_branches : table.branches ≡ with_drop (store_of terms.origin moves).branches r
    drop_branches = ap (λ (t : Table). t.branches) core.heads ∙ ap (λ (s : Store O R). s.branches) (store_as (move.Drop r) is)

    pub drop-there : r < length table.branches
    drop-there =
        let size = ap length drop_branches ∙ length-with_drop (store_of terms.origin moves).branches r in
        let lt = frees.0.0 in
        omega arith

    pub drop-free : branch_named table.branches (name_of table.branches r) ≡ None
    drop-free =
        let named : name_of table.branches r ≡ name_of (store_of terms.origin moves).branches r = ap (λ (bs : List Branch). name_of bs r) drop_branches ∙ name_of-with_drop (store_of terms.origin moves).branches r r in
        ap (λ (name : List ℕ). branch_named table.branches name) named
        ∙ ap (λ (t : Table). branch_named t.branches (name_of (store_of terms.origin moves).branches r)) core.heads
        ∙ ap (λ (l : List (Move O R)). branch_named (store_of terms.origin l).branches (name_of (store_of terms.origin moves).branches r)) (last ∙ ap (λ (m : Move O R). moves ++ m ∷ []) is)
        ∙ frees.2

    pub drop-undone : (new_table : Table) → new_table ≡ record table { branches = without_drop table.branches r } → IsCore meaning terms moves new_table graph clocks values
    drop-undone new_table put =
        undone-same drop-same new_table
        (put
        ∙ ap (λ bs. record table { branches = without_drop bs r }) drop_branches
        ∙ ap (λ bs. record table { branches = bs }) (drop_undone (store_of terms.origin moves).branches r frees.0))

-- what a contract sees of it
pub undone-view : {O R : Type 0} (before : VersionsView (Move O R)) (history : List (Move O R)) (terms : Terms) (addresses : List (List ℕ)) → record { core = record { history = history; terms = terms }; addresses = addresses } ≡ before
    → (moves : List (Move O R)) (made : Move O R) → history ≡ moves ++ made ∷ [] → (fewer : List (List ℕ)) → fewer ≡ take (length (store_of terms.origin moves).commits) addresses
    → Undone before (record { core = record { history = moves; terms = terms }; addresses = fewer })
undone-view {O} {R} before history terms addresses view_is moves made last fewer are =
    let View : List (Move O R) → List (List ℕ) → VersionsView (Move O R) = λ h a. record { core = record { history = h; terms = terms }; addresses = a } in
    subst (λ (v : VersionsView (Move O R)). Undone v (View moves fewer)) view_is
    (λ ms m e.
    let same : moves ≡ ms = same_without_last moves ms made m (sym last ∙ e) in
    ap (λ a. View moves a) are ∙ ap (λ (l : List (Move O R)). View l (take (length (store_of terms.origin l).commits) addresses)) same)
