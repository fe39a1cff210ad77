-- What a core keeps, move by move.
use Rattle.std.proofs.Common.{zero, suc, ◌≡◌, ℕ, ◌+◌, ◌<◌, ◌≤◌, List, [], ◌∷◌, ◌++◌, length, refl, ap, sym, ◌∙◌, arith, Some, None, subst, length-append, slice_get, IsTrue, Result, Ok, Err, OnOk, OnErr}
use Rattle.std.proofs.lemmas.Option.{slice_get_within}
use mathlib.Core.List.{IsPrefix}
use Rattle.std.specs.Option.{option_map_or}
use Rattle.mrdt_model.specs.Executions.{Event}
use Rattle.mrdt_model.specs.Laws.{Meaning, KeepsLaws}
use Rattle.branch_graph.specs.Graph.{Ancestry, reaches}
use Rattle.branch_names.specs.declared.terms.Terms.{Terms}
use Rattle.branch_names.specs.Names.{is_name}
use Rattle.branch_names.specs.Heads.{Table, head_of, branch_named, with_head, with_branch, main_alone}
use Rattle.branch_history.specs.declared.moves.Move.{Move}
use Rattle.branch_history.specs.declared.moves.Move.TheVariants as move
use Rattle.branch_history.specs.Commits.{Commit, graph_of, clock_of, visible}
use Rattle.branch_history.specs.History.{Store, store_of, new_store}
use Rattle.branch_history.specs.Laws.{IsSameAt, IsWithin}
use Rattle.branch_history.specs.Machine.{turn, answers, fork_refusal}
use Rattle.branch_history.specs.Steps as machine
use Rattle.branch_history.specs.Validity.{IsMove}
use Rattle.branch_history.proofs.Grown.{length-graph, graph_of-append}
use Rattle.branch_history.proofs.Histories.{valid-kept, valid-within}
use Rattle.branch_history.proofs.Kept.{IsKept}
use Rattle.branch_history.proofs.Later.{commits-longer, longer-same_at}
use Rattle.branch_history.proofs.Lists.{Place, place, old, new, past, slice_get-append, slice_get-new}
use Rattle.branch_history.proofs.Reach.{reaches-self}
use Rattle.branch_history.proofs.Turns.{look-sees, look-unknown, fork-unknown, fork-taken, fork-refused, fork-full_branches, fork-moves, fork-makes, moves-full, moves-none, IsMove-fork}
use Rattle.branch_history.proofs.Valid.{IsValid-none, IsValid-more, store_of-none, store_of-more}
use Rattle.virtual_base.specs.Nodes.{AreNodesOf}
use Rattle.store_seen.specs.Keeps.{IsNode, IsLook}
use Rattle.store_seen.specs.Nodes.{IsCore, AddsCommit}
use Rattle.store_seen.specs.Turns.{Refuses}
use Rattle.store_seen.specs.Views.{CoreView, SeenView}
use Rattle.store_seen.proofs.Looks.{same-later}
use Rattle.store_seen.proofs.Readies.{branch-now, head-now, head-below}

-- what a list has at a place
slice_get-at : {X : Type 0} (xs : List X) (n : ℕ) → n < length xs → (x : X) × (slice_get xs n ≡ Some x)
slice_get-at [] n lt = absurd (omega arith)
slice_get-at (x ∷ xs) zero lt = (x, refl)
slice_get-at (x ∷ xs) (suc n) lt = slice_get-at xs n (omega arith)

module _ {S O R Q A : Type 0} (meaning : Meaning S O R Q A) (laws : KeepsLaws meaning) (terms : Terms) (history : List (Move O R)) (table : Table) (graph : Ancestry) (clocks : List ℕ) (values : List S) (core : IsCore meaning terms history table graph clocks values) where
  abbrev commits : List (Commit O R)
  commits = (store_of terms.origin history).commits

  pub core-kept : IsKept meaning terms (store_of terms.origin history)
  core-kept = valid-kept meaning terms laws history core.valid

  pub core-within : IsWithin terms history
  core-within = valid-within meaning terms laws history core.valid

  pub core-branches : length table.branches ≡ length (store_of terms.origin history).branches
  core-branches = ap (λ t. length t.branches) core.heads

  pub core-heads : (r : ℕ) → head_of table.branches r ≡ head_of (store_of terms.origin history).branches r
  core-heads r = ap (λ t. head_of t.branches r) core.heads

  pub core-named : (name : List ℕ) → branch_named table.branches name ≡ branch_named (store_of terms.origin history).branches name
  core-named name = ap (λ t. branch_named t.branches name) core.heads

  pub core-count : length graph.commits ≡ length commits
  core-count = ap (λ g. length g.commits) core.parents ∙ length-graph commits

  -- each commit has a clock and a value
  pub core-clock : (n : ℕ) → n < length commits → n < length clocks
  core-clock n lt = let count = core.count in omega arith

  pub core-value : (n : ℕ) → n < length commits → n < length graph.commits
  core-value n lt = let count = core-count in omega arith

  -- the nodes are those of the commits
  pub core-nodes : (addresses : List (List ℕ)) → AreNodesOf meaning commits (record { graph = graph; values = values; addresses = addresses })
  core-nodes addresses = record {
    parents = ap (λ g. g.commits) core.parents;
    stand = λ n value is.
        let lt : n < length values = slice_get_within values n value is in
        let valued = core.valued in
        let there : n < length commits = omega arith in
        let timed = slice_get-at clocks n (core-clock n there) in
        (core.each n timed.0 value timed.1 is).stands;
  }

  -- the clock of a commit
  pub clock-at : (n clock : ℕ) → n < length commits → slice_get clocks n ≡ Some clock → clock ≡ clock_of commits n
  clock-at n clock there is =
      let valued = core.valued in
      let found = slice_get-at values n (omega arith) in
      (core.each n clock found.0 is found.1).timed

  -- an earlier look, at the history of now
  pub look-again : (seen : SeenView (Move O R)) → IsPrefix seen.history history → seen.terms ≡ terms → (then_moves clock : ℕ) (value : S) → IsLook meaning seen then_moves clock value → (moves : ℕ) → moves ≡ length history → (again : S) → again ≡ value
      → IsLook meaning (record { history = history; terms = terms; branch = seen.branch; head = seen.head }) moves clock again
  look-again seen prefix same then_moves clock value was moves counted again is =
      let here : CoreView (Move O R) = record { history = history; terms = terms } in
      let at : IsSameAt (store_of seen.terms.origin seen.history).commits commits seen.head =
      subst (λ (t : Terms). IsSameAt (store_of seen.terms.origin seen.history).commits (store_of t.origin history).commits seen.head) same
      (same-later meaning laws seen was.look seen.head was.look.head history prefix) in
      let there : seen.head < length commits = head-now meaning laws seen was.look here prefix same in
      record {
        look = record {
          valid = core.valid;
          branch = branch-now meaning laws seen was.look here prefix same;
          head = there;
          below = head-below meaning laws seen was.look here prefix same core.valid;
        };
        counted = counted;
        node = record {
          there = there;
          timed = was.node.timed ∙ sym at.clock;
          stands = subst (λ (v : S). meaning.stands v (visible commits seen.head)) (sym is) (subst (λ (x : List (Event O R)). meaning.stands value x) (sym at.visible) was.node.stands);
        };
      }

  -- a branch's head has a node, which stands for what is visible there
  module _ (r n : ℕ) (there : r < length table.branches) (at : n ≡ head_of table.branches r) where
    in_range : r < length (store_of terms.origin history).branches
    in_range = subst (λ (m : ℕ). r < m) core-branches there

    newest_at : n ≡ head_of (store_of terms.origin history).branches r
    newest_at = at ∙ core-heads r

    pub head-there : n < length commits
    head-there = subst (λ (h : ℕ). h < length commits) (sym newest_at) (core-kept.ordered.heads r in_range)

    pub head-clock : n < length clocks
    head-clock = core-clock n head-there

    pub head-value : n < length graph.commits
    head-value = core-value n head-there

    pub head-look : (moves : ℕ) → moves ≡ length history → (clock : ℕ) (value : S) → slice_get clocks n ≡ Some clock → slice_get values n ≡ Some value
        → IsLook meaning (record { history = history; terms = terms; branch = r; head = n }) moves clock value
    head-look moves counted clock value timed found = record {
      look = record {
        valid = core.valid;
        branch = in_range;
        head = head-there;
        below = subst (λ (h : ℕ). IsTrue (reaches (graph_of commits) (head_of (store_of terms.origin history).branches r) h)) (sym newest_at) (reaches-self (graph_of commits) core-kept.ordered.ranked (head_of (store_of terms.origin history).branches r));
      };
      counted = counted;
      node = core.each n clock value timed found;
    }

    pub head-sees : (name : List ℕ) → Some r ≡ branch_named table.branches name → turn meaning terms history (machine.Look name) ≡ answers {O = O} {R = R} {A = A} (machine.Sees r n)
    head-sees name named =
        look-sees meaning terms history name r (sym (core-named name) ∙ sym named)
        ∙ ap (λ h. answers {O = O} {R = R} {A = A} (machine.Sees r h)) (sym newest_at)

  pub look-refused : (name : List ℕ) → None ≡ branch_named table.branches name → Refuses meaning terms history (machine.Look name) (machine.UnknownBranch name)
  look-refused name none = look-unknown meaning terms history name (sym (core-named name) ∙ sym none)

  -- forks, of what the table and the moves say
  module _ (name from : List ℕ) where
    pub fork-is_unknown : None ≡ branch_named table.branches from → Refuses meaning terms history (machine.Fork name from) (machine.UnknownBranch from)
    fork-is_unknown none = fork-unknown meaning terms history name from (sym (core-named from) ∙ sym none)

    module _ (r : ℕ) (source : Some r ≡ branch_named table.branches from) where
      source_is : branch_named (store_of terms.origin history).branches from ≡ Some r
      source_is = sym (core-named from) ∙ sym source

      pub fork-is_taken : (number : ℕ) → Some number ≡ branch_named table.branches name → Refuses meaning terms history (machine.Fork name from) (machine.NameTaken number)
      fork-is_taken number taken = fork-taken meaning terms history name from r number source_is (sym (core-named name) ∙ sym taken)

      module _ (free : None ≡ branch_named table.branches name) where
        free_is : branch_named (store_of terms.origin history).branches name ≡ None
        free_is = sym (core-named name) ∙ sym free

        module _ (count : ℕ) (counted : count ≡ length table.branches) where
          pub fork-is_full : terms.limits.branches ≤ count → Refuses meaning terms history (machine.Fork name from) (machine.FullBranches count)
          fork-is_full le =
              let is : count ≡ length (store_of terms.origin history).branches = counted ∙ core-branches in
              fork-refused meaning terms history name from r (machine.FullBranches count) source_is free_is
              (fork-full_branches terms history (subst (λ (n : ℕ). terms.limits.branches ≤ n) is le) ∙ ap (λ n. Some (machine.FullBranches n)) (sym is))

          module _ (room : count < terms.limits.branches) (moves : ℕ) (is : moves ≡ length history) where
            branches_left : length (store_of terms.origin history).branches < terms.limits.branches
            branches_left = subst (λ (n : ℕ). n < terms.limits.branches) (counted ∙ core-branches) room

            pub fork-is_full_moves : terms.limits.moves ≤ moves → Refuses meaning terms history (machine.Fork name from) (machine.FullMoves moves)
            fork-is_full_moves le =
                fork-refused meaning terms history name from r (machine.FullMoves moves) source_is free_is
                (fork-moves terms history branches_left ∙ moves-full terms history (subst (λ (n : ℕ). terms.limits.moves ≤ n) is le) ∙ ap (λ n. Some (machine.FullMoves n)) (sym is))

            module _ (lt : moves < terms.limits.moves) where
              fork_free : fork_refusal terms history ≡ None
              fork_free = fork-moves terms history branches_left ∙ moves-none terms history (subst (λ (n : ℕ). n < terms.limits.moves) is lt)

              pub fork-is_move : IsTrue (is_name name) → IsMove meaning terms history (move.Fork name (length (store_of terms.origin history).branches) r)
              fork-is_move known = IsMove-fork meaning terms history name from r known source_is free_is fork_free

              pub fork-turn : (number head : ℕ) → number ≡ length (store_of terms.origin history).branches → head ≡ head_of (store_of terms.origin history).branches r
                  → turn meaning terms history (machine.Fork name from) ≡ record { outcome = machine.Forked number head; made = move.Fork name number r ∷ [] }
              fork-turn number head last newest =
                  fork-makes meaning terms history name from r source_is free_is fork_free
                  ∙ ap (λ n. record { outcome = machine.Forked n (head_of (store_of terms.origin history).branches r); made = move.Fork name n r ∷ [] }) (sym last)
                  ∙ ap (λ h. record { outcome = machine.Forked number h; made = move.Fork name number r ∷ [] }) (sym newest)

  module _ (made : Move O R) (moves : IsMove meaning terms history made) where
    abbrev next : List (Move O R)
    next = history ++ made ∷ []

    node-later : (n clock : ℕ) (value : S) → IsNode meaning commits n clock value → IsNode meaning (store_of terms.origin next).commits n clock value
    node-later n clock value was =
        let longer = commits-longer terms.origin history (made ∷ []) in
        let same = longer-same_at commits (store_of terms.origin next).commits longer core-kept.ordered.ranked n was.there in
        let there = was.there in
        let size : length (store_of terms.origin next).commits ≡ length commits + length longer.more = ap length longer.is ∙ length-append commits longer.more in
        record {
          there = omega arith;
          timed = was.timed ∙ sym same.clock;
          stands = subst (λ (x : List (Event O R)). meaning.stands value x) (sym same.visible) was.stands;
        }

    module _ (new_table : Table) (branches : new_table ≡ record table { branches = (store_of terms.origin next).branches }) where
      heads-later : new_table ≡ record { limit = terms.limits.branches; branches = (store_of terms.origin next).branches }
      heads-later = branches ∙ ap (λ t. record { limit = t.limit; branches = (store_of terms.origin next).branches }) core.heads

      -- a move that makes no commit
      pub core-moved : (store_of terms.origin next).commits ≡ commits → IsCore meaning terms next new_table graph clocks values
      core-moved same = record {
        valid = IsValid-more meaning terms history made core.valid moves;
        heads = heads-later;
        parents = core.parents ∙ ap (λ cs. record { limit = terms.limits.commits; commits = graph_of cs }) (sym same);
        count = core.count ∙ ap length (sym same);
        valued = core.valued ∙ ap length (sym same);
        each = λ n clock value timed is. node-later n clock value (core.each n clock value timed is);
      }

      module _ (c : Commit O R) (same : (store_of terms.origin next).commits ≡ commits ++ c ∷ []) (value : S) (stands : meaning.stands value (visible (store_of terms.origin next).commits (length commits))) where
        size_later : length (store_of terms.origin next).commits ≡ length commits + 1
        size_later = ap length same ∙ length-append commits (c ∷ [])

        new_node : IsNode meaning (store_of terms.origin next).commits (length commits) c.clock value
        new_node = let size = size_later in record {
          there = omega arith;
          timed = sym (ap (λ cs. clock_of cs (length commits)) same ∙ ap (λ o. option_map_or (λ d. d.clock) o 0) (slice_get-new commits c []));
          stands = stands;
        }

        each-later : (n k : ℕ) (v : S) → slice_get (clocks ++ c.clock ∷ []) n ≡ Some k → slice_get (values ++ value ∷ []) n ≡ Some v → Place n (length commits) → IsNode meaning (store_of terms.origin next).commits n k v
        each-later n k v timed is (old lt) =
            let count = core.count in
            let valued = core.valued in
            node-later n k v (core.each n k v (sym (slice_get-append clocks (c.clock ∷ []) n (omega arith)) ∙ timed) (sym (slice_get-append values (value ∷ []) n (omega arith)) ∙ is))
        each-later n k v timed is (new e) =
            let count = core.count in
            let valued = core.valued in
            let at_clock : n ≡ length clocks = e ∙ sym count in
            let at_value : n ≡ length values = e ∙ sym valued in
            let clock_is : c.clock ≡ k = let found : Some c.clock ≡ Some k = sym (slice_get-new clocks c.clock []) ∙ ap (slice_get (clocks ++ c.clock ∷ [])) (sym at_clock) ∙ timed in cc in
            let value_is : value ≡ v = let found : Some value ≡ Some v = sym (slice_get-new values value []) ∙ ap (slice_get (values ++ value ∷ [])) (sym at_value) ∙ is in cc in
            subst (λ (m : ℕ). IsNode meaning (store_of terms.origin next).commits m k v) (sym e)
            (subst (λ (m : ℕ). IsNode meaning (store_of terms.origin next).commits (length commits) m v) clock_is
            (subst (λ (w : S). IsNode meaning (store_of terms.origin next).commits (length commits) c.clock w) value_is new_node))
        each-later n k v timed is (past gt) =
            let size : length (clocks ++ c.clock ∷ []) ≡ length clocks + 1 = length-append clocks (c.clock ∷ []) in
            let within = slice_get_within (clocks ++ c.clock ∷ []) n k timed in
            let count = core.count in
            absurd (omega arith)

        -- a move that makes one
        pub core-grown : (grown : Ancestry) → grown ≡ record graph { commits = graph.commits ++ c.parents ∷ [] } → IsCore meaning terms next new_table grown (clocks ++ c.clock ∷ []) (values ++ value ∷ [])
        core-grown grown is = record {
          valid = IsValid-more meaning terms history made core.valid moves;
          heads = heads-later;
          parents =
              is
              ∙ ap (λ g. record { limit = g.limit; commits = g.commits ++ c.parents ∷ [] }) core.parents
              ∙ ap (λ ps. record { limit = terms.limits.commits; commits = ps }) (sym (graph_of-append commits (c ∷ [])))
              ∙ ap (λ cs. record { limit = terms.limits.commits; commits = graph_of cs }) (sym same);
          count = let size = size_later in let count = core.count in omega (arith, length-append clocks (c.clock ∷ []));
          valued = let size = size_later in let valued = core.valued in omega (arith, length-append values (value ∷ []));
          each = λ n k v timed found. each-later n k v timed found (place n (length commits));
        }

  -- the three ways in which a core goes on
  module _ (moves : List (Move O R)) (new_table : Table) where
    pub fork-core : (name : List ℕ) (number source head : ℕ) → IsMove meaning terms history (move.Fork name (length (store_of terms.origin history).branches) source) → number ≡ length table.branches → head ≡ head_of table.branches source
        → moves ≡ history ++ move.Fork name number source ∷ [] → new_table ≡ record table { branches = with_branch table.branches name head } → IsCore meaning terms moves new_table graph clocks values
    fork-core name number source head is last newest made added =
        let m = move.Fork name number source in
        let s = store_of terms.origin history in
        let here : IsMove meaning terms history m = subst (λ (n : ℕ). IsMove meaning terms history (move.Fork name n source)) (sym (last ∙ core-branches)) is in
        let after = store_of-more terms.origin history m in
        let branches : new_table ≡ record table { branches = (store_of terms.origin (history ++ m ∷ [])).branches } =
        added
        ∙ ap (λ t. record table { branches = with_branch t.branches name head }) core.heads
        ∙ ap (λ h. record table { branches = with_branch s.branches name h }) (newest ∙ core-heads source)
        ∙ ap (λ (t : Store O R). record table { branches = t.branches }) (sym after) in
        subst (λ (l : List (Move O R)). IsCore meaning terms l new_table graph clocks values) (sym made) (core-moved m here new_table branches (ap (λ (t : Store O R). t.commits) after))

    pub forward-core : (branch commit : ℕ) → IsMove meaning terms history (move.Forward branch commit) → moves ≡ history ++ move.Forward branch commit ∷ []
        → new_table ≡ record table { branches = with_head table.branches branch commit } → IsCore meaning terms moves new_table graph clocks values
    forward-core branch commit is made moved =
        let m = move.Forward branch commit in
        let after = store_of-more terms.origin history m in
        let branches : new_table ≡ record table { branches = (store_of terms.origin (history ++ m ∷ [])).branches } =
        moved
        ∙ ap (λ t. record table { branches = with_head t.branches branch commit }) core.heads
        ∙ ap (λ (t : Store O R). record table { branches = t.branches }) (sym after) in
        subst (λ (l : List (Move O R)). IsCore meaning terms l new_table graph clocks values) (sym made) (core-moved m is new_table branches (ap (λ (t : Store O R). t.commits) after))

    pub commit-core : (made : Move O R) (branch : ℕ) (parents : List ℕ) (clock : ℕ) (value : S) → AddsCommit meaning terms history made branch parents clock value → moves ≡ history ++ made ∷ []
        → (commit : ℕ) → commit ≡ length graph.commits → new_table ≡ record table { branches = with_head table.branches branch commit } → (grown : Ancestry) → grown ≡ record graph { commits = graph.commits ++ parents ∷ [] }
        → (more_clocks : List ℕ) → more_clocks ≡ clocks ++ clock ∷ [] → (more_values : List S) → more_values ≡ values ++ value ∷ [] → IsCore meaning terms moves new_table grown more_clocks more_values
    commit-core made branch parents clock value adds is commit number moved grown pushed more_clocks clocked more_values valued =
        let c : Commit O R = record { parents = parents; origin = terms.origin + branch; clock = clock; event = adds.event } in
        let branches : new_table ≡ record table { branches = (store_of terms.origin (history ++ made ∷ [])).branches } =
        moved
        ∙ ap (λ t. record table { branches = with_head t.branches branch commit }) core.heads
        ∙ ap (λ n. record table { branches = with_head (store_of terms.origin history).branches branch n }) (number ∙ core-count)
        ∙ ap (λ (t : Store O R). record table { branches = t.branches }) (sym adds.store) in
        subst (λ (l : List (Move O R)). IsCore meaning terms l new_table grown more_clocks more_values) (sym is)
        (subst (λ (l : List ℕ). IsCore meaning terms (history ++ made ∷ []) new_table grown l more_values) (sym clocked)
        (subst (λ (l : List S). IsCore meaning terms (history ++ made ∷ []) new_table grown (clocks ++ clock ∷ []) l) (sym valued)
        (core-grown made adds.moves new_table branches c (ap (λ (t : Store O R). t.commits) adds.store) value adds.stands grown pushed)))

-- a call that is not refused does what it does where it succeeds
pub done-ok : {X E P Q : Type 0} (r : Result X E) → OnErr r (P → ⊥) → P → OnOk r Q → Q
done-ok (Ok x) refused is done = done
done-ok (Err e) refused is done = absurd (refused is)

-- the history of a view goes on by a move
pub gone-on : {M : Type 0} (view : CoreView M) (history more : List M) (terms : Terms) (m : M) → record { history = history; terms = terms } ≡ view → more ≡ history ++ m ∷ []
    → record { history = more; terms = terms } ≡ record view { history = view.history ++ m ∷ [] }
gone-on {M} view history more terms m is made =
    ap (λ (l : List M). let v : CoreView M = record { history = l; terms = terms } in v) made
    ∙ ap (λ (v : CoreView M). let w : CoreView M = record { history = v.history ++ m ∷ []; terms = v.terms } in w) is

-- commit 0 sees nothing
sees_nothing : {O R : Type 0} → visible (new_store {O = O} {R = R}).commits 0 ≡ []
unfolding visible reaches
sees_nothing = refl

-- a core of no moves
pub core-fresh : {S O R Q A : Type 0} (meaning : Meaning S O R Q A) (terms : Terms) (table : Table) (graph : Ancestry) (value : S)
    → table.limit ≡ terms.limits.branches → table.branches ≡ main_alone → graph ≡ record { limit = terms.limits.commits; commits = [] ∷ [] } → meaning.stands value []
    → IsCore meaning terms [] table graph (0 ∷ []) (value ∷ [])
core-fresh {S} {O} {R} {Q} {A} meaning terms table graph value most branches parents stands =
    let none : store_of {O = O} {R = R} terms.origin [] ≡ new_store = store_of-none terms.origin in
    record {
      valid = IsValid-none meaning terms;
      heads =
          ap (λ n. record { limit = n; branches = table.branches }) most
          ∙ ap (λ bs. record { limit = terms.limits.branches; branches = bs }) branches
          ∙ ap (λ (s : Store O R). record { limit = terms.limits.branches; branches = s.branches }) (sym none);
      parents = parents ∙ ap (λ (s : Store O R). record { limit = terms.limits.commits; commits = graph_of s.commits }) (sym none);
      count = ap (λ (s : Store O R). length s.commits) (sym none);
      valued = ap (λ (s : Store O R). length s.commits) (sym none);
      each = λ n k v timed is. fresh n k v timed is;
    }
  where
    first : IsNode meaning (store_of {O = O} {R = R} terms.origin []).commits 0 0 value
    first =
        subst (λ (s : Store O R). IsNode meaning s.commits 0 0 value) (sym (store_of-none terms.origin))
        (record { there = omega arith; timed = refl; stands = subst (λ (x : List (Event O R)). meaning.stands value x) (sym (sees_nothing {O = O} {R = R})) stands })

    fresh : (n k : ℕ) (v : S) → slice_get (0 ∷ []) n ≡ Some k → slice_get (value ∷ []) n ≡ Some v → IsNode meaning (store_of {O = O} {R = R} terms.origin []).commits n k v
    fresh zero k v timed is =
        let at : 0 ≡ k = cc timed in
        let e : value ≡ v = cc is in
        subst (λ (m : ℕ). IsNode meaning (store_of {O = O} {R = R} terms.origin []).commits 0 m v) at (subst (λ (w : S). IsNode meaning (store_of {O = O} {R = R} terms.origin []).commits 0 0 w) e first)
    fresh (suc n) k v timed is = absurd (cc)
