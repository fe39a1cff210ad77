-- What the machine's answers say of names and heads.
use Rattle.std.proofs.Common.{◌≡◌, ℕ, Bool, true, false, List, [], ◌∷◌, length, refl, ap, sym, ◌∙◌, IsTrue, Option, Some, None}
use Rattle.std.specs.Prelude.{nat_le, if◌then◌else◌}
use Rattle.mrdt_model.specs.Laws.{Meaning}
use Rattle.branch_names.specs.declared.terms.Terms.{Terms}
use Rattle.branch_names.specs.Heads.{head_of, branch_named}
use Rattle.branch_graph.specs.Graph.{reaches}
use Rattle.branch_history.specs.declared.moves.Move.{Move}
use Rattle.branch_history.specs.declared.moves.Move.TheVariants as move
use Rattle.branch_history.specs.Commits.{graph_of}
use Rattle.branch_history.specs.History.{store_of}
use Rattle.branch_history.specs.Merging.{brought}
use Rattle.branch_history.specs.Steps as machine
use Rattle.branch_history.specs.Machine.{turn, answers, makes, unless, refusal_if, move_refusal, fork_refusal, forward_refusal, merge_refusal, commit_refusal, merge_turn}
use Rattle.branch_machine.specs.Fixed.{Fixed}
use Rattle.branch_machine.specs.Machine.{full_turn}
use Rattle.store_seen.specs.Groups.{AreHeads}
use Rattle.recorded_history.specs.Machine.{FullyRefuses}
use Rattle.branch_history.proofs.Turns.{look-unknown, look-sees, fork-unknown, fork-taken, fork-refused, fork-makes, forward-refused, forward-makes, merge-unprepared, merge-refused, merge-makes}
use Rattle.parallel_clients.specs.Played.{AreNamedHeads, HasBranch, IsTaken}
use Rattle.parallel_clients.proofs.Machines.{full-turned, full-refused}

module _ {S O R Q A : Type 0} (meaning : Meaning S O R Q A) (terms : Terms) (moves : List (Move O R)) where
  abbrev outcome : machine.Turn O R A → machine.Outcome A R
  outcome t = t.outcome

  abbrev refused : machine.Refusal → machine.Outcome A R
  refused refusal = machine.Refused refusal

  abbrev sees : ℕ → ℕ → machine.Outcome A R
  sees r h = machine.Sees r h

  -- a look that was answered found the branch by its name
  pub look-named : (name : List ℕ) (r h : ℕ) → turn meaning terms moves (machine.Look name) ≡ answers (machine.Sees r h)
      → (branch_named (store_of terms.origin moves).branches name ≡ Some r) × (head_of (store_of terms.origin moves).branches r ≡ h)
  look-named name r h is = found (branch_named (store_of terms.origin moves).branches name) refl
    where
      found : (o : Option ℕ) → branch_named (store_of terms.origin moves).branches name ≡ o → (branch_named (store_of terms.origin moves).branches name ≡ Some r) × (head_of (store_of terms.origin moves).branches r ≡ h)
      found None none = let t : refused (machine.UnknownBranch name) ≡ sees r h = ap outcome (sym (look-unknown meaning terms moves name none) ∙ is) in absurd (cc)
      found (Some k) some =
          let t : sees k (head_of (store_of terms.origin moves).branches k) ≡ sees r h = ap outcome (sym (look-sees meaning terms moves name k some) ∙ is) in
          let same : k ≡ r = cc in
          let at : head_of (store_of terms.origin moves).branches k ≡ h = cc in
          (some ∙ ap (λ j. Some j) same, ap (head_of (store_of terms.origin moves).branches) (sym same) ∙ at)

  -- and looks at several found the heads of all
  pub looks-named : (names : List (List ℕ)) (heads : List ℕ) → AreHeads meaning (record { history = moves; terms = terms }) names heads → AreNamedHeads terms.origin moves names heads
  looks-named [] [] are = tt
  looks-named [] (head ∷ heads) are = absurd are
  looks-named (name ∷ names) [] are = absurd are
  looks-named (name ∷ names) (head ∷ heads) are = let at = look-named name are.0.0 head are.0.1 in ((are.0.0, at.0, at.1), looks-named names heads are.1)

  -- so there is one
  pub look-there : (name : List ℕ) (r h : ℕ) → turn meaning terms moves (machine.Look name) ≡ answers (machine.Sees r h) → HasBranch terms.origin name moves
  look-there name r h is = (r, (look-named name r h is).0)

  -- a fork that was made found the branch that it is from
  turn-named : (name from : List ℕ) (number head source : ℕ)
      → turn meaning terms moves (machine.Fork name from) ≡ record { outcome = machine.Forked number head; made = move.Fork name number source ∷ [] }
      → branch_named (store_of terms.origin moves).branches from ≡ Some source
  turn-named name from number head source is = found (branch_named (store_of terms.origin moves).branches from) (branch_named (store_of terms.origin moves).branches name) (fork_refusal terms moves) refl refl refl
    where
      never : (refusal : machine.Refusal) → turn meaning terms moves (machine.Fork name from) ≡ answers (machine.Refused refusal) → ⊥
      never refusal turned = let t : refused refusal ≡ machine.Forked number head = ap outcome (sym turned ∙ is) in cc

      found : (there taken : Option ℕ) (o : Option machine.Refusal) → branch_named (store_of terms.origin moves).branches from ≡ there → branch_named (store_of terms.origin moves).branches name ≡ taken → fork_refusal terms moves ≡ o
          → branch_named (store_of terms.origin moves).branches from ≡ Some source
      found None taken o none at turned = absurd (never (machine.UnknownBranch from) (fork-unknown meaning terms moves name from none))
      found (Some r) (Some k) o some at turned = absurd (never (machine.NameTaken k) (fork-taken meaning terms moves name from r k some at))
      found (Some r) None (Some refusal) some at turned = absurd (never refusal (fork-refused meaning terms moves name from r refusal some at turned))
      found (Some r) None None some at turned =
          let t = ap (λ t. t.made) (sym (fork-makes meaning terms moves name from r some at turned) ∙ is) in
          let same : r ≡ source = cc in
          some ∙ ap (λ j. Some j) same

  full : (refusal : machine.Refusal) (number : ℕ) → fork_refusal terms moves ≡ Some refusal → refusal ≡ machine.NameTaken number → ⊥
  unfolding fork_refusal move_refusal
  full refusal number is taken =
      tests (nat_le terms.limits.branches (length (store_of terms.origin moves).branches)) (nat_le terms.limits.moves (length moves)) is
    where
      tests : (a b : Bool)
          → refusal_if a (machine.FullBranches (length (store_of terms.origin moves).branches)) (refusal_if b (machine.FullMoves (length moves)) None) ≡ Some refusal → ⊥
      tests true b e = cc
      tests false true e = cc
      tests false false e = cc

  -- a fork whose name is taken found the branch that has it, and the one that it was to be from
  turn-has : (name from : List ℕ) (number : ℕ) → turn meaning terms moves (machine.Fork name from) ≡ answers (machine.Refused (machine.NameTaken number)) → IsTaken terms.origin name from moves
  turn-has name from number is = found (branch_named (store_of terms.origin moves).branches from) (branch_named (store_of terms.origin moves).branches name) (fork_refusal terms moves) refl refl refl
    where
      same : (refusal : machine.Refusal) → turn meaning terms moves (machine.Fork name from) ≡ answers (machine.Refused refusal) → refusal ≡ machine.NameTaken number
      same refusal turned = let t : refused refusal ≡ refused (machine.NameTaken number) = ap outcome (sym turned ∙ is) in cc

      found : (there taken : Option ℕ) (o : Option machine.Refusal) → branch_named (store_of terms.origin moves).branches from ≡ there → branch_named (store_of terms.origin moves).branches name ≡ taken → fork_refusal terms moves ≡ o
          → IsTaken terms.origin name from moves
      found None taken o none at turned = let e = same (machine.UnknownBranch from) (fork-unknown meaning terms moves name from none) in absurd (cc)
      found (Some r) (Some k) o some at turned = ((k, at), (r, some))
      found (Some r) None (Some refusal) some at turned = absurd (full refusal number turned (same refusal (fork-refused meaning terms moves name from r refusal some at turned)))
      found (Some r) None None some at turned =
          let t : machine.Forked (length (store_of terms.origin moves).branches) (head_of (store_of terms.origin moves).branches r) ≡ refused (machine.NameTaken number) = ap outcome (sym (fork-makes meaning terms moves name from r some at turned) ∙ is) in
          absurd (cc)

  -- a merge for which there is nothing has the other commit in its head's reach
  pub merge-reaches : (r h m : ℕ) → turn meaning terms moves (machine.Merge r h (m ∷ [])) ≡ answers machine.Same → IsTrue (reaches (graph_of (store_of terms.origin moves).commits) h m)
  merge-reaches r h m is = up (reaches (graph_of (store_of terms.origin moves).commits) h m) (reaches (graph_of (store_of terms.origin moves).commits) m h) refl refl
    where
      never : (t : machine.Turn O R A) → turn meaning terms moves (machine.Merge r h (m ∷ [])) ≡ t → t.outcome ≡ machine.Same
      never t turned = ap outcome (sym turned ∙ is)

      forward : (o : Option machine.Refusal) → forward_refusal terms moves r h ≡ o → reaches (graph_of (store_of terms.origin moves).commits) h m ≡ false → IsTrue (reaches (graph_of (store_of terms.origin moves).commits) m h) → ⊥
      forward None turned above below = let e = never (makes (move.Forward r m) (machine.Forwarded m)) (forward-makes meaning terms moves r h m above below turned) in cc
      forward (Some refusal) turned above below = let e = never (answers (machine.Refused refusal)) (forward-refused meaning terms moves r h m refusal above below turned) in cc

      apart : (o p : Option machine.Refusal) → merge_refusal meaning terms.limits (store_of terms.origin moves).commits (h ∷ m ∷ []) ≡ o → commit_refusal terms moves r h ≡ p → reaches (graph_of (store_of terms.origin moves).commits) h m ≡ false → reaches (graph_of (store_of terms.origin moves).commits) m h ≡ false → ⊥
      apart (Some refusal) p why turned above below = let e = never (answers (machine.Refused refusal)) (merge-unprepared meaning terms moves r h m refusal above below why) in cc
      apart None (Some refusal) why turned above below = let e = never (answers (machine.Refused refusal)) (merge-refused meaning terms moves r h m refusal above below why turned) in cc
      apart None None why turned above below = let e = never (makes (move.Merge r m) (machine.Merged (length (store_of terms.origin moves).commits))) (merge-makes meaning terms moves r h m above below why turned) in cc

      up : (a b : Bool) → reaches (graph_of (store_of terms.origin moves).commits) h m ≡ a → reaches (graph_of (store_of terms.origin moves).commits) m h ≡ b → IsTrue (reaches (graph_of (store_of terms.origin moves).commits) h m)
      up true b above below = above
      up false true above below = absurd (forward (forward_refusal terms moves r h) refl above below)
      up false false above below = absurd (apart (merge_refusal meaning terms.limits (store_of terms.origin moves).commits (h ∷ m ∷ [])) (commit_refusal terms moves r h) refl refl above below)

  -- a turn that makes a move, unless it is refused, does not find that there is nothing to merge
  unless-same : (o : Option machine.Refusal) (t : machine.Turn O R A) → unless o t ≡ answers machine.Same → t ≡ answers machine.Same
  unless-same None t is = is
  unless-same (Some refusal) t is = let e : refused refusal ≡ machine.Same = ap outcome is in absurd (let never : ⊥ = cc in never)

  makes-same : (made : Move O R) (o : machine.Outcome A R) → makes made o ≡ answers machine.Same → ⊥
  makes-same made o is = let no : made ∷ [] ≡ [] = ap (λ (t : machine.Turn O R A). t.made) is in let never : ⊥ = cc in never

  -- a merge of several commits for which there is nothing brings nothing
  pub merge-nothing : (r h : ℕ) (ms : List ℕ) → turn meaning terms moves (machine.Merge r h ms) ≡ answers machine.Same → brought (graph_of (store_of terms.origin moves).commits) h ms ≡ []
  unfolding turn
  merge-nothing r h ms is = by (brought (graph_of (store_of terms.origin moves).commits) h ms) refl is
    where
      one : (m : ℕ) (below : Bool)
          → (if below then unless (forward_refusal terms moves r h) (makes (move.Forward r m) (machine.Forwarded m))
          else unless (merge_refusal meaning terms.limits (store_of terms.origin moves).commits (h ∷ m ∷ []))
          (unless (commit_refusal terms moves r h) (makes (move.Merge r m) (machine.Merged (length (store_of terms.origin moves).commits))))) ≡ answers {O = O} {R = R} {A = A} machine.Same → ⊥
      one m true e = makes-same (move.Forward r m) (machine.Forwarded m) (unless-same (forward_refusal terms moves r h) (makes (move.Forward r m) (machine.Forwarded m)) e)
      one m false e =
          let made : machine.Turn O R A = makes (move.Merge r m) (machine.Merged (length (store_of terms.origin moves).commits)) in
          makes-same (move.Merge r m) (machine.Merged (length (store_of terms.origin moves).commits))
          (unless-same (commit_refusal terms moves r h) made
          (unless-same (merge_refusal meaning terms.limits (store_of terms.origin moves).commits (h ∷ m ∷ [])) (unless (commit_refusal terms moves r h) made) e))

      many : (ks : List ℕ)
          → unless (merge_refusal meaning terms.limits (store_of terms.origin moves).commits (h ∷ ks))
          (unless (commit_refusal terms moves r h) (makes (move.Join r ks) (machine.Joined (length (store_of terms.origin moves).commits)))) ≡ answers {O = O} {R = R} {A = A} machine.Same → ⊥
      many ks e =
          let made : machine.Turn O R A = makes (move.Join r ks) (machine.Joined (length (store_of terms.origin moves).commits)) in
          makes-same (move.Join r ks) (machine.Joined (length (store_of terms.origin moves).commits))
          (unless-same (commit_refusal terms moves r h) made
          (unless-same (merge_refusal meaning terms.limits (store_of terms.origin moves).commits (h ∷ ks)) (unless (commit_refusal terms moves r h) made) e))

      by : (ks : List ℕ) → brought (graph_of (store_of terms.origin moves).commits) h ms ≡ ks → merge_turn meaning terms moves r h ks ≡ answers machine.Same
          → brought (graph_of (store_of terms.origin moves).commits) h ms ≡ []
      by [] at e = at
      by (m ∷ []) at e = absurd (one m (reaches (graph_of (store_of terms.origin moves).commits) m h) e)
      by (m ∷ k ∷ ks) at e = absurd (many (m ∷ k ∷ ks) e)

module _ {S O R Q A : Type 0} (fixed : Fixed S O R Q A) (moves : List (Move O R)) where
  pub fork-named : (name from : List ℕ) (number head source : ℕ)
      → full_turn fixed moves (machine.Fork name from) ≡ record { outcome = machine.Forked number head; made = move.Fork name number source ∷ [] }
      → branch_named (store_of fixed.terms.origin moves).branches from ≡ Some source
  fork-named name from number head source is =
      turn-named fixed.meaning fixed.terms moves name from number head source (full-turned fixed moves (machine.Fork name from) (move.Fork name number source) (machine.Forked number head) is)

  pub fork-has : (name from : List ℕ) (number : ℕ) → FullyRefuses fixed moves (machine.Fork name from) (machine.NameTaken number) → IsTaken fixed.terms.origin name from moves
  fork-has name from number is =
      turn-has fixed.meaning fixed.terms moves name from number (full-refused fixed moves (machine.Fork name from) (machine.NameTaken number) (λ address stored fresh e. let never : ⊥ = cc in never) is)
