-- Where a branch stands after a move on it.
use Rattle.std.proofs.Common.{◌≡◌, ℕ, ◌+◌, ◌<◌, Bool, true, false, cond, List, [], ◌∷◌, ◌++◌, length, refl, ap, sym, subst, ◌∙◌, None, Some}
use Rattle.std.specs.Prelude.{Option}
use Rattle.branch_names.specs.declared.terms.Terms.{Terms}
use Rattle.branch_names.specs.Heads.{head_of, is_dropped, with_head}
use Rattle.branch_graph.specs.Graph.{reaches}
use Rattle.branch_history.specs.declared.moves.Move.{Move}
use Rattle.branch_history.specs.declared.moves.Move.TheVariants as move
use Rattle.branch_history.specs.Commits.{graph_of}
use Rattle.branch_history.specs.Merging.{brought}
use Rattle.branch_history.specs.History.{store_of}
use Rattle.branch_history.specs.Steps as machine
use Rattle.branch_history.specs.Machine.{turn, unless, makes, operation_refusal, merge_refusal, forward_refusal, commit_refusal, event_made, merge_turn}
use Rattle.branch_history.proofs.Valid.{store_of-more, commit-tells, forward-tells}
use Rattle.branch_history.proofs.Stores.{head_of-same, is_dropped-with_head}
use Rattle.store_seen.specs.declared.answers.Kind.{Kind}
use Rattle.store_seen.specs.declared.answers.Kind.TheVariants as kind
use Rattle.store_seen.specs.Turns.{step_of, move_of, outcome_of}
use Rattle.store_core.specs.Turns.{Moves}
use Rattle.store_seen.specs.Views.{Work}
use Rattle.store_seen.specs.Views as work
use Rattle.branch_print.specs.Texts.{outcome_text}
use Rattle.branch_engine.proofs.Values.{Values, fixed_of}
use Rattle.branch_engine.specs.Sessions.{Sight}
use Rattle.branch_engine.specs.Play.{History, sight_after}
use Rattle.branch_engine.specs.Engines.{Store, Seen, kind_text}
use Rattle.branch_engine.proofs.Machines.{full-turned}

abbrev pub sight_at : ℕ → ℕ → Sight
sight_at b h = record { branch = b; head = h }

module _ {O R A : Type 0} where
  -- what holds of a move and its outcome, where nothing refuses it, holds of the move that was made
  made_once : (P : machine.Outcome A R → Move O R → Type 0) (a : Option machine.Refusal) (m made : Move O R) (o told : machine.Outcome A R) → (a ≡ None → P o m) → unless a (makes m o) ≡ makes made told → P told made
  made_once P (Some x) m made o told holds is = let bad : [] ≡ made ∷ [] = ap (λ (t : machine.Turn O R A). t.made) is in absurd (let no : ⊥ = cc in no)
  made_once P None m made o told holds is =
      let outcome : o ≡ told = ap (λ (t : machine.Turn O R A). t.outcome) is in
      let moved : m ∷ [] ≡ made ∷ [] = ap (λ (t : machine.Turn O R A). t.made) is in
      let move : m ≡ made = cc in
      subst (λ x. P x made) outcome (subst (P o) move (holds refl))

  made_twice : (P : machine.Outcome A R → Move O R → Type 0) (a b : Option machine.Refusal) (m made : Move O R) (o told : machine.Outcome A R) → (b ≡ None → P o m) → unless a (unless b (makes m o)) ≡ makes made told → P told made
  made_twice P (Some x) b m made o told holds is = let bad : [] ≡ made ∷ [] = ap (λ (t : machine.Turn O R A). t.made) is in absurd (let no : ⊥ = cc in no)
  made_twice P None b m made o told holds is = made_once P b m made o told holds is

  -- a merge moves up, or makes a commit
  made_either : (P : machine.Outcome A R → Move O R → Type 0) (below : Bool) (up a b : Option machine.Refusal) (m f made : Move O R) (o g told : machine.Outcome A R) → (up ≡ None → P g f) → (b ≡ None → P o m)
      → cond below (unless up (makes f g)) (unless a (unless b (makes m o))) ≡ makes made told → P told made
  made_either P true up a b m f made o g told holds_up holds is = made_once P up f made g told holds_up is
  made_either P false up a b m f made o g told holds_up holds is = made_twice P a b m made o told holds is

module _ {S O R Q A : Type 0} (values : Values S O R Q A) (terms : Terms) (moves : History O R) (r : ℕ) (there : r < length (store_of terms.origin moves).branches) where
  -- the branch has this head, and was not dropped
  abbrev StandsAt : ℕ → History O R → Type 0
  StandsAt head history = let branches = (store_of terms.origin history).branches in (head_of branches r ≡ head) × (is_dropped branches r ≡ false)

  -- who made this move with this outcome sees the branch's new head, and the branch was not dropped
  abbrev SeesNew : machine.Outcome A R → Move O R → Type 0
  SeesNew outcome made =
      let branches = (store_of terms.origin (moves ++ made ∷ [])).branches in
      (sight_after r outcome ≡ Some (sight_at r (head_of branches r))) × (is_dropped branches r ≡ false)

  -- a move of the branch to a head
  moved_to : (head : ℕ) (made : Move O R) → (store_of terms.origin (moves ++ made ∷ [])).branches ≡ with_head (store_of terms.origin moves).branches r head → is_dropped (store_of terms.origin moves).branches r ≡ false
      → StandsAt head (moves ++ made ∷ [])
  moved_to head made is here =
      let branches = (store_of terms.origin moves).branches in
      (ap (λ bs. head_of bs r) is ∙ head_of-same branches r head there, ap (λ bs. is_dropped bs r) is ∙ is_dropped-with_head branches r head r ∙ here)

  sees_moved : (head : ℕ) (outcome : machine.Outcome A R) (made : Move O R) → sight_after r outcome ≡ Some (sight_at r head) → StandsAt head (moves ++ made ∷ []) → SeesNew outcome made
  sees_moved head outcome made sees stands = (sees ∙ ap (λ n. Some (sight_at r n)) (sym stands.0), stands.1)

  operation_stands : (op : O) (reply : R) → is_dropped (store_of terms.origin moves).branches r ≡ false → StandsAt (length (store_of terms.origin moves).commits) (moves ++ move.Operation r op reply ∷ [])
  operation_stands op reply here =
      moved_to (length (store_of terms.origin moves).commits) (move.Operation r op reply) (ap (λ s. s.branches) (store_of-more terms.origin moves (move.Operation r op reply))) here

  merge_stands : (m : ℕ) → is_dropped (store_of terms.origin moves).branches r ≡ false → StandsAt (length (store_of terms.origin moves).commits) (moves ++ move.Merge r m ∷ [])
  merge_stands m here = moved_to (length (store_of terms.origin moves).commits) (move.Merge r m) (ap (λ s. s.branches) (store_of-more terms.origin moves (move.Merge r m))) here

  join_stands : (ms : List ℕ) → is_dropped (store_of terms.origin moves).branches r ≡ false → StandsAt (length (store_of terms.origin moves).commits) (moves ++ move.Join r ms ∷ [])
  join_stands ms here = moved_to (length (store_of terms.origin moves).commits) (move.Join r ms) (ap (λ s. s.branches) (store_of-more terms.origin moves (move.Join r ms))) here

  forward_stands : (m : ℕ) → is_dropped (store_of terms.origin moves).branches r ≡ false → StandsAt m (moves ++ move.Forward r m ∷ [])
  forward_stands m here = moved_to m (move.Forward r m) (ap (λ s. s.branches) (store_of-more terms.origin moves (move.Forward r m))) here

  pub land-sees : (h : ℕ) (op : O) (outcome : machine.Outcome A R) (made : Move O R) → turn values.meaning terms moves (machine.Land r h op) ≡ makes made outcome → SeesNew outcome made
  unfolding turn
  land-sees h op outcome made is =
      let commits = (store_of terms.origin moves).commits in
      let e = event_made values.meaning commits (terms.origin + r) h op in
      let o = machine.Landed (length commits) e.time e.reply in
      made_twice SeesNew (operation_refusal values.meaning terms.limits commits (terms.origin + r) h op) (commit_refusal terms moves r h) (move.Operation r op e.reply) made o outcome
      (λ none. sees_moved (length commits) o (move.Operation r op e.reply) refl (operation_stands op e.reply (commit-tells values.meaning terms moves r h none).0)) is

  -- given the commits that it brings
  merged_sees : (h : ℕ) (ms : List ℕ) (outcome : machine.Outcome A R) (made : Move O R) → merge_turn values.meaning terms moves r h ms ≡ makes made outcome → SeesNew outcome made
  merged_sees h [] outcome made is = let bad : [] ≡ made ∷ [] = ap (λ (t : machine.Turn O R A). t.made) is in absurd (let no : ⊥ = cc in no)
  merged_sees h (m ∷ []) outcome made is =
      let commits = (store_of terms.origin moves).commits in
      let o = machine.Merged (length commits) in
      made_either SeesNew (reaches (graph_of commits) m h) (forward_refusal terms moves r h) (merge_refusal values.meaning terms.limits commits (h ∷ m ∷ [])) (commit_refusal terms moves r h)
      (move.Merge r m) (move.Forward r m) made o (machine.Forwarded m) outcome
      (λ none. sees_moved m (machine.Forwarded m) (move.Forward r m) refl (forward_stands m (forward-tells values.meaning terms moves r h none).0))
      (λ none. sees_moved (length commits) o (move.Merge r m) refl (merge_stands m (commit-tells values.meaning terms moves r h none).0)) is
  merged_sees h (m ∷ k ∷ ks) outcome made is =
      let commits = (store_of terms.origin moves).commits in
      let ms = m ∷ k ∷ ks in
      let o = machine.Joined (length commits) in
      made_twice SeesNew (merge_refusal values.meaning terms.limits commits (h ∷ ms)) (commit_refusal terms moves r h) (move.Join r ms) made o outcome
      (λ none. sees_moved (length commits) o (move.Join r ms) refl (join_stands ms (commit-tells values.meaning terms moves r h none).0)) is

  pub merge-sees : (h : ℕ) (ms : List ℕ) (outcome : machine.Outcome A R) (made : Move O R) → turn values.meaning terms moves (machine.Merge r h ms) ≡ makes made outcome → SeesNew outcome made
  unfolding turn
  merge-sees h ms outcome made is = merged_sees h (brought (graph_of (store_of terms.origin moves).commits) h ms) outcome made is

-- who sees a branch's head sees this, and the branch was not dropped
abbrev pub SeesStanding : {O R : Type 0} (A : Type 0) → Seen O R → Kind R → Terms → History O R → Type 0
SeesStanding A seen k terms history =
    let branches = (store_of terms.origin history).branches in
    (sight_after {A = A} seen.branch (outcome_of k) ≡ Some (sight_at seen.branch (head_of branches seen.branch))) × (is_dropped branches seen.branch ≡ false)

lands_step : {S O R Q A : Type 0} (values : Values S O R Q A) (terms : Terms) (history : History O R) (seen : Seen O R) (does : Work O R) (k : Kind R) → seen.branch < length (store_of terms.origin history).branches
    → turn values.meaning terms history (step_of {Q = Q} seen does) ≡ makes (move_of seen.branch does) (outcome_of k)
    → SeesStanding A seen k terms (history ++ move_of seen.branch does ∷ [])
lands_step values terms history seen (work.Operation op reply) k there is = land-sees values terms history seen.branch there seen.head op (outcome_of k) (move.Operation seen.branch op reply) is
lands_step values terms history seen (work.Merge commit) k there is = merge-sees values terms history seen.branch there seen.head (commit ∷ []) (outcome_of k) (move.Merge seen.branch commit) is
lands_step values terms history seen (work.Join commits) k there is = merge-sees values terms history seen.branch there seen.head commits (outcome_of k) (move.Join seen.branch commits) is
lands_step values terms history seen (work.Forward commit) k there is = merge-sees values terms history seen.branch there seen.head (commit ∷ []) (outcome_of k) (move.Forward seen.branch commit) is

-- after what was prepared has landed, its session sees the branch's new head, and the branch was not dropped
pub lands-sees : {S O R Q A D : Type 0} (values : Values S O R Q A) (old new : Store O R D) (seen : Seen O R) (does : Work O R) (k : Kind R) (moves : ℕ) → seen.branch < length (store_of old.terms.origin old.history).branches
    → Moves (fixed_of values old.terms) old new (step_of seen does) (move_of seen.branch does) (outcome_of k) moves
    → SeesStanding A seen k new.terms new.history
lands-sees {S} {O} {R} {Q} {A} {D} values old new seen does k moves there m =
    subst (λ (c : Store O R D). SeesStanding A seen k c.terms c.history) (sym m.history)
    (lands_step values old.terms old.history seen does k there (full-turned (fixed_of values old.terms) old.history (step_of seen does) (move_of seen.branch does) (outcome_of k) m.turn_is))

-- the text of what landed is that of the machine's outcome
pub text-of_kind : {S O R Q A : Type 0} (values : Values S O R Q A) (takes : Bool) (session branch : List ℕ) (k : Kind R)
    → kind_text values.forms.reply takes k ≡ outcome_text values.forms takes session branch (outcome_of k)
text-of_kind values takes session branch (kind.Operation commit time reply) = refl
text-of_kind values takes session branch (kind.Merged commit) = refl
text-of_kind values takes session branch (kind.Joined commit) = refl
text-of_kind values takes session branch (kind.Forward commit) = refl
