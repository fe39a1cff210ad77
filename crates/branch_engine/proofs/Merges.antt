-- A look paired with the head of another branch, over the core on which it was paired.
use Rattle.std.proofs.Common.{◌≡◌, ℕ, List, [], ◌∷◌, refl, ap, sym, subst, ◌∙◌}
use mathlib.Core.List.{IsPrefix}
use Rattle.branch_history.specs.declared.moves.Move.{Move}
use Rattle.branch_history.specs.Steps as machine
use Rattle.branch_history.specs.Machine.{turn, answers}
use Rattle.store_seen.specs.Turns.{step_of}
use Rattle.store_seen.specs.Pairs.{seen_of, IsPaired, MergesAs, IsWorkOf}
use Rattle.store_seen.specs.Views.{PairView, PreparedView, Work}
use Rattle.store_seen.specs.Views as work
use Rattle.branch_machine.specs.Machine.{full_turn}
use Rattle.branch_engine.proofs.Values.{Values, fixed_of}
use Rattle.branch_engine.specs.Engines.{Core, Seen}
use Rattle.branch_engine.proofs.Machines.{full-answers}
use Rattle.branch_engine.proofs.Played.{prefix-self}

abbrev pub Pair : Type 0 → Type 0 → Type 0
Pair O R = PairView (Move O R)

-- on a branch, by one that sees a commit, the merge of another
abbrev pub merge_of : {O Q : Type 0} → ℕ → ℕ → ℕ → machine.Step O Q
merge_of branch head other = machine.Merge branch head (other ∷ [])

work_step : {S O R Q A : Type 0} (values : Values S O R Q A) (pair : Pair O R) (does : Work O R) → IsWorkOf values.meaning pair does → step_of {Q = Q} (seen_of pair) does ≡ merge_of pair.branch pair.head pair.other
work_step values pair (work.Operation op reply) is = absurd is
work_step values pair (work.Merge commit) is = ap (λ n. merge_of pair.branch pair.head n) is.0
work_step values pair (work.Join commits) is = absurd is
work_step values pair (work.Forward commit) is = ap (λ n. merge_of pair.branch pair.head n) is.0

module _ {S O R Q A : Type 0} (values : Values S O R Q A) (core : Core O R) (seen : Seen O R) (from : List ℕ) (pair : Pair O R) (paired : IsPaired values.meaning core seen from pair) where
  pub pair-history : pair.history ≡ core.history
  pair-history = ap (λ (s : Seen O R). s.history) paired.look

  pub pair-terms : pair.terms ≡ core.terms
  pair-terms = ap (λ (s : Seen O R). s.terms) paired.look

  pub pair-branch : pair.branch ≡ seen.branch
  pair-branch = ap (λ (s : Seen O R). s.branch) paired.look

  pub pair-head : pair.head ≡ seen.head
  pair-head = ap (λ (s : Seen O R). s.head) paired.look

  abbrev merged : ℕ → ℕ → machine.Step O Q
  merged branch head = merge_of branch head pair.other

  abbrev same_merge : merged pair.branch pair.head ≡ merged seen.branch seen.head
  same_merge = ap (λ b. merged b pair.head) pair-branch ∙ ap (merged seen.branch) pair-head

  -- the machine's turn that the pair was told, of the merge that a session asks for
  pub pair-turn : (outcome : machine.Outcome A R) → MergesAs values.meaning pair outcome → full_turn (fixed_of values core.terms) core.history (merge_of seen.branch seen.head pair.other) ≡ answers outcome
  pair-turn outcome merges =
      let told = merges core.history (subst (λ h. IsPrefix h core.history) (sym pair-history) (prefix-self core.history)) in
      full-answers (fixed_of values core.terms) core.history (merge_of seen.branch seen.head pair.other) outcome refl
      (subst (λ s. turn values.meaning core.terms core.history s ≡ answers outcome) same_merge (subst (λ l. turn values.meaning l core.history (merge_of pair.branch pair.head pair.other) ≡ answers outcome) pair-terms told))

  -- what was prepared is that merge
  pub pair-work : (made : PreparedView O R) → made.seen ≡ seen_of pair → IsWorkOf values.meaning pair made.work → step_of {Q = Q} made.seen made.work ≡ merge_of seen.branch seen.head pair.other
  pair-work made look is = ap (λ s. step_of s made.work) look ∙ work_step values pair made.work is ∙ same_merge
