-- What is said of a pair, and what its preparation gives.
use Rattle.std.specs.Prelude.{◌≡◌, ℕ, false, List, [], ◌∷◌, length, IsTrue, None}
use Rattle.mrdt_model.specs.Laws.{Meaning}
use Rattle.branch_graph.specs.Graph.{reaches, maximal_common}
use Rattle.branch_history.specs.declared.moves.Move.{Move}
use Rattle.branch_history.specs.Commits.{Commit, graph_of, visible_at_all}
use Rattle.branch_history.specs.History.{store_of}
use Rattle.branch_history.specs.Machine.{turn, answers, merge_refusal}
use Rattle.branch_history.specs.Steps as machine
use Rattle.store_seen.specs.declared.answers.PairRefused.{PairRefused}
use Rattle.store_seen.specs.declared.answers.PairRefused.TheVariants as pair_refusal
use Rattle.store_seen.specs.declared.answers.PairPrepareRefused.{PairPrepareRefused}
use Rattle.store_seen.specs.declared.answers.PairPrepareRefused.TheVariants as prepare_refusal
use Rattle.store_seen.specs.declared.pair.PairStep.{PairStep}
use Rattle.store_seen.specs.declared.pair.PairStep.TheVariants as step
use Rattle.store_seen.specs.Turns.{Refuses, FromOn}
use Rattle.store_seen.specs.Views.{CoreView, SeenView, PairView, Work, Operation, Merge, Join, Forward}

-- the look of a pair, at the history on which it was paired
abbrev pub seen_of : {M : Type 0} → PairView M → SeenView M
seen_of pair = record { history = pair.history; terms = pair.terms; branch = pair.branch; head = pair.head }

-- the pair of a look at a core, now or earlier, with a commit
abbrev pub paired_at : {M : Type 0} → CoreView M → SeenView M → ℕ → PairView M
paired_at core seen other = record { history = core.history; terms = core.terms; branch = seen.branch; head = seen.head; other = other }

-- neither commit reaches the other
pub record IsApart {O R : Type 0} (pair : PairView (Move O R)) : Type 0 where
  pub above : reaches (graph_of (store_of pair.terms.origin pair.history).commits) pair.head pair.other ≡ false
  pub below : reaches (graph_of (store_of pair.terms.origin pair.history).commits) pair.other pair.head ≡ false

-- the value stands for what is visible at some maximal common ancestor of two commits
abbrev pub IsBaseAt : {S O R Q A : Type 0} → Meaning S O R Q A → List (Commit O R) → ℕ → ℕ → S → Type 0
IsBaseAt meaning commits left right value = meaning.stands value (visible_at_all commits (maximal_common (graph_of commits) (left ∷ []) (right ∷ [])))

-- a look at a core, now or earlier, with the head that a branch has now
pub record IsPaired {S O R Q A : Type 0} (meaning : Meaning S O R Q A) (core : CoreView (Move O R)) (seen : SeenView (Move O R)) (from : List ℕ) (pair : PairView (Move O R)) : Type 0 where
  pub look : seen_of pair ≡ record { history = core.history; terms = core.terms; branch = seen.branch; head = seen.head }
  pub source : ℕ
  pub other : turn meaning core.terms core.history (machine.Look from) ≡ answers {A = A} (machine.Sees source pair.other)

abbrev pub PairRefusedAs : {S O R Q A : Type 0} → Meaning S O R Q A → CoreView (Move O R) → List ℕ → PairRefused → Type 0
PairRefusedAs meaning core from (pair_refusal.UnknownBranch named) = (named ≡ from) × Refuses meaning core.terms core.history (machine.Look from) (machine.UnknownBranch from)
PairRefusedAs meaning core from pair_refusal.Memory = Unit {0}

-- the machine merges the pair from now on as it says
abbrev pub MergesAs : {S O R Q A : Type 0} → Meaning S O R Q A → PairView (Move O R) → machine.Outcome A R → Type 0
MergesAs meaning pair outcome = FromOn meaning pair.terms pair.history (λ later. turn meaning pair.terms later (machine.Merge pair.branch pair.head (pair.other ∷ [])) ≡ answers outcome)

-- the work that a pair is for: a move up where the seen head lies below the other commit, and else a merge that is not refused
abbrev pub IsWorkOf : {S O R Q A : Type 0} → Meaning S O R Q A → PairView (Move O R) → Work O R → Type 0
IsWorkOf meaning pair (Operation op reply) = ⊥
IsWorkOf meaning pair (Merge commit) =
    (commit ≡ pair.other)
    × (reaches (graph_of (store_of pair.terms.origin pair.history).commits) pair.head pair.other ≡ false)
    × (reaches (graph_of (store_of pair.terms.origin pair.history).commits) pair.other pair.head ≡ false)
    × (merge_refusal meaning pair.terms.limits (store_of pair.terms.origin pair.history).commits (pair.head ∷ pair.other ∷ []) ≡ None)
IsWorkOf meaning pair (Join commits) = ⊥
IsWorkOf meaning pair (Forward commit) =
    (commit ≡ pair.other)
    × (reaches (graph_of (store_of pair.terms.origin pair.history).commits) pair.head pair.other ≡ false)
    × IsTrue (reaches (graph_of (store_of pair.terms.origin pair.history).commits) pair.other pair.head)

-- nothing to merge, or what lands on the seen head
abbrev pub IsStepOf : {S O R Q A : Type 0} → Meaning S O R Q A → PairView (Move O R) → PairStep S O Q A R → Type 0
IsStepOf meaning pair step.Same = MergesAs meaning pair machine.Same
IsStepOf meaning pair (step.Land made) = (made.seen ≡ seen_of pair) × IsWorkOf meaning pair made.work

abbrev pub MergeRefusedAs : {S O R Q A : Type 0} → Meaning S O R Q A → PairView (Move O R) → PairPrepareRefused → Type 0
MergeRefusedAs meaning pair (prepare_refusal.ValueTooLarge length) = MergesAs meaning pair (machine.Refused (machine.ValueTooLarge length))
MergeRefusedAs meaning pair prepare_refusal.Memory = Unit {0}
