-- What is said of a group, and what its preparation gives.
use Rattle.std.specs.Prelude.{◌≡◌, ℕ, ◌≤◌, Bool, false, ◌&&◌, ◌==◌, not, List, [], ◌∷◌, ◌++◌, length, map, slice_index, take, IsTrue, None}
use Rattle.std.specs.List.{list_any}
use Rattle.mrdt_model.specs.Laws.{Meaning}
use Rattle.branch_graph.specs.Graph.{reaches}
use Rattle.branch_history.specs.declared.moves.Move.{Move}
use Rattle.branch_history.specs.Commits.{graph_of}
use Rattle.branch_history.specs.History.{store_of}
use Rattle.branch_history.specs.Machine.{turn, answers, merge_refusal}
use Rattle.branch_history.specs.Merging.{brought, is_below}
use Rattle.branch_history.specs.Steps as machine
use Rattle.store_seen.specs.declared.answers.PairRefused.{PairRefused}
use Rattle.store_seen.specs.declared.answers.PairRefused.TheVariants as pair_refusal
use Rattle.store_seen.specs.declared.answers.PairPrepareRefused.{PairPrepareRefused}
use Rattle.store_seen.specs.declared.answers.PairPrepareRefused.TheVariants as prepare_refusal
use Rattle.store_seen.specs.declared.pair.PairStep.{PairStep}
use Rattle.store_seen.specs.declared.pair.PairStep.TheVariants as step
use Rattle.store_seen.specs.Turns.{Refuses, FromOn, step_of}
use Rattle.store_seen.specs.Views.{CoreView, SeenView, PairView, GroupView, Work, Operation, Merge, Join, Forward}

-- the look of a group, at the history on which it was grouped
abbrev pub look_of : {M : Type 0} → GroupView M → SeenView M
look_of group = record { history = group.history; terms = group.terms; branch = group.branch; head = group.head }

-- the group of a look at a core, now or earlier, with these commits
abbrev pub grouped_at : {M : Type 0} → CoreView M → SeenView M → List ℕ → GroupView M
grouped_at core seen others = record { history = core.history; terms = core.terms; branch = seen.branch; head = seen.head; others = others }

-- the pair of the look of a group with a commit
abbrev pub pair_in : {M : Type 0} → GroupView M → ℕ → PairView M
pair_in group other = record { history = group.history; terms = group.terms; branch = group.branch; head = group.head; other = other }

-- whether a merge into a commit brings the one at a place of several: it is the first of its number there, the commit does not reach it, and it lies below no other one
abbrev pub brings : List (List ℕ) → ℕ → List ℕ → ℕ → Bool
brings graph head others place =
    let n = slice_index others place in
    not (list_any (λ k. k == n) (take place others)) && (not (reaches graph head n) && not (is_below graph others n))

-- the other commits of pairs
abbrev pub others_of : {M : Type 0} → List (PairView M) → List ℕ
others_of pairs = map (λ p. p.other) pairs

-- these are the heads of the branches that have the names, in order
abbrev pub AreHeads : {S O R Q A : Type 0} → Meaning S O R Q A → CoreView (Move O R) → List (List ℕ) → List ℕ → Type 0
AreHeads meaning core [] [] = Unit {0}
AreHeads meaning core [] (head ∷ heads) = ⊥
AreHeads meaning core (name ∷ names) [] = ⊥
AreHeads {S} {O} {R} {Q} {A} meaning core (name ∷ names) (head ∷ heads) =
    ((source : ℕ) × (turn meaning core.terms core.history (machine.Look name) ≡ answers {A = A} (machine.Sees source head)))
    × AreHeads meaning core names heads

-- a look at a core, now or earlier, with the heads that branches have now
pub record IsGrouped {S O R Q A : Type 0} (meaning : Meaning S O R Q A) (core : CoreView (Move O R)) (seen : SeenView (Move O R)) (from : List (List ℕ)) (group : GroupView (Move O R)) : Type 0 where
  pub look : look_of group ≡ record { history = core.history; terms = core.terms; branch = seen.branch; head = seen.head }
  pub heads : AreHeads meaning core from group.others

-- the first of the names that no branch has
abbrev pub GroupRefusedAs : {S O R Q A : Type 0} → Meaning S O R Q A → CoreView (Move O R) → List (List ℕ) → PairRefused → Type 0
GroupRefusedAs meaning core from (pair_refusal.UnknownBranch named) =
    (before behind : List (List ℕ)) × (heads : List ℕ) × (from ≡ before ++ named ∷ behind) × AreHeads meaning core before heads
    × Refuses meaning core.terms core.history (machine.Look named) (machine.UnknownBranch named)
GroupRefusedAs meaning core from pair_refusal.Memory = Unit {0}

-- the machine merges the group from now on as it says
abbrev pub MergesAllAs : {S O R Q A : Type 0} → Meaning S O R Q A → GroupView (Move O R) → machine.Outcome A R → Type 0
MergesAllAs meaning group outcome =
    FromOn meaning group.terms group.history (λ later. turn meaning group.terms later (machine.Merge group.branch group.head group.others) ≡ answers outcome)

-- from now on the machine's turn for the group is its turn for the work
abbrev pub AsksFor : {S O R Q A : Type 0} → Meaning S O R Q A → GroupView (Move O R) → Work O R → Type 0
AsksFor meaning group work =
    FromOn meaning group.terms group.history (λ later.
    turn meaning group.terms later (machine.Merge group.branch group.head group.others) ≡ turn meaning group.terms later (step_of (look_of group) work))

-- what a merge of the group brings to the head that was seen
abbrev pub brought_by : {O R : Type 0} → GroupView (Move O R) → List ℕ
brought_by group = brought (graph_of (store_of group.terms.origin group.history).commits) group.head group.others

-- The work that a group is for, by what it brings: of one commit, a move up where the seen head lies below it, and else a merge; of several, a join. It is not refused.
abbrev pub IsWorkOfAll : {S O R Q A : Type 0} → Meaning S O R Q A → GroupView (Move O R) → Work O R → Type 0
IsWorkOfAll meaning group (Operation op reply) = ⊥
IsWorkOfAll meaning group (Merge commit) =
    (brought_by group ≡ commit ∷ [])
    × (reaches (graph_of (store_of group.terms.origin group.history).commits) commit group.head ≡ false)
    × (merge_refusal meaning group.terms.limits (store_of group.terms.origin group.history).commits (group.head ∷ commit ∷ []) ≡ None)
IsWorkOfAll meaning group (Join commits) =
    (brought_by group ≡ commits) × (2 ≤ length commits)
    × (merge_refusal meaning group.terms.limits (store_of group.terms.origin group.history).commits (group.head ∷ commits) ≡ None)
IsWorkOfAll meaning group (Forward commit) =
    (brought_by group ≡ commit ∷ [])
    × IsTrue (reaches (graph_of (store_of group.terms.origin group.history).commits) commit group.head)

-- nothing to merge, or what lands on the seen head as the machine merges the group
abbrev pub IsStepOfAll : {S O R Q A : Type 0} → Meaning S O R Q A → GroupView (Move O R) → PairStep S O Q A R → Type 0
IsStepOfAll meaning group step.Same = MergesAllAs meaning group machine.Same
IsStepOfAll meaning group (step.Land made) = (made.seen ≡ look_of group) × IsWorkOfAll meaning group made.work × AsksFor meaning group made.work

abbrev pub MergeAllRefusedAs : {S O R Q A : Type 0} → Meaning S O R Q A → GroupView (Move O R) → PairPrepareRefused → Type 0
MergeAllRefusedAs meaning group (prepare_refusal.ValueTooLarge length) = MergesAllAs meaning group (machine.Refused (machine.ValueTooLarge length))
MergeAllRefusedAs meaning group prepare_refusal.Memory = Unit {0}
