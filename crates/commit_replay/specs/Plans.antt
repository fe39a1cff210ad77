-- What a record and its commit say is to be done.
use Rattle.std.specs.Prelude.{◌≡◌, ℕ, List, [], ◌∷◌}
use Rattle.std.specs.declared.option.Option.{Option}
use Rattle.std.specs.declared.option.Option.TheVariants.{None, Some}
use Rattle.mrdt_model.specs.Laws.{Meaning}
use Rattle.branch_names.specs.declared.terms.Terms.{Terms}
use Rattle.branch_names.specs.Heads.{head_of}
use Rattle.branch_wire.specs.declared.action.Action.{Action}
use Rattle.branch_wire.specs.declared.action.Action.TheVariants as wire
use Rattle.branch_history.specs.declared.moves.Move.{Move}
use Rattle.branch_history.specs.History.{store_of}
use Rattle.branch_history.specs.Steps as machine
use Rattle.heads_journal.specs.declared.record.Record.{Record}
use Rattle.heads_journal.specs.declared.record.Record.TheVariants as entry
use Rattle.commit_replay.specs.declared.plan.Plan.{Plan}
use Rattle.commit_replay.specs.declared.plan.Plan.TheVariants.{Operation, Merge, Join}

-- the record and the commit's action say this: an operation is the only one that is spelled so
abbrev pub IsPlanOf : {S O R Q A : Type 0} → Meaning S O R Q A → Record → Action → Plan O → Type 0
IsPlanOf {S} {O} meaning (entry.Operation r address end) (wire.Operation text reply) (Operation branch op) =
    (branch ≡ r) × meaning.is_op op × ((other : O) → meaning.is_op other → meaning.op_spelling other ≡ text → op ≡ other)
IsPlanOf meaning (entry.Merge r m address end) wire.Merge (Merge branch commit) = (branch ≡ r) × (commit ≡ m)
IsPlanOf meaning (entry.Join r ms end) wire.Merge (Join branch commits) = (branch ≡ r) × (commits ≡ ms)
IsPlanOf meaning r action plan = ⊥

-- the record is of a commit that was received
abbrev pub IsReceived : Record → Type 0
IsReceived r = (address : List ℕ) × (end : ℕ) × (r ≡ entry.Received address end)

-- the record and the commit's action say this, or, where it is of a commit that was received, nothing
abbrev pub IsPlanned : {S O R Q A : Type 0} → Meaning S O R Q A → Record → Action → Option (Plan O) → Type 0
IsPlanned meaning r action (Some plan) = IsPlanOf meaning r action plan
IsPlanned meaning r action None = IsReceived r

-- the step that does it, by one that sees the head of the branch
abbrev pub step_for : {O R Q : Type 0} → Terms → List (Move O R) → Plan O → machine.Step O Q
step_for terms moves (Operation branch op) = machine.Land branch (head_of (store_of terms.origin moves).branches branch) op
step_for terms moves (Merge branch commit) = machine.Merge branch (head_of (store_of terms.origin moves).branches branch) (commit ∷ [])
step_for terms moves (Join branch commits) = machine.Merge branch (head_of (store_of terms.origin moves).branches branch) commits
