-- Worked rows of compact histories, for a counter of natural numbers.
use Rattle.std.proofs.Common.{arith, ◌≡◌, ◌<◌, ◌^◌, ℕ, List, [], ◌∷◌, ◌++◌, length, refl, sum, map, codes, rules, Some}
use Rattle.mrdt_model.specs.declared.time.Time.{Time}
use Rattle.mrdt_model.specs.Times.{same_time}
use Rattle.mrdt_model.specs.Executions.{Event}
use Rattle.mrdt_model.specs.Laws.{Meaning}
use Rattle.branch_names.specs.declared.layout.Layout.TheVariants.{Whole}
use Rattle.branch_names.specs.Ranges.{AreInRange, AreOrigins}
use Rattle.branch_graph.specs.Graph.{reaches}
use Rattle.branch_history.specs.declared.moves.Move.{Move}
use Rattle.branch_history.specs.declared.moves.Move.TheVariants as move
use Rattle.branch_names.specs.declared.terms.Terms.{Terms}
use Rattle.branch_history.specs.Commits.{visible, visible_at_all}
use Rattle.branch_history.specs.Merging.{brought}
use Rattle.branch_history.specs.History.{store_of}
use Rattle.branch_history.specs.Steps.{Step, Look, Fork, Land, Merge, ReceiveOperation, ReceiveMerge, Place, Drop, Ask, Dropped, KeepsMain, Outcome, Sees, Forked, Landed, DroppedAt, Answered, Refused}
use Rattle.branch_history.specs.Machine.{turn, operation_refusal, merge_refusal, move_refusal, room_refusal, forward_refusal, commit_refusal, fork_refusal, drop_refusal, received_operation_refusal, received_merge_refusal}
use Rattle.branch_compact.specs.Compact.{is_live, new_number, kept_moves, compact}

abbrev NoReply : Type 0
NoReply = Unit {0}

abbrev total : List (Event ℕ NoReply) → ℕ
total x = sum (map (λ e. e.operation) x)

abbrev counter : Meaning ℕ ℕ NoReply NoReply ℕ
counter = record {
  is_op = λ _. Unit {0};
  is_reply = λ _. Unit {0};
  reply_of = λ _ _. tt;
  answer_of = λ x _. total x;
  spelling_of = λ x. total x ∷ [];
  stands = λ s x. s ≡ total x;
  is_same = λ s t. s ≡ t;
  state_spelling = λ s. s ∷ [];
  op_spelling = λ o. o ∷ [];
  reply_spelling = λ _. 0 ∷ [];
  is_state_spelling = λ _. Unit {0};
  is_op_spelling = λ _. Unit {0};
  is_reply_spelling = λ _. Unit {0};
}

ample_range : AreInRange 1000 1000 1000 1000 1000
ample_range = search rules

origins_range : AreOrigins 5000 1000
origins_range = search rules

small_kind : 0 < 2 ^ 8
small_kind = omega arith

abbrev terms : Terms
terms = record { limits = record { clock = 1000; commits = 1000; branches = 1000; value = 1000; moves = 1000; in_range = ample_range }; origin = 5000; kind = 0; layout = Whole; small = small_kind; in_range = origins_range }

-- the outcomes of steps, one after the other, and the history after them
abbrev outcomes : List (Move ℕ NoReply) → List (Step ℕ NoReply) → List (Outcome ℕ NoReply)
outcomes moves [] = []
outcomes moves (step ∷ steps) = let t = turn counter terms moves step in t.outcome ∷ outcomes (moves ++ t.made) steps

abbrev after : List (Move ℕ NoReply) → List (Step ℕ NoReply) → List (Move ℕ NoReply)
after moves [] = moves
after moves (step ∷ steps) = after (moves ++ (turn counter terms moves step).made) steps

abbrev at : ℕ → ℕ → Time
at clock origin = record { clock = clock; origin = origin }

-- how many moves, commits and branches
abbrev counts : List (Move ℕ NoReply) → List ℕ
counts moves = let s = store_of terms.origin moves in length moves ∷ length s.commits ∷ length s.branches ∷ []

-- a branch with an operation that `main` does not see, dropped
abbrev dropped : List (Step ℕ NoReply)
dropped = Fork (codes "q") (codes "main") ∷ Look (codes "q") ∷ Land 1 0 1 ∷ Look (codes "main") ∷ Land 0 0 2 ∷ Drop 1 1 ∷ Land 1 1 1 ∷ Drop 0 2 ∷ []

row_dropped : outcomes [] dropped
    ≡ Forked 1 0 ∷ Sees 1 0 ∷ Landed 1 (at 1 5001) tt ∷ Sees 0 0 ∷ Landed 2 (at 1 5000) tt ∷ DroppedAt 1 1 ∷ Refused (Dropped 1) ∷ Refused KeepsMain ∷ []
unfolding turn store_of visible visible_at_all reaches brought operation_refusal merge_refusal move_refusal room_refusal forward_refusal commit_refusal fork_refusal drop_refusal received_operation_refusal received_merge_refusal
row_dropped = refl

row_compact : compact terms (after [] dropped) ≡ move.Fork (codes "q") 1 0 ∷ move.Operation 0 2 tt ∷ move.Drop 1 ∷ []
unfolding compact kept_moves is_live new_number turn store_of visible visible_at_all reaches brought operation_refusal merge_refusal move_refusal room_refusal forward_refusal commit_refusal fork_refusal drop_refusal received_operation_refusal received_merge_refusal
row_compact = refl

row_counts : counts (after [] dropped) ++ counts (compact terms (after [] dropped)) ≡ 4 ∷ 3 ∷ 2 ∷ 3 ∷ 2 ∷ 2 ∷ []
unfolding compact kept_moves is_live new_number turn store_of visible visible_at_all reaches brought operation_refusal merge_refusal move_refusal room_refusal forward_refusal commit_refusal fork_refusal drop_refusal received_operation_refusal received_merge_refusal
row_counts = refl

row_goes_on : outcomes (compact terms (after [] dropped)) (Look (codes "main") ∷ Ask 1 tt ∷ Fork (codes "q") (codes "main") ∷ []) ≡ Sees 0 1 ∷ Answered 2 ∷ Forked 2 1 ∷ []
unfolding compact kept_moves is_live new_number turn store_of visible visible_at_all reaches brought operation_refusal merge_refusal move_refusal room_refusal forward_refusal commit_refusal fork_refusal drop_refusal received_operation_refusal received_merge_refusal
row_goes_on = refl

-- commits of dropped branches that `main` sees stay, and the joined ones are renumbered
abbrev joined : List (Step ℕ NoReply)
joined =
    Fork (codes "p") (codes "main") ∷ Fork (codes "q") (codes "main") ∷ Fork (codes "z") (codes "main") ∷ Land 3 0 1 ∷ Land 1 0 10 ∷ Land 2 0 100 ∷ Merge 0 0 (2 ∷ 3 ∷ [])
    ∷ Merge 3 1 (4 ∷ []) ∷ Merge 1 2 (4 ∷ []) ∷ Drop 1 4 ∷ Drop 2 3 ∷ Drop 3 5 ∷ []

row_joined : compact terms (after [] joined)
    ≡ move.Fork (codes "p") 1 0 ∷ move.Fork (codes "q") 2 0 ∷ move.Fork (codes "z") 3 0 ∷ move.Operation 1 10 tt ∷ move.Operation 2 100 tt ∷ move.Join 0 (1 ∷ 2 ∷ [])
    ∷ move.Forward 1 3 ∷ move.Drop 1 ∷ move.Drop 2 ∷ move.Drop 3 ∷ []
unfolding compact kept_moves is_live new_number turn store_of visible visible_at_all reaches brought operation_refusal merge_refusal move_refusal room_refusal forward_refusal commit_refusal fork_refusal drop_refusal received_operation_refusal received_merge_refusal
row_joined = refl

-- what was received and is seen by none goes, and a branch that was placed at it is forked from `main`; another stays at its commit
abbrev placed : List (Step ℕ NoReply)
placed =
    Land 0 0 1 ∷ ReceiveOperation 7 0 5 ∷ ReceiveOperation 8 1 6 ∷ ReceiveMerge 7 1 (2 ∷ []) ∷ Place (codes "x") 2 ∷ Fork (codes "y") (codes "x") ∷ Place (codes "w") 3 ∷ Land 1 2 9 ∷ Land 2 2 9
    ∷ Drop 1 5 ∷ Drop 2 6 ∷ []

row_placed : compact terms (after [] placed)
    ≡ move.Operation 0 1 tt ∷ move.Received (1 ∷ []) 8 2 (Some (6, tt)) ∷ move.Fork (codes "x") 1 0 ∷ move.Fork (codes "y") 2 1 ∷ move.Place (codes "w") 3 2 ∷ move.Drop 1 ∷ move.Drop 2 ∷ []
unfolding compact kept_moves is_live new_number turn store_of visible visible_at_all reaches brought operation_refusal merge_refusal move_refusal room_refusal forward_refusal commit_refusal fork_refusal drop_refusal received_operation_refusal received_merge_refusal same_time
row_placed = refl
