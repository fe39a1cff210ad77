-- Worked rows of what is sent, over commits 1 and 2 on 0, 3 on both, and 4 on 3.
use Rattle.std.proofs.Common.{◌≡◌, ◌<◌, ◌^◌, ℕ, List, [], ◌∷◌, ◌++◌, Some, None, refl, sum, map, codes, arith, rules}
use Rattle.mrdt_model.specs.Executions.{Event}
use Rattle.mrdt_model.specs.Laws.{Meaning}
use Rattle.branch_names.specs.declared.layout.Layout.TheVariants.{Whole}
use Rattle.branch_names.specs.Ranges.{AreInRange, AreOrigins}
use Rattle.branch_history.specs.declared.moves.Move.{Move}
use Rattle.branch_history.specs.declared.moves.Move.TheVariants as move
use Rattle.branch_history.specs.Commits.{visible, visible_at_all}
use Rattle.branch_history.specs.History.{store_of}
use Rattle.branch_history.specs.Machine.{turn, operation_refusal, merge_refusal, move_refusal, room_refusal, received_operation_refusal, received_merge_refusal}
use Rattle.branch_wire.specs.Fields.{number, short_number}
use Rattle.mrdt_model.specs.Times.{same_time}
use Rattle.branch_history.specs.Steps.{Step, ReceiveOperation, ReceiveMerge}
use Rattle.branch_machine.specs.Fixed.{Fixed, fix}
use Rattle.branch_machine.specs.Objects.{Pair, pairs_of, store_after, objects_of, new_objects}
use Rattle.branch_machine.specs.Machine.{full_turn, collision_refusal, commit_at}
use Rattle.branch_graph.specs.Graph.{reaches}
use Rattle.branch_bundle_laws.specs.Bundles.{item_at, sent, bundle_of}

abbrev graph : List (List ℕ)
graph = [] ∷ (0 ∷ []) ∷ (0 ∷ []) ∷ (1 ∷ 2 ∷ []) ∷ (3 ∷ []) ∷ []

row_all : sent graph 4 [] ≡ 1 ∷ 2 ∷ 3 ∷ 4 ∷ []
unfolding reaches
row_all = refl

row_one_side : sent graph 4 (1 ∷ []) ≡ 2 ∷ 3 ∷ 4 ∷ []
unfolding reaches
row_one_side = refl

row_last : sent graph 4 (3 ∷ []) ≡ 4 ∷ []
unfolding reaches
row_last = refl

row_lower : sent graph 2 (1 ∷ []) ≡ 2 ∷ []
unfolding reaches
row_lower = refl

row_nothing : sent graph 3 (4 ∷ []) ≡ []
unfolding reaches
row_nothing = refl

row_root : sent graph 0 [] ≡ []
unfolding reaches
row_root = refl

-- a counter of natural numbers, whose answer is the sum, and whose value, operations and replies are spelled by one number each
abbrev NoReply : Type 0
NoReply = Unit {0}

abbrev total : List (Event ℕ NoReply) → ℕ
total x = sum (map (λ e. e.operation) x)

abbrev counter : Meaning ℕ ℕ NoReply NoReply ℕ
counter = record {
  is_op = λ _. Unit {0};
  is_reply = λ _. Unit {0};
  reply_of = λ _ _. tt;
  answer_of = λ x _. total x;
  spelling_of = λ x. total x ∷ [];
  stands = λ s x. s ≡ total x;
  is_same = λ s t. s ≡ t;
  state_spelling = λ s. s ∷ [];
  op_spelling = λ o. o ∷ [];
  reply_spelling = λ _. 0 ∷ [];
  is_state_spelling = λ _. Unit {0};
  is_op_spelling = λ _. Unit {0};
  is_reply_spelling = λ _. Unit {0};
}

ample_range : AreInRange 1000 1000 1000 1000 1000
ample_range = search rules

from_zero : AreOrigins 0 1000
from_zero = omega arith

from_later : AreOrigins 100000 1000
from_later = omega arith

small_kind : 0 < 2 ^ 8
small_kind = omega arith

-- a store whose first origin is this, where each object is its own address
abbrev store : (origin : ℕ) → AreOrigins origin 1000 → Fixed ℕ ℕ NoReply NoReply ℕ
store origin in_range = fix counter (record { limits = record { clock = 1000; commits = 1000; branches = 1000; value = 1000; moves = 1000; in_range = ample_range }; origin = origin; kind = 0; layout = Whole; small = small_kind; in_range = in_range }) (λ bytes. bytes)

-- the one that sends, and the one that receives
abbrev here : Fixed ℕ ℕ NoReply NoReply ℕ
here = store 0 from_zero

abbrev there : Fixed ℕ ℕ NoReply NoReply ℕ
there = store 100000 from_later

-- an operation on each of two branches, and a merge
abbrev first : List (Move ℕ NoReply)
first = move.Fork (codes "q") 1 0 ∷ move.Operation 0 1 tt ∷ move.Operation 1 2 tt ∷ move.Merge 0 2 ∷ []

-- an operation
abbrev second : List (Move ℕ NoReply)
second = move.Operation 0 7 tt ∷ []

-- what the second receives of the first: first of its commit 2, and then of its commit 3
abbrev received : List (Move ℕ NoReply)
received = move.Received (0 ∷ []) 1 1 (Some (2, tt)) ∷ move.Received (0 ∷ []) 0 1 (Some (1, tt)) ∷ move.Received (3 ∷ 2 ∷ []) 0 1 None ∷ []

abbrev item : ℕ → Pair
item n = item_at (pairs_of here (store_after here first).commits) n

row_items : (bundle_of here first 3 []).items ≡ item 1 ∷ item 2 ∷ item 3 ∷ []
unfolding store_of pairs_of reaches
row_items = refl

-- the items stand behind the objects of the second store, though their commits have other numbers there, and events another order
row_objects : pairs_of there (store_after there (second ++ received)).commits ≡ pairs_of there (store_after there second).commits ++ item 2 ∷ item 1 ∷ item 3 ∷ []
unfolding store_of pairs_of visible visible_at_all reaches
row_objects = refl

abbrev operations : List (Move ℕ NoReply) → ℕ → List ℕ
operations moves n = map (λ e. e.operation) (visible (store_of 0 moves).commits n)

row_order_one : operations first 3 ≡ 2 ∷ 1 ∷ []
unfolding store_of visible visible_at_all reaches
row_order_one = refl

row_order_other : operations (second ++ received) 4 ≡ 1 ∷ 2 ∷ []
unfolding store_of visible visible_at_all reaches
row_order_other = refl

-- the moves of steps, one after the other
abbrev moves_of : List (Move ℕ NoReply) → List (Step ℕ NoReply) → List (Move ℕ NoReply)
moves_of moves [] = []
moves_of moves (step ∷ rest) = let t = full_turn there moves step in t.made ++ moves_of (moves ++ t.made) rest

row_moves : moves_of second (ReceiveOperation 1 0 2 ∷ ReceiveOperation 0 0 1 ∷ ReceiveOperation 1 0 2 ∷ ReceiveMerge 0 3 (2 ∷ []) ∷ []) ≡ received
unfolding full_turn turn collision_refusal new_objects objects_of commit_at store_of pairs_of visible visible_at_all reaches operation_refusal merge_refusal move_refusal room_refusal received_operation_refusal received_merge_refusal same_time number short_number
row_moves = refl
