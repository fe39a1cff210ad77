-- What a sequence means.
use Rattle.std.specs.Prelude.{◌≡◌, ◌<◌, ◌^◌, ℕ, Bool, true, false, not, filter, map, take, drop, if◌then◌else◌, Option, None, Some, List, [], ◌∷◌, ◌++◌, length}
use Rattle.std.specs.List.{AllByRecursion, list_any}
use Rattle.mrdt_model.specs.declared.time.Time.{Time}
use Rattle.mrdt_model.specs.Times.{IsTime, same_time}
use Rattle.mrdt_model.specs.Spelled.{IsBytes}
use Rattle.mrdt_model.specs.Executions.{Event}
use Rattle.mrdt_model.specs.Laws.{Meaning}
use Rattle.branch_wire.specs.Fields.{short_number, time_field, field, counted}
use Rattle.live_set.specs.declared.kept.Kept.{Kept}
use Rattle.live_set.specs.Payloads.{IsShortText}
use Rattle.mrdt_sequence.specs.declared.node.Node.{Node}
use Rattle.mrdt_sequence.specs.declared.op.SequenceOp.{SequenceOp}
use Rattle.mrdt_sequence.specs.declared.op.SequenceOp.TheVariants.{Insert, Delete}
use Rattle.mrdt_sequence.specs.declared.op.SequenceQuery.{SequenceQuery}
use Rattle.mrdt_sequence.specs.declared.op.SequenceQuery.TheVariants.{Read, Length}
use Rattle.mrdt_sequence.specs.declared.op.SequenceAnswer.{SequenceAnswer}
use Rattle.mrdt_sequence.specs.declared.op.SequenceAnswer.TheVariants.{OnItems, OnLength}
use Rattle.mrdt_sequence.specs.Order.{insert_behind, IsOrdered, AreDifferent}

-- the place is a u32, and the payload is one of bytes
abbrev pub IsOp : SequenceOp → Type 0
IsOp (Insert place payload) = (place < 2 ^ 32) × IsBytes payload
IsOp (Delete place) = place < 2 ^ 32

-- the time's numbers lie in their ranges
abbrev pub IsReply : Option Time → Type 0
IsReply None = Unit {0}
IsReply (Some t) = IsTime t

abbrev pub new_node : Time → Option Time → List ℕ → Node
new_node t parent payload = record { time = t; parent = parent; hidden = false; payload = payload }

-- an insert's node, behind the one that its reply names
abbrev pub add_insert : Time → SequenceOp → Option Time → List Node → List Node
add_insert t (Insert place payload) reply ns = insert_behind reply (new_node t reply payload) ns
add_insert t (Delete place) reply ns = ns

-- the nodes of all inserts in their order
abbrev pub order : List (Event SequenceOp (Option Time)) → List Node
order [] = []
order (e ∷ x) = add_insert e.time e.operation e.reply (order x)

-- whether an operation with this reply deletes the node at a time
abbrev pub deletes : SequenceOp → Option Time → Time → Bool
deletes (Insert place payload) reply t = false
deletes (Delete place) None t = false
deletes (Delete place) (Some s) t = same_time t s

abbrev pub is_deleted : List (Event SequenceOp (Option Time)) → Time → Bool
is_deleted x t = list_any (λ e. deletes e.operation e.reply t) x

-- a node that is hidden or not; a hidden one has no payload
abbrev pub marked : Bool → Node → Node
marked hidden n = record { time = n.time; parent = n.parent; hidden = hidden; payload = if hidden then [] else n.payload }

-- all nodes in order, those hidden that a delete's reply names
abbrev pub nodes : List (Event SequenceOp (Option Time)) → List Node
nodes x = map (λ n. marked (is_deleted x n.time) n) (order x)

abbrev pub hidden_if : Bool → Node → Node
hidden_if hides n = if hides then marked true n else n

-- the nodes where the one at this time, if any, is hidden
abbrev pub hide_at : Option Time → List Node → List Node
hide_at None ns = ns
hide_at (Some t) ns = map (λ n. hidden_if (same_time n.time t) n) ns

-- what an operation with this reply makes of the nodes
abbrev pub nodes_behind : Time → SequenceOp → Option Time → List Node → List Node
nodes_behind t (Insert place payload) reply ns = insert_behind reply (new_node t reply payload) ns
nodes_behind t (Delete place) reply ns = hide_at reply ns

abbrev pub item_of : Node → Kept (List ℕ)
item_of n = record { time = n.time; payload = n.payload }

-- the nodes that are not hidden, with their times
abbrev pub items_of : List Node → List (Kept (List ℕ))
items_of ns = map item_of (filter (λ n. not n.hidden) ns)

abbrev pub first_time : List (Kept (List ℕ)) → Option Time
first_time [] = None
first_time (k ∷ ks) = Some k.time

-- the time of the last one, or t where there is none
abbrev pub last_time : Option Time → List (Kept (List ℕ)) → Option Time
last_time t [] = t
last_time t (k ∷ ks) = last_time (Some k.time) ks

-- an insert names the last of as many items as it goes behind, a delete the first behind as many
abbrev pub reply_at : List Node → SequenceOp → Option Time
reply_at ns (Insert place payload) = last_time None (take place (items_of ns))
reply_at ns (Delete place) = first_time (drop place (items_of ns))

abbrev pub sequence_reply : List (Event SequenceOp (Option Time)) → SequenceOp → Option Time
sequence_reply x op = reply_at (nodes x) op

abbrev pub answer_at : List Node → SequenceQuery → SequenceAnswer
answer_at ns Read = OnItems (items_of ns)
answer_at ns Length = OnLength (length (items_of ns))

-- a byte that tells whether there is a time, and the time
abbrev pub named_time : Option Time → List ℕ
named_time None = 0 ∷ []
named_time (Some t) = 1 ∷ time_field t

abbrev pub hidden_field : Bool → List ℕ
hidden_field hidden = (if hidden then 1 else 0) ∷ []

abbrev pub node_spelling : Node → List ℕ
node_spelling n = time_field n.time ++ (named_time n.parent ++ (hidden_field n.hidden ++ field n.payload))

abbrev pub sequence_spelling : List Node → List ℕ
sequence_spelling ns = counted node_spelling ns

-- a byte that tells an insert, with its payload as the rest behind the place, from a delete
abbrev pub op_spelling : SequenceOp → List ℕ
op_spelling (Insert place payload) = 1 ∷ (short_number place ++ payload)
op_spelling (Delete place) = 2 ∷ short_number place

abbrev pub node_times : List Node → List Time
node_times ns = map (λ n. n.time) ns

-- the numbers lie in their ranges, and a hidden node has no payload
pub record NodeFits (n : Node) : Type 0 where
  pub time : IsTime n.time
  pub parent : IsReply n.parent
  pub payload : IsShortText n.payload
  pub bare : n.hidden ≡ true → n.payload ≡ []

-- nodes of the grammar: few enough to be counted, in range, of different times, and in the order of their own tree
pub record AreNodes (ns : List Node) : Type 0 where
  pub few : length ns < 2 ^ 64
  pub each : AllByRecursion NodeFits ns
  pub different : AreDifferent (node_times ns)
  pub ordered : IsOrdered ns

abbrev pub IsSequenceSpelling : List ℕ → Type 0
IsSequenceSpelling bytes = (ns : List Node) × AreNodes ns × (bytes ≡ sequence_spelling ns)

abbrev pub IsOpSpelling : List ℕ → Type 0
IsOpSpelling bytes = (op : SequenceOp) × IsOp op × (bytes ≡ op_spelling op)

abbrev pub IsReplySpelling : List ℕ → Type 0
IsReplySpelling bytes = (reply : Option Time) × IsReply reply × (bytes ≡ named_time reply)

abbrev pub StandsFor : List Node → List (Event SequenceOp (Option Time)) → Type 0
StandsFor ns x = ns ≡ nodes x

abbrev pub sequence_meaning : Meaning (List Node) SequenceOp (Option Time) SequenceQuery SequenceAnswer
sequence_meaning = record {
  is_op = IsOp;
  is_reply = IsReply;
  reply_of = sequence_reply;
  answer_of = λ x query. answer_at (nodes x) query;
  spelling_of = λ x. sequence_spelling (nodes x);
  stands = StandsFor;
  is_same = λ s t. s ≡ t;
  state_spelling = sequence_spelling;
  op_spelling = op_spelling;
  reply_spelling = named_time;
  is_state_spelling = IsSequenceSpelling;
  is_op_spelling = IsOpSpelling;
  is_reply_spelling = IsReplySpelling;
}
