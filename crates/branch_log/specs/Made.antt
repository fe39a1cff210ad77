-- What is kept of the commits of a history, beside their parents, to tell what they did.
use Rattle.std.specs.Prelude.{◌≡◌, ℕ, ◌+◌, ◌<◌, ◌^◌, max, Option, None, Some, List, [], ◌∷◌, length, map, slice_get, option_map, option_and_then}
use Rattle.std.specs.Option.{option_map_or}
use Rattle.mrdt_model.specs.Executions.{Event}
use Rattle.branch_graph.specs.Graph.{parents_of}
use Rattle.branch_history.specs.declared.moves.Move.{Move}
use Rattle.branch_history.specs.declared.moves.Move.TheVariants as move
use Rattle.branch_history.specs.Commits.{Commit, graph_of}
use Rattle.branch_log.specs.declared.reading.Made.{Made}

-- the operation and the reply of a move, if it has them
abbrev pub act_of : {O R : Type 0} → Move O R → Option (O × R)
act_of (move.Operation branch op reply) = Some (op, reply)
act_of (move.Received parents origin clock act) = act
act_of other = None

-- those of the move at a place, if there is one
abbrev pub act_at : {O R : Type 0} → List (Move O R) → Option ℕ → Option (O × R)
act_at moves place = option_and_then (λ p. option_and_then act_of (slice_get moves p)) place

-- the event of a commit, but for what it has seen
abbrev pub event_told : {O R : Type 0} → List (Move O R) → Made → Option (Event O R)
event_told moves made = option_map (λ act. record {
  time = record { clock = made.clock; origin = made.origin };
  operation = act.0;
  reply = act.1;
  seen = [];
}) (act_at moves made.place)

-- the commit with these parents, but for what its event has seen
abbrev pub commit_told : {O R : Type 0} → List (Move O R) → List ℕ → Made → Commit O R
commit_told moves parents made = record {
  parents = parents;
  origin = made.origin;
  clock = made.clock;
  event = event_told moves made;
}

-- the commit of a number in a graph, if something is kept of it, but for what its event has seen
abbrev pub told_at : {O R : Type 0} → List (Move O R) → List (List ℕ) → List Made → ℕ → Option (Commit O R)
told_at moves graph made number = option_map (commit_told moves (parents_of graph number)) (slice_get made number)

-- an event, but for what it has seen
abbrev pub unseen : {O R : Type 0} → Event O R → Event O R
unseen e = record { time = e.time; operation = e.operation; reply = e.reply; seen = [] }

-- what is kept, in a list of the same length, is of these commits: each has the origin, the clock and the event that
-- are kept of it
pub record AreMade {O R : Type 0} (moves : List (Move O R)) (commits : List (Commit O R)) (made : List Made) : Type 0 where
  pub origins : map (λ m. m.origin) made ≡ map (λ c. c.origin) commits
  pub clocks : map (λ m. m.clock) made ≡ map (λ c. c.clock) commits
  pub events : map (event_told moves) made ≡ map (λ c. option_map unseen c.event) commits

-- so are the parents of each
pub record AreRead {O R : Type 0} (moves : List (Move O R)) (commits : List (Commit O R)) (graph : List (List ℕ)) (made : List Made) : Type 0 where
  pub parents : graph ≡ graph_of commits
  pub kept : AreMade moves commits made

-- the greatest of the clocks that are kept of the commits of a list
abbrev pub greatest_made : List Made → List ℕ → ℕ
greatest_made made [] = 0
greatest_made made (n ∷ ns) = max (option_map_or (λ m. m.clock) (slice_get made n) 0) (greatest_made made ns)

-- What is kept of the commit that a move makes, if it makes one: its number is the count of those before it, and an
-- operation's clock is one more than its parent's.
abbrev pub made_by : {O R : Type 0} → List (List ℕ) → List Made → ℕ → ℕ → Move O R → Option Made
made_by graph made first place (move.Operation r op reply) = Some (record {
  origin = first + r;
  clock = greatest_made made (parents_of graph (length made)) + 1;
  place = Some place;
})
made_by graph made first place (move.Merge r m) = Some (record {
  origin = first + r;
  clock = greatest_made made (parents_of graph (length made));
  place = Some place;
})
made_by graph made first place (move.Join r ms) = Some (record {
  origin = first + r;
  clock = greatest_made made (parents_of graph (length made));
  place = Some place;
})
made_by graph made first place (move.Received parents origin clock act) =
    Some (record { origin = origin; clock = clock; place = Some place })
made_by graph made first place other = None

-- an origin of 32 bits, and a clock of 64
pub record IsInRange (made : Made) : Type 0 where
  pub origin : made.origin < 2 ^ 32
  pub clock : made.clock < 2 ^ 64
