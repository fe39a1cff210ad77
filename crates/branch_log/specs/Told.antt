-- The lines of commits, by what is kept of them.
use Rattle.std.specs.Prelude.{ℕ, Bool, List, [], filter, take}
use Rattle.std.specs.List.{flat_map}
use Rattle.std.specs.Option.{option_map_or}
use Rattle.branch_doc.specs.declared.plain.PlainOp.{PlainOp}
use Rattle.branch_doc.specs.declared.plain.PlainReply.{PlainReply}
use Rattle.branch_graph.specs.Graph.{falling}
use Rattle.branch_compact.specs.Marks.{is_marked}
use Rattle.branch_history.specs.declared.moves.Move.{Move}
use Rattle.branch_log.specs.declared.reading.Made.{Made}
use Rattle.branch_log.specs.Logs.{commit_line}
use Rattle.branch_log.specs.Made.{told_at}

-- by the plain forms of operations and replies, for the commits of a graph of which this is kept
module _ {O R : Type 0} (plain_op : O → PlainOp) (plain_reply : R → PlainReply) (moves : List (Move O R)) (graph : List (List ℕ)) (made : List Made) where
  -- the line of the commit of a number
  abbrev pub line_told : ℕ → List ℕ
  line_told number = option_map_or (commit_line plain_op plain_reply number) (told_at moves graph made number) []

  -- the lines of the marked commits below an end, the greatest number first, or so many of the first
  abbrev pub lines_told : List Bool → ℕ → ℕ → List ℕ
  lines_told marks count end = flat_map line_told (take count (filter (is_marked marks) (falling end)))
