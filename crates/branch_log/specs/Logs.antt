-- The text of what the commits of a history did.
use Rattle.std.specs.Prelude.{ℕ, Option, None, Some, List, [], ◌∷◌, ◌++◌, codes, decimal, length, filter, take, slice_get}
use Rattle.std.specs.List.{flat_map}
use Rattle.std.specs.Option.{option_map_or}
use Rattle.mrdt_model.specs.Executions.{Event}
use Rattle.branch_doc.specs.declared.plain.PlainOp.{PlainOp}
use Rattle.branch_doc.specs.declared.plain.PlainReply.{PlainReply}
use Rattle.branch_graph.specs.Graph.{reaches, falling}
use Rattle.branch_history.specs.Commits.{Commit, graph_of}
use Rattle.branch_print.specs.Texts.{time_text, reply_text, takes_item, line_end}
use Rattle.branch_words.specs.Words.{op_words}

-- the commits of a merge, in order
abbrev pub parents_text : List ℕ → List ℕ
parents_text parents = flat_map (λ parent. codes " #" ++ decimal parent) parents

-- a commit without an operation: the root, which has no parents, or a merge of its parents
abbrev pub merge_text : List ℕ → List ℕ
merge_text [] = codes "root"
merge_text (first ∷ more) = codes "merge" ++ parents_text (first ∷ more)

-- all numbers, or so many of the first
abbrev pub first_of : Option ℕ → List ℕ → List ℕ
first_of None numbers = numbers
first_of (Some count) numbers = take count numbers

-- by the plain forms of operations and replies
module _ {O R : Type 0} (plain_op : O → PlainOp) (plain_reply : R → PlainReply) where
  -- an operation: its time, the words of the line that does it, and what its reply adds to the text of that
  abbrev pub event_text : Event O R → List ℕ
  event_text e = time_text e.time ++ codes " " ++ op_words (plain_op e.operation)
      ++ reply_text (takes_item (plain_op e.operation)) (plain_reply e.reply)

  -- what a commit did
  abbrev pub act_text : Option (Event O R) → List ℕ → List ℕ
  act_text None parents = merge_text parents
  act_text (Some e) parents = event_text e

  -- the line of a commit
  abbrev pub commit_line : ℕ → Commit O R → List ℕ
  commit_line number c = codes "#" ++ decimal number ++ codes " " ++ act_text c.event c.parents ++ line_end

  -- the line of the commit of a number
  abbrev pub line_at : List (Commit O R) → ℕ → List ℕ
  line_at commits number = option_map_or (commit_line number) (slice_get commits number) []

  -- the commits that this one reaches, the greatest number first, a line each; or so many of the first lines
  unfoldable pub log_text : List (Commit O R) → ℕ → Option ℕ → List ℕ
  log_text commits at count =
      flat_map (line_at commits) (first_of count (filter (reaches (graph_of commits) at) (falling (length commits))))
