-- The node of the commit of which this is kept, and its edges.
use Rattle.std.proofs.Common.{ℕ, ◌++◌, ◌∙◌, List, codes, decimal, length, refl, ap, sym}
use Rattle.std.specs.List.{flat_map}
use Rattle.std.proofs.lemmas.Option.{slice_get_read}
use Rattle.branch_print.specs.Texts.{line_end}
use Rattle.branch_log.specs.Made.{event_told}
use Rattle.branch_log.specs.Graphs.{label_time, edge_text}
use Rattle.branch_log.proofs.Parts.{node-written}
use Rattle.branch_log.proofs.Told.{node-of}
use Rattle.branch_log.proofs.graph.put_commit.Goals as goal

pub returns : goal.returns
returns g c =
    let moves = c.args.moves.now in
    let graph = c.args.commits.now.graph.commits in
    let made = c.args.commits.now.made.items in
    let n = c.args.number in
    let m = c.index.result.now in
    let label = label_time (event_told moves m) in
    let front = codes "  c" ++ decimal n ++ codes " [label=\"#" ++ decimal n ++ label ++ codes "\"];" ++ line_end in
    let node = node-of moves graph made n m (slice_get_read made (length made) n m refl c.requires.made c.index.ensures) in
    node-written c.put_edges.result c.args.out.now.items c.put_pieces.new.out.items c.put_label_time.new.out.items c.put_text.new.out.items c.put_edges.new.out.items
    (codes "  c") c.as_bytes-digits.result.now (codes " [label=\"#") label (codes "\"];") line_end (flat_map (edge_text n) c.parents.result.now) (decimal n) _
    (c.as_bytes-digits.ensures.value ∙ c.format.ensures.text) c.in_ok-put_pieces.ensures.ok c.in_ok-put_label_time.ensures c.in_ok-put_text.ensures.ok c.put_edges.ensures
    (node ∙ ap (λ (parents : List ℕ). front ++ flat_map (edge_text n) parents) (sym c.parents.ensures.parents))
