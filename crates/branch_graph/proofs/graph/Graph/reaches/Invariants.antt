-- The steps are counted in the ledger of the blank.
use Rattle.branch_graph.proofs.graph.Graph.reaches.Given as goal

abbrev pub ghosts-reaches_uncounted : goal.ghosts-reaches_uncounted
ghosts-reaches_uncounted a = record { name = a.blank.name; parts = a.blank.parts }
