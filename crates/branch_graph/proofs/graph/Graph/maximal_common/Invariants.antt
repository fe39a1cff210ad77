-- The steps are counted in the ledger of the blank.
use Rattle.branch_graph.proofs.graph.Graph.maximal_common.Given as goal

abbrev pub ghosts-maximal_common_uncounted : goal.ghosts-maximal_common_uncounted
ghosts-maximal_common_uncounted a = record { name = a.blank.name; parts = a.blank.parts }
