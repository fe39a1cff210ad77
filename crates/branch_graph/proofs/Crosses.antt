-- A graph may go to another thread and be shared with it.
use denote.Param.Send.{IsSend, IsSync, sendable}
use Rattle.std.proofs.Crossing.{crosses}
use Rattle.shared_chunks.proofs.Crosses.{Chunks-send, Chunks-sync}
use Rattle.branch_graph.specs.contracts.parents.Parents as Parents
use Rattle.branch_graph.specs.contracts.graph.Graph as Graph

parents_send : IsSend Parents.the_row
parents_send = search (sendable, crosses) depth 20

parents_sync : IsSync Parents.the_row
parents_sync = search (sendable, crosses) depth 20

pub Graph-send : IsSend Graph.the_row
Graph-send = let a = parents_send in let b = parents_sync in search (sendable, Chunks-send) depth 20

pub Graph-sync : IsSync Graph.the_row
Graph-sync = let a = parents_send in let b = parents_sync in search (sendable, Chunks-sync) depth 20
