-- Chunks may go to another thread and be shared with it where their entries may. It goes by steps, as what has chunks beside other things needs it.
use denote.RattleType.{RattleType}
use denote.Param.Send.{IsSend, IsSync, sendable}
use Rattle.std.proofs.Crossing.{crosses}
use Rattle.std.proofs.MapsCrossing.{crosses as maps}
use Rattle.shared_chunks.specs.declared.chunk.Entry as entry
use Rattle.shared_chunks.specs.contracts.chunk.Chunk as Chunk
use Rattle.shared_chunks.specs.contracts.chunks.Chunks as Chunks

module _ (X : RattleType) (e : entry.Ghosts X.Denot) where
  chunk_send : IsSend X → IsSend (Chunk.the_row X e)
  chunk_send s = search (sendable, crosses, maps) depth 20

  chunk_sync : IsSync X → IsSync (Chunk.the_row X e)
  chunk_sync s = search (sendable, crosses, maps) depth 20

  pub Chunks-send : IsSend X → IsSync X → IsSend (Chunks.the_row X e)
  Chunks-send s y = let a = chunk_send s in let b = chunk_sync y in search (sendable, crosses, maps) depth 20

  pub Chunks-sync : IsSend X → IsSync X → IsSync (Chunks.the_row X e)
  Chunks-sync s y = let a = chunk_send s in let b = chunk_sync y in search (sendable, crosses, maps) depth 20
