-- A history in memory may go to another thread, and a look at it may be shared, where the type's values, operations and replies may. It goes by steps, as a store has the history beside a disk.
use denote.RattleType.{RattleType}
use denote.Param.Send.{IsSend, IsSync, sendable}
use Rattle.std.proofs.Crossing.{crosses}
use Rattle.std.specs.contracts.alloc.Global as heap
use Rattle.std.specs.contracts.impls.GlobalAllocator.TheImpl.{ghosts}
use Rattle.std.specs.declared.cmp.PartialEq as eq
use Rattle.std.specs.declared.hash.BuildHasher as builder
use Rattle.std.specs.declared.hash.Hash as hash
use Rattle.std.specs.declared.hash.Hasher as hasher
use Rattle.indexmap.specs.contracts.map.IndexMap as IndexMap
use Rattle.mrdt_model.specs.declared.mrdt.Mrdt as mrdt
use Rattle.mrdt_model.specs.contracts.listing.Listing as Listing
use Rattle.branch_names.proofs.Crosses.{Heads-send}
use Rattle.branch_history.specs.contracts.moves.Move as Move
use Rattle.virtual_base.proofs.Crosses.{Nodes-send, Nodes-sync, Memo-send}
use Rattle.store_seen.specs.contracts.move_list.MoveList as MoveList
use Rattle.store_seen.specs.contracts.shared.SharedNodes as SharedNodes
use Rattle.store_seen.specs.contracts.versions.Versions as Versions

listing_send : (X : RattleType) → IsSend X → IsSend (Listing.the_row X)
listing_send X s = search (sendable, crosses) depth 20

-- an index, as what holds it has it
module _ (K V S H : RattleType) (e : eq.Ghosts K.Denot) (h : hash.Ghosts K.Denot) (b : builder.Ghosts S.Denot H.Denot) (w : hasher.Ghosts H.Denot) where
  index_send : IsSend K → IsSend V → IsSend S → IsSend (IndexMap.the_field K V S heap.the_row H e h b w ghosts).row
  index_send sk sv ss = search (sendable, crosses) depth 30

module _ (T O Q W R : RattleType) (m : mrdt.Ghosts T.Denot O.Denot Q.Denot W.Denot R.Denot) where
  shared_send : IsSend T → IsSync T → IsSend (SharedNodes.the_row T O Q W R m)
  shared_send s y =
      let a = Nodes-send T s y in
      let b = Nodes-sync T s y in
      let c = Memo-send T s y in search (sendable, crosses, index_send) depth 20

  move_send : IsSend O → IsSend R → IsSend (Move.the_row O R)
  move_send so sr = search (sendable, crosses, listing_send) depth 30

  list_send : IsSend O → IsSend R → IsSend (MoveList.the_row O R)
  list_send so sr = let a = move_send so sr in search (sendable, crosses, index_send) depth 20

  pub Versions-send : IsSend T → IsSync T → IsSend O → IsSend R → IsSend (Versions.the_row T O Q W R m)
  Versions-send s y so sr =
      let a = shared_send s y in
      let b = list_send so sr in
      let c = Heads-send in search (sendable, crosses) depth 20
