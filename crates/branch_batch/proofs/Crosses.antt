-- A queue may be shared by threads, and what goes with its jobs may go to another thread. It goes by steps, since one search through all of
-- it does not end.
use denote.RattleType.{RattleType}
use denote.Param.Send.{IsSend, IsSync, sendable}
use Rattle.std.proofs.Crossing.{crosses}
use Rattle.std.specs.contracts.sync.Mutex as Mutex
use Rattle.branch_front.proofs.Crosses as front
use Rattle.branch_batch.specs.declared.service.Service as service
use Rattle.branch_batch.specs.contracts.ticket.Claim as Claim
use Rattle.branch_batch.specs.contracts.ticket.Ticket as Ticket
use Rattle.branch_batch.specs.contracts.ticket.Stub as Stub
use Rattle.branch_batch.specs.contracts.ticket.Waiting as Waiting
use Rattle.branch_batch.specs.contracts.ticket.Finished as Finished
use Rattle.branch_batch.specs.contracts.slot.Slot as Slot
use Rattle.branch_batch.specs.contracts.line.Line as Line
use Rattle.branch_batch.specs.contracts.queue.Blank as Blank
use Rattle.branch_batch.specs.contracts.queue.Queue as Queue

module _ (J : RattleType) where
  pub Blank-send : IsSend (Blank.the_row J)
  Blank-send =
      let f = front.Front-send J in
      let w = front.Writer-send J in
      let p = front.Pass-send J in search (sendable, crosses) depth 20

module _ (J R S : RattleType) (s : service.Ghosts S.Denot J.Denot R.Denot) where
  pub Claim-send : IsSend R → IsSend S → IsSend (Claim.the_row J R S s)
  Claim-send r t = let p = front.Pass-send J in search (sendable, crosses) depth 20

  pub Ticket-send : IsSend R → IsSend S → IsSend (Ticket.the_row J R S s)
  Ticket-send r t = let c = Claim-send r t in search sendable depth 20

  pub Stub-send : IsSend R → IsSend S → IsSend (Stub.the_row J R S s)
  Stub-send r t = let c = Claim-send r t in search sendable depth 20

  pub Waiting-send : IsSend J → IsSend R → IsSend S → IsSend (Waiting.the_row J R S s)
  Waiting-send j r t = let c = Claim-send r t in search sendable depth 20

  pub Finished-send : IsSend R → IsSend S → IsSend (Finished.the_row J R S s)
  Finished-send r t = let c = Claim-send r t in search sendable depth 20

  Slot-send : IsSend R → IsSend S → IsSend (Slot.the_row J R S s)
  Slot-send r t = let f = Finished-send r t in search (sendable, crosses) depth 20

  Line-send : IsSend J → IsSend R → IsSend S → IsSend (Line.the_row J R S s)
  Line-send j r t =
      let w = front.Writer-send J in
      let p = front.Pass-send J in
      let a = Waiting-send j r t in
      let l = Slot-send r t in search (sendable, crosses) depth 20

  pub Queue-send : IsSend J → IsSend R → IsSend S → IsSend (Queue.the_row J R S s)
  Queue-send j r t =
      let f = front.Front-send J in
      let k = Line-send j r t in search (sendable, crosses) depth 20

  pub Queue-sync : IsSend J → IsSend R → IsSend S → IsSync (Queue.the_row J R S s)
  Queue-sync j r t =
      let f = front.Front-sync J in
      let k = Line-send j r t in
      let lock : IsSync (Mutex.the_row (Line.the_row J R S s)) = search (sendable, crosses) depth 20 in search sendable depth 20
