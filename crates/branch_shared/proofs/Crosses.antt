-- A store may be shared by threads, and a pass may go to another thread. It goes by steps, since one search through all that a store has does not end.
use denote.RattleType.{RattleType}
use denote.Param.Send.{IsSend, IsSync, sendable}
use Rattle.std.proofs.Crossing.{crosses}
use Rattle.std.specs.contracts.sync.Mutex as Mutex
use Rattle.mrdt_model.specs.declared.mrdt.Mrdt as mrdt
use Rattle.branch_address.specs.declared.address.Address as address
use Rattle.branch_disk.specs.declared.disk.Disk as disk
use Rattle.branch_batch.proofs.Crosses.{Queue-sync}
use Rattle.branch_front.proofs.Crosses as front
use Rattle.store_seen.specs.contracts.answers.Kind as Kind
use Rattle.store_seen.specs.contracts.answers.Landed as Landed
use Rattle.store_seen.specs.contracts.prepared.Prepared as Prepared
use Rattle.recorded_history.specs.contracts.addressed.Addressed as Addressed
use Rattle.store_core.proofs.Crosses.{Core-send}
use Rattle.store_core.specs.contracts.answers.LandRefused as LandRefused
use Rattle.branch_shared.specs.declared.name.Named as name
use Rattle.branch_shared.specs.contracts.name.Entry as Entry
use Rattle.branch_shared.specs.contracts.job.Job as Job
use Rattle.branch_shared.specs.contracts.job.Given as Given
use Rattle.branch_shared.specs.contracts.job.Landing as Landing
use Rattle.branch_shared.specs.contracts.kept.Kept as Kept
use Rattle.branch_shared.specs.contracts.rounds.Rounds as Rounds
use Rattle.branch_shared.specs.contracts.shared.Shared as Shared
use Rattle.branch_shared.specs.contracts.pass.Pass as Pass

refused_send : IsSend LandRefused.the_row
refused_send = search (sendable, crosses) depth 30

landed_send : (R : RattleType) → IsSend R → IsSend (Landed.the_row R)
landed_send R r =
    let k : IsSend (Kind.the_row R) = search (sendable, crosses) depth 20 in search (sendable, crosses) depth 20

module _ (T A O Q W R : RattleType) (m : mrdt.Ghosts T.Denot O.Denot Q.Denot W.Denot R.Denot) (a : address.Ghosts A.Denot) where
  prepared_send : IsSend T → IsSend O → IsSend R → IsSend (Prepared.the_row T O Q W R m)
  prepared_send s so sr = search (sendable, crosses) depth 40

  job_send : IsSend T → IsSend A → IsSend O → IsSend R → IsSend (Job.the_row T A O Q W R m a)
  job_send s sa so sr =
      let p = prepared_send s so sr in
      let d : IsSend (Addressed.the_row T A O Q W R m a) = search (sendable, crosses) depth 20 in
      let f = front.Pass-send (Entry.the_row O R) in search sendable depth 20

module _ (T N O Q W R : RattleType) (m : mrdt.Ghosts T.Denot O.Denot Q.Denot W.Denot R.Denot) (n : name.Ghosts N.Denot O.Denot R.Denot) where
  pub Pass-send : IsSend N → IsSend (Pass.the_row T N O Q W R m n)
  Pass-send sn = let p = front.Pass-send (Entry.the_row O R) in search sendable depth 20

  given_send : IsSend N → IsSend R → IsSend (Given.the_row T N O Q W R m n)
  given_send sn sr =
      let p = Pass-send sn in
      let l = landed_send R sr in
      let e = refused_send in search (sendable, crosses) depth 20

rounds_sync : IsSync Rounds.the_field.row
rounds_sync = search (sendable, crosses) depth 30

landing_send : (T A N : RattleType) → IsSend T → IsSend A → IsSend N → IsSend (Landing.the_row T A N)
landing_send T A N s sa sn = search (sendable, crosses) depth 20

module _ (T D A N O Q W R : RattleType) (m : mrdt.Ghosts T.Denot O.Denot Q.Denot W.Denot R.Denot) (d : disk.Ghosts D.Denot) (a : address.Ghosts A.Denot) (n : name.Ghosts N.Denot O.Denot R.Denot) where
  pub Kept-send : IsSend T → IsSync T → IsSend D → IsSend A → IsSend N → IsSend O → IsSend R → IsSend (Kept.the_row T D A N O Q W R m d a n)
  Kept-send s y sd sa sn so sr =
      let c = Core-send T D A O Q W R m d a s y sd sa so sr in
      let w = front.Writer-send (Entry.the_row O R) in search sendable depth 20

  pub Shared-sync : IsSend T → IsSync T → IsSend D → IsSend A → IsSend N → IsSend O → IsSend R → IsSync (Shared.the_row T D A N O Q W R m d a n)
  Shared-sync s y sd sa sn so sr =
      let f = front.Front-sync (Entry.the_row O R) in
      let k = Kept-send s y sd sa sn so sr in
      let lock : IsSync (Mutex.the_row (Kept.the_row T D A N O Q W R m d a n)) = search (sendable, crosses) depth 20 in
      let j = job_send T A O Q W R m a s sa so sr in
      let g = given_send T N O Q W R m n sn sr in
      let l = landing_send T A N s sa sn in
      let r = rounds_sync in search (sendable, Queue-sync) depth 20
