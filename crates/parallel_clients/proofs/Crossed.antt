-- A store that threads share, where all parts of its type may go to another thread.
use denote.RattleType.{RattleType}
use denote.Param.Send.{IsSend, IsSync}
use Rattle.mrdt_model.specs.declared.mrdt.Mrdt as mrdt
use Rattle.branch_address.specs.declared.address.Address as address
use Rattle.branch_disk.specs.declared.disk.Disk as disk
use Rattle.branch_shared.specs.declared.name.Named as name
use Rattle.branch_shared.specs.contracts.shared.Shared as Shared
use Rattle.branch_shared.proofs.Crosses.{Shared-sync}

module _ (T D A N O Q W R : RattleType) (m : mrdt.Ghosts T.Denot O.Denot Q.Denot W.Denot R.Denot) (d : disk.Ghosts D.Denot) (a : address.Ghosts A.Denot) (n : name.Ghosts N.Denot O.Denot R.Denot) where
  -- that queries and answers may go too tells which they are
  pub store-shared : IsSend T → IsSync T → IsSend D → IsSend A → IsSend N → IsSend O → IsSend Q → IsSend W → IsSend R → IsSync (Shared.the_row T D A N O Q W R m d a n)
  store-shared s y sd sa sn so sq sw sr = Shared-sync T D A N O Q W R m d a n s y sd sa sn so sr
