use Rattle.branch_disk.proofs.Bridge.{sure_exactly}
use Rattle.branch_disk.proofs.laws.a_sync_makes_its_part_sure.Goals as goal

pub returns : goal.returns
returns c = sure_exactly
