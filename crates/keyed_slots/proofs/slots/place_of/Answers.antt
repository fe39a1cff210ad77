use Rattle.keyed_slots.proofs.Places.{partitioned, placed}
use Rattle.keyed_slots.proofs.slots.place_of.Goals as goal

pub partition_point-requires : goal.partition_point-requires
partition_point-requires g c = partitioned g.S.Keyed.key_of c.args.key.now c.args.slots.now c.requires

pub returns : goal.returns
returns g c = placed g.S.Keyed.key_of c.args.key.now c.args.slots.now c.partition_point.result c.partition_point.ensures.within c.partition_point.ensures.before c.partition_point.ensures.behind
