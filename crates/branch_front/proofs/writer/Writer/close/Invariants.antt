use Rattle.std.proofs.Common.{[]}
use Rattle.branch_front.proofs.writer.Writer.close.Given as goal

-- nothing is added, and the writer's faults stay
abbrev pub ghosts-take_in : goal.ghosts-take_in
ghosts-take_in g a = record { entry = []; faults = a.seat.now.me.0.faults }
