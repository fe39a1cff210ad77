-- The scripts so far have their seats.
use Rattle.std.proofs.Common.{take}
use Rattle.std.specs.List.{AllZip}
use Rattle.parallel_clients.specs.Entrants.{IsSeat}
use Rattle.parallel_clients.proofs.clients.take_seats.Given as goal

abbrev pub invariant-loop-script : goal.invariant-loop-script
invariant-loop-script l = AllZip IsSeat (take l.script-index l.scripts) l.seats.items
