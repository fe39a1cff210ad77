-- As many scripts as clients have been gone over.
use Rattle.std.proofs.Common.{◌≡◌}
use Rattle.client_runs.specs.Scripts.{scripts_of}
use Rattle.client_runs.proofs.scripts.scripts.Given as goal

abbrev pub invariant-loop-client : goal.invariant-loop-client
invariant-loop-client l = l.scripts.items ≡ scripts_of l.client l.fn.steps l.fn.number
