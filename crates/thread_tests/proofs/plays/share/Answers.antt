-- Where each move is allowed each step is.
use Rattle.std.proofs.Common.{List, [], ◌∷◌}
use Rattle.std.specs.List.{AllByRecursion}
use Rattle.parallel_clients.specs.Allowed.{AllowsStep}
use Rattle.thread_tests.proofs.plays.share.Goals as goal

each : {X : Type 0} (P : X → Type 0) → ((x : X) → P x) → (xs : List X) → AllByRecursion P xs
each P holds [] = tt
each P holds (x ∷ xs) = (holds x, each P holds xs)

pub run_clients-requires-clause-allowed : goal.run_clients-requires-clause-allowed
run_clients-requires-clause-allowed g c κs within =
    each (AllByRecursion (AllowsStep g.T.Forms.forms g.N.Named.allows)) (each (AllowsStep g.T.Forms.forms g.N.Named.allows) (λ step made may. c.requires.allowed made)) c.args.scripts.now
