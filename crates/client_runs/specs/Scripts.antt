-- The scripts of clients.
use Rattle.std.specs.Prelude.{ℕ, zero, suc, List, [], ◌∷◌, ◌++◌}
use Rattle.branch_script.specs.declared.step.Step.{Step}
use Rattle.branch_gen.specs.Clients.{client_steps}

-- the drawn steps of so many clients, in their order, each with so many steps behind its first three, for a number
abbrev pub scripts_of : ℕ → ℕ → ℕ → List (List Step)
scripts_of zero steps number = []
scripts_of (suc count) steps number = scripts_of count steps number ++ client_steps count steps number ∷ []
