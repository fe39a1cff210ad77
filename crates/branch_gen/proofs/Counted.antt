-- One line more, and one step more.
use Rattle.std.proofs.Common.{suc, ◌≡◌, ℕ, ◌+◌, ◌-◌, ◌<◌, List, [], ◌∷◌, ◌++◌, ap, sym, ◌∙◌, arith, append_assoc}
use Rattle.branch_script.specs.declared.step.Step.{Step}
use Rattle.branch_gen.specs.Scripts.{line, lines}
use Rattle.branch_gen.specs.Clients.{step, drawn_steps}

pub line-more : (out all : List ℕ) (steps i x : ℕ) → i < steps → out ++ lines (steps - i) x ≡ all → (out ++ (line x).made) ++ lines (steps - (i + 1)) (line x).state ≡ all
line-more out all steps i x lt is =
    let next : steps - i ≡ suc (steps - (i + 1)) = omega arith in
    append_assoc out (line x).made (lines (steps - (i + 1)) (line x).state) ∙ sym (ap (λ n. out ++ lines n x) next) ∙ is

pub step-more : (branch : List ℕ) (out all : List Step) (steps i x : ℕ) → i < steps → out ++ drawn_steps branch (steps - i) x ≡ all
    → (out ++ (step branch x).made ∷ []) ++ drawn_steps branch (steps - (i + 1)) (step branch x).state ≡ all
step-more branch out all steps i x lt is =
    let next : steps - i ≡ suc (steps - (i + 1)) = omega arith in
    append_assoc out ((step branch x).made ∷ []) (drawn_steps branch (steps - (i + 1)) (step branch x).state) ∙ sym (ap (λ n. out ++ drawn_steps branch n x) next) ∙ is
