-- The law of what moves append.
use Rattle.std.specs.Prelude.{◌≡◌, ℕ, List, ◌++◌}
use Rattle.mrdt_model.specs.Laws.{Meaning}
use Rattle.branch_names.specs.declared.terms.Terms.{Terms}
use Rattle.branch_history.specs.declared.moves.Move.{Move}
use Rattle.branch_machine.specs.Fixed.{fix}
use Rattle.branch_machine.specs.Objects.{objects_text}
use Rattle.recorded_history.specs.Machine.{regions}

-- moves that are made one behind the other append their regions to the objects
abbrev pub AppendsAllRegions : {S O R Q A : Type 0} → Meaning S O R Q A → Type 0
AppendsAllRegions {S} {O} {R} m =
    (terms : Terms) (address : List ℕ → List ℕ) (history more : List (Move O R))
    → let fixed = fix m terms address in
    objects_text fixed (history ++ more) ≡ objects_text fixed history ++ regions fixed history more
