-- Among branches of distinct names, the name of each that was not dropped finds it.
use Rattle.std.proofs.Common.{◌≡◌, ℕ, List, refl, ap, ◌∙◌, Option, Some, None}
use Rattle.branch_names.specs.declared.branch.Branch.{Branch}
use Rattle.branch_names.specs.Heads.{name_of, branch_named, AreDistinct, IsKeptBranch}
use Rattle.branch_names.proofs.Branches.{branch_named-none, branch_named-kept, branch_named-is}

found_is : (branches : List Branch) (r : ℕ) → AreDistinct branches → IsKeptBranch branches r → (o : Option ℕ) → branch_named branches (name_of branches r) ≡ o → branch_named branches (name_of branches r) ≡ Some r
found_is branches r distinct kept None is = absurd (branch_named-none branches (name_of branches r) r is kept refl)
found_is branches r distinct kept (Some q) is =
    is ∙ ap Some (distinct q r (branch_named-kept branches (name_of branches r) q is) kept (branch_named-is branches (name_of branches r) q is))

pub branch_named-name_of : (branches : List Branch) (r : ℕ) → AreDistinct branches → IsKeptBranch branches r → branch_named branches (name_of branches r) ≡ Some r
branch_named-name_of branches r distinct kept = found_is branches r distinct kept (branch_named branches (name_of branches r)) refl
