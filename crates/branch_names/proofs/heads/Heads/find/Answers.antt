use Rattle.std.proofs.Common.{rules, ◌≡◌, ◌<◌, ◌∙◌, sym, None, Some, Option, ℕ, List, length, subst}
use Rattle.std.specs.Prelude.{slice_index_or}
use Rattle.std.specs.Str.{bytes_eq}
use Rattle.indexmap.specs.IndexMap.{get}
use Rattle.branch_names.specs.declared.branch.Branch.{Branch}
use Rattle.branch_names.specs.Heads.{name_of, is_dropped, branch_named, IsKeptBranch}
use Rattle.branch_names.proofs.Tables.{present, unknown, outside, was_dropped, other_name, name_at, kept_at, equal, not_equal}
use Rattle.branch_names.proofs.heads.Heads.find.Goals.{then-branch-via-then-branch, then-branch-via-else-branch+then-ne}
use Rattle.branch_names.proofs.heads.Heads.find.Goals as goal

pub returns-in_err-number-clause-number : goal.returns-in_err-number-clause-number
returns-in_err-number-clause-number c =
    let number_at : List ℕ → Option ℕ = get bytes_eq c.self.inside.numbers in
    rw (← c.self.view_is) (c.from_residual.ensures ∙ sym (unknown c.self.inside.branches.items number_at c.args.name.now c.self.invariant.index (sym c.in_err-number.ensures.value)))

pub returns-in_err-branch-clause-number : goal.returns-in_err-branch-clause-number
returns-in_err-branch-clause-number c =
    let number_at : List ℕ → Option ℕ = get bytes_eq c.self.inside.numbers in
    rw (← c.self.view_is) (c.from_residual-in_err-branch.ensures ∙ sym (outside c.self.inside.branches.items number_at c.args.name.now c.self.invariant.index c.in_ok-number.field-0.now (sym c.in_ok-number.ensures.value) (search rules)))

pub returns-then-branch-clause-number : goal.returns-then-branch-clause-number
returns-then-branch-clause-number c =
    let branches = c.self.inside.branches.items in
    let number_at : List ℕ → Option ℕ = get bytes_eq c.self.inside.numbers in
    let number : ℕ = c.in_ok-number.field-0.now in
    let b : Branch = c.in_ok-branch.branch.now in
    let there : number < length branches = search rules in
    let read : b ≡ slice_index_or branches number b = subst (λ (xs : List Branch). b ≡ slice_index_or xs number b) c.deref.ensures.value c.in_ok-branch.ensures.lookup.1 in
    let gone : is_dropped branches number ≡ b.dropped = kept_at branches number b there read in
    let named : name_of branches number ≡ b.name = name_at branches number b there read in
    let found : number_at c.args.name.now ≡ Some number = sym c.in_ok-number.ensures.value in
    let none : branch_named branches c.args.name.now ≡ None = elim c.then-branch.branch [
      | then-branch-via-then-branch w ↦ was_dropped branches number_at c.args.name.now c.self.invariant.index number found (gone ∙ w.if-branch.true)
      | then-branch-via-else-branch+then-ne w ↦ other_name branches number_at c.args.name.now c.self.invariant.index number found (λ same. not_equal b.name c.args.name.now w.ne.result w.ne.ensures w.if-ne.true (sym named ∙ same))
    ] in
    rw (← c.self.view_is) (sym none)

pub returns-clause-number : goal.returns-clause-number
returns-clause-number c =
    let branches = c.self.inside.branches.items in
    let number_at : List ℕ → Option ℕ = get bytes_eq c.self.inside.numbers in
    let number : ℕ = c.in_ok-number.field-0.now in
    let b : Branch = c.in_ok-branch.branch.now in
    let there : number < length branches = search rules in
    let read : b ≡ slice_index_or branches number b = subst (λ (xs : List Branch). b ≡ slice_index_or xs number b) c.deref.ensures.value c.in_ok-branch.ensures.lookup.1 in
    let gone : is_dropped branches number ≡ b.dropped = kept_at branches number b there read in
    let named : name_of branches number ≡ b.name = name_at branches number b there read in
    rw (← c.self.view_is) (sym (present branches number_at c.self.invariant.index c.args.name.now number (there, gone ∙ c.if-branch.false) (named ∙ equal b.name c.args.name.now c.ne.result c.ne.ensures c.if-ne.false)))

pub returns-clause-kept : goal.returns-clause-kept
returns-clause-kept c =
    let branches = c.self.inside.branches.items in
    let number : ℕ = c.in_ok-number.field-0.now in
    let b : Branch = c.in_ok-branch.branch.now in
    let there : number < length branches = search rules in
    let read : b ≡ slice_index_or branches number b = subst (λ (xs : List Branch). b ≡ slice_index_or xs number b) c.deref.ensures.value c.in_ok-branch.ensures.lookup.1 in
    let kept : IsKeptBranch branches number = (there, kept_at branches number b there read ∙ c.if-branch.false) in
    rw (← c.self.view_is) kept

pub returns-clause-named : goal.returns-clause-named
returns-clause-named c =
    let branches = c.self.inside.branches.items in
    let number : ℕ = c.in_ok-number.field-0.now in
    let b : Branch = c.in_ok-branch.branch.now in
    let there : number < length branches = search rules in
    let read : b ≡ slice_index_or branches number b = subst (λ (xs : List Branch). b ≡ slice_index_or xs number b) c.deref.ensures.value c.in_ok-branch.ensures.lookup.1 in
    rw (← c.self.view_is) (name_at branches number b there read ∙ equal b.name c.args.name.now c.ne.result c.ne.ensures c.if-ne.false)
