use Rattle.std.proofs.Common.{◌≡◌, ◌∙◌, ℕ, Option, Some, None, IfSome}
use Rattle.clap.specs.Matches.{found_of}
use Rattle.clap.specs.Walk.{rows_of}
use Rattle.branch_names.specs.declared.layout.Layout.{Layout}
use Rattle.branch_names.specs.declared.terms.Terms.{Terms}
use Rattle.branch_command.proofs.Origins.{some, none}
use Rattle.branch_command.proofs.terms.read_terms.Goals as goal

-- the terms' kind is the one that was read
kind_is : (o : Option Terms) (k said : ℕ) → IfSome o (λ terms. terms.kind ≡ k) → k ≡ said → IfSome o (λ terms. terms.kind ≡ said)
kind_is None k said kind is = tt
kind_is (Some terms) k said kind is = kind ∙ is

-- and so is their layout
layout_is : (o : Option Terms) (k said : Layout) → IfSome o (λ terms. terms.layout ≡ k) → k ≡ said → IfSome o (λ terms. terms.layout ≡ said)
layout_is None k said layout is = tt
layout_is (Some terms) k said layout is = layout ∙ is

pub returns-clause-some : goal.returns-clause-some
returns-clause-some c =
    let found = c.in_ok-limits.ensures.some in
    some (rows_of (found_of c.args.given.now)) found.0 c.in_ok-origin.origin c.in_ok-limits.limits c.new.result found.1 found.2 c.in_ok-origin.ensures
    c.new.ensures.in_range.0 c.new.ensures.limits c.new.ensures.origin (kind_is c.new.result _ _ c.new.ensures.kind c.read_kind.ensures) (layout_is c.new.result _ _ c.new.ensures.layout c.read_layout.ensures)

pub returns-clause-none : goal.returns-clause-none
returns-clause-none c =
    let found = c.in_ok-limits.ensures.some in
    none (rows_of (found_of c.args.given.now)) found.0 c.in_ok-origin.origin c.in_ok-limits.limits c.new.result found.1 found.2 c.in_ok-origin.ensures
    c.new.ensures.in_range.1
