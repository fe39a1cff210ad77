use Rattle.std.proofs.Common.{◌≡◌, List, ℕ, ap, sym, ◌∙◌, rules, None, Option}
use Rattle.std.specs.Str.{bytes_eq}
use Rattle.indexmap.specs.IndexMap.{get}
use Rattle.branch_names.specs.declared.branch.Branch.{Branch}
use Rattle.branch_names.specs.Heads.{Table, name_of, branch_named}
use Rattle.branch_names.proofs.Tables.{without_drop-is, without_drop-table, name_at, never, same_at}
use Rattle.branch_names.proofs.heads.Heads.undrop.Goals as goal

pub invariant_of-self : goal.invariant_of-self
invariant_of-self c =
    let branches = c.self.inside.branches.items in
    let b : Branch = c.index.result.now in
    let before : List ℕ → Option ℕ = get bytes_eq c.self.inside.numbers in
    let after : List ℕ → Option ℕ = get bytes_eq c.insert.new.self in
    let free : branch_named branches (name_of branches c.args.number) ≡ None = rw (← c.self.view_is) at c.requires.free in
    let named : name_of branches c.args.number ≡ b.name = name_at branches c.args.number b (search rules) c.index.ensures in
    let known : before b.name ≡ None → ⊥ = λ none. c.self.invariant.index.known c.args.number (search rules) (ap before named ∙ none) in
    let update = never c.insert.result _ _ known c.insert.ensures.updates c.insert.ensures.absent in
    without_drop-table branches c.args.number c.index_mut.result.now (search rules) c.index_mut.ensures.value b.name
    (ap (λ (x : Branch). x.name) (same_at branches c.args.number c.index_mut.result.now b (search rules) c.index_mut.ensures.value c.index.ensures))
    (ap (branch_named branches) (sym named) ∙ free) before after update.0 c.self.invariant

pub returns : goal.returns
returns c =
    let table : List Branch → Table = λ branches. record { limit = c.self.inside.limit; branches = branches } in
    rw (← c.self.view_is) (ap table (without_drop-is c.self.inside.branches.items c.args.number c.index_mut.result.now (search rules) c.index_mut.ensures.value))
