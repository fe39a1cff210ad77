use Rattle.std.proofs.Common.{rules, ◌≡◌, ◌<◌, ◌∙◌, ap, None, Some, Option, ℕ, length, subst, sym, List, cond}
use Rattle.std.specs.Str.{bytes_eq}
use Rattle.std.specs.Map.{lookup}
use Rattle.indexmap.specs.IndexMap.{get}
use Rattle.branch_names.specs.declared.branch.Branch.{Branch}
use Rattle.branch_names.specs.Heads.{branch_named, IsTable, with_branch}
use Rattle.branch_names.proofs.Tables.{updated-table, forked-table}
use Rattle.branch_names.proofs.heads.Heads.fork.Goals as goal

pub invariant_of-self : goal.invariant_of-self
invariant_of-self c =
    let branches = c.self.inside.branches.items in
    subst (λ (es : List (List ℕ × ℕ)). IsTable c.self.inside.limit branches (λ name. lookup (bytes_eq name) es)) (sym c.in_err-insert.ensures.err) c.self.invariant

pub invariant_of-self-in_err-push : goal.invariant_of-self-in_err-push
invariant_of-self-in_err-push c =
    let branches = c.self.inside.branches.items in
    let free : branch_named branches c.args.name ≡ None = rw (← c.self.view_is) at (sym c.find.ensures.number ∙ c.in_default.is) in
    let same : c.push.new.self.items ≡ branches = search rules in
    subst (λ (bs : List Branch). IsTable c.self.inside.limit bs (get bytes_eq c.insert.new.self)) (sym same)
    (updated-table branches c.args.name c.count-count.result (get bytes_eq c.self.inside.numbers) (get bytes_eq c.insert.new.self) c.in_ok-insert.ensures.updates.0 free c.self.invariant)

pub invariant_of-self-2 : goal.invariant_of-self-2
invariant_of-self-2 c =
    let branches = c.self.inside.branches.items in
    let free : branch_named branches c.args.name ≡ None = rw (← c.self.view_is) at (sym c.find.ensures.number ∙ c.in_default.is) in
    let same : c.push.new.self.items ≡ with_branch branches c.args.name c.args.head = search rules in
    let counted : c.count-count.result ≡ length branches = rw (← c.self.view_is) at c.count-count.ensures.count in
    let before : List ℕ → Option ℕ = get bytes_eq c.self.inside.numbers in
    let after : List ℕ → Option ℕ = get bytes_eq c.insert.new.self in
    let update : (q : List ℕ) → after q ≡ cond (bytes_eq c.args.name q) (Some (length branches)) (before q) =
    λ q. c.in_ok-insert.ensures.updates.0 q ∙ ap (λ n. cond (bytes_eq c.args.name q) (Some n) (before q)) counted in
    let room : length branches < c.self.inside.limit = search rules in
    subst (λ (bs : List Branch). IsTable c.self.inside.limit bs after) (sym same)
    (forked-table branches c.args.name c.args.head before after update free room (search rules) c.self.invariant)
