-- The branch of a number has the number's name, which no other branch has where it was not dropped.
use Rattle.std.proofs.Common.{◌≡◌, ◌<◌, ◌≤◌, false, List, length, ap, sym, ◌∙◌, arith, Some, subst}
use Rattle.std.specs.Option.{option_map}
use Rattle.std.proofs.lemmas.Option.{slice_get_past}
use Rattle.branch_names.specs.declared.branch.Branch.{Branch}
use Rattle.branch_names.specs.Heads.{Table, branch_named, is_dropped}
use Rattle.branch_history.specs.History.{store_of}
use Rattle.store_seen.proofs.Named.{branch_named-name_of}
use Rattle.store_seen.proofs.versions.Versions.branch.Goals as goal

pub returns-then-number-count-clause-named : goal.returns-then-number-count-clause-named
returns-then-number-count-clause-named g c =
    let branches : List Branch = c.self.inside.heads.branches in
    let lt : c.args.number < length branches = omega arith in
    let named : is_dropped branches c.args.number ≡ false → branch_named branches c.name.result ≡ Some c.args.number =
    λ here. ap (branch_named branches) c.name.ensures ∙ branch_named-name_of branches c.args.number c.count.ensures.distinct (lt, here) in
    rw (← c.self.view_is)
    (subst (λ (bs : List Branch). is_dropped bs c.args.number ≡ false → branch_named bs c.name.result ≡ Some c.args.number) (ap (λ (t : Table). t.branches) c.self.invariant.heads) named)

pub returns-else-number-count-clause-found : goal.returns-else-number-count-clause-found
returns-else-number-count-clause-found g c =
    let same : c.self.inside.heads.branches ≡ (store_of c.self.inside.terms.origin c.self.inside.moves.items).branches = ap (λ (t : Table). t.branches) c.self.invariant.heads in
    let past : length (store_of c.self.inside.terms.origin c.self.inside.moves.items).branches ≤ c.args.number = omega (arith, ap length same) in
    rw (← c.self.view_is) (sym (ap (option_map (λ (b : Branch). (b.name, b.head))) (slice_get_past (store_of c.self.inside.terms.origin c.self.inside.moves.items).branches c.args.number past)))
