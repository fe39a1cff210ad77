-- Whether it was dropped, then the head.
use Rattle.std.proofs.Common.{◌≡◌, ap, sym, ◌∙◌, Some}
use Rattle.branch_names.specs.Heads.{Table, head_of, is_dropped}
use Rattle.branch_history.specs.History.{store_of}
use Rattle.branch_history.specs.Steps as machine
use Rattle.branch_history.proofs.Turns.{forward-dropped, forward-stale, commit-dropped, commit-stale}
use Rattle.store_seen.proofs.versions.Versions.is_newest.Goals as goal

pub returns-then-is_dropped-clause-forward : goal.returns-then-is_dropped-clause-forward
returns-then-is_dropped-clause-forward g c =
    let told = ap (λ (t : Table). is_dropped t.branches c.args.branch) c.self.invariant.heads in
    rw (← c.self.view_is) (forward-dropped c.self.inside.terms c.self.inside.moves.items c.args.branch c.args.head (sym told ∙ sym c.is_dropped.ensures ∙ c.if-is_dropped.true))

pub returns-then-is_dropped-clause-commit : goal.returns-then-is_dropped-clause-commit
returns-then-is_dropped-clause-commit g c =
    let told = ap (λ (t : Table). is_dropped t.branches c.args.branch) c.self.invariant.heads in
    rw (← c.self.view_is) (commit-dropped c.self.inside.terms c.self.inside.moves.items c.args.branch c.args.head (sym told ∙ sym c.is_dropped.ensures ∙ c.if-is_dropped.true))

pub returns-then-newest-head-clause-forward : goal.returns-then-newest-head-clause-forward
returns-then-newest-head-clause-forward g c =
    let told = ap (λ (t : Table). is_dropped t.branches c.args.branch) c.self.invariant.heads in
    let newest : c.head-newest.result ≡ head_of (store_of c.self.inside.terms.origin c.self.inside.moves.items).branches c.args.branch = c.head-newest.ensures ∙ ap (λ (t : Table). head_of t.branches c.args.branch) c.self.invariant.heads in
    rw (← c.self.view_is)
    (forward-stale c.self.inside.terms c.self.inside.moves.items c.args.branch c.args.head (sym told ∙ sym c.is_dropped.ensures ∙ c.if-is_dropped.false) (λ e. c.if-newest-head.true (newest ∙ e))
    ∙ ap (λ n. Some (machine.Stale n)) (sym newest))

pub returns-then-newest-head-clause-commit : goal.returns-then-newest-head-clause-commit
returns-then-newest-head-clause-commit g c =
    let told = ap (λ (t : Table). is_dropped t.branches c.args.branch) c.self.invariant.heads in
    let newest : c.head-newest.result ≡ head_of (store_of c.self.inside.terms.origin c.self.inside.moves.items).branches c.args.branch = c.head-newest.ensures ∙ ap (λ (t : Table). head_of t.branches c.args.branch) c.self.invariant.heads in
    rw (← c.self.view_is)
    (commit-stale c.self.inside.terms c.self.inside.moves.items c.args.branch c.args.head (sym told ∙ sym c.is_dropped.ensures ∙ c.if-is_dropped.false) (λ e. c.if-newest-head.true (newest ∙ e))
    ∙ ap (λ n. Some (machine.Stale n)) (sym newest))
