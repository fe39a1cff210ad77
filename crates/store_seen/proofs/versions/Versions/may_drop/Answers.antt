-- Whether it was dropped, then whether it is the first, then the head, then the moves.
use Rattle.std.proofs.Common.{◌≡◌, ◌<◌, ◌≤◌, ℕ, length, ap, sym, subst, ◌∙◌, arith, Some}
use Rattle.branch_names.specs.Heads.{Table, head_of, is_dropped}
use Rattle.branch_history.specs.History.{store_of}
use Rattle.branch_history.specs.Steps as machine
use Rattle.branch_history.proofs.Turns.{drop-dropped, drop-main, drop-stale, drop-moves, moves-full, moves-none}
use Rattle.store_seen.proofs.versions.Versions.may_drop.Goals as goal

pub returns-then-is_dropped-clause-refused : goal.returns-then-is_dropped-clause-refused
returns-then-is_dropped-clause-refused g c =
    let told = ap (λ (t : Table). is_dropped t.branches c.args.branch) c.self.invariant.heads in
    rw (← c.self.view_is) (drop-dropped c.self.inside.terms c.self.inside.moves.items c.args.branch c.args.head (sym told ∙ sym c.is_dropped.ensures ∙ c.if-is_dropped.true))

pub returns-then-branch-eq0-clause-refused : goal.returns-then-branch-eq0-clause-refused
returns-then-branch-eq0-clause-refused g c =
    let told = ap (λ (t : Table). is_dropped t.branches c.args.branch) c.self.invariant.heads in
    rw (← c.self.view_is) (drop-main c.self.inside.terms c.self.inside.moves.items c.args.branch c.args.head (sym told ∙ sym c.is_dropped.ensures ∙ c.if-is_dropped.false) c.if-branch-eq0.true)

pub returns-then-head-newest-clause-refused : goal.returns-then-head-newest-clause-refused
returns-then-head-newest-clause-refused g c =
    let told = ap (λ (t : Table). is_dropped t.branches c.args.branch) c.self.invariant.heads in
    let newest : c.head-newest.result ≡ head_of (store_of c.self.inside.terms.origin c.self.inside.moves.items).branches c.args.branch = c.head-newest.ensures ∙ ap (λ (t : Table). head_of t.branches c.args.branch) c.self.invariant.heads in
    rw (← c.self.view_is)
    (drop-stale c.self.inside.terms c.self.inside.moves.items c.args.branch c.args.head (sym told ∙ sym c.is_dropped.ensures ∙ c.if-is_dropped.false) c.if-branch-eq0.false (λ e. c.if-head-newest.true (sym (newest ∙ e)))
    ∙ ap (λ n. Some (machine.Stale n)) (sym newest))

pub returns-then-count-self-clause-refused : goal.returns-then-count-self-clause-refused
returns-then-count-self-clause-refused g c =
    let told = ap (λ (t : Table). is_dropped t.branches c.args.branch) c.self.invariant.heads in
    let newest : c.head-newest.result ≡ head_of (store_of c.self.inside.terms.origin c.self.inside.moves.items).branches c.args.branch = c.head-newest.ensures ∙ ap (λ (t : Table). head_of t.branches c.args.branch) c.self.invariant.heads in
    let counted : c.len-count.result ≡ length c.self.inside.moves.items = omega arith in
    let full = subst (λ (n : ℕ). c.self.inside.terms.limits.moves ≤ n) counted c.if-count-self.true in
    rw (← c.self.view_is)
    (drop-moves c.self.inside.terms c.self.inside.moves.items c.args.branch c.args.head (sym told ∙ sym c.is_dropped.ensures ∙ c.if-is_dropped.false) c.if-branch-eq0.false (sym newest ∙ sym c.if-head-newest.false)
    ∙ moves-full c.self.inside.terms c.self.inside.moves.items full
    ∙ ap (λ n. Some (machine.FullMoves n)) (sym counted))

pub returns-clause-free : goal.returns-clause-free
returns-clause-free g c =
    let told = ap (λ (t : Table). is_dropped t.branches c.args.branch) c.self.invariant.heads in
    let newest : c.head-newest.result ≡ head_of (store_of c.self.inside.terms.origin c.self.inside.moves.items).branches c.args.branch = c.head-newest.ensures ∙ ap (λ (t : Table). head_of t.branches c.args.branch) c.self.invariant.heads in
    let counted : c.len-count.result ≡ length c.self.inside.moves.items = omega arith in
    let left = subst (λ (n : ℕ). n < c.self.inside.terms.limits.moves) counted c.if-count-self.false in
    rw (← c.self.view_is)
    (drop-moves c.self.inside.terms c.self.inside.moves.items c.args.branch c.args.head (sym told ∙ sym c.is_dropped.ensures ∙ c.if-is_dropped.false) c.if-branch-eq0.false (sym newest ∙ sym c.if-head-newest.false)
    ∙ moves-none c.self.inside.terms c.self.inside.moves.items left)
