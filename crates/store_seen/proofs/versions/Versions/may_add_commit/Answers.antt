-- The head, then the commits, then the moves.
use Rattle.std.proofs.Common.{◌≤◌, ◌<◌, length, subst, ◌∙◌}
use Rattle.std.proofs.lemmas.Result.{err_from_is_err_and}
use Rattle.branch_history.specs.History.{store_of}
use Rattle.branch_history.proofs.Turns.{commit-room, room-full_commits, room-moves, room-none, moves-full}
use Rattle.store_seen.proofs.versions.Versions.may_add_commit.Goals as goal

pub returns-then-count-self-clause-refused : goal.returns-then-count-self-clause-refused
returns-then-count-self-clause-refused g c =
    let core = c.args.self.now.core in
    let held = subst (λ n. c.self.inside.terms.limits.commits ≤ n) c.commits-count.ensures.count c.if-count-self.true in
    let full = subst (λ v. v.core.terms.limits.commits ≤ length (store_of c.args.self.now.core.terms.origin c.args.self.now.core.history).commits) c.self.view_is held in
    rw (c.commits-count.ensures.count)
    (commit-room core.terms core.history c.args.branch c.args.head c.in_ok-is_newest.ensures.there c.in_ok-is_newest.ensures.newest ∙ room-full_commits core.terms core.history full)

pub returns-in_err-has_moves_left-clause-refused : goal.returns-in_err-has_moves_left-clause-refused
returns-in_err-has_moves_left-clause-refused g c =
    let core = c.args.self.now.core in
    let p = err_from_is_err_and c.from_residual-in_err-has_moves_left.result c.from_residual-in_err-has_moves_left.ensures.1 in
    let left = subst (λ n. n < c.self.inside.terms.limits.commits) c.commits-count.ensures.count c.if-count-self.false in
    let room = subst (λ v. length (store_of c.args.self.now.core.terms.origin c.args.self.now.core.history).commits < v.core.terms.limits.commits) c.self.view_is left in
    rw (p.1, p.2, c.in_err-has_moves_left.ensures.refused)
    (commit-room core.terms core.history c.args.branch c.args.head c.in_ok-is_newest.ensures.there c.in_ok-is_newest.ensures.newest
    ∙ room-moves core.terms core.history room
    ∙ moves-full core.terms core.history c.in_err-has_moves_left.ensures.full)

pub returns-clause-free : goal.returns-clause-free
returns-clause-free g c =
    let core = c.args.self.now.core in
    let left = subst (λ n. n < c.self.inside.terms.limits.commits) c.commits-count.ensures.count c.if-count-self.false in
    let room = subst (λ v. length (store_of c.args.self.now.core.terms.origin c.args.self.now.core.history).commits < v.core.terms.limits.commits) c.self.view_is left in
    commit-room core.terms core.history c.args.branch c.args.head c.in_ok-is_newest.ensures.there c.in_ok-is_newest.ensures.newest ∙ room-none core.terms core.history room c.in_ok-has_moves_left.ensures.left
