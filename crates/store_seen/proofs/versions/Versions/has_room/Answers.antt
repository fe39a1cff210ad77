-- The commits, then the moves.
use Rattle.std.proofs.Common.{◌≡◌, ◌≤◌, ◌<◌, ℕ, length, Some, ap, sym, ◌∙◌, subst}
use Rattle.branch_history.specs.History.{store_of}
use Rattle.branch_history.specs.Steps as machine
use Rattle.branch_history.proofs.Turns.{room-full_commits, room-moves, room-none, moves-full}
use Rattle.store_seen.proofs.versions.Versions.has_room.Goals as goal

pub returns-then-count-self-clause-refused : goal.returns-then-count-self-clause-refused
returns-then-count-self-clause-refused g c =
    let core = c.args.self.now.core in
    let held = subst (λ n. c.self.inside.terms.limits.commits ≤ n) c.commits-count.ensures.count c.if-count-self.true in
    let full = subst (λ v. v.core.terms.limits.commits ≤ length (store_of core.terms.origin core.history).commits) c.self.view_is held in
    rw (c.commits-count.ensures.count) (room-full_commits core.terms core.history full)

pub returns-then-count-self-2-clause-refused : goal.returns-then-count-self-2-clause-refused
returns-then-count-self-2-clause-refused g c =
    let core = c.args.self.now.core in
    let left = subst (λ n. n < c.self.inside.terms.limits.commits) c.commits-count.ensures.count c.if-count-self.false in
    let room = subst (λ v. length (store_of core.terms.origin core.history).commits < v.core.terms.limits.commits) c.self.view_is left in
    let counted : c.len-count.result ≡ length core.history = c.len-count.ensures ∙ ap (λ v. length v.core.history) c.self.view_is in
    let full = subst (λ v. v.core.terms.limits.moves ≤ length core.history) c.self.view_is (subst (λ (n : ℕ). c.self.inside.terms.limits.moves ≤ n) counted c.if-count-self-2.true) in
    room-moves core.terms core.history room ∙ moves-full core.terms core.history full ∙ ap (λ n. Some (machine.FullMoves n)) (sym counted)

pub returns-clause-free : goal.returns-clause-free
returns-clause-free g c =
    let core = c.args.self.now.core in
    let left = subst (λ n. n < c.self.inside.terms.limits.commits) c.commits-count.ensures.count c.if-count-self.false in
    let room = subst (λ v. length (store_of core.terms.origin core.history).commits < v.core.terms.limits.commits) c.self.view_is left in
    let counted : c.len-count.result ≡ length core.history = c.len-count.ensures ∙ ap (λ v. length v.core.history) c.self.view_is in
    let less = subst (λ v. length core.history < v.core.terms.limits.moves) c.self.view_is (subst (λ (n : ℕ). n < c.self.inside.terms.limits.moves) counted c.if-count-self-2.false) in
    room-none core.terms core.history room less
