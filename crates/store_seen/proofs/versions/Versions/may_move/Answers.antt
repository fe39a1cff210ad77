-- The head, then the moves.
use Rattle.std.proofs.Common.{◌∙◌}
use Rattle.std.proofs.lemmas.Result.{err_from_is_err_and}
use Rattle.branch_history.proofs.Turns.{forward-moves, moves-full, moves-none}
use Rattle.store_seen.proofs.versions.Versions.may_move.Goals as goal

pub returns-in_err-has_moves_left-clause-refused : goal.returns-in_err-has_moves_left-clause-refused
returns-in_err-has_moves_left-clause-refused g c =
    let p = err_from_is_err_and c.from_residual-in_err-has_moves_left.result c.from_residual-in_err-has_moves_left.ensures.1 in
    let core = c.args.self.now.core in
    rw (p.1, p.2, c.in_err-has_moves_left.ensures.refused)
    (forward-moves core.terms core.history c.args.branch c.args.head c.in_ok-is_newest.ensures.there c.in_ok-is_newest.ensures.newest ∙ moves-full core.terms core.history c.in_err-has_moves_left.ensures.full)

pub returns-clause-free : goal.returns-clause-free
returns-clause-free g c =
    let core = c.args.self.now.core in
    forward-moves core.terms core.history c.args.branch c.args.head c.in_ok-is_newest.ensures.there c.in_ok-is_newest.ensures.newest ∙ moves-none core.terms core.history c.in_ok-has_moves_left.ensures.left
