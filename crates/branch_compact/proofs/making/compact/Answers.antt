-- The live commits are marked.
use Rattle.std.proofs.Common.{◌∙◌, List, length, ap}
use Rattle.branch_history.specs.declared.moves.Move.{Move}
use Rattle.branch_history.specs.History.{store_of}
use Rattle.branch_compact.specs.Compact.{is_live}
use Rattle.branch_compact.proofs.making.compact.Goals as goal

pub compact_marked-requires-clause-count : goal.compact_marked-requires-clause-count
compact_marked-requires-clause-count g c κs within =
    c.in_ok-marks.ensures.count
    ∙ ap (λ (ms : List (Move g.row.T-Op.Denot g.row.T-Reply.Denot)). length (store_of c.args.terms.origin ms).commits) c.as_slice.ensures

pub compact_marked-requires-clause-live : goal.compact_marked-requires-clause-live
compact_marked-requires-clause-live g c κs within n =
    c.in_ok-marks.ensures.live n
    ∙ ap (λ (ms : List (Move g.row.T-Op.Denot g.row.T-Reply.Denot)). is_live (store_of c.args.terms.origin ms) n) c.as_slice.ensures
