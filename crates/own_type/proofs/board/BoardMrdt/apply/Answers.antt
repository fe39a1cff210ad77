use Rattle.std.proofs.Common.{refl, ◌∙◌, ap}
use Rattle.greatest_row.specs.Rows.{join, one}
use Rattle.own_type.proofs.board.BoardMrdt.apply.Goals as goal

-- the row is that of the events with one more
pub returns-clause-applies : goal.returns-clause-applies
returns-clause-applies c x lawful is after =
    (refl, c.in_ok-row.ensures ∙ ap (λ m. join (one m) c.self.inside.row) c.mark.ensures.value ∙ ap (join (one c.args.op.now)) (c.self.view_is ∙ is))
