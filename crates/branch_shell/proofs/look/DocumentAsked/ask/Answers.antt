-- What the value answers is what the events answer for which it stands.
use Rattle.std.proofs.Common.{◌≡◌, ◌∙◌, ap, sym, Some}
use Rattle.std.proofs.Math.Logic.{∥∥₁_elim}
use Rattle.std.specs.Option.{option_map}
use base.Stored.{Coded-set}
use Rattle.branch_history.specs.Commits.{visible}
use Rattle.branch_history.specs.History.{store_of}
use Rattle.branch_shell.proofs.look.DocumentAsked.ask.Goals as goal

pub returns : goal.returns
returns g c =
    let document = c.args.self.now in
    let core = document.core.now in
    let m = g.T.Mrdt.meaning in
    let forms = g.T.Forms.forms in
    let seen = visible (store_of core.terms.origin core.history).commits document.commit in
    let is : c.in_ok-answer.answer ≡ m.answer_of seen c.in-Some.query =
    ∥∥₁_elim document.stands (Coded-set g.row.T-Answer.coded _ _) (λ stands. ∥∥₁_elim document.lawful (Coded-set g.row.T-Answer.coded _ _) (λ lawful. c.in_ok-answer.ensures seen lawful stands)) in
    ap Some (c.answer-2.ensures ∙ ap forms.answer is) ∙ ap (option_map (λ query. forms.answer (m.answer_of seen query))) (sym c.in-Some.is ∙ c.in_ok-query.ensures)
