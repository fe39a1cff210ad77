use Rattle.std.proofs.Common.{◌≡◌, ◌≢◌, ◌∷◌, [], List, ℕ, length, refl, sym, subst, ◌∙◌}
use Rattle.std.specs.Prelude.{OnOk, IfErr}
use Rattle.std.proofs.lemmas.Bool.{eqb-false}
use Rattle.branch_shell.specs.Telling.{TellsLines, StopsLines}
use Rattle.branch_shell.proofs.Cuts.{lines_of-unended}
use Rattle.branch_shell.specs.Values.{value_type}
use Rattle.branch_shell.proofs.script.tell_last.Goals as goal

full : (xs : List ℕ) → (length xs ≡ 0 → ⊥) → xs ≢ []
full [] h e = h refl
full (x ∷ xs) h e = cc

pub returns-clause-ok : goal.returns-clause-ok
returns-clause-ok g c =
    let of = value_type g.T.Mrdt.meaning g.T.Forms.forms g.T.Kinded.KIND in
    let d = g.D.Disk in
    let line = c.args.line.now in
    let some = full line (eqb-false (length line) 0 (sym c.is_empty.ensures ∙ c.if-is_empty.false)) in
    subst (λ ls. OnOk c.tell_line.result (TellsLines d.may_leave d.moment d.left_since of g.A.Address.address ls c.args.engine.now c.tell_line.new.engine (g.K.Sink.given c.args.sink.now) (g.K.Sink.given c.tell_line.new.sink))) (sym (lines_of-unended line c.requires.unended some)) c.tell_line.ensures.ok

pub returns-clause-err : goal.returns-clause-err
returns-clause-err g c =
    let of = value_type g.T.Mrdt.meaning g.T.Forms.forms g.T.Kinded.KIND in
    let d = g.D.Disk in
    let line = c.args.line.now in
    let some = full line (eqb-false (length line) 0 (sym c.is_empty.ensures ∙ c.if-is_empty.false)) in
    subst (λ ls. IfErr c.tell_line.result (StopsLines d.may_leave d.moment d.left_since of g.A.Address.address ls c.args.engine.now c.tell_line.new.engine (g.K.Sink.given c.args.sink.now) (g.K.Sink.given c.tell_line.new.sink))) (sym (lines_of-unended line c.requires.unended some)) c.tell_line.ensures.err
