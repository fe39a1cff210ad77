use Rattle.std.proofs.Common.{◌≡◌, ℕ, List, sym, subst, ◌∙◌}
use Rattle.std.specs.Prelude.{None, OnOk}
use Rattle.branch_script.specs.Lines.{lines_of}
use Rattle.branch_gen.specs.Scripts.{script_text}
use Rattle.branch_shell.specs.Reading.{IsWholeLines}
use Rattle.branch_shell.specs.Telling.{TellsLines, LeavesSome}
use Rattle.branch_shell.proofs.Drawn.{drawn-whole}
use Rattle.branch_shell.specs.Values.{value_type}
use Rattle.branch_shell.proofs.generate.count_drawn.Goals as goal

pub count_lines-requires-clause-ended : goal.count_lines-requires-clause-ended
count_lines-requires-clause-ended g c κs within =
    let is : c.as_slice.result.now ≡ script_text c.args.steps c.args.number = c.as_slice.ensures.bytes ∙ c.in_ok-text.ensures in
    subst IsWholeLines (sym is) (drawn-whole c.args.steps c.args.number)

pub returns-clause-told : goal.returns-clause-told
returns-clause-told g c =
    let of = value_type g.T.Mrdt.meaning g.T.Forms.forms g.T.Kinded.KIND in
    let d = g.D.Disk in
    let is : c.as_slice.result.now ≡ script_text c.args.steps c.args.number = c.as_slice.ensures.bytes ∙ c.in_ok-text.ensures in
    subst (λ (t : List ℕ). OnOk c.count_lines.result (TellsLines d.may_leave d.moment d.left_since of g.A.Address.address (lines_of t) c.args.engine.now c.count_lines.new.engine None None)) is c.count_lines.ensures.told

pub returns-clause-moments : goal.returns-clause-moments
returns-clause-moments g c =
    let of = value_type g.T.Mrdt.meaning g.T.Forms.forms g.T.Kinded.KIND in
    let d = g.D.Disk in
    let is : c.as_slice.result.now ≡ script_text c.args.steps c.args.number = c.as_slice.ensures.bytes ∙ c.in_ok-text.ensures in
    subst (λ (t : List ℕ). LeavesSome d.may_leave d.moment d.left_since of g.A.Address.address (lines_of t) c.args.engine.now c.count_lines.new.engine) is c.count_lines.ensures.moments
