use Rattle.std.proofs.Common.{◌≡◌, ◌++◌, List, ℕ, Some, Ok, Err, refl, ap}
use Rattle.branch_script.specs.declared.step.LineRefused.{LineRefused}
use Rattle.branch_script.specs.declared.step.LineRefused.TheVariants as refused_as
use Rattle.branch_script.specs.Script.{line_of, IsLineRefusedAs}
use Rattle.branch_print.specs.Texts.{line_refusal_text, line_end}
use Rattle.branch_engine.proofs.Values.{Values, values_of, fixed_of}
use Rattle.branch_engine.specs.Play.{line_told, read_told, form_told}
use Rattle.branch_engine.specs.Engines.{Telling}
use Rattle.branch_engine.proofs.Does.{members, IsTold, told-by, stays_so, does_as}
use Rattle.branch_engine.proofs.engine.Engine.tell.Goals as goal

abbrev line_telling : {S O R Q A : Type 0} → Values S O R Q A → List ℕ → Telling S O R Q A
line_telling values line fixed p = line_told values.forms fixed p line

pub returns-in-Ok-Some : goal.returns-in-Ok-Some
returns-in-Ok-Some g c =
    let d = g.D.Disk in let laws = g.met.D.Disk in
    let m = members d.may_leave d.moment d.left_since d.faults laws.only_now in let values = values_of g.T.Mrdt.meaning g.T.Forms.forms g.A.Address.address in
    let core = c.self.inside.core in let sessions = c.self.inside.sessions.entries in let old = c.args.self.now in
    let line = c.args.line.now in
    let is : line_of line ≡ Ok (Some c.in-Ok-Some.line) = rw c.in-Ok-Some.field-0-is at c.in-Ok-Some.ensures.ok in
    does_as m values (line_telling values line) (λ fixed p. form_told values.forms fixed p c.in-Ok-Some.line) old c.do_line.new.self c.args.out.now.items c.do_line.new.out.items
    (λ terms p at. ap (read_told values.forms (fixed_of values terms) p) is) c.do_line.result c.do_line.ensures

-- a line that is no step, where memory was not short
refused : (line : List ℕ) (refusal : LineRefused) → (refusal ≡ refused_as.Memory → ⊥) → IsLineRefusedAs line refusal → line_of line ≡ Err refusal
refused line refused_as.Memory other is = absurd (other refl)
refused line refused_as.Syntax other is = is
refused line refused_as.BadName other is = is
refused line refused_as.BadNumber other is = is

pub returns : goal.returns
returns g c =
    let d = g.D.Disk in let laws = g.met.D.Disk in
    let m = members d.may_leave d.moment d.left_since d.faults laws.only_now in let values = values_of g.T.Mrdt.meaning g.T.Forms.forms g.A.Address.address in
    let core = c.self.inside.core in let sessions = c.self.inside.sessions.entries in let old = c.args.self.now in
    let line = c.args.line.now in let refusal = c.in-Err.refusal in
    let refused_so : IsLineRefusedAs line refusal = c.in-Err.ensures.err in
    let is : line_of line ≡ Err refusal = refused line refusal c.in_default.not-Memory refused_so in
    let told : IsTold m values (line_telling values line) old old (line_refusal_text refusal ++ line_end) =
    λ terms p at. told-by m values terms old (line_told values.forms (fixed_of values terms) p line) (read_told values.forms (fixed_of values terms) p (Err refusal)) (line_refusal_text refusal ++ line_end) (ap (read_told values.forms (fixed_of values terms) p) is) at refl in
    stays_so m values (line_telling values line) old old c.args.out.now.items c.put_line_refusal.new.out.items (line_refusal_text refusal ++ line_end) c.put_line_refusal.result c.replied.result c.replied.ensures.ok c.replied.ensures.err c.requires refl told
    c.put_line_refusal.ensures.ok c.put_line_refusal.ensures.err
