use Rattle.std.proofs.Common.{List, ℕ, sym, subst}
use Rattle.std.specs.Prelude.{Result}
use Rattle.branch_script.specs.declared.step.Line.{Line}
use Rattle.branch_script.specs.declared.step.Line.TheVariants as form
use Rattle.branch_engine.proofs.Values.{Values, fixed_of, values_of}
use Rattle.branch_engine.specs.declared.refused.TellRefused.{TellRefused}
use Rattle.branch_engine.specs.Play.{step_told, form_told}
use Rattle.branch_engine.specs.Engines.{EngineView}
use Rattle.branch_engine.proofs.Turned.{told-step}
use Rattle.branch_engine.proofs.Does.{Members, members, DoesSo, does_as}
use Rattle.branch_engine.proofs.engine.Engine.do_line.Goals as goal

-- a line that was done as this one
abbrev DoesLine : {S O R Q A D : Type 0} → Members D → Values S O R Q A → EngineView O R D → EngineView O R D → List ℕ → List ℕ → Result (Unit {0}) TellRefused → Line → Type 0
DoesLine m values old new out out' r line = DoesSo m values (λ fixed p. form_told values.forms fixed p line) old new out out' r

pub returns-in-Step : goal.returns-in-Step
returns-in-Step g c =
    let d = g.D.Disk in let laws = g.met.D.Disk in
    let m = members d.may_leave d.moment d.left_since d.faults laws.only_now in let values = values_of g.T.Mrdt.meaning g.T.Forms.forms g.A.Address.address in
    let old = c.args.self.now in let new = c.step.new.self in let out = c.args.out.now.items in let out' = c.step.new.out.items in
    let step = c.in-Step.step in
    subst (DoesLine m values old new out out' c.step.result) (sym c.in-Step.is)
    (does_as m values (λ fixed p. form_told values.forms fixed p (form.Step step)) (λ fixed p. step_told values.forms fixed p step) old new out out'
    (λ terms p at. told-step values.forms (fixed_of values terms) p step) c.step.result c.step.ensures)

pub returns-in-AskAt : goal.returns-in-AskAt
returns-in-AskAt g c =
    let d = g.D.Disk in let laws = g.met.D.Disk in
    let m = members d.may_leave d.moment d.left_since d.faults laws.only_now in let values = values_of g.T.Mrdt.meaning g.T.Forms.forms g.A.Address.address in
    subst (DoesLine m values c.args.self.now c.args.self.now c.args.out.now.items c.ask_at.new.out.items c.ask_at.result) (sym c.in-AskAt.is) c.ask_at.ensures

pub returns-in-ForkAt : goal.returns-in-ForkAt
returns-in-ForkAt g c =
    let d = g.D.Disk in let laws = g.met.D.Disk in
    let m = members d.may_leave d.moment d.left_since d.faults laws.only_now in let values = values_of g.T.Mrdt.meaning g.T.Forms.forms g.A.Address.address in
    subst (DoesLine m values c.args.self.now c.fork_at.new.self c.args.out.now.items c.fork_at.new.out.items c.fork_at.result) (sym c.in-ForkAt.is) c.fork_at.ensures
