use Rattle.std.proofs.Common.{List, ℕ, sym, subst}
use Rattle.std.specs.Prelude.{Result}
use Rattle.branch_script.specs.declared.step.Step.{Step}
use Rattle.branch_script.specs.declared.step.Step.TheVariants as step
use Rattle.branch_engine.proofs.Values.{Values, values_of}
use Rattle.branch_engine.specs.declared.refused.TellRefused.{TellRefused}
use Rattle.branch_engine.specs.Play.{step_told}
use Rattle.branch_engine.specs.Engines.{EngineView}
use Rattle.branch_engine.proofs.Does.{Members, members, DoesSo}
use Rattle.branch_engine.proofs.engine.Engine.step.Goals as goal

-- a step that was done as this one
abbrev DoesStep : {S O R Q A D : Type 0} → Members D → Values S O R Q A → EngineView O R D → EngineView O R D → List ℕ → List ℕ → Result (Unit {0}) TellRefused → Step → Type 0
DoesStep m values old new out out' r step = DoesSo m values (λ fixed p. step_told values.forms fixed p step) old new out out' r

pub returns-in-Look : goal.returns-in-Look
returns-in-Look g c =
    let d = g.D.Disk in let laws = g.met.D.Disk in
    let m = members d.may_leave d.moment d.left_since d.faults laws.only_now in let values = values_of g.T.Mrdt.meaning g.T.Forms.forms g.A.Address.address in
    subst (DoesStep m values c.args.self.now c.look.new.self c.args.out.now.items c.look.new.out.items c.look.result) (sym c.in-Look.is) c.look.ensures

pub returns-in-Fork : goal.returns-in-Fork
returns-in-Fork g c =
    let d = g.D.Disk in let laws = g.met.D.Disk in
    let m = members d.may_leave d.moment d.left_since d.faults laws.only_now in let values = values_of g.T.Mrdt.meaning g.T.Forms.forms g.A.Address.address in
    subst (DoesStep m values c.args.self.now c.fork.new.self c.args.out.now.items c.fork.new.out.items c.fork.result) (sym c.in-Fork.is) c.fork.ensures

pub returns-in-Merge : goal.returns-in-Merge
returns-in-Merge g c =
    let d = g.D.Disk in let laws = g.met.D.Disk in
    let m = members d.may_leave d.moment d.left_since d.faults laws.only_now in let values = values_of g.T.Mrdt.meaning g.T.Forms.forms g.A.Address.address in
    subst (DoesStep m values c.args.self.now c.merge.new.self c.args.out.now.items c.merge.new.out.items c.merge.result) (sym c.in-Merge.is) c.merge.ensures

pub returns-in-Join : goal.returns-in-Join
returns-in-Join g c =
    let d = g.D.Disk in let laws = g.met.D.Disk in
    let m = members d.may_leave d.moment d.left_since d.faults laws.only_now in let values = values_of g.T.Mrdt.meaning g.T.Forms.forms g.A.Address.address in
    let session = c.in-Join.session in
    let Told = DoesStep m values c.args.self.now c.join.new.self c.args.out.now.items c.join.new.out.items c.join.result in
    subst Told (sym c.in-Join.is) (subst (λ from. Told (step.Join session from)) c.as_slice.ensures.same c.join.ensures)

pub returns-in-Drop : goal.returns-in-Drop
returns-in-Drop g c =
    let d = g.D.Disk in let laws = g.met.D.Disk in
    let m = members d.may_leave d.moment d.left_since d.faults laws.only_now in let values = values_of g.T.Mrdt.meaning g.T.Forms.forms g.A.Address.address in
    subst (DoesStep m values c.args.self.now c.drop_seen.new.self c.args.out.now.items c.drop_seen.new.out.items c.drop_seen.result) (sym c.in-Drop.is) c.drop_seen.ensures

pub returns-in-Do : goal.returns-in-Do
returns-in-Do g c =
    let d = g.D.Disk in let laws = g.met.D.Disk in
    let m = members d.may_leave d.moment d.left_since d.faults laws.only_now in let values = values_of g.T.Mrdt.meaning g.T.Forms.forms g.A.Address.address in
    subst (DoesStep m values c.args.self.now c.land.new.self c.args.out.now.items c.land.new.out.items c.land.result) (sym c.in-Do.is) c.land.ensures

pub returns-in-Ask : goal.returns-in-Ask
returns-in-Ask g c =
    let d = g.D.Disk in let laws = g.met.D.Disk in
    let m = members d.may_leave d.moment d.left_since d.faults laws.only_now in let values = values_of g.T.Mrdt.meaning g.T.Forms.forms g.A.Address.address in
    subst (DoesStep m values c.args.self.now c.args.self.now c.args.out.now.items c.ask.new.out.items c.ask.result) (sym c.in-Ask.is) c.ask.ensures
