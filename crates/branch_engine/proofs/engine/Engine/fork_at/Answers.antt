use Rattle.std.proofs.Common.{◌++◌, ◌∙◌, sym, ap, subst, refl, true, false}
use Rattle.branch_history.specs.Steps as machine
use Rattle.branch_print.specs.Texts.{unknown_commit_text, line_end}
use Rattle.store_core.specs.Answers.{place_answer}
use Rattle.branch_engine.proofs.Values.{values_of}
use Rattle.branch_engine.specs.Engines.{EngineView}
use Rattle.branch_engine.proofs.Does.{members, DoesSo, stays_so}
use Rattle.branch_engine.proofs.Replies.{view_of}
use Rattle.branch_engine.proofs.Answered.{looks-behind}
use Rattle.branch_engine.proofs.Past.{Has, fork_at_telling, fork_nowhere, placed-as}
use Rattle.branch_engine.proofs.engine.Engine.fork_at.Goals as goal

pub returns-then-not-has_commit : goal.returns-then-not-has_commit
returns-then-not-has_commit g c =
    let d = g.D.Disk in let laws = g.met.D.Disk in
    let m = members d.may_leave d.moment d.left_since d.faults laws.only_now in let values = values_of g.T.Mrdt.meaning g.T.Forms.forms g.A.Address.address in
    let old = c.args.self.now in let number = c.args.commit in let name = c.args.new.now in
    let none : Has m values old number false =
    subst (λ (v : EngineView g.row.T-Op.Denot g.row.T-Reply.Denot g.row.D.Denot). Has m values v number false) c.self.view_is (sym c.has_commit.ensures.is ∙ c.if-not-has_commit.true) in
    stays_so m values (fork_at_telling values name number) old old c.args.out.now.items c.put_unknown_commit.new.out.items (unknown_commit_text number ++ line_end) c.put_unknown_commit.result c.replied.result c.replied.ensures.ok c.replied.ensures.err
    c.requires refl (fork_nowhere m values old number name none) c.put_unknown_commit.ensures.ok c.put_unknown_commit.ensures.err

pub put_placed-requires-clause-worked : goal.put_placed-requires-clause-worked
put_placed-requires-clause-worked g c = λ _ _.
    let worked = ap (λ (v : EngineView g.row.T-Op.Denot g.row.T-Reply.Denot g.row.D.Denot). v.core.failed) c.self.view_is ∙ c.requires in
    sym c.place-answer.ensures.leaves.worked ∙ worked

pub invariant_of-self : goal.invariant_of-self
invariant_of-self g c =
    let laws = g.met.D.Disk in let core = c.self.inside.core in let made = c.place-answer in
    looks-behind g.D.Disk laws.only_now (values_of g.T.Mrdt.meaning g.T.Forms.forms g.A.Address.address) (view_of core c.self.inside.sessions.entries) made.new.self (machine.Place c.args.new.now c.args.commit)
    (place_answer made.result) (record { takes = made.ensures.takes; leaves = made.ensures.leaves }) c.self.invariant

pub returns : goal.returns
returns g c =
    let d = g.D.Disk in let laws = g.met.D.Disk in
    let m = members d.may_leave d.moment d.left_since d.faults laws.only_now in let values = values_of g.T.Mrdt.meaning g.T.Forms.forms g.A.Address.address in
    let core = c.self.inside.core in let sessions = c.self.inside.sessions.entries in
    let out = c.args.out.now.items in let out' = c.put_placed.new.out.items in
    let number = c.args.commit in let name = c.args.new.now in let made = c.place-answer in
    let worked = ap (λ (v : EngineView g.row.T-Op.Denot g.row.T-Reply.Denot g.row.D.Denot). v.core.failed) c.self.view_is ∙ c.requires in
    let there : Has m values (view_of core sessions) number true = sym c.has_commit.ensures.is ∙ c.if-not-has_commit.false in
    subst (λ (v : EngineView g.row.T-Op.Denot g.row.T-Reply.Denot g.row.D.Denot). DoesSo m values (fork_at_telling values name number) v (view_of made.new.self sessions) out out' c.put_placed.result) c.self.view_is
    (placed-as g.D.Disk laws.only_now values (view_of core sessions) made.new.self name number there out out' c.put_placed.result
    made.result (record { takes = made.ensures.takes; leaves = made.ensures.leaves }) worked
    c.reads_what_stands.ensures c.moves.ensures.valid c.moves-2.ensures.valid c.moves-2.ensures.stands c.put_placed.ensures)
