use Rattle.std.proofs.Common.{◌≡◌, ◌++◌, ◌∙◌, refl, sym, subst, true, false}
use Rattle.std.specs.Prelude.{OnOk, OnErr}
use Rattle.mrdt_model.specs.Spelled.{AppendsPart}
use Rattle.branch_history.specs.Steps as machine
use Rattle.branch_history.specs.Machine.{turn, answers}
use Rattle.branch_print.specs.Texts.{answer_text, no_sequences_text, unknown_commit_text, line_end}
use Rattle.branch_engine.proofs.Values.{values_of}
use Rattle.branch_engine.specs.Engines.{EngineView}
use Rattle.branch_engine.proofs.Played.{prefix-self}
use Rattle.branch_engine.proofs.Does.{members, nothing_done, stays_so, short-of}
use Rattle.branch_engine.proofs.Replies.{full-so}
use Rattle.branch_engine.proofs.Past.{Has, ask_at_telling, ask_nowhere, asked_at, no_query_at}
use Rattle.branch_engine.proofs.engine.Engine.ask_at.Goals as goal

pub returns-then-not-has_commit : goal.returns-then-not-has_commit
returns-then-not-has_commit g c =
    let d = g.D.Disk in let laws = g.met.D.Disk in
    let m = members d.may_leave d.moment d.left_since d.faults laws.only_now in let values = values_of g.T.Mrdt.meaning g.T.Forms.forms g.A.Address.address in
    let old = c.args.self.now in let query = c.args.query.now in let number = c.args.commit in
    let none : Has m values old number false =
    subst (λ (v : EngineView g.row.T-Op.Denot g.row.T-Reply.Denot g.row.D.Denot). Has m values v number false) c.self.view_is (sym c.has_commit.ensures.is ∙ c.if-not-has_commit.true) in
    stays_so m values (ask_at_telling values number query) old old c.args.out.now.items c.put_unknown_commit.new.out.items (unknown_commit_text number ++ line_end) c.put_unknown_commit.result c.replied.result c.replied.ensures.ok c.replied.ensures.err
    c.requires refl (ask_nowhere m values old number query none) c.put_unknown_commit.ensures.ok c.put_unknown_commit.ensures.err

pub returns-in_err-query : goal.returns-in_err-query
returns-in_err-query g c =
    let d = g.D.Disk in let laws = g.met.D.Disk in
    let m = members d.may_leave d.moment d.left_since d.faults laws.only_now in let values = values_of g.T.Mrdt.meaning g.T.Forms.forms g.A.Address.address in
    let old = c.args.self.now in
    nothing_done m values (ask_at_telling values c.args.commit c.args.query.now) old old c.args.out.now.items c.from_residual.result (short-of c.from_residual.result c.from_residual.ensures.1) c.requires refl

pub returns-in_err-answer : goal.returns-in_err-answer
returns-in_err-answer g c =
    let d = g.D.Disk in let laws = g.met.D.Disk in
    let m = members d.may_leave d.moment d.left_since d.faults laws.only_now in let values = values_of g.T.Mrdt.meaning g.T.Forms.forms g.A.Address.address in
    let old = c.args.self.now in
    nothing_done m values (ask_at_telling values c.args.commit c.args.query.now) old old c.args.out.now.items c.from_residual-in_err-answer.result (short-of c.from_residual-in_err-answer.result c.from_residual-in_err-answer.ensures.1) c.requires refl

pub returns-in_default : goal.returns-in_default
returns-in_default g c =
    let d = g.D.Disk in let laws = g.met.D.Disk in
    let m = members d.may_leave d.moment d.left_since d.faults laws.only_now in let values = values_of g.T.Mrdt.meaning g.T.Forms.forms g.A.Address.address in
    let old = c.args.self.now in let query = c.args.query.now in let number = c.args.commit in
    let there : Has m values old number true =
    subst (λ (v : EngineView g.row.T-Op.Denot g.row.T-Reply.Denot g.row.D.Denot). Has m values v number true) c.self.view_is (sym c.has_commit.ensures.is ∙ c.if-not-has_commit.false) in
    stays_so m values (ask_at_telling values number query) old old c.args.out.now.items c.put_no_sequences.new.out.items (no_sequences_text ++ line_end) c.put_no_sequences.result c.replied-in_default.result
    c.replied-in_default.ensures.ok c.replied-in_default.ensures.err c.requires refl
    (no_query_at m values old number query there (sym c.in_ok-query.ensures ∙ c.in_default.is)) c.put_no_sequences.ensures.ok c.put_no_sequences.ensures.err

pub returns : goal.returns
returns g c =
    let d = g.D.Disk in let laws = g.met.D.Disk in
    let m = members d.may_leave d.moment d.left_since d.faults laws.only_now in let values = values_of g.T.Mrdt.meaning g.T.Forms.forms g.A.Address.address in
    let core = c.self.inside.core in let sessions = c.self.inside.sessions.entries in let old = c.args.self.now in
    let query = c.args.query.now in let number = c.args.commit in let made = c.in-Some.query in let answer = c.in_ok-answer.answer in
    let out = c.args.out.now.items in let out' = c.put_answer.new.out.items in
    let there : Has m values old number true =
    subst (λ (v : EngineView g.row.T-Op.Denot g.row.T-Reply.Denot g.row.D.Denot). Has m values v number true) c.self.view_is (sym c.has_commit.ensures.is ∙ c.if-not-has_commit.false) in
    let asks : turn g.T.Mrdt.meaning core.terms core.history (machine.Ask number made) ≡ answers (machine.Answered answer) = c.in_ok-answer.ensures core.history (prefix-self core.history) in
    let is = full-so values core sessions old c.self.view_is (machine.Ask number made) (machine.Answered answer) refl asks in
    stays_so m values (ask_at_telling values number query) old old out out' (answer_text (g.T.Forms.forms.answer answer) ++ line_end) c.put_answer.result c.replied-2.result c.replied-2.ensures.ok c.replied-2.ensures.err
    c.requires refl (asked_at m values old number query made answer there (sym c.in_ok-query.ensures ∙ c.in-Some.is) is)
    (subst (λ a. OnOk c.put_answer.result (out' ≡ out ++ (answer_text a ++ line_end))) c.answer.ensures c.put_answer.ensures.ok)
    (subst (λ a. OnErr c.put_answer.result (AppendsPart out out' (answer_text a ++ line_end))) c.answer.ensures c.put_answer.ensures.err)
