use Rattle.std.proofs.Common.{◌≡◌, ◌++◌, ◌∙◌, refl, sym, subst}
use Rattle.std.specs.Prelude.{OnOk, OnErr}
use mathlib.Core.List.{IsPrefix}
use Rattle.mrdt_model.specs.Spelled.{AppendsPart}
use Rattle.branch_history.specs.Steps as machine
use Rattle.branch_history.specs.Machine.{turn, answers}
use Rattle.branch_print.specs.Texts.{refusal_text, answer_text, no_sequences_text, line_end}
use Rattle.branch_engine.proofs.Values.{values_of}
use Rattle.branch_engine.proofs.Played.{prefix-self}
use Rattle.branch_engine.proofs.Does.{members, nothing_done, stays_so, short-of}
use Rattle.branch_engine.proofs.Replies.{full-so, ask_telling, asked, no_query, ask_refused}
use Rattle.branch_engine.proofs.engine.Engine.ask.Goals as goal

pub returns-in-Err-UnknownBranch : goal.returns-in-Err-UnknownBranch
returns-in-Err-UnknownBranch g c =
    let d = g.D.Disk in let laws = g.met.D.Disk in
    let m = members d.may_leave d.moment d.left_since d.faults laws.only_now in let values = values_of g.T.Mrdt.meaning g.T.Forms.forms g.A.Address.address in
    let core = c.self.inside.core in let sessions = c.self.inside.sessions.entries in let old = c.args.self.now in
    let branch = c.args.branch.now in
    let refusal = machine.UnknownBranch branch in
    let is = full-so values core sessions old c.self.view_is (machine.Look branch) (machine.Refused refusal) refl (rw c.in-Err-UnknownBranch.field-0-is at c.in-Err-UnknownBranch.ensures.refused).1 in
    stays_so m values (ask_telling values branch c.args.query.now) old old c.args.out.now.items c.put_unknown.new.out.items (refusal_text branch refusal ++ line_end) c.put_unknown.result c.replied.result c.replied.ensures.ok c.replied.ensures.err
    c.requires refl (ask_refused m values old branch c.args.query.now refusal is) c.put_unknown.ensures.ok c.put_unknown.ensures.err

pub returns-in-Err-Memory : goal.returns-in-Err-Memory
returns-in-Err-Memory g c =
    let d = g.D.Disk in let laws = g.met.D.Disk in
    let m = members d.may_leave d.moment d.left_since d.faults laws.only_now in let values = values_of g.T.Mrdt.meaning g.T.Forms.forms g.A.Address.address in
    let core = c.self.inside.core in let sessions = c.self.inside.sessions.entries in let old = c.args.self.now in
    nothing_done m values (ask_telling values c.args.branch.now c.args.query.now) old old c.args.out.now.items _ refl c.requires refl

pub returns-in_err-query : goal.returns-in_err-query
returns-in_err-query g c =
    let d = g.D.Disk in let laws = g.met.D.Disk in
    let m = members d.may_leave d.moment d.left_since d.faults laws.only_now in let values = values_of g.T.Mrdt.meaning g.T.Forms.forms g.A.Address.address in
    let core = c.self.inside.core in let sessions = c.self.inside.sessions.entries in let old = c.args.self.now in
    nothing_done m values (ask_telling values c.args.branch.now c.args.query.now) old old c.args.out.now.items c.from_residual.result (short-of c.from_residual.result c.from_residual.ensures.1) c.requires refl

pub returns-in_err-answer : goal.returns-in_err-answer
returns-in_err-answer g c =
    let d = g.D.Disk in let laws = g.met.D.Disk in
    let m = members d.may_leave d.moment d.left_since d.faults laws.only_now in let values = values_of g.T.Mrdt.meaning g.T.Forms.forms g.A.Address.address in
    let core = c.self.inside.core in let sessions = c.self.inside.sessions.entries in let old = c.args.self.now in
    nothing_done m values (ask_telling values c.args.branch.now c.args.query.now) old old c.args.out.now.items c.from_residual-in_err-answer.result (short-of c.from_residual-in_err-answer.result c.from_residual-in_err-answer.ensures.1) c.requires refl

pub returns-in_default : goal.returns-in_default
returns-in_default g c =
    let d = g.D.Disk in let laws = g.met.D.Disk in
    let m = members d.may_leave d.moment d.left_since d.faults laws.only_now in let values = values_of g.T.Mrdt.meaning g.T.Forms.forms g.A.Address.address in
    let core = c.self.inside.core in let sessions = c.self.inside.sessions.entries in let old = c.args.self.now in
    let seen = c.in-Ok.seen in let branch = c.args.branch.now in let query = c.args.query.now in
    let looks = full-so values core sessions old c.self.view_is (machine.Look branch) (machine.Sees seen.branch seen.head) refl c.in-Ok.ensures.sees in
    stays_so m values (ask_telling values branch query) old old c.args.out.now.items c.put_no_sequences.new.out.items (no_sequences_text ++ line_end) c.put_no_sequences.result c.replied-in_default.result
    c.replied-in_default.ensures.ok c.replied-in_default.ensures.err c.requires refl
    (no_query m values old branch query seen.branch seen.head looks (sym c.in_ok-query.ensures ∙ c.in_default.is)) c.put_no_sequences.ensures.ok c.put_no_sequences.ensures.err

pub returns : goal.returns
returns g c =
    let d = g.D.Disk in let laws = g.met.D.Disk in
    let m = members d.may_leave d.moment d.left_since d.faults laws.only_now in let values = values_of g.T.Mrdt.meaning g.T.Forms.forms g.A.Address.address in
    let core = c.self.inside.core in let sessions = c.self.inside.sessions.entries in let old = c.args.self.now in
    let seen = c.in-Ok.seen in let branch = c.args.branch.now in let query = c.args.query.now in let made = c.in-Some.query in let answer = c.in_ok-answer.answer in
    let out = c.args.out.now.items in let out' = c.put_answer.new.out.items in
    let looks = full-so values core sessions old c.self.view_is (machine.Look branch) (machine.Sees seen.branch seen.head) refl c.in-Ok.ensures.sees in
    let asks : turn g.T.Mrdt.meaning seen.terms core.history (machine.Ask seen.head made) ≡ answers (machine.Answered answer) = c.in_ok-answer.ensures core.history (subst (λ h. IsPrefix h core.history) (sym c.in-Ok.ensures.on.0) (prefix-self core.history)) in
    let here = subst (λ l. turn g.T.Mrdt.meaning l core.history (machine.Ask seen.head made) ≡ answers (machine.Answered answer)) c.in-Ok.ensures.on.1 asks in
    let is = full-so values core sessions old c.self.view_is (machine.Ask seen.head made) (machine.Answered answer) refl here in
    stays_so m values (ask_telling values branch query) old old out out' (answer_text (g.T.Forms.forms.answer answer) ++ line_end) c.put_answer.result c.replied-2.result c.replied-2.ensures.ok c.replied-2.ensures.err
    c.requires refl (asked m values old branch query made seen.branch seen.head answer looks (sym c.in_ok-query.ensures ∙ c.in-Some.is) is)
    (subst (λ a. OnOk c.put_answer.result (out' ≡ out ++ (answer_text a ++ line_end))) c.answer.ensures c.put_answer.ensures.ok)
    (subst (λ a. OnErr c.put_answer.result (AppendsPart out out' (answer_text a ++ line_end))) c.answer.ensures c.put_answer.ensures.err)
