use Rattle.std.proofs.Common.{◌≡◌, ◌++◌, ◌∙◌, sym, ap, subst, refl, None, ◌<◌, length}
use Rattle.branch_names.specs.declared.terms.Terms.{Terms}
use Rattle.branch_names.specs.Heads.{name_of}
use Rattle.branch_history.specs.History.{store_of}
use Rattle.branch_print.specs.Texts.{unseen_text, line_end}
use Rattle.store_core.specs.Answers.{drop_answer}
use Rattle.branch_engine.proofs.Values.{values_of}
use Rattle.branch_engine.specs.Engines.{EngineView, RepliesAs, session_named}
use Rattle.branch_engine.proofs.Played.{branch-stays}
use Rattle.branch_engine.proofs.Does.{members, stays_so}
use Rattle.branch_engine.proofs.Replies.{view_of, drop_telling, undropped}
use Rattle.branch_engine.proofs.Answered.{looks-behind}
use Rattle.branch_engine.proofs.Drops.{drop_of, told-as}
use Rattle.branch_engine.proofs.engine.Engine.drop_seen.Goals as goal

-- the session has not looked
pub returns-in_default : goal.returns-in_default
returns-in_default g c =
    let d = g.D.Disk in let laws = g.met.D.Disk in
    let m = members d.may_leave d.moment d.left_since d.faults laws.only_now in let values = values_of g.T.Mrdt.meaning g.T.Forms.forms g.A.Address.address in
    let core = c.self.inside.core in let sessions = c.self.inside.sessions.entries in let old = c.args.self.now in
    let session = c.args.session.now in
    let none : session_named sessions session ≡ None = sym c.in_default.ensures.value in
    let here = subst (λ (v : EngineView g.row.T-Op.Denot g.row.T-Reply.Denot g.row.D.Denot). session_named v.sessions session ≡ None) c.self.view_is none in
    stays_so m values (drop_telling values session) old old c.args.out.now.items c.put_unseen.new.out.items (unseen_text session ++ line_end) c.put_unseen.result c.replied.result c.replied.ensures.ok c.replied.ensures.err c.requires refl
    (undropped m values old session here) c.put_unseen.ensures.ok c.put_unseen.ensures.err

pub name_at-name-requires-clause-within : goal.name_at-name-requires-clause-within
name_at-name-requires-clause-within g c = λ _ _.
    let core = c.self.inside.core in let seen = c.in-Some.seen.now in
    let look = c.self.invariant c.args.session.now seen (sym c.in-Some.ensures.value) in
    let here = branch-stays core.terms.origin seen.history core.history seen.branch look.0 (subst (λ (l : Terms). seen.branch < length (store_of l.origin seen.history).branches) look.1 c.branch-seen.ensures.within) in
    rw c.branch-seen.ensures.branch here

pub drop_branch-answer-requires-clause-history : goal.drop_branch-answer-requires-clause-history
drop_branch-answer-requires-clause-history g c =
    λ _ _. (c.self.invariant c.args.session.now c.in-Some.seen.now (sym c.in-Some.ensures.value)).0

pub drop_branch-answer-requires-clause-terms : goal.drop_branch-answer-requires-clause-terms
drop_branch-answer-requires-clause-terms g c =
    λ _ _. (c.self.invariant c.args.session.now c.in-Some.seen.now (sym c.in-Some.ensures.value)).1

pub put_drop-requires-clause-worked : goal.put_drop-requires-clause-worked
put_drop-requires-clause-worked g c = λ _ _.
    let worked = ap (λ (v : EngineView g.row.T-Op.Denot g.row.T-Reply.Denot g.row.D.Denot). v.core.failed) c.self.view_is ∙ c.requires in
    sym c.drop_branch-answer.ensures.leaves.worked ∙ worked

pub invariant_of-self : goal.invariant_of-self
invariant_of-self g c =
    let laws = g.met.D.Disk in let core = c.self.inside.core in let seen = c.in-Some.seen.now in let made = c.drop_branch-answer in
    looks-behind g.D.Disk laws.only_now (values_of g.T.Mrdt.meaning g.T.Forms.forms g.A.Address.address) (view_of core c.self.inside.sessions.entries) made.new.self (drop_of seen)
    (drop_answer seen made.result) (record { takes = made.ensures.takes; leaves = made.ensures.leaves }) c.self.invariant

pub returns : goal.returns
returns g c =
    let laws = g.met.D.Disk in let core = c.self.inside.core in let sessions = c.self.inside.sessions.entries in
    let session = c.args.session.now in let out = c.args.out.now.items in let out' = c.put_drop.new.out.items in
    let seen = c.in-Some.seen.now in let made = c.drop_branch-answer in
    let worked = ap (λ (v : EngineView g.row.T-Op.Denot g.row.T-Reply.Denot g.row.D.Denot). v.core.failed) c.self.view_is ∙ c.requires in
    let branches = (store_of core.terms.origin core.history).branches in
    let name : c.name_at-name.result ≡ name_of branches seen.branch = c.name_at-name.ensures ∙ ap (name_of branches) c.branch-seen.ensures.branch in
    told-as g.D.Disk laws.only_now (values_of g.T.Mrdt.meaning g.T.Forms.forms g.A.Address.address) (view_of core sessions) made.new.self session seen c.args.self.now c.self.view_is (sym c.in-Some.ensures.value) out out' c.put_drop.result
    made.result (record { takes = made.ensures.takes; leaves = made.ensures.leaves }) worked
    c.reads_what_stands.ensures c.moves.ensures.valid c.moves-2.ensures.valid c.moves-2.ensures.stands
    (subst (λ n. RepliesAs g.T.Forms.forms n (drop_answer seen made.result) out out' c.put_drop.result) name c.put_drop.ensures)
