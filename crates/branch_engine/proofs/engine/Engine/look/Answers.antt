use Rattle.std.proofs.Common.{◌++◌, ◌∙◌, refl, ap, subst}
use Rattle.mrdt_model.specs.Spelled.{AppendsPart}
use Rattle.branch_history.specs.Steps as machine
use Rattle.branch_print.specs.Texts.{refusal_text, sees_text, line_end}
use Rattle.branch_engine.proofs.Values.{values_of}
use Rattle.branch_engine.specs.Engines.{Puts, KeepsLooks}
use Rattle.branch_engine.proofs.Does.{members, nothing_done, part_written, works-still, stays_so, sees_so, short-of}
use Rattle.branch_engine.proofs.Replies.{full-so, look_telling, looked, looked_half, look_refused}
use Rattle.branch_engine.proofs.engine.Engine.look.Goals as goal

pub returns-in_err-put_sees-in-Ok : goal.returns-in_err-put_sees-in-Ok
returns-in_err-put_sees-in-Ok g c =
    let d = g.D.Disk in let laws = g.met.D.Disk in
    let m = members d.may_leave d.moment d.left_since d.faults laws.only_now in let values = values_of g.T.Mrdt.meaning g.T.Forms.forms g.A.Address.address in
    let core = c.self.inside.core in let sessions = c.self.inside.sessions.entries in let old = c.args.self.now in
    let seen = c.in-Ok.seen in let branch = c.args.branch.now in let session = c.args.session.now in let out = c.args.out.now.items in
    let telling = look_telling values session branch in let words = sees_text session branch seen.head ++ line_end in
    let is = full-so values core sessions old c.self.view_is (machine.Look branch) (machine.Sees seen.branch seen.head) refl c.in-Ok.ensures.sees in
    let part : AppendsPart out c.put_sees.new.out.items (sees_text session branch c.head.result ++ line_end) = c.in_err-put_sees-in-Ok.ensures.err in
    part_written m values telling old old out c.put_sees.new.out.items words c.from_residual.result (short-of c.from_residual.result c.from_residual.ensures.1) (works-still m values telling old old c.requires refl)
    (looked_half m values old session branch seen is old refl (λ name. refl)) (subst (λ n. AppendsPart out c.put_sees.new.out.items (sees_text session branch n ++ line_end)) c.head.ensures part)

pub returns-in_ok-put_sees-in-Ok : goal.returns-in_ok-put_sees-in-Ok
returns-in_ok-put_sees-in-Ok g c =
    let d = g.D.Disk in let laws = g.met.D.Disk in
    let m = members d.may_leave d.moment d.left_since d.faults laws.only_now in let values = values_of g.T.Mrdt.meaning g.T.Forms.forms g.A.Address.address in
    let core = c.self.inside.core in let sessions = c.self.inside.sessions.entries in let old = c.args.self.now in
    let seen = c.in-Ok.seen in let branch = c.args.branch.now in let session = c.args.session.now in let out = c.args.out.now.items in
    let telling = look_telling values session branch in let words = sees_text session branch seen.head ++ line_end in
    let is = full-so values core sessions old c.self.view_is (machine.Look branch) (machine.Sees seen.branch seen.head) refl c.in-Ok.ensures.sees in
    let new = c.sees.new.self in
    sees_so m values telling old new out c.put_sees.new.out.items words c.sees.result c.replied.result c.replied.ensures.ok c.replied.ensures.err (works-still m values telling old new c.requires c.sees.ensures.core)
    (Puts old.sessions new.sessions session seen) (KeepsLooks old.sessions new.sessions)
    (looked m values old session branch seen is new c.sees.ensures.core) (looked_half m values old session branch seen is new c.sees.ensures.core) c.sees.ensures.put c.sees.ensures.kept
    (c.in_ok-put_sees-in-Ok.ensures.ok ∙ ap (λ n. out ++ (sees_text session branch n ++ line_end)) c.head.ensures)

pub returns-in-Err-UnknownBranch : goal.returns-in-Err-UnknownBranch
returns-in-Err-UnknownBranch g c =
    let d = g.D.Disk in let laws = g.met.D.Disk in
    let m = members d.may_leave d.moment d.left_since d.faults laws.only_now in let values = values_of g.T.Mrdt.meaning g.T.Forms.forms g.A.Address.address in
    let core = c.self.inside.core in let sessions = c.self.inside.sessions.entries in let old = c.args.self.now in
    let branch = c.args.branch.now in let session = c.args.session.now in
    let refusal = machine.UnknownBranch branch in
    let is = full-so values core sessions old c.self.view_is (machine.Look branch) (machine.Refused refusal) refl (rw c.in-Err-UnknownBranch.field-0-is at c.in-Err-UnknownBranch.ensures.refused).1 in
    stays_so m values (look_telling values session branch) old old c.args.out.now.items c.put_unknown.new.out.items (refusal_text branch refusal ++ line_end) c.put_unknown.result c.replied-in-Err-UnknownBranch.result c.replied-in-Err-UnknownBranch.ensures.ok c.replied-in-Err-UnknownBranch.ensures.err
    c.requires refl (look_refused m values old session branch refusal is) c.put_unknown.ensures.ok c.put_unknown.ensures.err

pub returns-in-Err-Memory : goal.returns-in-Err-Memory
returns-in-Err-Memory g c =
    let d = g.D.Disk in let laws = g.met.D.Disk in
    let m = members d.may_leave d.moment d.left_since d.faults laws.only_now in let values = values_of g.T.Mrdt.meaning g.T.Forms.forms g.A.Address.address in
    let core = c.self.inside.core in let sessions = c.self.inside.sessions.entries in let old = c.args.self.now in
    nothing_done m values (look_telling values c.args.session.now c.args.branch.now) old old c.args.out.now.items _ refl c.requires refl
