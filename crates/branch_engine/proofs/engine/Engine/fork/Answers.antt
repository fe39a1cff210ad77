use Rattle.std.proofs.Common.{◌≡◌, ◌++◌, ◌∙◌, sym, ap, subst, refl, List, ℕ, false}
use Rattle.std.specs.Prelude.{Result, Ok, Err, OnOk, OnErr}
use Rattle.mrdt_model.specs.declared.errors.Memory.{Memory}
use Rattle.mrdt_model.specs.Spelled.{AppendsPart}
use Rattle.branch_history.specs.Steps as machine
use Rattle.store_core.specs.Views.{held}
use Rattle.branch_print.specs.Texts.{refusal_text, forked_text, line_end}
use Rattle.branch_engine.proofs.Values.{Values, values_of}
use Rattle.branch_engine.specs.declared.refused.TellRefused.{TellRefused}
use Rattle.branch_engine.specs.declared.refused.TellRefused.TheVariants as refusal
use Rattle.branch_engine.specs.Engines.{EngineView, Store, Seen, AreLooksAt}
use Rattle.branch_engine.proofs.Played.{looks-grow, whole-so}
use Rattle.branch_engine.proofs.Does.{Members, members, DoesSo, nothing_done, ends_so, stays_so, does-fault}
use Rattle.branch_engine.proofs.Replies.{view_of, fork_telling, Refuses, fork_takes, leaves_either, moves_too, works_moved, forked, forked_half, fork_refused}
use Rattle.branch_engine.proofs.engine.Engine.fork.Goals as goal

pub invariant_of-self : goal.invariant_of-self
invariant_of-self g c =
    subst (λ (k : Store g.row.T-Op.Denot g.row.T-Reply.Denot g.row.D.Denot). AreLooksAt (held k) c.self.inside.sessions.entries) (sym (rw c.in-Err-UnknownBranch.field-0-is at c.in-Err-UnknownBranch.ensures.kept)) c.self.invariant

pub invariant_of-self-2 : goal.invariant_of-self-2
invariant_of-self-2 g c =
    let history = c.in-Ok.ensures.forked.1.history in
    looks-grow (held c.self.inside.core) (held c.fork.new.self) c.self.inside.sessions.entries _ c.self.invariant
    (ap (λ (k : Store g.row.T-Op.Denot g.row.T-Reply.Denot g.row.D.Denot). k.terms) history) (ap (λ (k : Store g.row.T-Op.Denot g.row.T-Reply.Denot g.row.D.Denot). k.history) history)

-- a refused fork, of an engine whose view this is
refused : {S O R Q A D : Type 0} (m : Members D) (values : Values S O R Q A) (old : EngineView O R D) (core new_core : Store O R D) (sessions : List (List ℕ × Seen O R)) (out out' new from : List ℕ) (w : Result (Unit {0}) Memory) (r : Result (Unit {0}) TellRefused)
    → OnOk w (r ≡ Ok tt) → OnErr w (r ≡ Err refusal.Memory) → (why : machine.Refusal) → view_of core sessions ≡ old → new_core ≡ core → core.failed ≡ false → Refuses m values (view_of core sessions) (machine.Fork new from) why
    → OnOk w (out' ≡ out ++ (refusal_text new why ++ line_end)) → OnErr w (AppendsPart out out' (refusal_text new why ++ line_end))
    → DoesSo m values (fork_telling values new from) old (view_of new_core sessions) out out' r
refused {S} {O} {R} {Q} {A} {D} m values old core new_core sessions out out' new from w r through short why view kept worked is ok err =
    subst (λ (v : EngineView O R D). DoesSo m values (fork_telling values new from) v (view_of new_core sessions) out out' r) view
    (stays_so m values (fork_telling values new from) (view_of core sessions) (view_of new_core sessions) out out' (refusal_text new why ++ line_end) w r through short worked (ap (λ (k : Store O R D). view_of k sessions) kept)
    (fork_refused m values (view_of core sessions) new from why is) ok err)

pub returns-in-Err-UnknownBranch : goal.returns-in-Err-UnknownBranch
returns-in-Err-UnknownBranch g c =
    let d = g.D.Disk in let laws = g.met.D.Disk in
    let m = members d.may_leave d.moment d.left_since d.faults laws.only_now in let values = values_of g.T.Mrdt.meaning g.T.Forms.forms g.A.Address.address in
    let core = c.self.inside.core in let sessions = c.self.inside.sessions.entries in let old = c.args.self.now in
    let why = machine.UnknownBranch c.args.from.now in
    let is = (rw c.in-Err-UnknownBranch.field-0-is at c.in-Err-UnknownBranch.ensures.refused).1 in
    refused m values old core c.fork.new.self sessions c.args.out.now.items c.put_unknown.new.out.items c.args.new.now c.args.from.now c.put_unknown.result c.replied.result c.replied.ensures.ok c.replied.ensures.err why
    c.self.view_is (rw c.in-Err-UnknownBranch.field-0-is at c.in-Err-UnknownBranch.ensures.kept) is.0 is.1 c.put_unknown.ensures.ok c.put_unknown.ensures.err

pub returns-in-Err-NameTaken : goal.returns-in-Err-NameTaken
returns-in-Err-NameTaken g c =
    let d = g.D.Disk in let laws = g.met.D.Disk in
    let m = members d.may_leave d.moment d.left_since d.faults laws.only_now in let values = values_of g.T.Mrdt.meaning g.T.Forms.forms g.A.Address.address in
    let core = c.self.inside.core in let sessions = c.self.inside.sessions.entries in let old = c.args.self.now in
    let why = machine.NameTaken c.in-Err-NameTaken.number in
    let is = (rw c.in-Err-NameTaken.field-0-is at c.in-Err-NameTaken.ensures.refused) in
    refused m values old core c.fork.new.self sessions c.args.out.now.items c.put_taken.new.out.items c.args.new.now c.args.from.now c.put_taken.result c.replied-in-Err-NameTaken.result c.replied-in-Err-NameTaken.ensures.ok c.replied-in-Err-NameTaken.ensures.err why
    c.self.view_is (rw c.in-Err-NameTaken.field-0-is at c.in-Err-NameTaken.ensures.kept) is.0 is.1 c.put_taken.ensures.ok c.put_taken.ensures.err

pub returns-in-Err-FullBranches : goal.returns-in-Err-FullBranches
returns-in-Err-FullBranches g c =
    let d = g.D.Disk in let laws = g.met.D.Disk in
    let m = members d.may_leave d.moment d.left_since d.faults laws.only_now in let values = values_of g.T.Mrdt.meaning g.T.Forms.forms g.A.Address.address in
    let core = c.self.inside.core in let sessions = c.self.inside.sessions.entries in let old = c.args.self.now in
    let why = machine.FullBranches c.in-Err-FullBranches.count in
    let is = (rw c.in-Err-FullBranches.field-0-is at c.in-Err-FullBranches.ensures.refused) in
    refused m values old core c.fork.new.self sessions c.args.out.now.items c.put_full_branches.new.out.items c.args.new.now c.args.from.now c.put_full_branches.result c.replied-in-Err-FullBranches.result c.replied-in-Err-FullBranches.ensures.ok c.replied-in-Err-FullBranches.ensures.err why
    c.self.view_is (rw c.in-Err-FullBranches.field-0-is at c.in-Err-FullBranches.ensures.kept) is.0 is.1 c.put_full_branches.ensures.ok c.put_full_branches.ensures.err

pub returns-in-Err-FullMoves : goal.returns-in-Err-FullMoves
returns-in-Err-FullMoves g c =
    let d = g.D.Disk in let laws = g.met.D.Disk in
    let m = members d.may_leave d.moment d.left_since d.faults laws.only_now in let values = values_of g.T.Mrdt.meaning g.T.Forms.forms g.A.Address.address in
    let core = c.self.inside.core in let sessions = c.self.inside.sessions.entries in let old = c.args.self.now in
    let why = machine.FullMoves c.in-Err-FullMoves.count in
    let is = (rw c.in-Err-FullMoves.field-0-is at c.in-Err-FullMoves.ensures.refused) in
    refused m values old core c.fork.new.self sessions c.args.out.now.items c.put_full_moves.new.out.items c.args.new.now c.args.from.now c.put_full_moves.result c.replied-in-Err-FullMoves.result c.replied-in-Err-FullMoves.ensures.ok c.replied-in-Err-FullMoves.ensures.err why
    c.self.view_is (rw c.in-Err-FullMoves.field-0-is at c.in-Err-FullMoves.ensures.kept) is.0 is.1 c.put_full_moves.ensures.ok c.put_full_moves.ensures.err

pub returns-in-Err-DiskFault : goal.returns-in-Err-DiskFault
returns-in-Err-DiskFault g c =
    let d = g.D.Disk in let laws = g.met.D.Disk in
    let m = members d.may_leave d.moment d.left_since d.faults laws.only_now in let values = values_of g.T.Mrdt.meaning g.T.Forms.forms g.A.Address.address in
    let core = c.self.inside.core in let sessions = c.self.inside.sessions.entries in let old = c.args.self.now in
    let new = c.args.new.now in let from = c.args.from.now in let k = c.fork.new.self in let here = view_of core sessions in
    let telling = fork_telling values new from in let step = machine.Fork new from in
    let is = rw c.in-Err-DiskFault.field-0-is at c.in-Err-DiskFault.ensures.refused in
    let fault = ap Err c.in-Err-DiskFault.field-0-is in
    let takes = fork_takes m values here new from in
    subst (λ (v : EngineView g.row.T-Op.Denot g.row.T-Reply.Denot g.row.D.Denot). DoesSo m values telling v (view_of k sessions) c.args.out.now.items c.args.out.now.items (Err refusal.DiskFault)) c.self.view_is
    (does-fault m values telling here (view_of k sessions) c.args.out.now.items (rw c.in-Err-DiskFault.field-0-is at c.in-Err-DiskFault.ensures.kept) (λ name. refl)
    (moves_too m values here telling step takes is.1.0 is.1.1)
    (leaves_either m values here telling step takes c.reads_what_stands.ensures (view_of k sessions) c.moves.ensures.valid (c.in-Err-DiskFault.ensures.fault_valid fault) (c.in-Err-DiskFault.ensures.any_moment is.0))
    c.in-Err-DiskFault.ensures.cause.later (c.in-Err-DiskFault.ensures.cause.failed fault))

pub returns-in-Err-Memory : goal.returns-in-Err-Memory
returns-in-Err-Memory g c =
    let d = g.D.Disk in let laws = g.met.D.Disk in
    let m = members d.may_leave d.moment d.left_since d.faults laws.only_now in let values = values_of g.T.Mrdt.meaning g.T.Forms.forms g.A.Address.address in
    let core = c.self.inside.core in let sessions = c.self.inside.sessions.entries in let old = c.args.self.now in
    nothing_done m values (fork_telling values c.args.new.now c.args.from.now) old (view_of c.fork.new.self sessions) c.args.out.now.items _ refl c.requires
    (ap (λ (k : Store g.row.T-Op.Denot g.row.T-Reply.Denot g.row.D.Denot). view_of k sessions) (rw c.in-Err-Memory.field-0-is at c.in-Err-Memory.ensures.kept) ∙ c.self.view_is)

pub returns : goal.returns
returns g c =
    let d = g.D.Disk in let laws = g.met.D.Disk in
    let m = members d.may_leave d.moment d.left_since d.faults laws.only_now in let values = values_of g.T.Mrdt.meaning g.T.Forms.forms g.A.Address.address in
    let core = c.self.inside.core in let sessions = c.self.inside.sessions.entries in let old = c.args.self.now in
    let new = c.args.new.now in let from = c.args.from.now in let k = c.fork.new.self in let here = view_of core sessions in
    let telling = fork_telling values new from in let step = machine.Fork new from in
    let made = c.in-Ok.ensures.forked in let number = c.in-Ok.forked.number in let head = c.in-Ok.forked.head in let moves = c.in-Ok.forked.moves in
    let whole = whole-so d.may_leave values c.reads_what_stands.ensures k c.moves-2.ensures.valid (c.moves-2.ensures.stands (ap (λ (s : Store g.row.T-Op.Denot g.row.T-Reply.Denot g.row.D.Denot). s.failed) made.1.history ∙ made.1.worked)) in
    let works = works_moved m values here telling step (fork_takes m values here new from) c.reads_what_stands.ensures k _ _ moves made.1 c.moves.ensures.valid c.moves-2.ensures.valid (c.in-Ok.ensures.any_moment made.1.worked)
    (c.in-Ok.ensures.cause.others (λ e. absurd (cc))) (view_of k sessions) refl in
    subst (λ (v : EngineView g.row.T-Op.Denot g.row.T-Reply.Denot g.row.D.Denot). DoesSo m values telling v (view_of k sessions) c.args.out.now.items c.put_forked.new.out.items c.replied-2.result) c.self.view_is
    (ends_so m values telling here (view_of k sessions) c.args.out.now.items c.put_forked.new.out.items (forked_text new number head ++ line_end) c.put_forked.result c.replied-2.result c.replied-2.ensures.ok c.replied-2.ensures.err works
    (forked m values here k new from number made.0 head moves made.1 whole) (forked_half m values here k new from number made.0 head moves made.1 whole)
    c.put_forked.ensures.ok c.put_forked.ensures.err)
