use Rattle.std.proofs.Common.{◌≡◌, ◌++◌, ◌∷◌, [], ◌∙◌, sym, ap, subst, refl, List, ℕ, ◌<◌, length, Some, false, Bool}
use Rattle.std.specs.Prelude.{Result, Ok, Err, OnOk, OnErr}
use mathlib.Core.List.{IsPrefix}
use Rattle.mrdt_model.specs.declared.errors.Memory.{Memory}
use Rattle.mrdt_model.specs.Spelled.{AppendsPart}
use Rattle.branch_names.specs.declared.terms.Terms.{Terms}
use Rattle.branch_names.specs.Heads.{name_of, head_of, is_dropped}
use Rattle.branch_history.specs.History.{store_of}
use Rattle.branch_history.specs.Steps as machine
use Rattle.store_seen.specs.Turns.{step_of, move_of, outcome_of}
use Rattle.store_core.specs.Views.{held}
use Rattle.branch_print.specs.Texts.{refusal_text, line_end}
use Rattle.branch_engine.proofs.Values.{Values, values_of}
use Rattle.branch_engine.specs.declared.refused.TellRefused.{TellRefused}
use Rattle.branch_engine.specs.declared.refused.TellRefused.TheVariants as refusal
use Rattle.branch_engine.specs.Play.{sight_after}
use Rattle.branch_engine.specs.Engines.{EngineView, Store, Seen, AreLooksAt, SeesHead, KeepsLooks, kind_text}
use Rattle.branch_engine.proofs.Played.{branch-stays, looks-grow, whole-so}
use Rattle.branch_engine.proofs.Landings.{sight_at, lands-sees}
use Rattle.branch_engine.proofs.Does.{Members, members, DoesSo, nothing_done, part_written, stays_so, sees_so, does-fault, short-of}
use Rattle.branch_engine.proofs.Replies.{view_of, turn_telling, Refuses, turn_takes, leaves_either, moves_too, works_moved, turn_stays, landed, landed_half}
use Rattle.branch_engine.proofs.engine.Engine.move_on.Goals as goal

pub invariant_of-self : goal.invariant_of-self
invariant_of-self g c =
    let made = c.args.prepared in
    let history = c.in-Ok.ensures.landed.history in
    looks-grow (held c.self.inside.core) (held c.land.new.self) c.self.inside.sessions.entries (move_of made.seen.branch made.work ∷ []) c.self.invariant
    (ap (λ (k : Store g.row.T-Op.Denot g.row.T-Reply.Denot g.row.D.Denot). k.terms) history) (ap (λ (k : Store g.row.T-Op.Denot g.row.T-Reply.Denot g.row.D.Denot). k.history) history)

pub invariant_of-self-in-Ok : goal.invariant_of-self-in-Ok
invariant_of-self-in-Ok g c =
    let made = c.args.prepared in
    let history = c.in-Ok.ensures.landed.history in
    looks-grow (held c.self.inside.core) (held c.land.new.self) c.self.inside.sessions.entries (move_of made.seen.branch made.work ∷ []) c.self.invariant
    (ap (λ (k : Store g.row.T-Op.Denot g.row.T-Reply.Denot g.row.D.Denot). k.terms) history) (ap (λ (k : Store g.row.T-Op.Denot g.row.T-Reply.Denot g.row.D.Denot). k.history) history)

pub invariant_of-self-in-Err-Dropped : goal.invariant_of-self-in-Err-Dropped
invariant_of-self-in-Err-Dropped g c =
    subst (λ (k : Store g.row.T-Op.Denot g.row.T-Reply.Denot g.row.D.Denot). AreLooksAt (held k) c.self.inside.sessions.entries) (sym (rw c.in-Err-Dropped.field-0-is at c.in-Err-Dropped.ensures.kept)) c.self.invariant

pub invariant_of-self-in-Err-Stale : goal.invariant_of-self-in-Err-Stale
invariant_of-self-in-Err-Stale g c =
    subst (λ (k : Store g.row.T-Op.Denot g.row.T-Reply.Denot g.row.D.Denot). AreLooksAt (held k) c.self.inside.sessions.entries) (sym (rw c.in-Err-Stale.field-0-is at c.in-Err-Stale.ensures.kept)) c.self.invariant

pub invariant_of-self-in-Err-FullCommits : goal.invariant_of-self-in-Err-FullCommits
invariant_of-self-in-Err-FullCommits g c =
    subst (λ (k : Store g.row.T-Op.Denot g.row.T-Reply.Denot g.row.D.Denot). AreLooksAt (held k) c.self.inside.sessions.entries) (sym (rw c.in-Err-FullCommits.field-0-is at c.in-Err-FullCommits.ensures.kept)) c.self.invariant

pub invariant_of-self-in-Err-FullMoves : goal.invariant_of-self-in-Err-FullMoves
invariant_of-self-in-Err-FullMoves g c =
    subst (λ (k : Store g.row.T-Op.Denot g.row.T-Reply.Denot g.row.D.Denot). AreLooksAt (held k) c.self.inside.sessions.entries) (sym (rw c.in-Err-FullMoves.field-0-is at c.in-Err-FullMoves.ensures.kept)) c.self.invariant

pub invariant_of-self-in-Err-Collision : goal.invariant_of-self-in-Err-Collision
invariant_of-self-in-Err-Collision g c =
    subst (λ (k : Store g.row.T-Op.Denot g.row.T-Reply.Denot g.row.D.Denot). AreLooksAt (held k) c.self.inside.sessions.entries) (sym (rw c.in-Err-Collision.field-0-is at c.in-Err-Collision.ensures.kept)) c.self.invariant

pub invariant_of-self-in-Err-DiskFault : goal.invariant_of-self-in-Err-DiskFault
invariant_of-self-in-Err-DiskFault g c =
    subst (λ (k : Store g.row.T-Op.Denot g.row.T-Reply.Denot g.row.D.Denot). AreLooksAt (held k) c.self.inside.sessions.entries) (sym (rw c.in-Err-DiskFault.field-0-is at c.in-Err-DiskFault.ensures.kept)) c.self.invariant

pub invariant_of-self-in-Err-Memory : goal.invariant_of-self-in-Err-Memory
invariant_of-self-in-Err-Memory g c =
    subst (λ (k : Store g.row.T-Op.Denot g.row.T-Reply.Denot g.row.D.Denot). AreLooksAt (held k) c.self.inside.sessions.entries) (sym (rw c.in-Err-Memory.field-0-is at c.in-Err-Memory.ensures.kept)) c.self.invariant

pub sees_head-requires-clause-kept : goal.sees_head-requires-clause-kept
sees_head-requires-clause-kept g c = λ _ _.
    let core = c.self.inside.core in let made = c.args.prepared in let branch = c.args.branch in let k = c.land.new.self in
    let does = c.in-Ok.ensures.landed in
    let here = subst (λ (v : EngineView g.row.T-Op.Denot g.row.T-Reply.Denot g.row.D.Denot). branch < length (store_of v.core.terms.origin v.core.history).branches) (sym c.self.view_is) c.requires.within in
    let there = subst (λ b. b < length (store_of core.terms.origin core.history).branches) (sym c.requires.branch) here in
    let sees = lands-sees (values_of g.T.Mrdt.meaning g.T.Forms.forms g.A.Address.address) core k made.seen made.work c.in-Ok.landed.kind c.in-Ok.landed.moves there does in
    let grown : IsPrefix core.history k.history = (move_of made.seen.branch made.work ∷ [], sym (ap (λ (s : Store g.row.T-Op.Denot g.row.T-Reply.Denot g.row.D.Denot). s.history) does.history)) in (
      subst (λ (l : Terms). branch < length (store_of l.origin k.history).branches) (sym (ap (λ (s : Store g.row.T-Op.Denot g.row.T-Reply.Denot g.row.D.Denot). s.terms) does.history)) (branch-stays core.terms.origin core.history k.history branch grown here),
      subst (λ b. is_dropped (store_of k.terms.origin k.history).branches b ≡ false) c.requires.branch sees.1,
    )

pub stale-requires-clause-within : goal.stale-requires-clause-within
stale-requires-clause-within g c = λ _ _.
    let branch = c.args.branch in
    let here = subst (λ (v : EngineView g.row.T-Op.Denot g.row.T-Reply.Denot g.row.D.Denot). branch < length (store_of v.core.terms.origin v.core.history).branches) (sym c.self.view_is) c.requires.within in
    subst (λ (k : Store g.row.T-Op.Denot g.row.T-Reply.Denot g.row.D.Denot). branch < length (store_of k.terms.origin k.history).branches) (sym (rw c.in-Err-Stale.field-0-is at c.in-Err-Stale.ensures.kept)) here

-- a landing that is refused, of an engine whose view this is
refused : {S O R Q A D : Type 0} (m : Members D) (values : Values S O R Q A) (old : EngineView O R D) (core new_core : Store O R D) (sessions : List (List ℕ × Seen O R)) (out out' session : List ℕ) (takes : Bool) (branch : ℕ) (step : machine.Step O Q)
    (w : Result (Unit {0}) Memory) (r : Result (Unit {0}) TellRefused) → OnOk w (r ≡ Ok tt) → OnErr w (r ≡ Err refusal.Memory) → (why : machine.Refusal) (words : List ℕ)
    → view_of core sessions ≡ old → new_core ≡ core → core.failed ≡ false → Refuses m values (view_of core sessions) step why
    → OnOk w (out' ≡ out ++ (words ++ line_end)) → OnErr w (AppendsPart out out' (words ++ line_end))
    → words ≡ refusal_text (name_of (store_of core.terms.origin core.history).branches branch) why
    → DoesSo m values (turn_telling values takes session branch step) old (view_of new_core sessions) out out' r
refused {S} {O} {R} {Q} {A} {D} m values old core new_core sessions out out' session takes branch step w r through short why words view kept worked is ok err text =
    subst (λ (v : EngineView O R D). DoesSo m values (turn_telling values takes session branch step) v (view_of new_core sessions) out out' r) view
    (stays_so m values (turn_telling values takes session branch step) (view_of core sessions) (view_of new_core sessions) out out' (refusal_text (name_of (store_of core.terms.origin core.history).branches branch) why ++ line_end) w r through short worked
    (ap (λ (k : Store O R D). view_of k sessions) kept)
    (turn_stays m values (view_of core sessions) takes session branch step (machine.Refused why) is refl)
    (subst (λ t. OnOk w (out' ≡ out ++ (t ++ line_end))) text ok) (subst (λ t. OnErr w (AppendsPart out out' (t ++ line_end))) text err))

pub returns-in_err-put_kind-in-Ok : goal.returns-in_err-put_kind-in-Ok
returns-in_err-put_kind-in-Ok g c =
    let d = g.D.Disk in let laws = g.met.D.Disk in
    let m = members d.may_leave d.moment d.left_since d.faults laws.only_now in let values = values_of g.T.Mrdt.meaning g.T.Forms.forms g.A.Address.address in
    let core = c.self.inside.core in let sessions = c.self.inside.sessions.entries in let old = c.args.self.now in
    let session = c.args.session.now in let branch = c.args.branch in let made = c.args.prepared in let out = c.args.out.now.items in
    let step = step_of {Q = g.row.T-Query.Denot} made.seen made.work in let k = c.land.new.self in
    let here = view_of core sessions in let telling = turn_telling values c.args.takes session branch step in
    let out' = c.put_kind.new.out.items in let kind = c.in-Ok.landed.kind in let moves = c.in-Ok.landed.moves in
    let made_move = move_of made.seen.branch made.work in let does = c.in-Ok.ensures.landed in
    let whole = whole-so d.may_leave values c.reads_what_stands.ensures k c.moves-in-Ok.ensures.valid (c.moves-in-Ok.ensures.stands (ap (λ (s : Store g.row.T-Op.Denot g.row.T-Reply.Denot g.row.D.Denot). s.failed) does.history ∙ does.worked)) in
    let same = c.in-Ok.ensures.cause.others (λ e. absurd (cc)) in
    subst (λ (v : EngineView g.row.T-Op.Denot g.row.T-Reply.Denot g.row.D.Denot). DoesSo m values telling v (view_of k sessions) out out' c.from_residual.result) c.self.view_is
    (part_written m values telling here (view_of k sessions) out out' (kind_text g.T.Forms.forms.reply c.args.takes kind ++ line_end) c.from_residual.result (short-of c.from_residual.result c.from_residual.ensures.1)
    (works_moved m values here telling step (turn_takes m values here c.args.takes session branch step) c.reads_what_stands.ensures k made_move _ moves does c.moves.ensures.valid c.moves-in-Ok.ensures.valid (c.in-Ok.ensures.any_moment does.worked) same (view_of k sessions) refl)
    (landed_half m values here c.args.takes session branch step k made_move kind moves does whole (view_of k sessions) refl (λ name. refl))
    c.in_err-put_kind-in-Ok.ensures.err)

pub returns-in-Ok : goal.returns-in-Ok
returns-in-Ok g c =
    let d = g.D.Disk in let laws = g.met.D.Disk in
    let m = members d.may_leave d.moment d.left_since d.faults laws.only_now in let values = values_of g.T.Mrdt.meaning g.T.Forms.forms g.A.Address.address in
    let core = c.self.inside.core in let sessions = c.self.inside.sessions.entries in let old = c.args.self.now in
    let session = c.args.session.now in let branch = c.args.branch in let made = c.args.prepared in let out = c.args.out.now.items in
    let step = step_of {Q = g.row.T-Query.Denot} made.seen made.work in let k = c.land.new.self in
    let here = view_of core sessions in let telling = turn_telling values c.args.takes session branch step in
    let out' = c.put_kind.new.out.items in let kind = c.in-Ok.landed.kind in let moves = c.in-Ok.landed.moves in
    let made_move = move_of made.seen.branch made.work in let does = c.in-Ok.ensures.landed in
    let whole = whole-so d.may_leave values c.reads_what_stands.ensures k c.moves-in-Ok.ensures.valid (c.moves-in-Ok.ensures.stands (ap (λ (s : Store g.row.T-Op.Denot g.row.T-Reply.Denot g.row.D.Denot). s.failed) does.history ∙ does.worked)) in
    let same = c.in-Ok.ensures.cause.others (λ e. absurd (cc)) in
    let new = c.sees_head.new.self in
    let within = subst (λ (v : EngineView g.row.T-Op.Denot g.row.T-Reply.Denot g.row.D.Denot). branch < length (store_of v.core.terms.origin v.core.history).branches) (sym c.self.view_is) c.requires.within in
    let there = subst (λ b. b < length (store_of core.terms.origin core.history).branches) (sym c.requires.branch) within in
    let sees = lands-sees values core k made.seen made.work kind moves there does in
    let at_branch = subst (λ b. sight_after {A = g.row.T-Answer.Denot} b (outcome_of kind) ≡ Some (sight_at b (head_of (store_of k.terms.origin k.history).branches b))) c.requires.branch sees.0 in
    subst (λ (v : EngineView g.row.T-Op.Denot g.row.T-Reply.Denot g.row.D.Denot). DoesSo m values telling v new out out' c.replied.result) c.self.view_is
    (sees_so m values telling here new out out' (kind_text g.T.Forms.forms.reply c.args.takes kind ++ line_end) c.sees_head.result c.replied.result c.replied.ensures.ok c.replied.ensures.err
    (works_moved m values here telling step (turn_takes m values here c.args.takes session branch step) c.reads_what_stands.ensures k made_move _ moves does c.moves.ensures.valid c.moves-in-Ok.ensures.valid (c.in-Ok.ensures.any_moment does.worked) same new c.sees_head.ensures.core)
    (SeesHead (view_of k sessions) new session branch) (KeepsLooks sessions new.sessions)
    (λ s. landed m values here c.args.takes session branch step k made_move kind moves does whole new s.0
    (at_branch ∙ ap (λ h. Some (sight_at branch h)) (sym s.2.head_is) ∙ ap (λ b. Some (sight_at b s.0.head)) (sym s.2.branch_is)) c.sees_head.ensures.core s.1)
    (landed_half m values here c.args.takes session branch step k made_move kind moves does whole new c.sees_head.ensures.core)
    c.sees_head.ensures.sees c.sees_head.ensures.kept c.in_ok-put_kind-in-Ok.ensures.ok)

pub returns-in-Err-Dropped : goal.returns-in-Err-Dropped
returns-in-Err-Dropped g c =
    let d = g.D.Disk in let laws = g.met.D.Disk in
    let m = members d.may_leave d.moment d.left_since d.faults laws.only_now in let values = values_of g.T.Mrdt.meaning g.T.Forms.forms g.A.Address.address in
    let core = c.self.inside.core in let sessions = c.self.inside.sessions.entries in let old = c.args.self.now in
    let session = c.args.session.now in let branch = c.args.branch in let made = c.args.prepared in let out = c.args.out.now.items in
    let step = step_of {Q = g.row.T-Query.Denot} made.seen made.work in let k = c.land.new.self in
    let why = machine.Dropped c.in-Err-Dropped.branch in
    let is = rw c.in-Err-Dropped.field-0-is at c.in-Err-Dropped.ensures.refused in
    refused m values old core k sessions out c.put_dropped.new.out.items session c.args.takes branch step c.put_dropped.result c.replied-in-Err-Dropped.result c.replied-in-Err-Dropped.ensures.ok c.replied-in-Err-Dropped.ensures.err why (refusal_text [] why)
    c.self.view_is (rw c.in-Err-Dropped.field-0-is at c.in-Err-Dropped.ensures.kept) is.0 is.1 c.put_dropped.ensures.ok c.put_dropped.ensures.err refl

pub returns-in-Err-Stale : goal.returns-in-Err-Stale
returns-in-Err-Stale g c =
    let d = g.D.Disk in let laws = g.met.D.Disk in
    let m = members d.may_leave d.moment d.left_since d.faults laws.only_now in let values = values_of g.T.Mrdt.meaning g.T.Forms.forms g.A.Address.address in
    let core = c.self.inside.core in let sessions = c.self.inside.sessions.entries in let old = c.args.self.now in
    let session = c.args.session.now in let branch = c.args.branch in let made = c.args.prepared in let out = c.args.out.now.items in
    let step = step_of {Q = g.row.T-Query.Denot} made.seen made.work in let k = c.land.new.self in
    let why = machine.Stale c.in-Err-Stale.newest in
    let is = (rw c.in-Err-Stale.field-0-is at c.in-Err-Stale.ensures.refused).0 in let kept = rw c.in-Err-Stale.field-0-is at c.in-Err-Stale.ensures.kept in
    let name = λ (s : Store g.row.T-Op.Denot g.row.T-Reply.Denot g.row.D.Denot). refusal_text (name_of (store_of s.terms.origin s.history).branches branch) why in
    refused m values old core k sessions out c.stale.new.out.items session c.args.takes branch step c.stale.result c.replied-in-Err-Stale.result c.replied-in-Err-Stale.ensures.ok c.replied-in-Err-Stale.ensures.err why (name k)
    c.self.view_is kept is.0 is.1 c.stale.ensures.ok c.stale.ensures.err (ap name kept)

pub returns-in-Err-FullCommits : goal.returns-in-Err-FullCommits
returns-in-Err-FullCommits g c =
    let d = g.D.Disk in let laws = g.met.D.Disk in
    let m = members d.may_leave d.moment d.left_since d.faults laws.only_now in let values = values_of g.T.Mrdt.meaning g.T.Forms.forms g.A.Address.address in
    let core = c.self.inside.core in let sessions = c.self.inside.sessions.entries in let old = c.args.self.now in
    let session = c.args.session.now in let branch = c.args.branch in let made = c.args.prepared in let out = c.args.out.now.items in
    let step = step_of {Q = g.row.T-Query.Denot} made.seen made.work in let k = c.land.new.self in
    let why = machine.FullCommits c.in-Err-FullCommits.count in
    let is = rw c.in-Err-FullCommits.field-0-is at c.in-Err-FullCommits.ensures.refused in
    refused m values old core k sessions out c.put_full_commits.new.out.items session c.args.takes branch step c.put_full_commits.result c.replied-in-Err-FullCommits.result c.replied-in-Err-FullCommits.ensures.ok c.replied-in-Err-FullCommits.ensures.err why (refusal_text [] why)
    c.self.view_is (rw c.in-Err-FullCommits.field-0-is at c.in-Err-FullCommits.ensures.kept) is.0 is.1 c.put_full_commits.ensures.ok c.put_full_commits.ensures.err refl

pub returns-in-Err-FullMoves : goal.returns-in-Err-FullMoves
returns-in-Err-FullMoves g c =
    let d = g.D.Disk in let laws = g.met.D.Disk in
    let m = members d.may_leave d.moment d.left_since d.faults laws.only_now in let values = values_of g.T.Mrdt.meaning g.T.Forms.forms g.A.Address.address in
    let core = c.self.inside.core in let sessions = c.self.inside.sessions.entries in let old = c.args.self.now in
    let session = c.args.session.now in let branch = c.args.branch in let made = c.args.prepared in let out = c.args.out.now.items in
    let step = step_of {Q = g.row.T-Query.Denot} made.seen made.work in let k = c.land.new.self in
    let why = machine.FullMoves c.in-Err-FullMoves.count in
    let is = rw c.in-Err-FullMoves.field-0-is at c.in-Err-FullMoves.ensures.refused in
    refused m values old core k sessions out c.put_full_moves.new.out.items session c.args.takes branch step c.put_full_moves.result c.replied-in-Err-FullMoves.result c.replied-in-Err-FullMoves.ensures.ok c.replied-in-Err-FullMoves.ensures.err why (refusal_text [] why)
    c.self.view_is (rw c.in-Err-FullMoves.field-0-is at c.in-Err-FullMoves.ensures.kept) is.0 is.1 c.put_full_moves.ensures.ok c.put_full_moves.ensures.err refl

pub returns-in-Err-Collision : goal.returns-in-Err-Collision
returns-in-Err-Collision g c =
    let d = g.D.Disk in let laws = g.met.D.Disk in
    let m = members d.may_leave d.moment d.left_since d.faults laws.only_now in let values = values_of g.T.Mrdt.meaning g.T.Forms.forms g.A.Address.address in
    let core = c.self.inside.core in let sessions = c.self.inside.sessions.entries in let old = c.args.self.now in
    let session = c.args.session.now in let branch = c.args.branch in let made = c.args.prepared in let out = c.args.out.now.items in
    let step = step_of {Q = g.row.T-Query.Denot} made.seen made.work in let k = c.land.new.self in
    let why = machine.Collision c.in-Err-Collision.address c.in-Err-Collision.field-0-1 c.in-Err-Collision.field-0-2 in
    let is = rw c.in-Err-Collision.field-0-is at c.in-Err-Collision.ensures.refused in
    refused m values old core k sessions out c.put_collision.new.out.items session c.args.takes branch step c.put_collision.result c.replied-in-Err-Collision.result c.replied-in-Err-Collision.ensures.ok c.replied-in-Err-Collision.ensures.err why (refusal_text [] why)
    c.self.view_is (rw c.in-Err-Collision.field-0-is at c.in-Err-Collision.ensures.kept) is.0 is.1 c.put_collision.ensures.ok c.put_collision.ensures.err refl

pub returns-in-Err-DiskFault : goal.returns-in-Err-DiskFault
returns-in-Err-DiskFault g c =
    let d = g.D.Disk in let laws = g.met.D.Disk in
    let m = members d.may_leave d.moment d.left_since d.faults laws.only_now in let values = values_of g.T.Mrdt.meaning g.T.Forms.forms g.A.Address.address in
    let core = c.self.inside.core in let sessions = c.self.inside.sessions.entries in let old = c.args.self.now in
    let session = c.args.session.now in let branch = c.args.branch in let made = c.args.prepared in let out = c.args.out.now.items in
    let step = step_of {Q = g.row.T-Query.Denot} made.seen made.work in let k = c.land.new.self in
    let here = view_of core sessions in let telling = turn_telling values c.args.takes session branch step in
    let is = rw c.in-Err-DiskFault.field-0-is at c.in-Err-DiskFault.ensures.refused in
    let fault = ap Err c.in-Err-DiskFault.field-0-is in
    let takes = turn_takes m values here c.args.takes session branch step in
    subst (λ (v : EngineView g.row.T-Op.Denot g.row.T-Reply.Denot g.row.D.Denot). DoesSo m values telling v (view_of k sessions) out out (Err refusal.DiskFault)) c.self.view_is
    (does-fault m values telling here (view_of k sessions) out (rw c.in-Err-DiskFault.field-0-is at c.in-Err-DiskFault.ensures.kept) (λ name. refl)
    (moves_too m values here telling step takes (move_of made.seen.branch made.work) is.1)
    (leaves_either m values here telling step takes c.reads_what_stands.ensures (view_of k sessions) c.moves.ensures.valid (c.in-Err-DiskFault.ensures.fault_valid fault) (c.in-Err-DiskFault.ensures.any_moment is.0))
    c.in-Err-DiskFault.ensures.cause.later (c.in-Err-DiskFault.ensures.cause.failed fault))

pub returns : goal.returns
returns g c =
    let d = g.D.Disk in let laws = g.met.D.Disk in
    let m = members d.may_leave d.moment d.left_since d.faults laws.only_now in let values = values_of g.T.Mrdt.meaning g.T.Forms.forms g.A.Address.address in
    let core = c.self.inside.core in let sessions = c.self.inside.sessions.entries in let old = c.args.self.now in
    let session = c.args.session.now in let branch = c.args.branch in let made = c.args.prepared in let out = c.args.out.now.items in
    let step = step_of {Q = g.row.T-Query.Denot} made.seen made.work in let k = c.land.new.self in
    nothing_done m values (turn_telling values c.args.takes session branch step) old (view_of k sessions) out _ refl c.requires.working
    (ap (λ (s : Store g.row.T-Op.Denot g.row.T-Reply.Denot g.row.D.Denot). view_of s sessions) (rw c.in-Err-Memory.field-0-is at c.in-Err-Memory.ensures.kept) ∙ c.self.view_is)
