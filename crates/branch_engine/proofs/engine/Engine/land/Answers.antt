use Rattle.std.proofs.Common.{◌≡◌, ◌++◌, ◌∙◌, [], refl, sym, ap, subst, Some, None, List, ℕ, ◌<◌, length, false}
use Rattle.std.specs.Prelude.{Result, Ok, Err, OnOk, OnErr}
use mathlib.Core.List.{IsPrefix}
use Rattle.mrdt_model.specs.declared.errors.Memory.{Memory}
use Rattle.mrdt_model.specs.Spelled.{AppendsPart}
use Rattle.branch_names.specs.declared.terms.Terms.{Terms}
use Rattle.branch_names.specs.Heads.{name_of}
use Rattle.branch_history.specs.History.{store_of}
use Rattle.branch_history.specs.Steps as machine
use Rattle.branch_history.specs.Machine.{turn, answers}
use Rattle.store_seen.specs.Views.{PreparedView}
use Rattle.store_seen.specs.Turns.{step_of, FromOn}
use Rattle.store_core.specs.Views.{held}
use Rattle.branch_print.specs.Texts.{refusal_text, unseen_text, no_sequences_text, line_end, takes_item}
use Rattle.branch_doc.specs.declared.plain.PlainOp.{PlainOp}
use Rattle.branch_engine.proofs.Values.{Values, values_of}
use Rattle.branch_engine.specs.declared.refused.TellRefused.{TellRefused}
use Rattle.branch_engine.specs.declared.refused.TellRefused.TheVariants as refusal
use Rattle.branch_engine.specs.Engines.{EngineView, Seen, AreLooksAt, session_named}
use Rattle.branch_engine.proofs.Played.{branch-stays}
use Rattle.branch_engine.proofs.Does.{Members, members, DoesSo, nothing_done, stays_so, does_as, short-of}
use Rattle.branch_engine.proofs.Replies.{full-so, do_telling, turn_telling, unseen, turn_stays, do_as, no_op}
use Rattle.branch_engine.proofs.engine.Engine.land.Goals as goal

-- an operation that is refused when it is prepared
refused : {S O R Q A D : Type 0} (m : Members D) (values : Values S O R Q A) (old : EngineView O R D) (out out' session : List ℕ) (op : PlainOp) (made : O) (seen : Seen O R) (w : Result (Unit {0}) Memory) (r : Result (Unit {0}) TellRefused)
    → OnOk w (r ≡ Ok tt) → OnErr w (r ≡ Err refusal.Memory) → (why : machine.Refusal) → old.core.failed ≡ false
    → AreLooksAt (held old.core) old.sessions → session_named old.sessions session ≡ Some seen → values.forms.op op ≡ Some made
    → FromOn values.meaning seen.terms seen.history (λ later. turn values.meaning seen.terms later (machine.Land seen.branch seen.head made) ≡ answers {A = A} (machine.Refused why))
    → OnOk w (out' ≡ out ++ (refusal_text [] why ++ line_end)) → OnErr w (AppendsPart out out' (refusal_text [] why ++ line_end))
    → refusal_text [] why ≡ refusal_text (name_of (store_of old.core.terms.origin old.core.history).branches seen.branch) why
    → DoesSo m values (do_telling values session op) old old out out' r
refused {S} {O} {R} {Q} {A} {D} m values old out out' session op made seen w r through short why worked looks found is later ok err text =
    let look = looks session seen found in
    let step : machine.Step O Q = machine.Land seen.branch seen.head made in
    let here = subst (λ l. turn values.meaning l old.core.history step ≡ answers {A = A} (machine.Refused why)) look.1 (later old.core.history look.0) in
    let full = full-so values old.core old.sessions old refl step (machine.Refused why) refl here in
    let words = refusal_text (name_of (store_of old.core.terms.origin old.core.history).branches seen.branch) why ++ line_end in
    does_as m values (do_telling values session op) (turn_telling values (takes_item op) session seen.branch step) old old out out' (do_as m values old session seen found op made is) r
    (stays_so m values (turn_telling values (takes_item op) session seen.branch step) old old out out' words w r through short worked refl (turn_stays m values old (takes_item op) session seen.branch step (machine.Refused why) full refl)
    (subst (λ t. OnOk w (out' ≡ out ++ (t ++ line_end))) text ok) (subst (λ t. OnErr w (AppendsPart out out' (t ++ line_end))) text err))

pub returns-in_default : goal.returns-in_default
returns-in_default g c =
    let d = g.D.Disk in let laws = g.met.D.Disk in
    let m = members d.may_leave d.moment d.left_since d.faults laws.only_now in let values = values_of g.T.Mrdt.meaning g.T.Forms.forms g.A.Address.address in
    let core = c.self.inside.core in let sessions = c.self.inside.sessions.entries in let old = c.args.self.now in
    let session = c.args.session.now in
    let none : session_named sessions session ≡ None = sym c.in_default.ensures.value in
    let here = subst (λ (v : EngineView g.row.T-Op.Denot g.row.T-Reply.Denot g.row.D.Denot). session_named v.sessions session ≡ None) c.self.view_is none in
    stays_so m values (do_telling values session c.args.op.now) old old c.args.out.now.items c.put_unseen.new.out.items (unseen_text session ++ line_end) c.put_unseen.result c.replied.result c.replied.ensures.ok c.replied.ensures.err c.requires refl
    (unseen m values old session c.args.op.now here) c.put_unseen.ensures.ok c.put_unseen.ensures.err

pub returns-in_err-op : goal.returns-in_err-op
returns-in_err-op g c =
    let d = g.D.Disk in let laws = g.met.D.Disk in
    let m = members d.may_leave d.moment d.left_since d.faults laws.only_now in let values = values_of g.T.Mrdt.meaning g.T.Forms.forms g.A.Address.address in
    let old = c.args.self.now in
    nothing_done m values (do_telling values c.args.session.now c.args.op.now) old old c.args.out.now.items c.from_residual.result (short-of c.from_residual.result c.from_residual.ensures.1) c.requires refl

pub returns-in_default-op : goal.returns-in_default-op
returns-in_default-op g c =
    let d = g.D.Disk in let laws = g.met.D.Disk in
    let m = members d.may_leave d.moment d.left_since d.faults laws.only_now in let values = values_of g.T.Mrdt.meaning g.T.Forms.forms g.A.Address.address in
    let old = c.args.self.now in let session = c.args.session.now in let seen = c.in-Some.seen.now in
    let found : session_named c.self.inside.sessions.entries session ≡ Some seen = sym c.in-Some.ensures.value in
    let there = subst (λ (v : EngineView g.row.T-Op.Denot g.row.T-Reply.Denot g.row.D.Denot). session_named v.sessions session ≡ Some seen) c.self.view_is found in
    stays_so m values (do_telling values session c.args.op.now) old old c.args.out.now.items c.put_no_sequences.new.out.items (no_sequences_text ++ line_end) c.put_no_sequences.result c.replied-in_default-op.result
    c.replied-in_default-op.ensures.ok c.replied-in_default-op.ensures.err c.requires refl
    (no_op m values old session seen there c.args.op.now (sym c.in_ok-op.ensures ∙ c.in_default-op.is)) c.put_no_sequences.ensures.ok c.put_no_sequences.ensures.err

pub returns-in-Err-Exhausted : goal.returns-in-Err-Exhausted
returns-in-Err-Exhausted g c =
    let d = g.D.Disk in let laws = g.met.D.Disk in
    let m = members d.may_leave d.moment d.left_since d.faults laws.only_now in let values = values_of g.T.Mrdt.meaning g.T.Forms.forms g.A.Address.address in
    let core = c.self.inside.core in let sessions = c.self.inside.sessions.entries in let old = c.args.self.now in
    let seen = c.in-Some.seen.now in let session = c.args.session.now in
    let found : session_named sessions session ≡ Some seen = sym c.in-Some.ensures.value in
    refused m values old c.args.out.now.items c.put_exhausted.new.out.items session c.args.op.now c.in-Some-op.op seen c.put_exhausted.result c.replied-in-Err-Exhausted.result c.replied-in-Err-Exhausted.ensures.ok c.replied-in-Err-Exhausted.ensures.err (machine.Exhausted c.in-Err-Exhausted.clock) c.requires
    (subst (λ (v : EngineView g.row.T-Op.Denot g.row.T-Reply.Denot g.row.D.Denot). AreLooksAt (held v.core) v.sessions) c.self.view_is c.self.invariant) (subst (λ (v : EngineView g.row.T-Op.Denot g.row.T-Reply.Denot g.row.D.Denot). session_named v.sessions session ≡ Some seen) c.self.view_is found)
    (sym c.in_ok-op.ensures ∙ c.in-Some-op.is) (rw c.in-Err-Exhausted.field-0-is at c.in-Err-Exhausted.ensures.refused) c.put_exhausted.ensures.ok c.put_exhausted.ensures.err refl

pub returns-in-Err-ValueTooLarge : goal.returns-in-Err-ValueTooLarge
returns-in-Err-ValueTooLarge g c =
    let d = g.D.Disk in let laws = g.met.D.Disk in
    let m = members d.may_leave d.moment d.left_since d.faults laws.only_now in let values = values_of g.T.Mrdt.meaning g.T.Forms.forms g.A.Address.address in
    let core = c.self.inside.core in let sessions = c.self.inside.sessions.entries in let old = c.args.self.now in
    let seen = c.in-Some.seen.now in let session = c.args.session.now in
    let found : session_named sessions session ≡ Some seen = sym c.in-Some.ensures.value in
    refused m values old c.args.out.now.items c.put_too_large.new.out.items session c.args.op.now c.in-Some-op.op seen c.put_too_large.result c.replied-in-Err-ValueTooLarge.result c.replied-in-Err-ValueTooLarge.ensures.ok c.replied-in-Err-ValueTooLarge.ensures.err (machine.ValueTooLarge c.in-Err-ValueTooLarge.length) c.requires
    (subst (λ (v : EngineView g.row.T-Op.Denot g.row.T-Reply.Denot g.row.D.Denot). AreLooksAt (held v.core) v.sessions) c.self.view_is c.self.invariant) (subst (λ (v : EngineView g.row.T-Op.Denot g.row.T-Reply.Denot g.row.D.Denot). session_named v.sessions session ≡ Some seen) c.self.view_is found)
    (sym c.in_ok-op.ensures ∙ c.in-Some-op.is) (rw c.in-Err-ValueTooLarge.field-0-is at c.in-Err-ValueTooLarge.ensures.refused) c.put_too_large.ensures.ok c.put_too_large.ensures.err refl

pub returns-in-Err-Memory : goal.returns-in-Err-Memory
returns-in-Err-Memory g c =
    let d = g.D.Disk in let laws = g.met.D.Disk in
    let m = members d.may_leave d.moment d.left_since d.faults laws.only_now in let values = values_of g.T.Mrdt.meaning g.T.Forms.forms g.A.Address.address in
    let core = c.self.inside.core in let sessions = c.self.inside.sessions.entries in let old = c.args.self.now in
    nothing_done m values (do_telling values c.args.session.now c.args.op.now) old old c.args.out.now.items _ refl c.requires refl

pub move_on-requires-clause-history : goal.move_on-requires-clause-history
move_on-requires-clause-history g c = λ _ _.
    let core = c.self.inside.core in let session = c.args.session.now in let seen = c.in-Some.seen.now in
    let found : session_named c.self.inside.sessions.entries session ≡ Some seen = sym c.in-Some.ensures.value in
    let look = c.self.invariant session seen found in
    subst (λ (v : EngineView g.row.T-Op.Denot g.row.T-Reply.Denot g.row.D.Denot). IsPrefix c.in-Ok.prepared.seen.history v.core.history) c.self.view_is
    (subst (λ (p : PreparedView g.row.T-Op.Denot g.row.T-Reply.Denot). IsPrefix p.seen.history core.history) (sym c.in-Ok.ensures.prepared) look.0)

pub move_on-requires-clause-terms : goal.move_on-requires-clause-terms
move_on-requires-clause-terms g c = λ _ _.
    let core = c.self.inside.core in let session = c.args.session.now in let seen = c.in-Some.seen.now in
    let found : session_named c.self.inside.sessions.entries session ≡ Some seen = sym c.in-Some.ensures.value in
    let look = c.self.invariant session seen found in
    subst (λ (v : EngineView g.row.T-Op.Denot g.row.T-Reply.Denot g.row.D.Denot). c.in-Ok.prepared.seen.terms ≡ v.core.terms) c.self.view_is
    (subst (λ (p : PreparedView g.row.T-Op.Denot g.row.T-Reply.Denot). p.seen.terms ≡ core.terms) (sym c.in-Ok.ensures.prepared) look.1)

pub move_on-requires-clause-branch : goal.move_on-requires-clause-branch
move_on-requires-clause-branch g c = λ _ _.
    rw c.branch-branch.ensures.branch (ap (λ (p : PreparedView g.row.T-Op.Denot g.row.T-Reply.Denot). p.seen.branch) c.in-Ok.ensures.prepared)

pub move_on-requires-clause-within : goal.move_on-requires-clause-within
move_on-requires-clause-within g c = λ _ _.
    let core = c.self.inside.core in let session = c.args.session.now in let seen = c.in-Some.seen.now in
    let found : session_named c.self.inside.sessions.entries session ≡ Some seen = sym c.in-Some.ensures.value in
    let look = c.self.invariant session seen found in
    let here = branch-stays core.terms.origin seen.history core.history seen.branch look.0 (subst (λ (l : Terms). seen.branch < length (store_of l.origin seen.history).branches) look.1 c.branch-branch.ensures.within) in
    rw c.branch-branch.ensures.branch (subst (λ (v : EngineView g.row.T-Op.Denot g.row.T-Reply.Denot g.row.D.Denot). seen.branch < length (store_of v.core.terms.origin v.core.history).branches) c.self.view_is here)

pub returns-in-Ok : goal.returns-in-Ok
returns-in-Ok g c =
    let d = g.D.Disk in let laws = g.met.D.Disk in
    let m = members d.may_leave d.moment d.left_since d.faults laws.only_now in let values = values_of g.T.Mrdt.meaning g.T.Forms.forms g.A.Address.address in
    let core = c.self.inside.core in let sessions = c.self.inside.sessions.entries in let old = c.args.self.now in
    let session = c.args.session.now in let op = c.args.op.now in let out = c.args.out.now.items in let seen = c.in-Some.seen.now in
    let found : session_named sessions session ≡ Some seen = sym c.in-Some.ensures.value in
    let there = subst (λ (v : EngineView g.row.T-Op.Denot g.row.T-Reply.Denot g.row.D.Denot). session_named v.sessions session ≡ Some seen) c.self.view_is found in
    let new = c.move_on.new.self in let out' = c.move_on.new.out.items in let result = c.move_on.result in
    let made = c.in-Some-op.op in
    does_as m values (do_telling values session op) (turn_telling values (takes_item op) session seen.branch (machine.Land seen.branch seen.head made)) old new out out' (do_as m values old session seen there op made (sym c.in_ok-op.ensures ∙ c.in-Some-op.is)) result
    (subst (λ b. DoesSo m values (turn_telling values (takes_item op) session b (machine.Land seen.branch seen.head made)) old new out out' result) c.branch-branch.ensures.branch
    (subst (λ (p : PreparedView g.row.T-Op.Denot g.row.T-Reply.Denot). DoesSo m values (turn_telling values (takes_item op) session c.branch-branch.result (step_of {Q = g.row.T-Query.Denot} p.seen p.work)) old new out out' result) c.in-Ok.ensures.prepared
    (subst (λ t. DoesSo m values (turn_telling values t session c.branch-branch.result (step_of {Q = g.row.T-Query.Denot} c.in-Ok.prepared.seen c.in-Ok.prepared.work)) old new out out' result) c.takes_item-takes.ensures c.move_on.ensures)))
