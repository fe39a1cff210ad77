use Rattle.std.proofs.Common.{◌≡◌, ◌++◌, ◌∙◌, [], sym, ap, subst, refl, Some, None, List, ℕ, ◌<◌, length, false}
use Rattle.std.specs.Prelude.{Result, Ok, Err, OnOk, OnErr}
use mathlib.Core.List.{IsPrefix}
use Rattle.mrdt_model.specs.declared.errors.Memory.{Memory}
use Rattle.mrdt_model.specs.Spelled.{AppendsPart}
use Rattle.branch_names.specs.declared.terms.Terms.{Terms}
use Rattle.branch_names.specs.Heads.{name_of}
use Rattle.branch_history.specs.History.{store_of}
use Rattle.branch_history.specs.Steps as machine
use Rattle.store_seen.specs.Pairs.{IsPaired, MergesAs}
use Rattle.store_core.specs.Views.{held}
use Rattle.branch_print.specs.Texts.{outcome_text, refusal_text, unseen_text, same_text, line_end}
use Rattle.branch_engine.proofs.Values.{Values, values_of}
use Rattle.branch_engine.specs.declared.refused.TellRefused.{TellRefused}
use Rattle.branch_engine.specs.declared.refused.TellRefused.TheVariants as refusal
use Rattle.branch_engine.specs.Play.{sight_after}
use Rattle.branch_engine.specs.Engines.{EngineView, Seen, session_named}
use Rattle.branch_engine.proofs.Played.{branch-stays, prefix-self}
use Rattle.branch_engine.proofs.Merges.{Pair, merge_of, pair-history, pair-terms, pair-branch, pair-turn, pair-work}
use Rattle.branch_engine.proofs.Does.{Members, members, DoesSo, nothing_done, stays_so, does_as}
use Rattle.branch_engine.proofs.Replies.{view_of, full-so, merge_telling, turn_telling, unmerged, merge_unknown, merge_as, turn_stays}
use Rattle.branch_engine.proofs.engine.Engine.merge.Goals as goal

-- a merge that moves nothing, of an engine whose view this is
unmoved : {S O R Q A D : Type 0} (m : Members D) (values : Values S O R Q A) (old : EngineView O R D) (out out' session from : List ℕ) (seen : Seen O R) (pair : Pair O R) (paired : IsPaired values.meaning (held old.core) seen from pair) (w : Result (Unit {0}) Memory)
    (r : Result (Unit {0}) TellRefused) → OnOk w (r ≡ Ok tt) → OnErr w (r ≡ Err refusal.Memory) → (outcome : machine.Outcome A R) (words : List ℕ) → old.core.failed ≡ false
    → session_named old.sessions session ≡ Some seen → MergesAs values.meaning pair outcome → sight_after seen.branch outcome ≡ None
    → OnOk w (out' ≡ out ++ (words ++ line_end)) → OnErr w (AppendsPart out out' (words ++ line_end))
    → words ≡ outcome_text values.forms false session (name_of (store_of old.core.terms.origin old.core.history).branches seen.branch) outcome
    → DoesSo m values (merge_telling values session from) old old out out' r
unmoved {S} {O} {R} {Q} {A} {D} m values old out out' session from seen pair paired w r through short outcome words worked found merges none ok err text =
    let step : machine.Step O Q = merge_of seen.branch seen.head pair.other in
    let looks = full-so values old.core old.sessions old refl (machine.Look from) (machine.Sees paired.source pair.other) refl paired.other in
    does_as m values (merge_telling values session from) (turn_telling values false session seen.branch step) old old out out' (merge_as m values old session seen found from paired.source pair.other looks) r
    (stays_so m values (turn_telling values false session seen.branch step) old old out out' (outcome_text values.forms false session (name_of (store_of old.core.terms.origin old.core.history).branches seen.branch) outcome ++ line_end) w r through short worked refl
    (turn_stays m values old false session seen.branch step outcome (pair-turn values (held old.core) seen from pair paired outcome merges) none)
    (subst (λ t. OnOk w (out' ≡ out ++ (t ++ line_end))) text ok) (subst (λ t. OnErr w (AppendsPart out out' (t ++ line_end))) text err))

pub returns-in_default : goal.returns-in_default
returns-in_default g c =
    let d = g.D.Disk in let laws = g.met.D.Disk in
    let m = members d.may_leave d.moment d.left_since d.faults laws.only_now in let values = values_of g.T.Mrdt.meaning g.T.Forms.forms g.A.Address.address in
    let core = c.self.inside.core in let sessions = c.self.inside.sessions.entries in let old = c.args.self.now in
    let session = c.args.session.now in let from = c.args.from.now in
    let none : session_named sessions session ≡ None = sym c.in_default.ensures.value in
    let here = subst (λ (v : EngineView g.row.T-Op.Denot g.row.T-Reply.Denot g.row.D.Denot). session_named v.sessions session ≡ None) c.self.view_is none in
    stays_so m values (merge_telling values session from) old old c.args.out.now.items c.put_unseen.new.out.items (unseen_text session ++ line_end) c.put_unseen.result c.replied.result c.replied.ensures.ok c.replied.ensures.err c.requires refl
    (unmerged m values old session from here) c.put_unseen.ensures.ok c.put_unseen.ensures.err

pub pair-requires-clause-history : goal.pair-requires-clause-history
pair-requires-clause-history g c =
    λ _ _. (c.self.invariant c.args.session.now c.in-Some.seen.now (sym c.in-Some.ensures.value)).0

pub pair-requires-clause-terms : goal.pair-requires-clause-terms
pair-requires-clause-terms g c =
    λ _ _. (c.self.invariant c.args.session.now c.in-Some.seen.now (sym c.in-Some.ensures.value)).1

pub returns-in-Err-UnknownBranch : goal.returns-in-Err-UnknownBranch
returns-in-Err-UnknownBranch g c =
    let d = g.D.Disk in let laws = g.met.D.Disk in
    let m = members d.may_leave d.moment d.left_since d.faults laws.only_now in let values = values_of g.T.Mrdt.meaning g.T.Forms.forms g.A.Address.address in
    let core = c.self.inside.core in let sessions = c.self.inside.sessions.entries in let old = c.args.self.now in
    let session = c.args.session.now in let from = c.args.from.now in let seen = c.in-Some.seen.now in
    let why = machine.UnknownBranch from in
    let found : session_named sessions session ≡ Some seen = sym c.in-Some.ensures.value in
    let there = subst (λ (v : EngineView g.row.T-Op.Denot g.row.T-Reply.Denot g.row.D.Denot). session_named v.sessions session ≡ Some seen) c.self.view_is found in
    let is = full-so values core sessions old c.self.view_is (machine.Look from) (machine.Refused why) refl (rw c.in-Err-UnknownBranch.field-0-is at c.in-Err-UnknownBranch.ensures.refused).1 in
    rw (c.pair.ensures.same, c.self.view_is) (stays_so m values (merge_telling values session from) old old c.args.out.now.items c.put_unknown.new.out.items (refusal_text from why ++ line_end) c.put_unknown.result c.replied-in-Err-UnknownBranch.result c.replied-in-Err-UnknownBranch.ensures.ok c.replied-in-Err-UnknownBranch.ensures.err c.requires refl
    (merge_unknown m values old session seen there from why is) c.put_unknown.ensures.ok c.put_unknown.ensures.err)

pub returns-in-Err-Memory : goal.returns-in-Err-Memory
returns-in-Err-Memory g c =
    let d = g.D.Disk in let laws = g.met.D.Disk in
    let m = members d.may_leave d.moment d.left_since d.faults laws.only_now in let values = values_of g.T.Mrdt.meaning g.T.Forms.forms g.A.Address.address in
    let core = c.self.inside.core in let sessions = c.self.inside.sessions.entries in let old = c.args.self.now in
    rw (c.pair.ensures.same, c.self.view_is) (nothing_done m values (merge_telling values c.args.session.now c.args.from.now) old old c.args.out.now.items _ refl c.requires refl)

pub returns : goal.returns
returns g c =
    let d = g.D.Disk in let laws = g.met.D.Disk in
    let m = members d.may_leave d.moment d.left_since d.faults laws.only_now in let values = values_of g.T.Mrdt.meaning g.T.Forms.forms g.A.Address.address in
    let core = c.self.inside.core in let sessions = c.self.inside.sessions.entries in let old = c.args.self.now in
    rw (c.pair.ensures.same, c.self.view_is) (nothing_done m values (merge_telling values c.args.session.now c.args.from.now) old old c.args.out.now.items _ refl c.requires refl)

pub returns-in-Ok-Same : goal.returns-in-Ok-Same
returns-in-Ok-Same g c =
    let d = g.D.Disk in let laws = g.met.D.Disk in
    let m = members d.may_leave d.moment d.left_since d.faults laws.only_now in let values = values_of g.T.Mrdt.meaning g.T.Forms.forms g.A.Address.address in
    let core = c.self.inside.core in let sessions = c.self.inside.sessions.entries in let old = c.args.self.now in
    let session = c.args.session.now in let from = c.args.from.now in let out = c.args.out.now.items in let seen = c.in-Some.seen.now in
    let worked = ap (λ (v : EngineView g.row.T-Op.Denot g.row.T-Reply.Denot g.row.D.Denot). v.core.failed) c.self.view_is ∙ c.requires in
    rw (c.pair.ensures.same, c.self.view_is) (subst (λ (v : EngineView g.row.T-Op.Denot g.row.T-Reply.Denot g.row.D.Denot). DoesSo m values (merge_telling values session from) v v out c.put_same.new.out.items c.replied-in-Ok-Same.result) c.self.view_is
    (unmoved m values (view_of core sessions) out c.put_same.new.out.items session from seen c.in-Ok.pair c.in-Ok.ensures.paired c.put_same.result c.replied-in-Ok-Same.result c.replied-in-Ok-Same.ensures.ok c.replied-in-Ok-Same.ensures.err machine.Same same_text worked
    (sym c.in-Some.ensures.value) (rw c.in-Ok-Same.field-0-is at c.in-Ok-Same.ensures.step) refl c.put_same.ensures.ok c.put_same.ensures.err refl))

pub returns-in-Err-ValueTooLarge : goal.returns-in-Err-ValueTooLarge
returns-in-Err-ValueTooLarge g c =
    let d = g.D.Disk in let laws = g.met.D.Disk in
    let m = members d.may_leave d.moment d.left_since d.faults laws.only_now in let values = values_of g.T.Mrdt.meaning g.T.Forms.forms g.A.Address.address in
    let core = c.self.inside.core in let sessions = c.self.inside.sessions.entries in let old = c.args.self.now in
    let session = c.args.session.now in let from = c.args.from.now in let out = c.args.out.now.items in let seen = c.in-Some.seen.now in
    let worked = ap (λ (v : EngineView g.row.T-Op.Denot g.row.T-Reply.Denot g.row.D.Denot). v.core.failed) c.self.view_is ∙ c.requires in
    rw (c.pair.ensures.same, c.self.view_is) (subst (λ (v : EngineView g.row.T-Op.Denot g.row.T-Reply.Denot g.row.D.Denot). DoesSo m values (merge_telling values session from) v v out c.put_too_large.new.out.items c.replied-in-Err-ValueTooLarge.result) c.self.view_is
    (unmoved m values (view_of core sessions) out c.put_too_large.new.out.items session from seen c.in-Ok.pair c.in-Ok.ensures.paired c.put_too_large.result c.replied-in-Err-ValueTooLarge.result c.replied-in-Err-ValueTooLarge.ensures.ok c.replied-in-Err-ValueTooLarge.ensures.err (machine.Refused (machine.ValueTooLarge c.in-Err-ValueTooLarge.length)) (refusal_text [] (machine.ValueTooLarge c.in-Err-ValueTooLarge.length)) worked
    (sym c.in-Some.ensures.value) (rw c.in-Err-ValueTooLarge.field-0-is at c.in-Err-ValueTooLarge.ensures.refused) refl c.put_too_large.ensures.ok c.put_too_large.ensures.err refl))

pub move_on-requires-clause-history : goal.move_on-requires-clause-history
move_on-requires-clause-history g c = λ _ _.
    let values = values_of g.T.Mrdt.meaning g.T.Forms.forms g.A.Address.address in
    let core = c.self.inside.core in let seen = c.in-Some.seen.now in let made = c.in-Ok-Land.prepared in
    let does = rw c.in-Ok-Land.field-0-is at c.in-Ok-Land.ensures.step in
    let at : made.seen.history ≡ core.history = ap (λ (s : Seen g.row.T-Op.Denot g.row.T-Reply.Denot). s.history) does.0 ∙ pair-history values (held core) seen c.args.from.now c.in-Ok.pair c.in-Ok.ensures.paired in
    rw c.pair.ensures.same (subst (λ h. IsPrefix h core.history) (sym at) (prefix-self core.history))

pub move_on-requires-clause-terms : goal.move_on-requires-clause-terms
move_on-requires-clause-terms g c = λ _ _.
    let values = values_of g.T.Mrdt.meaning g.T.Forms.forms g.A.Address.address in
    let core = c.self.inside.core in let seen = c.in-Some.seen.now in let made = c.in-Ok-Land.prepared in
    let does = rw c.in-Ok-Land.field-0-is at c.in-Ok-Land.ensures.step in
    rw c.pair.ensures.same (ap (λ (s : Seen g.row.T-Op.Denot g.row.T-Reply.Denot). s.terms) does.0 ∙ pair-terms values (held core) seen c.args.from.now c.in-Ok.pair c.in-Ok.ensures.paired)

pub move_on-requires-clause-branch : goal.move_on-requires-clause-branch
move_on-requires-clause-branch g c = λ _ _.
    let values = values_of g.T.Mrdt.meaning g.T.Forms.forms g.A.Address.address in
    let core = c.self.inside.core in let seen = c.in-Some.seen.now in let made = c.in-Ok-Land.prepared in
    let does = rw c.in-Ok-Land.field-0-is at c.in-Ok-Land.ensures.step in
    rw c.branch-branch.ensures.branch (ap (λ (s : Seen g.row.T-Op.Denot g.row.T-Reply.Denot). s.branch) does.0 ∙ pair-branch values (held core) seen c.args.from.now c.in-Ok.pair c.in-Ok.ensures.paired)

pub move_on-requires-clause-within : goal.move_on-requires-clause-within
move_on-requires-clause-within g c = λ _ _.
    let core = c.self.inside.core in let seen = c.in-Some.seen.now in
    let look = c.self.invariant c.args.session.now seen (sym c.in-Some.ensures.value) in
    let here = branch-stays core.terms.origin seen.history core.history seen.branch look.0 (subst (λ (l : Terms). seen.branch < length (store_of l.origin seen.history).branches) look.1 c.branch-branch.ensures.within) in
    rw (c.branch-branch.ensures.branch, c.pair.ensures.same) here

pub returns-in-Ok-Land : goal.returns-in-Ok-Land
returns-in-Ok-Land g c =
    let d = g.D.Disk in let laws = g.met.D.Disk in
    let m = members d.may_leave d.moment d.left_since d.faults laws.only_now in let values = values_of g.T.Mrdt.meaning g.T.Forms.forms g.A.Address.address in
    let core = c.self.inside.core in let sessions = c.self.inside.sessions.entries in let old = c.args.self.now in
    let session = c.args.session.now in let from = c.args.from.now in let out = c.args.out.now.items in
    let out' = c.move_on.new.out.items in let new = c.move_on.new.self in let result = c.move_on.result in
    let seen = c.in-Some.seen.now in let pair = c.in-Ok.pair in let paired = c.in-Ok.ensures.paired in let made = c.in-Ok-Land.prepared in
    let found : session_named sessions session ≡ Some seen = sym c.in-Some.ensures.value in
    let there = subst (λ (v : EngineView g.row.T-Op.Denot g.row.T-Reply.Denot g.row.D.Denot). session_named v.sessions session ≡ Some seen) c.self.view_is found in
    let does = rw c.in-Ok-Land.field-0-is at c.in-Ok-Land.ensures.step in
    let work = pair-work values (held core) seen from pair paired made does.0 does.1 in
    let looks = full-so values core sessions old c.self.view_is (machine.Look from) (machine.Sees paired.source pair.other) refl paired.other in
    let step : machine.Step g.row.T-Op.Denot g.row.T-Query.Denot = merge_of seen.branch seen.head pair.other in
    does_as m values (merge_telling values session from) (turn_telling values false session seen.branch step) old new out out' (merge_as m values old session seen there from paired.source pair.other looks) result
    (subst (λ b. DoesSo m values (turn_telling values false session b step) old new out out' result) c.branch-branch.ensures.branch
    (subst (λ s. DoesSo m values (turn_telling values false session c.branch-branch.result s) old new out out' result) work (rw (c.pair.ensures.same, c.self.view_is) at c.move_on.ensures)))

pub invariant_of-self : goal.invariant_of-self
invariant_of-self g c = rw c.pair.ensures.same c.self.invariant

pub invariant_of-self-in-Ok-Same : goal.invariant_of-self-in-Ok-Same
invariant_of-self-in-Ok-Same g c = rw c.pair.ensures.same c.self.invariant

pub invariant_of-self-in-Ok-Land : goal.invariant_of-self-in-Ok-Land
invariant_of-self-in-Ok-Land g c = rw c.pair.ensures.same c.self.invariant

pub invariant_of-self-in-Err-ValueTooLarge : goal.invariant_of-self-in-Err-ValueTooLarge
invariant_of-self-in-Err-ValueTooLarge g c = rw c.pair.ensures.same c.self.invariant

pub invariant_of-self-in-Err-Memory-prepare : goal.invariant_of-self-in-Err-Memory-prepare
invariant_of-self-in-Err-Memory-prepare g c = rw c.pair.ensures.same c.self.invariant
