use Rattle.std.proofs.Common.{◌≡◌, ◌++◌, ◌∙◌, [], sym, ap, subst, refl, Some, None, List, ℕ, ◌<◌, length, false, true}
use Rattle.std.specs.Prelude.{Result, Ok, Err, IsErr, OnOk, OnErr}
use mathlib.Core.List.{IsPrefix}
use Rattle.mrdt_model.specs.declared.errors.Memory.{Memory}
use Rattle.mrdt_model.specs.Spelled.{AppendsPart}
use Rattle.branch_names.specs.declared.terms.Terms.{Terms}
use Rattle.branch_names.specs.Heads.{name_of}
use Rattle.branch_history.specs.History.{store_of}
use Rattle.branch_history.specs.Steps as machine
use Rattle.store_seen.specs.declared.answers.PairRefused.{PairRefused}
use Rattle.store_seen.specs.declared.answers.PairRefused.TheVariants as pair_refusal
use Rattle.store_seen.specs.Groups.{look_of, IsGrouped, GroupRefusedAs, MergesAllAs, AsksFor}
use Rattle.store_seen.specs.Turns.{step_of}
use Rattle.store_seen.specs.Views.{PreparedView}
use Rattle.store_core.specs.Views.{held}
use Rattle.branch_print.specs.Texts.{outcome_text, refusal_text, unseen_text, same_text, line_end}
use Rattle.branch_engine.proofs.Values.{Values, values_of}
use Rattle.branch_engine.specs.declared.refused.TellRefused.{TellRefused}
use Rattle.branch_engine.specs.declared.refused.TellRefused.TheVariants as refusal
use Rattle.branch_engine.specs.Play.{sight_after}
use Rattle.branch_engine.specs.Engines.{EngineView, Seen, session_named, ungrouped_text}
use Rattle.branch_engine.proofs.Played.{branch-stays, prefix-self}
use Rattle.branch_engine.proofs.Joins.{Group, join_of, group-history, group-terms, group-branch, group-turn, group-work}
use Rattle.branch_engine.proofs.Does.{Members, members, DoesSo, nothing_done, stays_so, does_as}
use Rattle.branch_engine.proofs.Replies.{view_of, join_telling, turn_telling, unjoined, join_unknown, join_as, told-alike, turn_stays}
use Rattle.branch_engine.proofs.engine.Engine.join.Goals as goal

-- a join that moves nothing, of an engine whose view this is
unmoved : {S O R Q A D : Type 0} (m : Members D) (values : Values S O R Q A) (old : EngineView O R D) (out out' session : List ℕ) (from : List (List ℕ)) (seen : Seen O R) (group : Group O R) (grouped : IsGrouped values.meaning (held old.core) seen from group)
    (w : Result (Unit {0}) Memory) (r : Result (Unit {0}) TellRefused) → OnOk w (r ≡ Ok tt) → OnErr w (r ≡ Err refusal.Memory) → (outcome : machine.Outcome A R) (words : List ℕ) → old.core.failed ≡ false
    → session_named old.sessions session ≡ Some seen → MergesAllAs values.meaning group outcome → sight_after seen.branch outcome ≡ None
    → OnOk w (out' ≡ out ++ (words ++ line_end)) → OnErr w (AppendsPart out out' (words ++ line_end))
    → words ≡ outcome_text values.forms false session (name_of (store_of old.core.terms.origin old.core.history).branches seen.branch) outcome
    → DoesSo m values (join_telling values session from) old old out out' r
unmoved {S} {O} {R} {Q} {A} {D} m values old out out' session from seen group grouped w r through short outcome words worked found merges none ok err text =
    let step : machine.Step O Q = join_of seen.branch seen.head group.others in
    does_as m values (join_telling values session from) (turn_telling values false session seen.branch step) old old out out' (join_as m values old session seen found from group.others grouped.heads) r
    (stays_so m values (turn_telling values false session seen.branch step) old old out out' (outcome_text values.forms false session (name_of (store_of old.core.terms.origin old.core.history).branches seen.branch) outcome ++ line_end) w r through short worked refl
    (turn_stays m values old false session seen.branch step outcome (group-turn values (held old.core) seen from group grouped outcome merges) none)
    (subst (λ t. OnOk w (out' ≡ out ++ (t ++ line_end))) text ok) (subst (λ t. OnErr w (AppendsPart out out' (t ++ line_end))) text err))

-- a look that was not grouped
ungrouped : {S O R Q A D : Type 0} (m : Members D) (values : Values S O R Q A) (old : EngineView O R D) (out out' session : List ℕ) (from : List (List ℕ)) (seen : Seen O R) (e : PairRefused) (w : Result (Unit {0}) Memory) (r : Result (Unit {0}) TellRefused)
    → OnOk w (r ≡ Ok tt) → OnErr w (r ≡ Err refusal.Memory) → old.core.failed ≡ false → session_named old.sessions session ≡ Some seen → GroupRefusedAs values.meaning (held old.core) from e
    → OnOk w (out' ≡ out ++ ungrouped_text e) → OnErr w (AppendsPart out out' (ungrouped_text e)) → (e ≡ pair_refusal.Memory → (out' ≡ out) × IsErr w) → DoesSo m values (join_telling values session from) old old out out' r
ungrouped {S} {O} {R} {Q} {A} {D} m values old out out' session from seen (pair_refusal.UnknownBranch name) w r through short worked found refused ok err memory =
    stays_so m values (join_telling values session from) old old out out' (refusal_text [] (machine.UnknownBranch name) ++ line_end) w r through short worked refl (join_unknown m values old session seen found from name refused) ok err
ungrouped {S} {O} {R} {Q} {A} {D} m values old out out' session from seen pair_refusal.Memory (Ok done) r through short worked found refused ok err memory =
    let bad : false ≡ true = (memory refl).1 in absurd (let never : ⊥ = cc in never)
ungrouped {S} {O} {R} {Q} {A} {D} m values old out out' session from seen pair_refusal.Memory (Err none) r through short worked found refused ok err memory =
    subst (λ o. DoesSo m values (join_telling values session from) old old out o r) (sym (memory refl).0) (nothing_done m values (join_telling values session from) old old out r short worked refl)

-- a join that was prepared, of an engine whose view this is
moved : {S O R Q A D : Type 0} (m : Members D) (values : Values S O R Q A) (old new : EngineView O R D) (out out' session : List ℕ) (from : List (List ℕ)) (seen : Seen O R) (group : Group O R) (grouped : IsGrouped values.meaning (held old.core) seen from group)
    (made : PreparedView O R) (r : Result (Unit {0}) TellRefused) → session_named old.sessions session ≡ Some seen → made.seen ≡ look_of group → AsksFor values.meaning group made.work
    → DoesSo m values (turn_telling values false session seen.branch (step_of made.seen made.work)) old new out out' r → DoesSo m values (join_telling values session from) old new out out' r
moved {S} {O} {R} {Q} {A} {D} m values old new out out' session from seen group grouped made r found look asks does =
    let step : machine.Step O Q = join_of seen.branch seen.head group.others in let work = step_of {Q = Q} made.seen made.work in
    does_as m values (join_telling values session from) (turn_telling values false session seen.branch work) old new out out'
    (λ terms p at. join_as m values old session seen found from group.others grouped.heads terms p at
    ∙ told-alike m values old false session seen.branch step work (group-work values (held old.core) seen from group grouped made look asks) terms p at) r does

pub returns-in_default : goal.returns-in_default
returns-in_default g c =
    let d = g.D.Disk in let laws = g.met.D.Disk in
    let m = members d.may_leave d.moment d.left_since d.faults laws.only_now in let values = values_of g.T.Mrdt.meaning g.T.Forms.forms g.A.Address.address in
    let core = c.self.inside.core in let sessions = c.self.inside.sessions.entries in let old = c.args.self.now in
    let session = c.args.session.now in let from = c.args.from.now in
    let none : session_named sessions session ≡ None = sym c.in_default.ensures.value in
    let here = subst (λ (v : EngineView g.row.T-Op.Denot g.row.T-Reply.Denot g.row.D.Denot). session_named v.sessions session ≡ None) c.self.view_is none in
    stays_so m values (join_telling values session from) old old c.args.out.now.items c.put_unseen.new.out.items (unseen_text session ++ line_end) c.put_unseen.result c.replied.result c.replied.ensures.ok c.replied.ensures.err c.requires.working refl
    (unjoined m values old session from here) c.put_unseen.ensures.ok c.put_unseen.ensures.err

pub group-requires-clause-history : goal.group-requires-clause-history
group-requires-clause-history g c =
    λ _ _. (c.self.invariant c.args.session.now c.in-Some.seen.now (sym c.in-Some.ensures.value)).0

pub group-requires-clause-terms : goal.group-requires-clause-terms
group-requires-clause-terms g c =
    λ _ _. (c.self.invariant c.args.session.now c.in-Some.seen.now (sym c.in-Some.ensures.value)).1

pub returns-in-Err : goal.returns-in-Err
returns-in-Err g c =
    let d = g.D.Disk in let laws = g.met.D.Disk in
    let m = members d.may_leave d.moment d.left_since d.faults laws.only_now in let values = values_of g.T.Mrdt.meaning g.T.Forms.forms g.A.Address.address in
    let core = c.self.inside.core in let sessions = c.self.inside.sessions.entries in
    let session = c.args.session.now in let from = c.args.from.now in let out = c.args.out.now.items in let seen = c.in-Some.seen.now in
    let worked = ap (λ (v : EngineView g.row.T-Op.Denot g.row.T-Reply.Denot g.row.D.Denot). v.core.failed) c.self.view_is ∙ c.requires.working in
    subst (λ (v : EngineView g.row.T-Op.Denot g.row.T-Reply.Denot g.row.D.Denot). DoesSo m values (join_telling values session from) v v out c.put_ungrouped.new.out.items c.replied-in-Err.result) c.self.view_is
    (ungrouped m values (view_of core sessions) out c.put_ungrouped.new.out.items session from seen c.in-Err.refused c.put_ungrouped.result c.replied-in-Err.result c.replied-in-Err.ensures.ok c.replied-in-Err.ensures.err worked
    (sym c.in-Some.ensures.value) c.in-Err.ensures.refused c.put_ungrouped.ensures.ok c.put_ungrouped.ensures.err c.put_ungrouped.ensures.memory)

pub returns : goal.returns
returns g c =
    let d = g.D.Disk in let laws = g.met.D.Disk in
    let m = members d.may_leave d.moment d.left_since d.faults laws.only_now in let values = values_of g.T.Mrdt.meaning g.T.Forms.forms g.A.Address.address in
    let core = c.self.inside.core in let sessions = c.self.inside.sessions.entries in let old = c.args.self.now in
    rw (c.prepare_group.ensures.same, c.self.view_is) (nothing_done m values (join_telling values c.args.session.now c.args.from.now) old old c.args.out.now.items _ refl c.requires.working refl)

pub returns-in-Ok-Same : goal.returns-in-Ok-Same
returns-in-Ok-Same g c =
    let d = g.D.Disk in let laws = g.met.D.Disk in
    let m = members d.may_leave d.moment d.left_since d.faults laws.only_now in let values = values_of g.T.Mrdt.meaning g.T.Forms.forms g.A.Address.address in
    let core = c.self.inside.core in let sessions = c.self.inside.sessions.entries in let old = c.args.self.now in
    let session = c.args.session.now in let from = c.args.from.now in let out = c.args.out.now.items in let seen = c.in-Some.seen.now in
    let worked = ap (λ (v : EngineView g.row.T-Op.Denot g.row.T-Reply.Denot g.row.D.Denot). v.core.failed) c.self.view_is ∙ c.requires.working in
    rw (c.prepare_group.ensures.same, c.self.view_is) (subst (λ (v : EngineView g.row.T-Op.Denot g.row.T-Reply.Denot g.row.D.Denot). DoesSo m values (join_telling values session from) v v out c.put_same.new.out.items c.replied-in-Ok-Same.result) c.self.view_is
    (unmoved m values (view_of core sessions) out c.put_same.new.out.items session from seen c.in-Ok.group c.in-Ok.ensures.grouped c.put_same.result c.replied-in-Ok-Same.result c.replied-in-Ok-Same.ensures.ok c.replied-in-Ok-Same.ensures.err machine.Same same_text worked
    (sym c.in-Some.ensures.value) (rw c.in-Ok-Same.field-0-is at c.in-Ok-Same.ensures.step) refl c.put_same.ensures.ok c.put_same.ensures.err refl))

pub returns-in-Err-ValueTooLarge : goal.returns-in-Err-ValueTooLarge
returns-in-Err-ValueTooLarge g c =
    let d = g.D.Disk in let laws = g.met.D.Disk in
    let m = members d.may_leave d.moment d.left_since d.faults laws.only_now in let values = values_of g.T.Mrdt.meaning g.T.Forms.forms g.A.Address.address in
    let core = c.self.inside.core in let sessions = c.self.inside.sessions.entries in let old = c.args.self.now in
    let session = c.args.session.now in let from = c.args.from.now in let out = c.args.out.now.items in let seen = c.in-Some.seen.now in
    let worked = ap (λ (v : EngineView g.row.T-Op.Denot g.row.T-Reply.Denot g.row.D.Denot). v.core.failed) c.self.view_is ∙ c.requires.working in
    rw (c.prepare_group.ensures.same, c.self.view_is) (subst (λ (v : EngineView g.row.T-Op.Denot g.row.T-Reply.Denot g.row.D.Denot). DoesSo m values (join_telling values session from) v v out c.put_too_large.new.out.items c.replied-in-Err-ValueTooLarge.result) c.self.view_is
    (unmoved m values (view_of core sessions) out c.put_too_large.new.out.items session from seen c.in-Ok.group c.in-Ok.ensures.grouped c.put_too_large.result c.replied-in-Err-ValueTooLarge.result c.replied-in-Err-ValueTooLarge.ensures.ok c.replied-in-Err-ValueTooLarge.ensures.err (machine.Refused (machine.ValueTooLarge c.in-Err-ValueTooLarge.length)) (refusal_text [] (machine.ValueTooLarge c.in-Err-ValueTooLarge.length)) worked
    (sym c.in-Some.ensures.value) (rw c.in-Err-ValueTooLarge.field-0-is at c.in-Err-ValueTooLarge.ensures.refused) refl c.put_too_large.ensures.ok c.put_too_large.ensures.err refl))

pub move_on-requires-clause-history : goal.move_on-requires-clause-history
move_on-requires-clause-history g c = λ _ _.
    let values = values_of g.T.Mrdt.meaning g.T.Forms.forms g.A.Address.address in
    let core = c.self.inside.core in let seen = c.in-Some.seen.now in let made = c.in-Ok-Land.prepared in
    let does = rw c.in-Ok-Land.field-0-is at c.in-Ok-Land.ensures.step in
    let at : made.seen.history ≡ core.history = ap (λ (s : Seen g.row.T-Op.Denot g.row.T-Reply.Denot). s.history) does.0 ∙ group-history values (held core) seen c.args.from.now c.in-Ok.group c.in-Ok.ensures.grouped in
    rw c.prepare_group.ensures.same (subst (λ h. IsPrefix h core.history) (sym at) (prefix-self core.history))

pub move_on-requires-clause-terms : goal.move_on-requires-clause-terms
move_on-requires-clause-terms g c = λ _ _.
    let values = values_of g.T.Mrdt.meaning g.T.Forms.forms g.A.Address.address in
    let core = c.self.inside.core in let seen = c.in-Some.seen.now in let made = c.in-Ok-Land.prepared in
    let does = rw c.in-Ok-Land.field-0-is at c.in-Ok-Land.ensures.step in
    rw c.prepare_group.ensures.same (ap (λ (s : Seen g.row.T-Op.Denot g.row.T-Reply.Denot). s.terms) does.0 ∙ group-terms values (held core) seen c.args.from.now c.in-Ok.group c.in-Ok.ensures.grouped)

pub move_on-requires-clause-branch : goal.move_on-requires-clause-branch
move_on-requires-clause-branch g c = λ _ _.
    let values = values_of g.T.Mrdt.meaning g.T.Forms.forms g.A.Address.address in
    let core = c.self.inside.core in let seen = c.in-Some.seen.now in let made = c.in-Ok-Land.prepared in
    let does = rw c.in-Ok-Land.field-0-is at c.in-Ok-Land.ensures.step in
    rw c.branch-branch.ensures.branch (ap (λ (s : Seen g.row.T-Op.Denot g.row.T-Reply.Denot). s.branch) does.0 ∙ group-branch values (held core) seen c.args.from.now c.in-Ok.group c.in-Ok.ensures.grouped)

pub move_on-requires-clause-within : goal.move_on-requires-clause-within
move_on-requires-clause-within g c = λ _ _.
    let core = c.self.inside.core in let seen = c.in-Some.seen.now in
    let look = c.self.invariant c.args.session.now seen (sym c.in-Some.ensures.value) in
    let here = branch-stays core.terms.origin seen.history core.history seen.branch look.0 (subst (λ (l : Terms). seen.branch < length (store_of l.origin seen.history).branches) look.1 c.branch-branch.ensures.within) in
    rw (c.branch-branch.ensures.branch, c.prepare_group.ensures.same) here

pub returns-in-Ok-Land : goal.returns-in-Ok-Land
returns-in-Ok-Land g c =
    let d = g.D.Disk in let laws = g.met.D.Disk in
    let m = members d.may_leave d.moment d.left_since d.faults laws.only_now in let values = values_of g.T.Mrdt.meaning g.T.Forms.forms g.A.Address.address in
    let core = c.self.inside.core in let sessions = c.self.inside.sessions.entries in
    let session = c.args.session.now in let from = c.args.from.now in let out = c.args.out.now.items in
    let out' = c.move_on.new.out.items in let new = c.move_on.new.self in let result = c.move_on.result in
    let seen = c.in-Some.seen.now in let group = c.in-Ok.group in let made = c.in-Ok-Land.prepared in
    let does = rw c.in-Ok-Land.field-0-is at c.in-Ok-Land.ensures.step in
    let step = step_of {Q = g.row.T-Query.Denot} made.seen made.work in
    let moves = subst (λ b. DoesSo m values (turn_telling values false session b step) c.args.self.now new out out' result) c.branch-branch.ensures.branch (rw (c.prepare_group.ensures.same, c.self.view_is) at c.move_on.ensures) in
    subst (λ (v : EngineView g.row.T-Op.Denot g.row.T-Reply.Denot g.row.D.Denot). DoesSo m values (join_telling values session from) v new out out' result) c.self.view_is
    (moved m values (view_of core sessions) new out out' session from seen group c.in-Ok.ensures.grouped made result (sym c.in-Some.ensures.value) does.0 does.2
    (subst (λ (v : EngineView g.row.T-Op.Denot g.row.T-Reply.Denot g.row.D.Denot). DoesSo m values (turn_telling values false session seen.branch step) v new out out' result) (sym c.self.view_is) moves))

pub invariant_of-self : goal.invariant_of-self
invariant_of-self g c = rw c.prepare_group.ensures.same c.self.invariant

pub invariant_of-self-in-Ok-Land : goal.invariant_of-self-in-Ok-Land
invariant_of-self-in-Ok-Land g c = rw c.prepare_group.ensures.same c.self.invariant

pub invariant_of-self-in-Err-ValueTooLarge : goal.invariant_of-self-in-Err-ValueTooLarge
invariant_of-self-in-Err-ValueTooLarge g c = rw c.prepare_group.ensures.same c.self.invariant

pub invariant_of-self-in-Err-Memory : goal.invariant_of-self-in-Err-Memory
invariant_of-self-in-Err-Memory g c = rw c.prepare_group.ensures.same c.self.invariant
