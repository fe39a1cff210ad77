use Rattle.std.proofs.Common.{◌≡◌, ◌++◌, [], refl, ap, subst, ◌∙◌}
use Rattle.std.proofs.KnownBytes.{Appends-nil}
use Rattle.branch_names.specs.declared.terms.Terms.{Terms}
use Rattle.branch_print.specs.Texts.{line_end}
use Rattle.branch_print.specs.Reports.{report_text}
use Rattle.branch_print.specs.Summaries.{summary_text}
use Rattle.branch_command.specs.Work.{Work}
use Rattle.branch_engine.specs.Engines.{Store}
use Rattle.branch_engine.specs.Play.{begins}
use Rattle.branch_shell.specs.Generated.{drawn_lines, work_text, SurvivesWork}
use Rattle.branch_shell.proofs.Once.{answers_map, reason_said}
use Rattle.branch_shell.specs.Counts.{HasReason}
use Rattle.branch_shell.proofs.Works.{work_said, survives_told, survives_stopped, stopped_undone, stopped_reason, nothing_said}
use Rattle.branch_shell.specs.Values.{value_type}
use Rattle.branch_shell.specs.Stores.{Stored}
use Rattle.branch_shell.proofs.generate.work_over.Goals as goal

pub returns-in-Ok-clause-wrote : goal.returns-in-Ok-clause-wrote
returns-in-Ok-clause-wrote g c =
    let address = g.A.Address.address in
    let of = value_type g.T.Mrdt.meaning g.T.Forms.forms g.T.Kinded.KIND in
    let store : Stored _ _ = record { terms = c.args.core.terms; history = c.args.core.history } in
    let work : Work = record { steps = c.args.steps; number = c.args.number } in
    let began = c.new-engine.ensures.begins c.requires.working in
    let told = c.in-Ok.ensures.told store.terms (begins store.history) began in
    let counted = c.in-Ok.ensures.counted store.terms (begins store.history) began [] refl in
    let shown = c.core.result.now in
    answers_map (λ whole. whole ≡ (summary_text c.in-Ok.summary ++ line_end) ++ report_text shown.terms.origin shown.history) (λ whole. ⊥) (λ whole. whole ≡ work_text of address store (drawn_lines work)) (λ whole. ⊥)
    (λ whole is. work_said of address store (drawn_lines work) c.in-Ok.summary shown.history counted (ap (λ k. k.history) c.core.ensures ∙ told.at.history) whole
    (is ∙ ap (λ (l : Terms). (summary_text c.in-Ok.summary ++ line_end) ++ report_text l.origin shown.history) (ap (λ k. k.terms) c.core.ensures ∙ told.at.terms_are))) (λ whole no. no)
    c.say_work.result (g.K.Sink.given c.args.sink.now) (g.K.Sink.given c.say_work.new.sink) c.say_work.ensures.wrote

pub returns-in-Ok-clause-survives : goal.returns-in-Ok-clause-survives
returns-in-Ok-clause-survives g c =
    let d = g.D.Disk in
    let address = g.A.Address.address in
    let of = value_type g.T.Mrdt.meaning g.T.Forms.forms g.T.Kinded.KIND in
    let store : Stored _ _ = record { terms = c.args.core.terms; history = c.args.core.history } in
    let lines = drawn_lines (record { steps = c.args.steps; number = c.args.number }) in
    let last = c.count_drawn.new.engine in
    let all = survives_told of address d.contents d.may_leave d.moment d.left_since g.met.D.Disk.counts_now store lines c.new-engine.result last c.say_work.result (c.new-engine.ensures.begins c.requires.working) c.in-Ok.ensures.told in
    rw c.close.ensures (subst (λ (k : Store _ _ _). SurvivesWork d.may_leave d.moment d.left_since of address store lines k.disk last.core.disk c.say_work.result) c.new-engine.ensures.core all)

pub returns-in-Err-clause-wrote : goal.returns-in-Err-clause-wrote
returns-in-Err-clause-wrote g c =
    let of = value_type g.T.Mrdt.meaning g.T.Forms.forms g.T.Kinded.KIND in
    let store : Stored _ _ = record { terms = c.args.core.terms; history = c.args.core.history } in
    let work : Work = record { steps = c.args.steps; number = c.args.number } in
    let d = g.D.Disk in (
      [],
      Appends-nil (g.K.Sink.given c.args.sink.now),
      nothing_said (λ whole. whole ≡ work_text of g.A.Address.address store (drawn_lines work)) (λ whole. ⊥)
          (d.faults c.new-engine.result.core.disk) (d.faults c.count_drawn.new.engine.core.disk) c.in-Err.status c.in-Err.ensures.cause,
    )

pub returns-in-Err-clause-survives : goal.returns-in-Err-clause-survives
returns-in-Err-clause-survives g c =
    let d = g.D.Disk in
    let address = g.A.Address.address in
    let of = value_type g.T.Mrdt.meaning g.T.Forms.forms g.T.Kinded.KIND in
    let store : Stored _ _ = record { terms = c.args.core.terms; history = c.args.core.history } in
    let lines = drawn_lines (record { steps = c.args.steps; number = c.args.number }) in
    let last = c.count_drawn.new.engine in
    let undone = stopped_undone (d.faults c.new-engine.result.core.disk) (d.faults last.core.disk) c.in-Err.status c.in-Err.ensures.cause in
    let all = survives_stopped of address d.contents d.may_leave d.moment d.left_since g.met.D.Disk.counts_now store lines c.new-engine.result last c.in-Err.status (c.new-engine.ensures.begins c.requires.working) c.count_drawn.ensures.moments undone in
    rw c.close-in-Err.ensures (subst (λ (k : Store _ _ _). SurvivesWork d.may_leave d.moment d.left_since of address store lines k.disk last.core.disk c.in-Err.status) c.new-engine.ensures.core all)

pub returns-in-Ok-clause-reason : goal.returns-in-Ok-clause-reason
returns-in-Ok-clause-reason g c n =
    let faults = g.D.Disk.faults in
    let shown = c.core.result.now in
    let said = c.say_work in
    reason_said (λ whole. whole ≡ (summary_text c.in-Ok.summary ++ line_end) ++ report_text shown.terms.origin shown.history) (λ whole. ⊥)
    n (g.K.Sink.faults c.args.sink.now) (g.K.Sink.faults said.new.sink) (faults c.args.core.disk) (faults c.close.result)
    (g.K.Sink.given c.args.sink.now) (g.K.Sink.given said.new.sink) said.result said.ensures.wrote
    (ap faults c.close.ensures ∙ c.in-Ok.ensures.disk_same ∙ ap (λ (k : Store _ _ _). faults k.disk) c.new-engine.ensures.core) said.ensures.other said.ensures.reason

pub returns-in-Err-clause-reason : goal.returns-in-Err-clause-reason
returns-in-Err-clause-reason g c n =
    let faults = g.D.Disk.faults in
    let failed = g.K.Sink.faults c.args.sink.now in
    let last = c.count_drawn.new.engine.core.disk in
    rw c.close-in-Err.ensures (subst
    (λ (k : Store _ _ _). HasReason (record { source = n; sink = failed; disk = faults k.disk }) (record { source = n; sink = failed; disk = faults last }) c.in-Err.status)
    c.new-engine.ensures.core
    (stopped_reason n failed (faults c.new-engine.result.core.disk) (faults last) c.in-Err.status c.in-Err.ensures.cause))
