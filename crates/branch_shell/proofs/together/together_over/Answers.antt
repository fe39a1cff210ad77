-- Clients over a store that was opened, which may have failed meanwhile.
use Rattle.std.proofs.Common.{◌≡◌, ◌+◌, ℕ, List, refl, ap, sym, subst, ◌∙◌, arith}
use Rattle.std.specs.Prelude.{IfOk}
use Rattle.std.specs.List.{AllByRecursion}
use Rattle.branch_io.specs.Causes.{Rose}
use Rattle.branch_machine.specs.Fixed.{fix}
use Rattle.branch_names.specs.declared.terms.Terms.{Terms}
use Rattle.branch_shared.specs.Keeps.{faults_since}
use Rattle.branch_command.specs.Work.{Clients}
use Rattle.parallel_clients.specs.declared.outcome.Outcome.{Outcome}
use Rattle.parallel_clients.specs.Outcomes.{setting}
use Rattle.client_runs.specs.Worked.{HaveWorked}
use Rattle.store_core.specs.Images.{AllStand}
use Rattle.branch_shell.specs.Together.{FindsAll, TellsClients, RanOver}
use Rattle.branch_shell.proofs.Clients.{survives}
use Rattle.branch_shell.proofs.Once.{answers_map}
use Rattle.branch_shell.proofs.Outcomes.{reads_all, came_together, finds_all, fault_rose, reason_stays}
use Rattle.branch_shell.specs.Values.{value_type}
use Rattle.branch_shell.specs.Stores.{Stored}
use Rattle.branch_shell.proofs.together.together_over.Goals as goal

pub returns-then-has_failed-clause-survives : goal.returns-then-has_failed-clause-survives
returns-then-has_failed-clause-survives g c =
    let d = g.D.Disk in
    let address = g.A.Address.address in
    let of = value_type g.T.Mrdt.meaning g.T.Forms.forms g.T.Kinded.KIND in
    let core = c.args.core in
    let store : Stored _ _ = record { terms = core.terms; history = core.history } in
    let clients : Clients = record { count = c.args.work.count; work = record { steps = c.args.work.steps; number = c.args.work.number } } in
    let after = c.run_on-core.result.core in
    let ran = c.run_on-core.ensures in
    let came = came_together of address store clients after.history (d.faults core.opened) (faults_since d.faults after) c.run_on-core.result.outcomes ran.grows ran.valid ran.worked ran.idle in
    rw c.close-disk.ensures.same
    (survives of address d clients c.reads_what_stands.ensures c.has_fully_valid_prefixes.ensures core after _ ran.crashes came (λ other. absurd (other refl)))

pub returns-then-has_failed-clause-reason : goal.returns-then-has_failed-clause-reason
returns-then-has_failed-clause-reason g c n =
    let faults = g.D.Disk.faults in
    let core = c.args.core in
    let after = c.run_on-core.result.core in
    let failed = sym c.has_failed.ensures ∙ c.if-has_failed.true in
    let opened : faults after.opened ≡ faults core.disk = c.run_on-core.ensures.opened ∙ ap faults c.requires.fresh in
    let closed : faults c.close-disk.result ≡ faults after.disk = ap faults c.close-disk.ensures.same in
    let rose = subst (λ (k : ℕ). Rose k (faults after.disk)) opened (c.moves.ensures.caused failed) in
    (subst (λ (k : ℕ). Rose (faults core.disk) k) (sym closed) rose, refl, refl)

pub say_together-requires-clause-finds : goal.say_together-requires-clause-finds
say_together-requires-clause-finds g c κs within =
    let of = value_type g.T.Mrdt.meaning g.T.Forms.forms g.T.Kinded.KIND in
    let faults = g.D.Disk.faults in
    let core = c.args.core in
    let work = c.args.work in
    let after = c.run_on-core.result.core in
    let on = setting (fix of.meaning core.terms g.A.Address.address) of.forms (faults core.opened) in
    let since = faults_since faults after in
    let worked = subst (λ r. IfOk r (HaveWorked on core.history after.history since work.count work.steps work.number)) c.in-Ok.is c.run_on-core.ensures.worked in
    subst (AllByRecursion FindsAll) (sym c.as_slice.ensures) (finds_all on core.history after.history since work.count work.steps work.number c.in-Ok.outcomes worked)

pub returns-in-Ok-clause-wrote : goal.returns-in-Ok-clause-wrote
returns-in-Ok-clause-wrote g c =
    let d = g.D.Disk in
    let address = g.A.Address.address in
    let of = value_type g.T.Mrdt.meaning g.T.Forms.forms g.T.Kinded.KIND in
    let core = c.args.core in
    let work = c.args.work in
    let store : Stored _ _ = record { terms = core.terms; history = core.history } in
    let clients : Clients = record { count = work.count; work = record { steps = work.steps; number = work.number } } in
    let after = c.run_on-core.result.core in
    let ran = c.run_on-core.ensures in
    let on = setting (fix of.meaning core.terms address) of.forms (d.faults core.opened) in
    let since = faults_since d.faults after in
    let worked = subst (λ r. IfOk r (HaveWorked on core.history after.history since work.count work.steps work.number)) c.in-Ok.is ran.worked in
    let seen = c.as_slice.result.now in
    let working = sym c.has_failed.ensures ∙ c.if-has_failed.false in
    let stands = subst (λ (l : Terms). AllStand (fix of.meaning l address) after.history (d.may_leave after.disk)) ran.terms (c.moves.ensures.stands working) in
    answers_map (TellsClients after.terms.origin seen after.history) (λ whole. ⊥) (RanOver d.may_leave of address store clients c.close.result) (λ whole. ⊥)
    (λ whole tells. record {
      history = after.history;
      told = record {
        outcomes = seen;
        worked = record {
          opened = d.faults core.opened;
          since = since;
          grown = ran.grows;
          valid = ran.valid;
          worked = subst (λ (os : List Outcome). HaveWorked on core.history after.history since work.count work.steps work.number os) (sym c.as_slice.ensures) worked;
        };
        tells = subst (λ (l : Terms). TellsClients l.origin seen after.history whole) ran.terms tells;
      };
      reads = λ i left. reads_all of address c.reads_what_stands.ensures store after.history ran.valid (d.may_leave after.disk) stands i (subst (λ k. d.may_leave k i) c.close.ensures.same left);
    })
    (λ whole no. no) c.say_together.result (g.K.Sink.given c.args.sink.now) (g.K.Sink.given c.say_together.new.sink) c.say_together.ensures.wrote

pub returns-in-Ok-clause-survives : goal.returns-in-Ok-clause-survives
returns-in-Ok-clause-survives g c =
    let d = g.D.Disk in
    let address = g.A.Address.address in
    let of = value_type g.T.Mrdt.meaning g.T.Forms.forms g.T.Kinded.KIND in
    let core = c.args.core in
    let store : Stored _ _ = record { terms = core.terms; history = core.history } in
    let clients : Clients = record { count = c.args.work.count; work = record { steps = c.args.work.steps; number = c.args.work.number } } in
    let after = c.run_on-core.result.core in
    let ran = c.run_on-core.ensures in
    let came = came_together of address store clients after.history (d.faults core.opened) (faults_since d.faults after) c.run_on-core.result.outcomes ran.grows ran.valid ran.worked ran.idle in
    rw c.close.ensures.same
    (survives of address d clients c.reads_what_stands.ensures c.has_fully_valid_prefixes.ensures core after _ ran.crashes came (λ other. sym c.has_failed.ensures ∙ c.if-has_failed.false))

pub returns-in-Ok-clause-reason : goal.returns-in-Ok-clause-reason
returns-in-Ok-clause-reason g c n =
    let of = value_type g.T.Mrdt.meaning g.T.Forms.forms g.T.Kinded.KIND in
    let faults = g.D.Disk.faults in
    let core = c.args.core in
    let work = c.args.work in
    let after = c.run_on-core.result.core in
    let on = setting (fix of.meaning core.terms g.A.Address.address) of.forms (faults core.opened) in
    let since = faults_since faults after in
    let worked = subst (λ r. IfOk r (HaveWorked on core.history after.history since work.count work.steps work.number)) c.in-Ok.is c.run_on-core.ensures.worked in
    let seen = c.as_slice.result.now in
    let own = subst (λ (os : List Outcome). HaveWorked on core.history after.history since work.count work.steps work.number os) (sym c.as_slice.ensures) worked in
    let working = sym c.has_failed.ensures ∙ c.if-has_failed.false in
    let quiet : faults after.disk ≡ faults after.opened = c.moves.ensures.quiet working in
    let opened : faults after.opened ≡ faults core.opened = c.run_on-core.ensures.opened in
    let closed : faults c.close.result ≡ faults after.disk = ap faults c.close.ensures.same in
    let fresh : faults core.opened ≡ faults core.disk = ap faults c.requires.fresh in
    let last : faults core.opened + since ≡ faults c.close.result = omega (arith, quiet, opened, closed) in
    reason_stays (TellsClients after.terms.origin seen after.history) (λ whole. ⊥) n (g.K.Sink.faults c.args.sink.now) (g.K.Sink.faults c.say_together.new.sink) (faults core.disk) (faults c.close.result)
    (g.K.Sink.given c.args.sink.now) (g.K.Sink.given c.say_together.new.sink) c.say_together.result c.say_together.ensures.wrote (closed ∙ quiet ∙ opened ∙ fresh)
    (λ is.
    let rose = fault_rose on core.history after.history since work.count work.steps work.number seen own (c.say_together.ensures.fault is) in
    subst (λ (k : ℕ). Rose (faults core.disk) k) last (subst (λ (k : ℕ). Rose k (faults core.opened + since)) fresh rose))
    c.say_together.ensures.reason

pub returns-in-Err-clause-reason : goal.returns-in-Err-clause-reason
returns-in-Err-clause-reason g c n =
    let faults = g.D.Disk.faults in
    let core = c.args.core in
    let after = c.run_on-core.result.core in
    let quiet : faults after.disk ≡ faults after.opened = c.moves.ensures.quiet (sym c.has_failed.ensures ∙ c.if-has_failed.false) in
    let opened : faults after.opened ≡ faults core.disk = c.run_on-core.ensures.opened ∙ ap faults c.requires.fresh in
    (refl, refl, ap faults c.close-in-Err.ensures.same ∙ quiet ∙ opened)

pub returns-in-Err-clause-survives : goal.returns-in-Err-clause-survives
returns-in-Err-clause-survives g c =
    let d = g.D.Disk in
    let address = g.A.Address.address in
    let of = value_type g.T.Mrdt.meaning g.T.Forms.forms g.T.Kinded.KIND in
    let core = c.args.core in
    let store : Stored _ _ = record { terms = core.terms; history = core.history } in
    let clients : Clients = record { count = c.args.work.count; work = record { steps = c.args.work.steps; number = c.args.work.number } } in
    let after = c.run_on-core.result.core in
    let ran = c.run_on-core.ensures in
    let came = came_together of address store clients after.history (d.faults core.opened) (faults_since d.faults after) c.run_on-core.result.outcomes ran.grows ran.valid ran.worked ran.idle in
    rw c.close-in-Err.ensures.same
    (survives of address d clients c.reads_what_stands.ensures c.has_fully_valid_prefixes.ensures core after _ ran.crashes came (λ other. sym c.has_failed.ensures ∙ c.if-has_failed.false))
