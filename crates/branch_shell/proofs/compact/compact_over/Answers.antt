use Rattle.std.proofs.Common.{◌≡◌, ◌≢◌, ℕ, sym, subst, inl}
use Rattle.std.specs.Prelude.{Option}
use Rattle.store_compact.specs.Compacting.{IsCompacted as IsMade, IsNotCompacted}
use Rattle.branch_shell.specs.Compacting.{counts_text, view_of}
use Rattle.branch_shell.proofs.Once.{reason_said}
use Rattle.branch_shell.proofs.Compactions.{made_so, not_made_so, no_cause_so, counts_so, aside_so, refused_reason, refused_wrote, refused_status}
use Rattle.branch_shell.specs.Values.{value_type}
use Rattle.branch_shell.specs.Stores.{Stored}
use Rattle.branch_shell.proofs.compact.compact_over.Goals as goal

pub returns-in-Ok-clause-wrote : goal.returns-in-Ok-clause-wrote
returns-in-Ok-clause-wrote g c =
    let store : Stored _ _ = record { terms = c.args.core.terms; history = c.args.core.history } in
    let made = c.in-Ok.ensures.compacted in
    let s = c.say_compacted-status in
    counts_so store c.in-Ok.counts made.kept made.moves s.result (g.K.Sink.given c.args.sink.now) (g.K.Sink.given s.new.sink) s.ensures.wrote

pub returns-in-Ok-clause-compacted : goal.returns-in-Ok-clause-compacted
returns-in-Ok-clause-compacted g c =
    let of = value_type g.T.Mrdt.meaning g.T.Forms.forms g.T.Kinded.KIND in
    let core = c.args.core in
    let store : Stored _ _ = record { terms = core.terms; history = core.history } in
    let placed = c.placed-held in
    let made = subst (λ v. IsMade g.D.Disk of.meaning g.A.Address.address c.args.which v c.args.other c.in-Ok.counts c.in-Ok.first c.in-Ok.second) c.requires.opened c.in-Ok.ensures.compacted in
    made_so g.D.Disk of g.A.Address.address c.args.which store core.disk c.args.other c.in-Ok.first c.in-Ok.second placed.result.0 placed.result.1
    placed.ensures.first placed.ensures.second c.in-Ok.counts c.say_compacted-status.result made

pub returns-in-Ok-clause-reason : goal.returns-in-Ok-clause-reason
returns-in-Ok-clause-reason g c n =
    let of = value_type g.T.Mrdt.meaning g.T.Forms.forms g.T.Kinded.KIND in
    let d = g.D.Disk in
    let core = c.args.core in
    let store : Stored _ _ = record { terms = core.terms; history = core.history } in
    let placed = c.placed-held in
    let s = c.say_compacted-status in
    let none = c.in-Ok.ensures.no_cause in
    let same = no_cause_so d of g.A.Address.address c.args.which store core.disk c.args.other c.in-Ok.first c.in-Ok.second placed.result.0 placed.result.1
    placed.ensures.first placed.ensures.second none.0 none.1 in
    inl (
      reason_said (λ whole. whole ≡ counts_text store) (λ whole. ⊥) n (g.K.Sink.faults c.args.sink.now) (g.K.Sink.faults s.new.sink)
          (d.faults core.disk) (d.faults placed.result.0) (g.K.Sink.given c.args.sink.now) (g.K.Sink.given s.new.sink)
          s.result (counts_so store c.in-Ok.counts c.in-Ok.ensures.compacted.kept c.in-Ok.ensures.compacted.moves s.result (g.K.Sink.given c.args.sink.now) (g.K.Sink.given s.new.sink) s.ensures.wrote)
          same.0 s.ensures.other s.ensures.reason,
      same.1,
    )

pub returns-in-Ok-clause-no_fault : goal.returns-in-Ok-clause-no_fault
returns-in-Ok-clause-no_fault g c fault =
    let of = value_type g.T.Mrdt.meaning g.T.Forms.forms g.T.Kinded.KIND in
    let core = c.args.core in
    let store : Stored _ _ = record { terms = core.terms; history = core.history } in
    let placed = c.placed-held in
    let none = c.in-Ok.ensures.no_cause in
    no_cause_so g.D.Disk of g.A.Address.address c.args.which store core.disk c.args.other c.in-Ok.first c.in-Ok.second placed.result.0 placed.result.1
    placed.ensures.first placed.ensures.second none.0 none.1

pub returns-in-Err-clause-wrote : goal.returns-in-Err-clause-wrote
returns-in-Err-clause-wrote g c =
    let store : Stored _ _ = record { terms = c.args.core.terms; history = c.args.core.history } in
    let s = c.status_of_refused in
    refused_wrote (λ whole. whole ≡ counts_text store) (λ whole. ⊥) c.in-Err.why s.result s.ensures.fault s.ensures.memory (g.K.Sink.given c.args.sink.now)

pub returns-in-Err-clause-compacted : goal.returns-in-Err-clause-compacted
returns-in-Err-clause-compacted g c =
    let of = value_type g.T.Mrdt.meaning g.T.Forms.forms g.T.Kinded.KIND in
    let core = c.args.core in
    let store : Stored _ _ = record { terms = core.terms; history = core.history } in
    let placed = c.placed-held-in-Err in
    let s = c.status_of_refused in
    let left = subst (λ v. IsNotCompacted g.D.Disk of.meaning g.A.Address.address c.args.which v c.args.other c.in-Err.why c.in-Err.first c.in-Err.second) c.requires.opened c.in-Err.ensures.refused in
    not_made_so g.D.Disk of g.A.Address.address c.args.which store core.disk c.args.other c.in-Err.first c.in-Err.second placed.result.0 placed.result.1
    placed.ensures.first placed.ensures.second c.in-Err.why s.result (refused_status c.in-Err.why s.result s.ensures.fault s.ensures.memory).0 left

pub returns-in-Err-clause-reason : goal.returns-in-Err-clause-reason
returns-in-Err-clause-reason g c n =
    let of = value_type g.T.Mrdt.meaning g.T.Forms.forms g.T.Kinded.KIND in
    let core = c.args.core in
    let store : Stored _ _ = record { terms = core.terms; history = core.history } in
    let placed = c.placed-held-in-Err in
    let s = c.status_of_refused in
    refused_reason g.D.Disk of g.A.Address.address c.args.which store core.disk c.args.other c.in-Err.first c.in-Err.second placed.result.0 placed.result.1
    placed.ensures.first placed.ensures.second n (g.K.Sink.faults c.args.sink.now) c.in-Err.why s.result s.ensures.fault s.ensures.memory c.in-Err.ensures.cause

pub returns-in-Err-clause-no_fault : goal.returns-in-Err-clause-no_fault
returns-in-Err-clause-no_fault g c fault =
    let s = c.status_of_refused in
    absurd ((refused_status c.in-Err.why s.result s.ensures.fault s.ensures.memory).1 fault)

pub compact-requires-clause-aside : goal.compact-requires-clause-aside
compact-requires-clause-aside g c κs within is f image = aside_so g.D.Disk c.args.which c.args.other c.requires.settled c.requires.aside is f image
