use Rattle.std.proofs.Common.{◌≡◌, ℕ, refl, inl, inr, ap, subst}
use Rattle.std.specs.Prelude.{Option, Some}
use Rattle.mrdt_old_doc.specs.OldDocument.{old_document}
use Rattle.branch_shell.specs.Refusals.{unopened_text}
use Rattle.branch_shell.specs.Counts.{HaveReason}
use Rattle.branch_shell.specs.Documents.{SaysUnopened}
use Rattle.branch_shell.specs.Stores.{Stored, IsOpenedAs}
use Rattle.branch_shell.specs.Disks.{StaysSame}
use Rattle.branch_shell.specs.Compacting.{counts_text, SaysCompacted, StaysAside, RanCompact}
use Rattle.branch_shell.proofs.Once.{answers_map, says_refused, reason_opening, not_behind}
use Rattle.branch_shell.proofs.Works.{never_refused}
use Rattle.branch_shell.proofs.Compactions.{never_done}
use Rattle.branch_shell.specs.Values.{value_type}
use denote.Param.Send.{sendable}
use Rattle.documents_cross.proofs.Crosses.{Doc1-send, Doc1-sync}
use Rattle.branch_shell.proofs.compact.run_compact.Goals as goal

pub returns-in-Ok-clause-ran : goal.returns-in-Ok-clause-ran
returns-in-Ok-clause-ran g c =
    let d = g.D.Disk in
    let address = g.A.Address.address in
    let of = value_type g.T.Mrdt.meaning g.T.Forms.forms g.T.Kinded.KIND in
    let core = c.in-Ok.core in
    let opened = c.in-Ok.ensures in
    let told = d.contents c.args.held in
    let found : Stored _ _ = record { terms = core.terms; history = core.history } in
    let is : IsOpenedAs of.kind of.meaning address told found = record { valid = opened.valid; kind_is = opened.kind; reads = opened.reads; only = opened.only } in
    let over = c.compact_over in
    let w = answers_map (λ whole. whole ≡ counts_text found) (λ whole. ⊥) (SaysCompacted of address told) (SaysUnopened of address told)
    (λ whole says. (found, is, says)) (λ whole no. absurd no) over.result.0 (g.K.Sink.given c.args.sink.now) (g.K.Sink.given over.new.sink) over.ensures.wrote in (
      w.0,
      w.1,
      record {
        wrote = w.2;
        left = inr (found, is, record { opened = core.disk; before = opened.any_moment; since = over.ensures.compacted });
        refused = λ refused. absurd {A = StaysAside d c.args.held over.result.1 c.args.other over.result.2 over.result.0}
            (never_refused (λ whole. whole ≡ counts_text found) over.result.0 (g.K.Sink.given c.args.sink.now) (g.K.Sink.given over.new.sink) over.ensures.wrote refused);
      },
    )

pub returns-in-Ok-clause-reason : goal.returns-in-Ok-clause-reason
returns-in-Ok-clause-reason g c n =
    let d = g.D.Disk in
    let over = c.compact_over in
    subst (λ (f : ℕ). HaveReason (record { source = n; sink = g.K.Sink.faults c.args.sink.now; first = f; second = d.faults c.args.other })
    (record { source = n; sink = g.K.Sink.faults over.new.sink; first = d.faults over.result.1; second = d.faults over.result.2 }) over.result.0)
    c.in-Ok.ensures.no_cause (over.ensures.reason n)

pub returns-in-Ok-clause-no_fault : goal.returns-in-Ok-clause-no_fault
returns-in-Ok-clause-no_fault g c fault =
    let d = g.D.Disk in
    let over = c.compact_over in
    subst (λ (f : ℕ). (d.faults over.result.1 ≡ f) × (d.faults over.result.2 ≡ d.faults c.args.other)) c.in-Ok.ensures.no_cause (over.ensures.no_fault fault)

pub returns-in-Err-clause-ran : goal.returns-in-Err-clause-ran
returns-in-Err-clause-ran g c =
    let d = g.D.Disk in
    let address = g.A.Address.address in
    let of = value_type g.T.Mrdt.meaning g.T.Forms.forms g.T.Kinded.KIND in
    let told = d.contents c.args.held in
    let refused = c.in-Err.ensures in
    let w = answers_map (λ whole. ⊥) (λ whole. unopened_text c.in-Err.why ≡ Some whole) (SaysCompacted of address told) (SaysUnopened of address told)
    (λ whole no. absurd no) (says_refused of.kind of.meaning old_document address told c.in-Err.why refused.refused refused.refused_only) c.refuse.result
    (g.K.Sink.given c.args.sink.now) (g.K.Sink.given c.refuse.new.sink) c.refuse.ensures.wrote in
    let same : StaysSame d c.args.held c.in-Err.held = record { same = refused.same_err; kept = refused.any_moment_err } in
    let aside : StaysAside d c.args.held c.in-Err.held c.args.other c.args.other c.refuse.result = record {
      undone = never_done (λ whole. unopened_text c.in-Err.why ≡ Some whole) c.refuse.result (g.K.Sink.given c.args.sink.now) (g.K.Sink.given c.refuse.new.sink) c.refuse.ensures.wrote;
      current = same;
      aside = refl;
    } in
    (w.0, w.1, record { wrote = w.2; left = inl aside; refused = λ refused. aside })

pub returns-in-Err-clause-reason : goal.returns-in-Err-clause-reason
returns-in-Err-clause-reason g c n = inl (
  reason_opening (λ whole. ⊥) (λ whole. unopened_text c.in-Err.why ≡ Some whole) n (g.K.Sink.faults c.args.sink.now) (g.K.Sink.faults c.refuse.new.sink) (g.D.Disk.faults c.args.held) (g.D.Disk.faults c.in-Err.held)
      (g.K.Sink.given c.args.sink.now) (g.K.Sink.given c.refuse.new.sink) c.in-Err.why c.refuse.result c.refuse.ensures.wrote c.in-Err.ensures.cause c.refuse.ensures.fault c.refuse.ensures.reason,
  refl,
)

pub returns-in-Err-clause-no_fault : goal.returns-in-Err-clause-no_fault
returns-in-Err-clause-no_fault g c fault =
    (not_behind (g.D.Disk.faults c.args.held) (g.D.Disk.faults c.in-Err.held) c.in-Err.why c.refuse.result c.in-Err.ensures.cause c.refuse.ensures.fault fault, refl)

pub open_store-requires-send-U : goal.open_store-requires-send-U
open_store-requires-send-U g c κs within = let d = Doc1-send in search sendable

pub open_store-requires-sync-U : goal.open_store-requires-sync-U
open_store-requires-sync-U g c κs within = let d = Doc1-sync in search sendable
