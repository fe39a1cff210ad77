-- What was synced stays so while it is read, and is what the replay is of.
use Rattle.std.proofs.Common.{ℕ, List, sym, ◌∙◌, ap, subst, subst₂, arith}
use Rattle.branch_disk.specs.Moments.{now_too}
use Rattle.branch_names.specs.declared.terms.Terms.{Terms}
use Rattle.branch_history.specs.declared.moves.Move.{Move}
use Rattle.heads_journal.specs.declared.record.Record.{Record}
use Rattle.heads_journal.specs.Reading as heads_reading
use Rattle.branch_wire.specs.Reading.{HasLength64}
use Rattle.branch_machine.specs.Fixed.{fix_in}
use Rattle.branch_machine.specs.Validity.{IsFullyValid}
use Rattle.branch_files.specs.Reading.{Opens, ReadsInOf}
use Rattle.branch_files.specs.Records.{header_in, AreKnown}
use Rattle.recorded_history.specs.Views.{RecordedView}
use Rattle.std.specs.Option.{ForSome}
use Rattle.commit_replay.specs.Follows.{form_of}
use Rattle.store_core.specs.declared.answers.OpenRefused.{OpenRefused}
use Rattle.store_core.specs.Opens.{OpenRefusedInOf, RefusedOnlyInOf}
use Rattle.store_core.proofs.Opened.{as-many, one-answer, refused-none, refused-only, IsNone, refused-if}
use Rattle.store_core.proofs.Sure.{both-leave}
use Rattle.store_core.proofs.reading.read_in.Goals as goal

pub returns-in-Err-DiskFault-clause-any_moment : goal.returns-in-Err-DiskFault-clause-any_moment
returns-in-Err-DiskFault-clause-any_moment g c =
    let d = g.D.Disk in let laws = g.met.D.Disk in
    both-leave d.may_leave d.moment d.left_since laws.counts_now _ _ _ c.read_heads.ensures.any_moment c.read_whole.ensures.any_moment

pub returns-in-Err-Memory-clause-any_moment : goal.returns-in-Err-Memory-clause-any_moment
returns-in-Err-Memory-clause-any_moment g c =
    let d = g.D.Disk in let laws = g.met.D.Disk in
    both-leave d.may_leave d.moment d.left_since laws.counts_now _ _ _ c.read_heads.ensures.any_moment c.read_whole.ensures.any_moment

pub returns-in_err-recorded-clause-any_moment : goal.returns-in_err-recorded-clause-any_moment
returns-in_err-recorded-clause-any_moment g c =
    let d = g.D.Disk in let laws = g.met.D.Disk in
    both-leave d.may_leave d.moment d.left_since laws.counts_now _ _ _ c.read_heads.ensures.any_moment c.read_whole.ensures.any_moment

pub returns-clause-any_moment : goal.returns-clause-any_moment
returns-clause-any_moment g c =
    let d = g.D.Disk in let laws = g.met.D.Disk in
    both-leave d.may_leave d.moment d.left_since laws.counts_now _ _ _ c.read_heads.ensures.any_moment c.read_whole.ensures.any_moment

pub returns-clause-sure : goal.returns-clause-sure
returns-clause-sure g c = λ f image.
    let d = g.D.Disk in let laws = g.met.D.Disk in
    c.in_ok-journal.ensures.sure f (now_too d.moment d.left_since d.may_leave laws.counts_now _ _ _ c.read_whole.ensures.any_moment f image)

pub returns-clause-counted : goal.returns-clause-counted
returns-clause-counted g c =
    let form = form_of c.args.version in let m = g.T.Mrdt.meaning in let address = g.A.Address.address in
    let terms = c.in_ok-journal.terms in let moves = c.in_ok-recorded.recorded.written in
    as-many form m address terms moves c.in_ok-journal.records _ (c.in_ok-recorded.ensures.all ∙ c.as_slice.ensures)
    (c.has_gates.ensures form terms address g.met.A.Address.size moves c.in_ok-recorded.ensures.valid) c.in_ok-journal.ensures.long

pub returns-clause-reads : goal.returns-clause-reads
returns-clause-reads g c = λ f told.
    let form = form_of c.args.version in let m = g.T.Mrdt.meaning in let address = g.A.Address.address in
    let terms = c.in_ok-journal.terms in let moves = c.in_ok-recorded.recorded.written in
    let objects = sym (c.in-Ok.ensures.bytes f (c.read_heads.ensures.same ∙ told)) in
    let heads = subst (λ (rs : List Record). heads_reading.ReadsAs f.heads (header_in form terms) rs c.in_ok-journal.stop) (sym c.as_slice.ensures) (c.in_ok-journal.ensures.read f told) in
    let same = ap (λ (r : RecordedView (Move g.row.T-Op.Denot g.row.T-Reply.Denot)). r.terms) c.in_ok-recorded.ensures.settled in
    subst₂ (λ (l : Terms) (k : ℕ). ReadsInOf form k m address f (Opens l moves)) (sym same) c.in_ok-journal.ensures.kind (c.in_ok-recorded.ensures.reads f objects heads)

pub returns-clause-only : goal.returns-clause-only
returns-clause-only g c = λ f told.
    let form = form_of c.args.version in let m = g.T.Mrdt.meaning in let address = g.A.Address.address in
    let terms = c.in_ok-journal.terms in let moves = c.in_ok-recorded.recorded.written in
    let objects = sym (c.in-Ok.ensures.bytes f (c.read_heads.ensures.same ∙ told)) in
    let heads = subst (λ (rs : List Record). heads_reading.ReadsAs f.heads (header_in form terms) rs c.in_ok-journal.stop) (sym c.as_slice.ensures) (c.in_ok-journal.ensures.read f told) in
    let same = ap (λ (r : RecordedView (Move g.row.T-Op.Denot g.row.T-Reply.Denot)). r.terms) c.in_ok-recorded.ensures.settled in
    let short = subst (λ (o : List ℕ). HasLength64 o) (sym objects) c.replay_all.ensures.short in
    one-answer form c.args.kind m address f (c.reads_of_a_kind_in_one_way.ensures form) g.met.A.Address.size short (Opens c.in_ok-recorded.recorded.terms moves) (subst₂ (λ (l : Terms) (k : ℕ). ReadsInOf form k m address f (Opens l moves)) (sym same) c.in_ok-journal.ensures.kind (c.in_ok-recorded.ensures.reads f objects heads))

pub returns-in_err-recorded-clause-refused_only : goal.returns-in_err-recorded-clause-refused_only
returns-in_err-recorded-clause-refused_only g c =
    let form = form_of c.args.version in let m = g.T.Mrdt.meaning in let address = g.A.Address.address in
    refused-if (IsNone form c.args.kind m address (g.D.Disk.contents c.args.disk.now)) c.in_err-recorded.field-0.0 c.from_residual-in_err-recorded.result c.from_residual-in_err-recorded.ensures.1
    (λ no_fault no_want f told.
    let objects = sym (c.in-Ok.ensures.bytes f (c.read_heads.ensures.same ∙ told)) in
    let heads = subst (λ (rs : List Record). heads_reading.ReadsAs f.heads (header_in form c.in_ok-journal.terms) rs c.in_ok-journal.stop) (sym c.as_slice.ensures) (c.in_ok-journal.ensures.read f told) in
    let short = subst (λ (o : List ℕ). HasLength64 o) (sym objects) c.replay_all.ensures.short in
    refused-none form c.args.kind m address f (c.reads_of_a_kind_in_one_way.ensures form) g.met.A.Address.size short c.in_err-recorded.field-0.0 (subst (λ (k : ℕ). OpenRefusedInOf form k m address c.in_err-recorded.field-0.0 f) c.in_ok-journal.ensures.kind (c.in_err-recorded.ensures.refused f objects heads)) no_fault no_want)

pub returns-in_err-journal-clause-refused_only : goal.returns-in_err-journal-clause-refused_only
returns-in_err-journal-clause-refused_only g c =
    refused-if (IsNone (form_of c.args.version) c.args.kind g.T.Mrdt.meaning g.A.Address.address (g.D.Disk.contents c.args.disk.now)) c.in_err-journal.field-0.0 c.from_residual.result c.from_residual.ensures.1 c.in_err-journal.ensures.refused_only

pub returns-in_err-recorded-clause-only_refused : goal.returns-in_err-recorded-clause-only_refused
returns-in_err-recorded-clause-only_refused g c =
    let form = form_of c.args.version in let m = g.T.Mrdt.meaning in let address = g.A.Address.address in
    refused-if (λ (e : OpenRefused). ForSome (g.D.Disk.contents c.args.disk.now) (RefusedOnlyInOf form c.args.kind m address e)) c.in_err-recorded.field-0.0 c.from_residual-in_err-recorded.result c.from_residual-in_err-recorded.ensures.1
    (λ f told.
    let objects = sym (c.in-Ok.ensures.bytes f (c.read_heads.ensures.same ∙ told)) in
    let heads = subst (λ (rs : List Record). heads_reading.ReadsAs f.heads (header_in form c.in_ok-journal.terms) rs c.in_ok-journal.stop) (sym c.as_slice.ensures) (c.in_ok-journal.ensures.read f told) in
    let short = subst (λ (o : List ℕ). HasLength64 o) (sym objects) c.replay_all.ensures.short in
    refused-only form c.args.kind m address f (c.reads_of_a_kind_in_one_way.ensures form) g.met.A.Address.size short c.in_err-recorded.field-0.0 (subst (λ (k : ℕ). OpenRefusedInOf form k m address c.in_err-recorded.field-0.0 f) c.in_ok-journal.ensures.kind (c.in_err-recorded.ensures.refused f objects heads)))

pub returns-in_err-recorded-clause-refused : goal.returns-in_err-recorded-clause-refused
returns-in_err-recorded-clause-refused g c =
    let form = form_of c.args.version in let m = g.T.Mrdt.meaning in let address = g.A.Address.address in
    refused-if (λ (e : OpenRefused). ForSome (g.D.Disk.contents c.args.disk.now) (OpenRefusedInOf form c.args.kind m address e)) c.in_err-recorded.field-0.0 c.from_residual-in_err-recorded.result c.from_residual-in_err-recorded.ensures.1
    (λ f told.
    let objects = sym (c.in-Ok.ensures.bytes f (c.read_heads.ensures.same ∙ told)) in
    let heads = subst (λ (rs : List Record). heads_reading.ReadsAs f.heads (header_in form c.in_ok-journal.terms) rs c.in_ok-journal.stop) (sym c.as_slice.ensures) (c.in_ok-journal.ensures.read f told) in
    subst (λ (k : ℕ). OpenRefusedInOf form k m address c.in_err-recorded.field-0.0 f) c.in_ok-journal.ensures.kind (c.in_err-recorded.ensures.refused f objects heads))

pub returns-clause-cause : goal.returns-clause-cause
returns-clause-cause g c =
    let one = c.in_ok-journal.ensures.cause.others (λ e. absurd (cc)) in
    let two = c.in-Ok.ensures.cause.others (λ e. absurd (cc)) in
    record { later = omega (arith, one, two); failed = λ e. absurd (cc); others = λ _. two ∙ one }

pub returns-in_err-journal-clause-only_refused : goal.returns-in_err-journal-clause-only_refused
returns-in_err-journal-clause-only_refused g c =
    refused-if (λ (e : OpenRefused). ForSome (g.D.Disk.contents c.args.disk.now) (RefusedOnlyInOf (form_of c.args.version) c.args.kind g.T.Mrdt.meaning g.A.Address.address e)) c.in_err-journal.field-0.0 c.from_residual.result c.from_residual.ensures.1 c.in_err-journal.ensures.only_refused

pub returns-clause-valid : goal.returns-clause-valid
returns-clause-valid g c =
    let same = ap (λ (r : RecordedView (Move g.row.T-Op.Denot g.row.T-Reply.Denot)). r.terms) c.in_ok-recorded.ensures.settled in
    subst (λ (l : Terms). IsFullyValid (fix_in (form_of c.args.version) g.T.Mrdt.meaning l g.A.Address.address) c.in_ok-recorded.recorded.written) (sym same) c.in_ok-recorded.ensures.valid

pub returns-clause-known : goal.returns-clause-known
returns-clause-known g c =
    let same = ap (λ (r : RecordedView (Move g.row.T-Op.Denot g.row.T-Reply.Denot)). r.terms) c.in_ok-recorded.ensures.settled in
    subst (λ (l : Terms). AreKnown (fix_in (form_of c.args.version) g.T.Mrdt.meaning l g.A.Address.address) c.in_ok-recorded.recorded.written) (sym same) c.in_ok-recorded.ensures.known

pub returns-clause-kind : goal.returns-clause-kind
returns-clause-kind g c =
    ap (λ (r : RecordedView (Move g.row.T-Op.Denot g.row.T-Reply.Denot)). r.terms.kind) c.in_ok-recorded.ensures.settled ∙ c.in_ok-journal.ensures.kind
