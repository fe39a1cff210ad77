-- What opening refuses, and what files of no store are in the old version.
use Rattle.std.proofs.Common.{◌∙◌, subst}
use Rattle.branch_files.specs.Reading.{NotAStore, ReadsAsOf}
use Rattle.std.specs.Option.{ForSome}
use Rattle.store_core.specs.Opens.{OpenRefusedAs, ReadsAsNone}
use Rattle.branch_shell.proofs.Once.{unopened_so, unopened_else, has_text, wrapped_cause}
use Rattle.branch_shell.proofs.unopened.open_store.Goals as goal

pub returns-in-NotAStore-clause-refused : goal.returns-in-NotAStore-clause-refused
returns-in-NotAStore-clause-refused g c = λ f told.
    let e = c.in-Err.ensures in
    let kind = g.T.Kinded.KIND in
    let m = g.T.Mrdt.meaning in
    let address = g.A.Address.address in
    let asked = subst (λ k. OpenRefusedAs k m address c.in-Err.refusal f) c.KIND.ensures (e.refused f told) in
    let none : ReadsAsOf kind m address f NotAStore = subst (λ r. OpenRefusedAs kind m address r f) c.in-NotAStore.is asked in
    unopened_so kind m g.U.Mrdt.meaning address c.why_no_store-why.result f none (c.why_no_store-why.ensures.why f (e.same_err ∙ told))

pub returns-in-NotAStore-clause-refused_only : goal.returns-in-NotAStore-clause-refused_only
returns-in-NotAStore-clause-refused_only g c = λ some.
    subst (λ k. ForSome (g.D.Disk.contents c.args.disk) (ReadsAsNone k g.T.Mrdt.meaning g.A.Address.address)) c.KIND.ensures
    (c.in-Err.ensures.refused_only (λ x. let y = c.in-NotAStore.is in cc (x, y)) (λ x. let y = c.in-NotAStore.is in cc (x, y)))

pub returns-in_default-clause-refused : goal.returns-in_default-clause-refused
returns-in_default-clause-refused g c = λ f told.
    let m = g.T.Mrdt.meaning in
    let address = g.A.Address.address in
    let asked = subst (λ k. OpenRefusedAs k m address c.in-Err.refusal f) c.KIND.ensures (c.in-Err.ensures.refused f told) in
    unopened_else g.T.Kinded.KIND m g.U.Mrdt.meaning address c.in-Err.refusal f c.in_default.not-NotAStore asked

pub returns-in_default-clause-refused_only : goal.returns-in_default-clause-refused_only
returns-in_default-clause-refused_only g c = λ some.
    let said = has_text c.in-Err.refusal some in
    subst (λ k. ForSome (g.D.Disk.contents c.args.disk) (ReadsAsNone k g.T.Mrdt.meaning g.A.Address.address)) c.KIND.ensures
    (c.in-Err.ensures.refused_only said.0 said.1)

pub returns-in_default-clause-cause : goal.returns-in_default-clause-cause
returns-in_default-clause-cause g c = wrapped_cause (g.D.Disk.faults c.args.disk) (g.D.Disk.faults c.in-Err.disk) c.in-Err.refusal c.in-Err.ensures.cause
