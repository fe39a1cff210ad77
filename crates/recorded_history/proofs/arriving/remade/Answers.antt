-- What the fields ask for is made anew, or nothing is asked for.
use Rattle.std.proofs.Common.{◌≡◌, ap, sym, ◌∙◌, subst, Err}
use Rattle.std.proofs.lemmas.Result.{err_from_is_err_and}
use Rattle.mrdt_model.specs.declared.errors.Unread.TheVariants as unread
use Rattle.branch_history.specs.History.{store_of}
use Rattle.branch_history.specs.Validity.{IsStep}
use Rattle.branch_machine.specs.Fixed.{fix}
use Rattle.store_seen.specs.Arrivals.{RemakeRefusedAs, receive_merge}
use Rattle.recorded_history.specs.Asks.{fields_in, HaveAddresses, IsAsked}
use Rattle.recorded_history.proofs.Asked.{none-parents, none-op}
use Rattle.recorded_history.proofs.Remade.{some-of, same-unread, operation-asked, merge-parents, merge-none}
use Rattle.recorded_history.proofs.arriving.remade.Goals as goal

pub returns-in_default-clause-none : goal.returns-in_default-clause-none
returns-in_default-clause-none g c = λ _ step asked.
    let laws = (g.met.T.Mrdt g.world.𝓛 g.world.𝓜 g.world.𝓡 ((λ s x. x), (λ x. x), (λ x. x), λ x. x)).laws in
    let core = c.args.versions.now.core in
    let fixed = fix g.T.Mrdt.meaning core.terms g.A.Address.address in
    none-parents fixed laws g.met.A.Address.size core.history c.requires.addressed.valid (fields_in c.args.fields.now) (λ commits have. c.in_ok-parents.ensures.none c.in_default.is commits (subst (λ l. HaveAddresses fixed core.history l commits) (sym c.as_slice.ensures) have)) step asked

pub returns-in_err-op-in-Operation-clause-none : goal.returns-in_err-op-in-Operation-clause-none
returns-in_err-op-in-Operation-clause-none g c = λ error step asked.
    let laws = (g.met.T.Mrdt g.world.𝓛 g.world.𝓜 g.world.𝓡 ((λ s x. x), (λ x. x), (λ x. x), λ x. x)).laws in
    let core = c.args.versions.now.core in
    let fixed = fix g.T.Mrdt.meaning core.terms g.A.Address.address in
    let f = fields_in c.args.fields.now in
    let e = c.in_err-op-in-Operation.field-0.0 in
    let p = err_from_is_err_and c.from_residual-in_err-op-in-Operation.result c.from_residual-in_err-op-in-Operation.ensures.1 in
    let bad = same-unread c.from_residual-in_err-op-in-Operation.result e unread.NotCanonical p.0 p.1 p.2 error in
    let none = subst (λ b. ¬ fixed.meaning.is_op_spelling b) c.as_slice-in-Operation.ensures.bytes (c.in_err-op-in-Operation.ensures.outside (ap Err bad)) in
    none-op fixed laws g.met.A.Address.size core.history c.requires.addressed.valid f c.in-Operation.op c.in-Operation.reply c.requires.known.short c.in-Operation.is none step asked

pub returns-in-Operation-clause-asked : goal.returns-in-Operation-clause-asked
returns-in-Operation-clause-asked g c =
    let core = c.args.versions.now.core in
    let fixed = fix g.T.Mrdt.meaning core.terms g.A.Address.address in
    let f = fields_in c.args.fields.now in
    let parents = c.in-Some.parents in
    let have = subst (λ l. HaveAddresses fixed core.history l parents.items) c.as_slice.ensures (some-of (λ v. HaveAddresses fixed core.history c.as_slice.result.now v.items) c.in_ok-parents.field-0 parents c.in-Some.is c.in_ok-parents.ensures.found) in
    let made = c.in_ok-remake_operation-in-Operation.ensures in
    let known = c.in_ok-op-in-Operation.ensures in
    subst (λ m. IsAsked fixed core.history f m.step) (sym made.remade)
    (operation-asked fixed core.history f c.requires.known parents.items have c.in-Operation.op c.in-Operation.reply c.in_ok-op-in-Operation.op c.index.result.now c.index.ensures c.in-Operation.is (known.spelled ∙ c.as_slice-in-Operation.ensures.bytes) made.step)

pub returns-in-Err-NotApart-clause-none : goal.returns-in-Err-NotApart-clause-none
returns-in-Err-NotApart-clause-none g c = λ _ step asked.
    let laws = (g.met.T.Mrdt g.world.𝓛 g.world.𝓜 g.world.𝓡 ((λ s x. x), (λ x. x), (λ x. x), λ x. x)).laws in
    let core = c.args.versions.now.core in
    let fixed = fix g.T.Mrdt.meaning core.terms g.A.Address.address in
    let f = fields_in c.args.fields.now in
    let parents = c.in-Some.parents in
    let have = subst (λ l. HaveAddresses fixed core.history l parents.items) c.as_slice.ensures (some-of (λ v. HaveAddresses fixed core.history c.as_slice.result.now v.items) c.in_ok-parents.field-0 parents c.in-Some.is c.in_ok-parents.ensures.found) in
    let apart = subst (RemakeRefusedAs g.T.Mrdt.meaning core (receive_merge f.branch c.deref.result.now)) c.in-Err-NotApart.field-0-is c.in-Err-NotApart.ensures.refused in
    let none = subst (λ l. ¬ IsStep g.T.Mrdt.meaning (store_of core.terms.origin core.history) (receive_merge f.branch l)) c.deref.ensures.value apart in
    merge-none fixed core.history laws g.met.A.Address.size c.requires.addressed.valid f parents.items have c.in-Merge.is (merge-parents fixed core.history f c.requires.known parents.items have c.in-Merge.is).0 none step asked
