-- The step receives the item exactly where what was made anew has its objects.
use Rattle.std.proofs.Common.{◌≡◌, refl, ap, sym, ◌∙◌, subst, Err, true, false}
use Rattle.std.proofs.lemmas.Bool.{both_ways}
use Rattle.std.proofs.lemmas.Result.{err_from_is_err_and}
use Rattle.mrdt_model.specs.declared.errors.Unread.TheVariants as unread
use Rattle.branch_history.specs.History.{store_of}
use Rattle.branch_machine.specs.Fixed.{fix}
use Rattle.branch_machine.specs.Validity.{IsItem}
use Rattle.store_seen.specs.Arrivals.{IsWrittenOf}
use Rattle.recorded_history.specs.Asks.{fields_in, item_with}
use Rattle.recorded_history.proofs.Asked.{item-asked, asked-same}
use Rattle.recorded_history.proofs.Remade.{same-unread}
use Rattle.recorded_history.proofs.Told.{told-item, item-told}
use Rattle.recorded_history.proofs.arriving.arrival_of.Goals as goal

pub returns-in_err-made-clause-none : goal.returns-in_err-made-clause-none
returns-in_err-made-clause-none g c = λ error step i.
    let laws = (g.met.T.Mrdt g.world.𝓛 g.world.𝓜 g.world.𝓡 ((λ s x. x), (λ x. x), (λ x. x), λ x. x)).laws in
    let core = c.args.versions.now.core in
    let fixed = fix g.T.Mrdt.meaning core.terms g.A.Address.address in
    let f = fields_in c.args.fields.now in
    let e = c.in_err-made.field-0.0 in
    let p = err_from_is_err_and c.from_residual.result c.from_residual.ensures.1 in
    let bad = same-unread c.from_residual.result e unread.NotCanonical p.0 p.1 p.2 error in
    c.in_err-made.ensures.none (ap Err bad) step (item-asked fixed laws g.met.A.Address.size core.history c.requires.addressed.valid (item_with c.args.value.now f) f c.requires.known refl step i)

pub returns-then-branch-clause-item : goal.returns-then-branch-clause-item
returns-then-branch-clause-item g c =
    let laws = (g.met.T.Mrdt g.world.𝓛 g.world.𝓜 g.world.𝓡 ((λ s x. x), (λ x. x), (λ x. x), λ x. x)).laws in
    let core = c.args.versions.now.core in
    let fixed = fix g.T.Mrdt.meaning core.terms g.A.Address.address in
    let f = fields_in c.args.fields.now in
    let made = c.in_ok-made.made in
    let w = c.written.result in
    let written = subst (λ k. IsWrittenOf fixed.meaning k.terms.layout (store_of k.terms.origin k.history).commits made.step w) c.in_ok-made.ensures.made c.written.ensures in
    told-item fixed laws g.met.A.Address.size core.history c.requires.addressed.valid c.args.value.now f made.step w c.in_ok-made.ensures.asked written c.requires.known.clock (c.in_ok-is_told.ensures.0 c.if-branch.true)

pub returns-else-branch-clause-none : goal.returns-else-branch-clause-none
returns-else-branch-clause-none g c = λ _ step i.
    let laws = (g.met.T.Mrdt g.world.𝓛 g.world.𝓜 g.world.𝓡 ((λ s x. x), (λ x. x), (λ x. x), λ x. x)).laws in
    let core = c.args.versions.now.core in
    let fixed = fix g.T.Mrdt.meaning core.terms g.A.Address.address in
    let size = g.met.A.Address.size in
    let f = fields_in c.args.fields.now in
    let value = c.args.value.now in
    let valid = c.requires.addressed.valid in
    let made = c.in_ok-made.made in
    let w = c.written.result in
    let written = subst (λ k. IsWrittenOf fixed.meaning k.terms.layout (store_of k.terms.origin k.history).commits made.step w) c.in_ok-made.ensures.made c.written.ensures in
    let asked = item-asked fixed laws size core.history valid (item_with value f) f c.requires.known refl step i in
    let other = asked-same fixed laws size core.history valid f c.requires.known.short step made.step asked c.in_ok-made.ensures.asked in
    let mine = subst (λ t. IsItem fixed core.history t (item_with value f)) other i in
    both_ways c.in_ok-is_told.field-0 c.if-branch.false (c.in_ok-is_told.ensures.1 (item-told fixed laws size core.history valid value f c.requires.known made.step w mine written))
