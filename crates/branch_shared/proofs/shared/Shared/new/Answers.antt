-- What lies under the lock is the core that was named, and a writer that holds nothing.
use Rattle.std.proofs.Common.{[], ap, sym, subst, ◌∙◌}
use Rattle.branch_front.specs.Views.{View}
use Rattle.branch_history.specs.declared.moves.Move.{Move}
use Rattle.branch_machine.specs.Fixed.{fix}
use Rattle.branch_machine.specs.Validity.{IsFullyValid}
use Rattle.branch_names.specs.declared.terms.Terms.{Terms}
use Rattle.store_core.specs.Images.{AllStand}
use Rattle.branch_shared.specs.declared.name.Entry.{Entry}
use Rattle.branch_shared.specs.Crashes.{IsSharedAt}
use Rattle.branch_shared.specs.Names.{BlankView, IsNamed}
use Rattle.branch_shared.proofs.Crashes.{safe-first}
use Rattle.branch_shared.proofs.Naming.{kept-first}
use Rattle.branch_shared.proofs.shared.Shared.new.Goals as goal

pub invariant_of-kept : goal.invariant_of-kept
invariant_of-kept g c =
    let n = g.N.Named in
    let disk = g.D.Disk in
    let meaning = g.T.Mrdt.meaning in
    let address = g.A.Address.address in
    let fixed = fix meaning n.terms address in
    let blank = c.blank.inside in
    let core = blank.core in
    let named = subst (λ (b : BlankView (Move _ _) _). IsNamed b n.table n.queue n.begun n.terms n.parts n.opened) (sym c.blank.view_is) c.requires.name in
    let shared = subst (λ (b : BlankView (Move _ _) _). IsSharedAt disk n.since n.left b.core) (sym c.blank.view_is) c.requires.since in
    let valid = subst (λ (t : Terms). IsFullyValid (fix meaning t address) core.history) named.terms_are c.moves.ensures.valid in
    let stands = subst (λ (t : Terms). AllStand (fix meaning t address) core.history (disk.may_leave core.disk)) named.terms_are (c.moves.ensures.stands shared.works) in
    let safe = safe-first disk fixed n.since n.left n.begun n.allows core g.met.D.Disk.only_now shared named.history_is valid stands in
    let is = c.first-pass.ensures.writer ∙ ap (λ (w : View (Entry _ _)). record w { mine = []; others = []; parts = 0; receipts = 0 }) c.blank.invariant.0 in
    kept-first disk fixed n.table n.begun n.terms n.opened n.allows n.since n.left core blank.front.parts blank.front.table c.first-pass.new.self named.table_is named.history_is named.terms_are named.opened_is is safe
