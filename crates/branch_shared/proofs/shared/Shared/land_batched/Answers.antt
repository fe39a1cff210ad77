-- The part that went with the move comes back to its pass.
use Rattle.std.proofs.Common.{◌≡◌, ℕ, ◌+◌, ◌<◌, [], ◌++◌, length, max, ap, sym, subst, ◌∙◌, arith}
use Rattle.std.specs.List.{AllByRecursion}
use Rattle.branch_front.specs.Lists.{longer}
use Rattle.branch_front.specs.Views.{View}
use Rattle.branch_history.specs.declared.moves.Move.{Move}
use Rattle.branch_machine.specs.Fixed.{fix}
use Rattle.store_seen.specs.Views.{PreparedView}
use Rattle.branch_shared.specs.declared.name.Entry.{Entry}
use Rattle.branch_shared.specs.Passes.{PassView}
use Rattle.branch_shared.specs.Batches.{GivenView, LandsTogether, pass_of}
use Rattle.branch_shared.proofs.Adopts.{behind, adopted}
use Rattle.branch_shared.proofs.Spellings.{spelled-landed}
use Rattle.branch_shared.proofs.shared.Shared.land_batched.Goals as goal

pub adopt-requires-clause-behind : goal.adopt-requires-clause-behind
adopt-requires-clause-behind g c =
    let n = g.N.Named in
    let fixed = fix g.T.Mrdt.meaning n.terms g.A.Address.address in
    let made = c.args.prepared in
    let v = c.pass.inside.pass in
    let w = c.part.inside.pass in
    let answer = c.given.inside.answer in
    let given = c.land_together-given.result in
    let first = subst (λ (p : PreparedView _ _). LandsTogether fixed n.opened n.begun p (pass_of n.begun c.split_off-part.result) given) c.new-prepared.ensures c.land_together-given.ensures in
    let second = subst (λ (p : View (Entry _ _)). LandsTogether fixed n.opened n.begun made (pass_of n.begun p) given) c.split_off-part.ensures.new first in
    let third = subst (λ (p : GivenView _ _). LandsTogether fixed n.opened n.begun made (pass_of n.begun (record v { mine = []; others = []; parts = 1; receipts = 0 })) p) (sym c.given.view_is) second in
    let fourth = subst (λ (p : PassView (Move _ _)). LandsTogether fixed n.opened n.begun made (pass_of n.begun (record v { mine = []; others = []; parts = 1; receipts = 0 })) (record { pass = p; answer = answer })) (sym c.part.view_is) third in
    let same = ap (λ f. f.begun + length c.split_off-part.new.self.moves) c.self.invariant.0 ∙ ap (λ (s : View (Entry _ _)). length n.begun + length s.moves) c.split_off-part.ensures.this in
    subst (λ (m : ℕ). AllByRecursion (λ k. m < k) w.mine) (sym same) (behind fixed n.opened n.begun made v w answer fourth)

pub returns : goal.returns
returns g c =
    let n = g.N.Named in
    let fixed = fix g.T.Mrdt.meaning n.terms g.A.Address.address in
    let made = c.args.prepared in
    let v = c.pass.inside.pass in
    let w = c.part.inside.pass in
    let answer = c.given.inside.answer in
    let given = c.land_together-given.result in
    let first = subst (λ (p : PreparedView _ _). LandsTogether fixed n.opened n.begun p (pass_of n.begun c.split_off-part.result) given) c.new-prepared.ensures c.land_together-given.ensures in
    let second = subst (λ (p : View (Entry _ _)). LandsTogether fixed n.opened n.begun made (pass_of n.begun p) given) c.split_off-part.ensures.new first in
    let third = subst (λ (p : GivenView _ _). LandsTogether fixed n.opened n.begun made (pass_of n.begun (record v { mine = []; others = []; parts = 1; receipts = 0 })) p) (sym c.given.view_is) second in
    let fourth = subst (λ (p : PassView (Move _ _)). LandsTogether fixed n.opened n.begun made (pass_of n.begun (record v { mine = []; others = []; parts = 1; receipts = 0 })) (record { pass = p; answer = answer })) (sym c.part.view_is) third in
    let parts : v.parts ≡ c.args.pass.now.parts = ap (λ (p : PassView (Move _ _)). p.parts) c.pass.view_is in
    let some : 1 < c.args.pass.now.parts = c.requires.parts in
    let more : 1 < v.parts = omega arith in
    let lands = adopted fixed n.opened n.begun made v w answer fourth more in
    let new = c.adopt.ensures.pass
    ∙ ap (λ (s : View (Entry _ _)). record s { moves = longer s.moves w.moves; mine = s.mine ++ w.mine; others = s.others ++ w.others; faults = max s.faults w.faults; parts = s.parts + w.parts; receipts = s.receipts + w.receipts }) c.split_off-part.ensures.this in
    let now = subst (λ (u : View (Entry _ _)). LandsTogether fixed n.opened n.begun made (pass_of n.begun v) (record { pass = pass_of n.begun u; answer = answer })) (sym new) lands in
    let done = subst (λ (p : PassView (Move _ _)). LandsTogether fixed n.opened n.begun made p (record { pass = pass_of n.begun c.adopt.new.self; answer = answer })) c.pass.view_is now in
    record {
      prefix = done.prefix;
      sure = done.sure;
      begun = done.begins;
      valid = done.valid;
      faults = done.faults;
      parts = done.parts;
      landed = done.landed;
      spelled = spelled-landed g.T.Mrdt.meaning g.A.Address.address n.terms made c.args.pass.now (pass_of n.begun c.adopt.new.self) answer c.spells_landings.ensures c.requires.history c.requires.terms done.valid done.landed;
      refused = done.refused;
      rest = done.rest;
      quiet = done.quiet;
    }
