use Rattle.std.proofs.Common.{◌≡◌, ◌∷◌, ◌++◌, [], length, ap, sym, subst, ◌∙◌}
use Rattle.std.specs.List.{AllByRecursion}
use mathlib.Core.List.{IsPrefix}
use Rattle.branch_front.proofs.Prefixes.{prefix_trans}
use Rattle.branch_machine.specs.Fixed.{fix}
use Rattle.branch_front.specs.Views.{View}
use Rattle.store_seen.specs.Turns.{move_of}
use Rattle.branch_shared.specs.declared.name.Entry.{Entry}
use Rattle.branch_shared.specs.Entries.{AreNoted, moments_of, moves_of}
use Rattle.branch_shared.specs.Keeps.{faults_since}
use Rattle.branch_shared.proofs.Accepted.{accepted}
use Rattle.branch_shared.proofs.Calls.{safe-landed, safe-under}
use Rattle.branch_shared.proofs.Entries.{GoOn, each-known, knows-both, noted-moments, noted-none}
use Rattle.branch_shared.proofs.Held.{kept-on, kept-still, land-stayed, same-grown}
use Rattle.branch_shared.proofs.Makes.{job-allowed}
use Rattle.branch_shared.proofs.kept.Kept.land.Goals as goal

pub add-requires-clause-grown : goal.add-requires-clause-grown
add-requires-clause-grown g c κs within =
    let landed = accepted c.land_addressed-outcome.result c.land_addressed-outcome.ensures.landed (sym c.is_ok.ensures.value ∙ c.if-is_ok.true) in
    let branch = c.args.prepared.seen.branch in
    let work = c.args.prepared.work in
    let made = move_of branch work in
    let grown : c.land_addressed-outcome.new.self.history ≡ c.self.inside.core.history ++ made ∷ [] = ap (λ s. s.history) landed.1.history in
    let known : c.self.inside.core.history ≡ g.N.Named.begun ++ moves_of c.see.new.writer.moves = c.self.invariant.history_is ∙ sym (ap (λ w. g.N.Named.begun ++ moves_of w.moves) c.see.ensures.writer) in
    let own = fix g.T.Mrdt.meaning c.self.inside.core.terms g.A.Address.address in
    let all = (job-allowed own g.N.Named.allows c.self.inside.core.history c.args.prepared c.requires.allowed).1 in
    (made, grown ∙ ap (λ w. w ++ made ∷ []) known, (subst (AllByRecursion g.N.Named.allows) (ap (λ t. t.made) landed.1.turn_is) all).0)

pub returns-then-is_ok-clause-prefix : goal.returns-then-is_ok-clause-prefix
returns-then-is_ok-clause-prefix g c =
    let landed = accepted c.land_addressed-outcome.result c.land_addressed-outcome.ensures.landed (sym c.is_ok.ensures.value ∙ c.if-is_ok.true) in
    let grown : IsPrefix c.self.inside.core.history c.land_addressed-outcome.new.self.history = (move_of c.args.prepared.seen.branch c.args.prepared.work ∷ [], sym (ap (λ s. s.history) landed.1.history)) in
    rw (ap (λ v. v.moves) c.add.ensures.pass) (prefix_trans _ _ _ c.see.ensures.prefix grown)

pub returns-then-is_ok-clause-sure : goal.returns-then-is_ok-clause-sure
returns-then-is_ok-clause-sure g c = knows-both g.N.Named.begun c.args.pass.now c.see.new.pass c.add.new.pass c.see.ensures.knows c.add.ensures.knows

pub returns-else-is_ok-clause-sure : goal.returns-else-is_ok-clause-sure
returns-else-is_ok-clause-sure g c = knows-both g.N.Named.begun c.args.pass.now c.see.new.pass c.see-else-is_ok.new.pass c.see.ensures.knows c.see-else-is_ok.ensures.knows

pub invariant_of-self : goal.invariant_of-self
invariant_of-self g c =
    let n = g.N.Named in
    let disk = g.D.Disk in
    let meaning = g.T.Mrdt.meaning in
    let address = g.A.Address.address in
    let old = c.self.inside.core in
    let call = c.land_addressed-outcome in
    let new = call.new.self in
    let landed = accepted call.result call.ensures.landed (sym c.is_ok.ensures.value ∙ c.if-is_ok.true) in
    let us = moments_of c.self.inside.writer.moves in
    let vs = moments_of c.add.new.writer.moves in
    let on = subst (λ (w : View (Entry _ _)). GoOn (disk.moment new.disk) (moments_of w.moves) vs) c.see.ensures.writer (noted-moments (disk.moment new.disk) c.see.new.writer.moves c.add.new.writer.moves c.add.ensures.noted) in
    let long = each-known n.begun c.add.new.writer.moves ∙ ap (λ h. length h) (sym c.add.ensures.history) in
    let only_now = g.met.D.Disk.only_now in
    let safe = safe-under disk meaning address n.since n.left n.begun n.allows old new only_now us vs on long n.terms c.self.invariant.terms_are c.self.invariant.safe c.self.invariant.sure
    (λ was. safe-landed disk meaning address n.since n.left n.begun n.allows old new only_now us vs on long c.args.prepared c.requires.allowed call.result was call.ensures.landed call.ensures.stands call.ensures.refused call.ensures.kept call.ensures.any_moment call.ensures.fault_leaves call.ensures.fault_valid c.add.ensures.valid) in
    kept-on disk (fix meaning n.terms address) n.table n.begun n.terms n.opened n.allows n.since n.left old new c.self.inside.writer c.add.new.writer c.self.invariant safe (same-grown old new (old.history ++ move_of c.args.prepared.seen.branch c.args.prepared.work ∷ []) landed.1.history)
    (c.add.ensures.table ∙ ap (λ w. w.table) c.see.ensures.writer) c.add.ensures.history c.add.ensures.writer.0 c.add.ensures.writer.1 c.add.ensures.allowed

pub invariant_of-self-else-is_ok : goal.invariant_of-self-else-is_ok
invariant_of-self-else-is_ok g c =
    let n = g.N.Named in
    let disk = g.D.Disk in
    let meaning = g.T.Mrdt.meaning in
    let address = g.A.Address.address in
    let old = c.self.inside.core in
    let call = c.land_addressed-outcome in
    let new = call.new.self in
    let us = moments_of c.self.inside.writer.moves in
    let vs = moments_of c.see-else-is_ok.new.writer.moves in
    let stays = land-stayed old new call.result call.ensures.kept (sym c.is_ok.ensures.value ∙ c.if-is_ok.false) in
    let told = c.see-else-is_ok.ensures.writer ∙ ap (λ (w : View (Entry _ _)). record w { faults = faults_since disk.faults new }) c.see.ensures.writer in
    let same : c.see-else-is_ok.new.writer.moves ≡ c.self.inside.writer.moves = ap (λ (w : View (Entry _ _)). w.moves) told in
    let on = noted-moments (disk.moment new.disk) c.self.inside.writer.moves c.see-else-is_ok.new.writer.moves (subst (AreNoted (disk.moment new.disk) c.self.inside.writer.moves) (sym same) (noted-none (disk.moment new.disk) c.self.inside.writer.moves)) in
    let long = each-known n.begun c.see-else-is_ok.new.writer.moves ∙ (ap (λ l. length (n.begun ++ moves_of l)) same ∙ ap (λ h. length h) (sym (stays.history ∙ c.self.invariant.history_is))) in
    let only_now = g.met.D.Disk.only_now in
    let safe = safe-under disk meaning address n.since n.left n.begun n.allows old new only_now us vs on long n.terms c.self.invariant.terms_are c.self.invariant.safe c.self.invariant.sure
    (λ was. safe-landed disk meaning address n.since n.left n.begun n.allows old new only_now us vs on long c.args.prepared c.requires.allowed call.result was call.ensures.landed call.ensures.stands call.ensures.refused call.ensures.kept call.ensures.any_moment call.ensures.fault_leaves call.ensures.fault_valid c.see-else-is_ok.ensures.valid) in
    kept-still disk (fix meaning n.terms address) n.table n.begun n.terms n.opened n.allows n.since n.left old new c.self.inside.writer c.see-else-is_ok.new.writer c.self.invariant safe
    stays told
