-- What became of the clients, from their scripts on.
use Rattle.std.proofs.Common.{◌≡◌, ◌∙◌, length, ap, sym, subst, arith}
use Rattle.std.specs.List.{AllByRecursion, AllZip}
use Rattle.std.proofs.lemmas.Slice.Zip.{AllZip-long}
use Rattle.branch_machine.specs.Fixed.{fix}
use Rattle.parallel_clients.specs.Clients.{Ran}
use Rattle.parallel_clients.specs.Entrants.{IsSeat, IsReady, HasRunOwn, HaveLeft}
use Rattle.parallel_clients.specs.Allowed.{AllowsStep}
use Rattle.parallel_clients.specs.Outcomes.{setting}
use Rattle.parallel_clients.proofs.Ended.{whole-again}
use Rattle.parallel_clients.proofs.Started.{all-indexed, HasParts, all-parts, HasRoom, all-room, all-scripts, as-many, all-ran, ran-all}
use Rattle.parallel_clients.proofs.clients.run_clients.Goals as goal

pub enter_all-entrants-requires-clause-parts : goal.enter_all-entrants-requires-clause-parts
enter_all-entrants-requires-clause-parts g c κs within =
    let same = AllZip-long IsSeat c.args.scripts.now c.in_ok-seats.seats.items c.in_ok-seats.ensures in
    let many = c.requires.parts in
    omega arith

pub enter_all-entrants-requires-clause-room : goal.enter_all-entrants-requires-clause-room
enter_all-entrants-requires-clause-room g c κs within =
    let same = AllZip-long IsSeat c.args.scripts.now c.in_ok-seats.seats.items c.in_ok-seats.ensures in
    let room = c.in_ok-entrants.ensures.capacity in
    omega arith

pub work_all-requires-clause-allowed : goal.work_all-requires-clause-allowed
work_all-requires-clause-allowed g c κs within i d lt =
    let from = c.args.pass.now in
    let scripts = c.args.scripts.now in
    let seats = c.in_ok-seats.seats.items in
    let before = c.deref_mut.result.now in
    let ready = subst (AllZip (IsReady from) seats) (sym c.deref_mut.ensures.value) c.enter_all-entrants.ensures.ready in
    all-indexed (λ e. AllByRecursion (AllowsStep g.T.Forms.forms g.N.Named.allows) e.seat.steps.now) before
    (all-scripts from scripts seats before c.in_ok-seats.ensures ready (AllByRecursion (AllowsStep g.T.Forms.forms g.N.Named.allows)) c.requires.allowed) i d lt

pub work_all-requires-clause-none : goal.work_all-requires-clause-none
work_all-requires-clause-none g c κs within i d lt =
    let from = c.args.pass.now in
    let scripts = c.args.scripts.now in
    let seats = c.in_ok-seats.seats.items in
    let before = c.deref_mut.result.now in
    let ready = subst (AllZip (IsReady from) seats) (sym c.deref_mut.ensures.value) c.enter_all-entrants.ensures.ready in
    (all-indexed HasRoom before (all-room from scripts seats before c.in_ok-seats.ensures ready) i d lt).0

pub work_all-requires-clause-room : goal.work_all-requires-clause-room
work_all-requires-clause-room g c κs within i d lt =
    let from = c.args.pass.now in
    let scripts = c.args.scripts.now in
    let seats = c.in_ok-seats.seats.items in
    let before = c.deref_mut.result.now in
    let ready = subst (AllZip (IsReady from) seats) (sym c.deref_mut.ensures.value) c.enter_all-entrants.ensures.ready in
    (all-indexed HasRoom before (all-room from scripts seats before c.in_ok-seats.ensures ready) i d lt).1

pub leave_all-requires-clause-ran : goal.leave_all-requires-clause-ran
leave_all-requires-clause-ran g c κs within =
    let from = c.args.pass.now in
    let scripts = c.args.scripts.now in
    let seats = c.in_ok-seats.seats.items in
    let before = c.deref_mut.result.now in
    let ready = subst (AllZip (IsReady from) seats) (sym c.deref_mut.ensures.value) c.enter_all-entrants.ensures.ready in
    let on = setting (fix g.T.Mrdt.meaning g.N.Named.terms g.A.Address.address) g.T.Forms.forms g.N.Named.opened in
    let mid = c.enter_all-entrants.new.pass in
    let after = c.work_all.new.entrants in
    let moves : mid.moves ≡ from.moves = ap (λ p. p.moves) c.enter_all-entrants.ensures.entered in
    let same = c.work_all.ensures.same in
    let value : length before ≡ length c.enter_all-entrants.result.items = ap length c.deref_mut.ensures.value in
    let whole = whole-again c.enter_all-entrants.result.len after c.enter_all-entrants.result.items (same ∙ value) (sym c.deref_mut.ensures.len ∙ value) in
    subst (AllByRecursion (HasRunOwn on mid)) (sym whole) (all-ran on from mid moves scripts seats before after c.in_ok-seats.ensures ready same c.work_all.ensures.worked)

pub leave_all-requires-clause-room : goal.leave_all-requires-clause-room
leave_all-requires-clause-room g c κs within =
    let from = c.args.pass.now in
    let scripts = c.args.scripts.now in
    let seats = c.in_ok-seats.seats.items in
    let before = c.deref_mut.result.now in
    let ready = subst (AllZip (IsReady from) seats) (sym c.deref_mut.ensures.value) c.enter_all-entrants.ensures.ready in
    let on = setting (fix g.T.Mrdt.meaning g.N.Named.terms g.A.Address.address) g.T.Forms.forms g.N.Named.opened in
    let mid = c.enter_all-entrants.new.pass in
    let after = c.work_all.new.entrants in
    let moves : mid.moves ≡ from.moves = ap (λ p. p.moves) c.enter_all-entrants.ensures.entered in
    let same = c.work_all.ensures.same in
    let value : length before ≡ length c.enter_all-entrants.result.items = ap length c.deref_mut.ensures.value in
    let whole = whole-again c.enter_all-entrants.result.len after c.enter_all-entrants.result.items (same ∙ value) (sym c.deref_mut.ensures.len ∙ value) in
    let many = as-many from scripts seats before c.in_ok-seats.ensures ready in
    let room = c.in_ok-outcomes.ensures.capacity in
    let left = ap length whole in
    omega arith

pub returns-clause-ran : goal.returns-clause-ran
returns-clause-ran g c =
    let from = c.args.pass.now in
    let scripts = c.args.scripts.now in
    let seats = c.in_ok-seats.seats.items in
    let before = c.deref_mut.result.now in
    let ready = subst (AllZip (IsReady from) seats) (sym c.deref_mut.ensures.value) c.enter_all-entrants.ensures.ready in
    let on = setting (fix g.T.Mrdt.meaning g.N.Named.terms g.A.Address.address) g.T.Forms.forms g.N.Named.opened in
    let mid = c.enter_all-entrants.new.pass in
    let after = c.work_all.new.entrants in
    let moves : mid.moves ≡ from.moves = ap (λ p. p.moves) c.enter_all-entrants.ensures.entered in
    let same = c.work_all.ensures.same in
    let value : length before ≡ length c.enter_all-entrants.result.items = ap length c.deref_mut.ensures.value in
    let whole = whole-again c.enter_all-entrants.result.len after c.enter_all-entrants.result.items (same ∙ value) (sym c.deref_mut.ensures.len ∙ value) in
    let new = c.leave_all.new.pass in
    let outcomes = c.leave_all.result.items in
    let left = subst (λ es. HaveLeft on mid new es outcomes) whole c.leave_all.ensures in
    let seated = AllZip-long IsSeat scripts seats c.in_ok-seats.ensures in
    let many = c.requires.parts in
    let ran = ran-all on from mid moves scripts seats before after c.in_ok-seats.ensures ready same c.work_all.ensures.worked new outcomes c.enter_all-entrants.ensures.entered (omega arith) left in
    subst (Ran on from new scripts) (sym c.from_vec.ensures) ran

pub work_all-requires-clause-parts : goal.work_all-requires-clause-parts
work_all-requires-clause-parts g c κs within i d lt =
    let from = c.args.pass.now in
    let scripts = c.args.scripts.now in
    let seats = c.in_ok-seats.seats.items in
    let before = c.deref_mut.result.now in
    let ready = subst (AllZip (IsReady from) seats) (sym c.deref_mut.ensures.value) c.enter_all-entrants.ensures.ready in
    all-indexed HasParts before (all-parts from scripts seats before c.in_ok-seats.ensures ready) i d lt
