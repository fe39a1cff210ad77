-- One drop, behind the tries before it.
use Rattle.std.proofs.Common.{sym, subst, refl, arith}
use Rattle.branch_history.specs.declared.moves.Move.TheVariants as move
use Rattle.branch_front.proofs.Prefixes.{prefix_self}
use Rattle.parallel_clients.specs.Sessions.{sights_of, stage_of, HasDropped}
use Rattle.parallel_clients.proofs.Sessioned.{sessions_later}
use Rattle.parallel_clients.proofs.Single.{plays-dropped}
use Rattle.parallel_clients.proofs.Mergings.{moved-advances, moved-few}
use Rattle.parallel_clients.proofs.client.Client.drop_branch.Goals as goal

pub look_again-requires-clause-sessions : goal.look_again-requires-clause-sessions
look_again-requires-clause-sessions g c κs within =
    sessions_later g.N.Named.terms c.loop.pass.moves c.try_drop.new.pass.moves c.loop.sessions.entries c.try_drop.ensures.prefix c.loop.invariant.2.sessions_are

pub returns-in-Moved-clause-sessions : goal.returns-in-Moved-clause-sessions
returns-in-Moved-clause-sessions g c =
    sessions_later g.N.Named.terms c.loop.pass.moves c.try_drop.new.pass.moves c.loop.sessions.entries c.try_drop.ensures.prefix c.loop.invariant.2.sessions_are

pub returns-in-Moved-clause-plays : goal.returns-in-Moved-clause-plays
returns-in-Moved-clause-plays g c =
    let wait = c.loop.invariant.2 in
    let mid = c.loop.pass in
    let after = c.try_drop.new.pass in
    let session = c.args.session.now in
    let places = c.loop.places.items in
    let noted = c.try_drop.new.places.items in
    let tried = rw c.in-Moved.is at c.in_ok-try_drop.ensures.tried in
    let done : HasDropped (sights_of c.args.sessions.now.entries session) mid after places noted =
    subst (λ sights. HasDropped (sights session) mid after places noted) wait.sights tried in
    plays-dropped g.T.Forms.forms g.N.Named.terms.origin (stage_of c.args.pass.now c.args.sessions.now.entries c.args.places.now.items) (stage_of after c.loop.sessions.entries noted)
    mid after wait.seen (prefix_self after.moves) places noted (sym wait.noted) refl wait.sights session done

pub returns-in-Moved-clause-advances : goal.returns-in-Moved-clause-advances
returns-in-Moved-clause-advances g c =
    let wait = c.loop.invariant.2 in
    let after = c.try_drop.new.pass in
    let tried : HasDropped (sights_of c.loop.sessions.entries c.args.session.now) c.loop.pass after c.loop.places.items c.try_drop.new.places.items =
    rw c.in-Moved.is at c.in_ok-try_drop.ensures.tried in
    moved-advances g.N.Named.terms c.args.pass.now c.loop.pass after c.args.sessions.now.entries c.loop.sessions.entries c.args.places.now.items c.loop.places.items c.try_drop.new.places.items wait
    after c.try_drop.ensures.prefix c.try_drop.ensures.faults (prefix_self after.moves) (omega arith) refl (move.Drop tried.branch) tried.moved

pub returns-in-Moved-clause-few : goal.returns-in-Moved-clause-few
returns-in-Moved-clause-few g c =
    let wait = c.loop.invariant.2 in
    let after = c.try_drop.new.pass in
    let tried : HasDropped (sights_of c.loop.sessions.entries c.args.session.now) c.loop.pass after c.loop.places.items c.try_drop.new.places.items =
    rw c.in-Moved.is at c.in_ok-try_drop.ensures.tried in
    moved-few g.N.Named.terms c.args.pass.now c.loop.pass after c.args.sessions.now.entries c.loop.sessions.entries c.args.places.now.items c.loop.places.items c.try_drop.new.places.items wait
    (move.Drop tried.branch) tried.moved
