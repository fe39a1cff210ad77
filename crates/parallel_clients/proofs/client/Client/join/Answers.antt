-- One join, behind the tries before it.
use Rattle.std.proofs.Common.{◌<◌, ◌∙◌, sym, ap, subst, refl}
use Rattle.parallel_clients.specs.Sessions.{sights_of, stage_of, HasJoined, HasNothing}
use Rattle.parallel_clients.proofs.Sessioned.{sessions_later}
use Rattle.branch_front.proofs.Prefixes.{prefix_self}
use Rattle.parallel_clients.proofs.Single.{plays-joined, plays-nothing}
use Rattle.parallel_clients.proofs.Mergings.{moved-advances, moved-few}
use Rattle.parallel_clients.proofs.client.Client.join.Goals as goal

pub look_again-requires-clause-sessions : goal.look_again-requires-clause-sessions
look_again-requires-clause-sessions g c κs within =
    sessions_later g.N.Named.terms c.loop.pass.moves c.try_join.new.pass.moves c.loop.sessions.entries c.try_join.ensures.prefix c.loop.invariant.2.sessions_are

pub look_again-requires-in-Stale-clause-sessions : goal.look_again-requires-in-Stale-clause-sessions
look_again-requires-in-Stale-clause-sessions g c κs within =
    sessions_later g.N.Named.terms c.loop.pass.moves c.try_join.new.pass.moves c.loop.sessions.entries c.try_join.ensures.prefix c.loop.invariant.2.sessions_are

pub returns-in-Same-clause-sessions : goal.returns-in-Same-clause-sessions
returns-in-Same-clause-sessions g c =
    sessions_later g.N.Named.terms c.loop.pass.moves c.try_join.new.pass.moves c.loop.sessions.entries c.try_join.ensures.prefix c.loop.invariant.2.sessions_are

pub returns-in-Moved-clause-plays : goal.returns-in-Moved-clause-plays
returns-in-Moved-clause-plays g c =
    let wait = c.loop.invariant.2 in
    let mid = c.loop.pass in
    let after = c.try_join.new.pass in
    let session = c.args.session.now in
    let places = c.loop.places.items in
    let noted = c.try_join.new.places.items in
    let tried = rw c.in-Moved.is at c.in_ok-try_join.ensures.tried in
    let done : HasJoined g.N.Named.terms.origin (sights_of c.args.sessions.now.entries session) c.args.from.now mid after places noted =
    subst (λ sights. HasJoined g.N.Named.terms.origin (sights session) c.args.from.now mid after places noted) wait.sights tried in
    plays-joined g.T.Forms.forms g.N.Named.terms.origin (stage_of c.args.pass.now c.args.sessions.now.entries c.args.places.now.items) (stage_of c.look_again.new.pass c.look_again.new.sessions.entries noted)
    mid after wait.seen c.look_again.ensures.prefix places noted (sym wait.noted) refl (c.look_again.ensures.sights ∙ wait.sights) session c.args.from.now done

pub returns-in-Moved-clause-advances : goal.returns-in-Moved-clause-advances
returns-in-Moved-clause-advances g c =
    let wait = c.loop.invariant.2 in
    let tried : HasJoined g.N.Named.terms.origin (sights_of c.loop.sessions.entries c.args.session.now) c.args.from.now c.loop.pass c.try_join.new.pass c.loop.places.items c.try_join.new.places.items =
    rw c.in-Moved.is at c.in_ok-try_join.ensures.tried in
    moved-advances g.N.Named.terms c.args.pass.now c.loop.pass c.try_join.new.pass c.args.sessions.now.entries c.loop.sessions.entries c.args.places.now.items c.loop.places.items c.try_join.new.places.items wait
    c.look_again.new.pass c.try_join.ensures.prefix c.try_join.ensures.faults c.look_again.ensures.prefix c.look_again.ensures.faults c.look_again.ensures.rest tried.made tried.moved

pub returns-in-Moved-clause-few : goal.returns-in-Moved-clause-few
returns-in-Moved-clause-few g c =
    let wait = c.loop.invariant.2 in
    let tried : HasJoined g.N.Named.terms.origin (sights_of c.loop.sessions.entries c.args.session.now) c.args.from.now c.loop.pass c.try_join.new.pass c.loop.places.items c.try_join.new.places.items =
    rw c.in-Moved.is at c.in_ok-try_join.ensures.tried in
    moved-few g.N.Named.terms c.args.pass.now c.loop.pass c.try_join.new.pass c.args.sessions.now.entries c.loop.sessions.entries c.args.places.now.items c.loop.places.items c.try_join.new.places.items wait
    tried.made tried.moved

pub returns-in-Same-clause-plays : goal.returns-in-Same-clause-plays
returns-in-Same-clause-plays g c =
    let wait = c.loop.invariant.2 in
    let mid = c.loop.pass in
    let after = c.try_join.new.pass in
    let session = c.args.session.now in
    let places = c.loop.places.items in
    let noted = c.try_join.new.places.items in
    let tried = rw c.in-Same.is at c.in_ok-try_join.ensures.tried in
    let done : HasNothing g.N.Named.terms.origin (sights_of c.args.sessions.now.entries session) c.args.from.now mid after places noted =
    subst (λ sights. HasNothing g.N.Named.terms.origin (sights session) c.args.from.now mid after places noted) wait.sights tried in
    plays-nothing g.T.Forms.forms g.N.Named.terms.origin (stage_of c.args.pass.now c.args.sessions.now.entries c.args.places.now.items) (stage_of after c.loop.sessions.entries noted)
    mid after wait.seen (prefix_self after.moves) places noted (sym wait.noted) refl c.try_join.ensures.prefix done.stayed.noted wait.sights session c.args.from.now done.branch done.sees done.brings

pub try_join-requires-clause-parts : goal.try_join-requires-clause-parts
try_join-requires-clause-parts g c κs within = subst (λ n. 1 < n) (sym (ap (λ p. p.parts) c.loop.invariant.2.rest)) c.requires.parts
