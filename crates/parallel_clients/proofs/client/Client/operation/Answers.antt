-- One operation, behind the tries before it.
use Rattle.std.proofs.Common.{◌<◌, ◌∙◌, sym, ap, subst, refl}
use Rattle.parallel_clients.specs.Sessions.{sights_of, stage_of, HasDone}
use Rattle.parallel_clients.proofs.Sessioned.{sessions_later}
use Rattle.parallel_clients.proofs.Single.{plays-done}
use Rattle.parallel_clients.proofs.client.Client.operation.Goals as goal

pub look_again-requires-clause-sessions : goal.look_again-requires-clause-sessions
look_again-requires-clause-sessions g c κs within =
    sessions_later g.N.Named.terms c.loop.pass.moves c.try_operation.new.pass.moves c.loop.sessions.entries c.try_operation.ensures.prefix c.loop.invariant.2.sessions_are

pub returns-in-Moved-clause-plays : goal.returns-in-Moved-clause-plays
returns-in-Moved-clause-plays g c =
    let wait = c.loop.invariant.2 in
    let mid = c.loop.pass in
    let after = c.try_operation.new.pass in
    let session = c.args.session.now in
    let places = c.loop.places.items in
    let noted = c.try_operation.new.places.items in
    let tried = rw c.in-Moved.is at c.in_ok-try_operation.ensures.tried in
    let done : HasDone (sights_of c.args.sessions.now.entries session) (g.T.Forms.forms.op c.args.op.now) mid after places noted =
    subst (λ sights. HasDone (sights session) (g.T.Forms.forms.op c.args.op.now) mid after places noted) wait.sights tried in
    plays-done g.T.Forms.forms g.N.Named.terms.origin (stage_of c.args.pass.now c.args.sessions.now.entries c.args.places.now.items) (stage_of c.look_again.new.pass c.look_again.new.sessions.entries noted)
    mid after wait.seen c.look_again.ensures.prefix places noted (sym wait.noted) refl (c.look_again.ensures.sights ∙ wait.sights) session c.args.op.now done

pub look_again-requires-in-Stale-clause-sessions : goal.look_again-requires-in-Stale-clause-sessions
look_again-requires-in-Stale-clause-sessions g c κs within =
    sessions_later g.N.Named.terms c.loop.pass.moves c.try_operation.new.pass.moves c.loop.sessions.entries c.try_operation.ensures.prefix c.loop.invariant.2.sessions_are

pub try_operation-requires-clause-parts : goal.try_operation-requires-clause-parts
try_operation-requires-clause-parts g c κs within = subst (λ n. 1 < n) (sym (ap (λ p. p.parts) c.loop.invariant.2.rest)) c.requires.parts
