-- A session looks again at the branch that it sees.
use Rattle.std.proofs.Common.{◌≡◌, ◌∙◌, sym, Some, subst, arith}
use Rattle.branch_history.specs.declared.moves.Move.{Move}
use Rattle.store_seen.specs.Views.{SeenView}
use Rattle.parallel_clients.specs.declared.sessions.Session.{Session}
use Rattle.parallel_clients.specs.Played.{with_sight}
use Rattle.parallel_clients.specs.Sessions.{session_named, sights_of}
use Rattle.parallel_clients.proofs.Sessioned.{sessions_later, sessions-put, sessions-kept, session-looked, sights-put, sights-again, sight-found}
use Rattle.parallel_clients.proofs.client.Client.look_again.Goals as goal

pub returns-in-Err-UnknownBranch-clause-sessions : goal.returns-in-Err-UnknownBranch-clause-sessions
returns-in-Err-UnknownBranch-clause-sessions g c = sessions_later g.N.Named.terms c.args.pass.now.moves c.look.new.pass.moves c.args.sessions.now.entries c.look.ensures.prefix c.requires.sessions

pub returns-in-Err-Memory-clause-sessions : goal.returns-in-Err-Memory-clause-sessions
returns-in-Err-Memory-clause-sessions g c = sessions_later g.N.Named.terms c.args.pass.now.moves c.look.new.pass.moves c.args.sessions.now.entries c.look.ensures.prefix c.requires.sessions

pub returns-then-now-number-clause-sessions : goal.returns-then-now-number-clause-sessions
returns-then-now-number-clause-sessions g c = sessions_later g.N.Named.terms c.args.pass.now.moves c.look.new.pass.moves c.args.sessions.now.entries c.look.ensures.prefix c.requires.sessions

pub returns-in-Ok-set_session-clause-sessions : goal.returns-in-Ok-set_session-clause-sessions
returns-in-Ok-set_session-clause-sessions g c =
    let terms = g.N.Named.terms in
    let moves = c.look.new.pass.moves in
    let old = c.args.sessions.now.entries in
    let looked : Session (SeenView (Move _ _)) = record { branch = c.in-Some.at.now.branch; seen = c.in-Ok.seen } in
    let are = sessions_later terms c.args.pass.now.moves moves old c.look.ensures.prefix c.requires.sessions in
    let is = session-looked terms g.T.Mrdt.meaning moves looked c.in-Ok.ensures.on.0 c.in-Ok.ensures.on.1 c.in-Ok.ensures.sees in
    sessions-put terms moves old c.set_session.new.sessions.entries c.args.session.now looked c.in-Ok-set_session.ensures.put is are

pub returns-in-Ok-set_session-clause-sights : goal.returns-in-Ok-set_session-clause-sights
returns-in-Ok-set_session-clause-sights g c =
    let s = c.in-Some.at.now in
    let old = c.args.sessions.now.entries in
    let new = c.set_session.new.sessions.entries in
    let looked : Session (SeenView (Move _ _)) = record { branch = s.branch; seen = c.in-Ok.seen } in
    let found : session_named old c.args.session.now ≡ Some s = sym c.in-Some.ensures.value in
    let same : c.in-Ok.seen.branch ≡ s.seen.branch = omega (arith, c.if-now-number.false, c.branch-now.ensures.branch, c.branch-number.ensures.branch) in
    subst (λ n. sights_of new ≡ with_sight (sights_of old) c.args.session.now n) same (sights-put old new c.args.session.now looked c.in-Ok-set_session.ensures.put)
    ∙ sights-again (sights_of old) c.args.session.now s.seen.branch (sight-found old c.args.session.now s found)

pub returns-in-Err-clause-sessions : goal.returns-in-Err-clause-sessions
returns-in-Err-clause-sessions g c =
    let terms = g.N.Named.terms in
    let moves = c.look.new.pass.moves in
    let old = c.args.sessions.now.entries in
    let are = sessions_later terms c.args.pass.now.moves moves old c.look.ensures.prefix c.requires.sessions in
    sessions-kept terms moves old c.set_session.new.sessions.entries c.in-Err.ensures.kept are
