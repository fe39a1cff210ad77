-- The sessions after a look.
use Rattle.std.proofs.Common.{◌≡◌, sym, subst}
use Rattle.parallel_clients.specs.Played.{HasNumber, with_sight}
use Rattle.parallel_clients.specs.Sessions.{sights_of}
use Rattle.parallel_clients.proofs.Sessioned.{sessions_later, sessions-put, sessions-kept, session-looked, sights-put}
use Rattle.parallel_clients.proofs.Turned.{look-named}
use Rattle.parallel_clients.proofs.client.Client.look_at.Goals as goal

pub returns-in_err-seen-clause-sessions : goal.returns-in_err-seen-clause-sessions
returns-in_err-seen-clause-sessions g c = sessions_later g.N.Named.terms c.args.pass.now.moves c.look.new.pass.moves c.args.sessions.now.entries c.look.ensures.prefix c.requires

pub returns-in-Ok-clause-sessions : goal.returns-in-Ok-clause-sessions
returns-in-Ok-clause-sessions g c =
    let terms = g.N.Named.terms in
    let moves = c.look.new.pass.moves in
    let old = c.args.sessions.now.entries in
    let are = sessions_later terms c.args.pass.now.moves moves old c.look.ensures.prefix c.requires in
    let is = session-looked terms g.T.Mrdt.meaning moves (record { branch = c.args.branch.now; seen = c.in_ok-seen.seen }) c.in_ok-seen.ensures.on.0 c.in_ok-seen.ensures.on.1 c.in_ok-seen.ensures.sees in
    sessions-put terms moves old c.set_session.new.sessions.entries c.args.session.now (record { branch = c.args.branch.now; seen = c.in_ok-seen.seen }) c.in-Ok.ensures.put is are

pub returns-in-Ok-clause-sees : goal.returns-in-Ok-clause-sees
returns-in-Ok-clause-sees g c =
    let old = c.args.sessions.now.entries in
    let new = c.set_session.new.sessions.entries in
    subst (λ n. sights_of new ≡ with_sight (sights_of old) c.args.session.now n) (sym c.branch-number.ensures.branch)
    (sights-put old new c.args.session.now (record { branch = c.args.branch.now; seen = c.in_ok-seen.seen }) c.in-Ok.ensures.put)

pub returns-in-Ok-clause-there : goal.returns-in-Ok-clause-there
returns-in-Ok-clause-there g c =
    subst (λ n. HasNumber g.N.Named.terms.origin c.args.branch.now n c.look.new.pass.moves) (sym c.branch-number.ensures.branch)
    (look-named g.T.Mrdt.meaning g.N.Named.terms c.look.new.pass.moves c.args.branch.now c.in_ok-seen.seen.branch c.in_ok-seen.seen.head c.in_ok-seen.ensures.sees).0

pub returns-in-Err-clause-sessions : goal.returns-in-Err-clause-sessions
returns-in-Err-clause-sessions g c =
    let terms = g.N.Named.terms in
    let moves = c.look.new.pass.moves in
    let old = c.args.sessions.now.entries in
    let are = sessions_later terms c.args.pass.now.moves moves old c.look.ensures.prefix c.requires in
    sessions-kept terms moves old c.set_session.new.sessions.entries c.in-Err.ensures.kept are
