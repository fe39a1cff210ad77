-- A try to join, by what became of the group, its preparation and its landing.
use Rattle.std.proofs.Common.{◌≡◌, ◌<◌, sym, ap, subst, Some, refl}
use Rattle.branch_machine.specs.Fixed.{fix}
use Rattle.store_seen.specs.declared.pair.PairStep.TheVariants as step
use Rattle.branch_shared.specs.Passes.{seen_by}
use Rattle.parallel_clients.specs.Outcomes.{setting}
use Rattle.parallel_clients.specs.Sessions.{session_named, sights_of, IsJoinReady}
use Rattle.parallel_clients.proofs.Allowing.{group-allowed}
use Rattle.parallel_clients.proofs.Sessioned.{sight-found}
use Rattle.parallel_clients.proofs.Mergings.{stayed-earlier}
use Rattle.parallel_clients.proofs.Joinings.{join-same, join-unready, join-begins, join-unlanded, join-tried}
use Rattle.parallel_clients.proofs.client.Client.try_join.Goals as goal

pub prepare_join-requires-clause-history : goal.prepare_join-requires-clause-history
prepare_join-requires-clause-history g c κs within =
    let s = c.in-Some.at.now in
    let found : session_named c.args.sessions.now.entries c.args.session.now ≡ Some s = sym c.in-Some.ensures.value in
    let is = c.requires.sessions.each c.args.session.now s found in
    is.begins

pub prepare_join-requires-clause-terms : goal.prepare_join-requires-clause-terms
prepare_join-requires-clause-terms g c κs within =
    let s = c.in-Some.at.now in
    let found : session_named c.args.sessions.now.entries c.args.session.now ≡ Some s = sym c.in-Some.ensures.value in
    let is = c.requires.sessions.each c.args.session.now s found in
    is.terms_are

pub returns-in-Err-clause-stopped : goal.returns-in-Err-clause-stopped
returns-in-Err-clause-stopped g c =
    let on = setting (fix g.T.Mrdt.meaning g.N.Named.terms g.A.Address.address) g.T.Forms.forms g.N.Named.opened in
    let s = c.in-Some.at.now in
    let old = c.args.pass.now in
    let mid = c.prepare_join.new.pass in
    let sessions = c.args.sessions.now.entries in
    let session = c.args.session.now in
    let from = c.args.from.now in
    let found : session_named sessions session ≡ Some s = sym c.in-Some.ensures.value in
    let is = c.requires.sessions.each session s found in
    let sees = sight-found sessions session s found in
    record {
      why = join-unready on old mid c.prepare_join.ensures.prefix c.prepare_join.ensures.rest s is (sights_of sessions) session from sees c.in-Err.unready c.in-Err.ensures.unready;
      stayed = record { rest = c.prepare_join.ensures.rest; noted = refl };
    }

pub returns-in-Ok-Same-clause-tried : goal.returns-in-Ok-Same-clause-tried
returns-in-Ok-Same-clause-tried g c =
    let on = setting (fix g.T.Mrdt.meaning g.N.Named.terms g.A.Address.address) g.T.Forms.forms g.N.Named.opened in
    let s = c.in-Some.at.now in
    let old = c.args.pass.now in
    let mid = c.prepare_join.new.pass in
    let sessions = c.args.sessions.now.entries in
    let session = c.args.session.now in
    let from = c.args.from.now in
    let found : session_named sessions session ≡ Some s = sym c.in-Some.ensures.value in
    let is = c.requires.sessions.each session s found in
    let sees = sight-found sessions session s found in
    let ready : IsJoinReady g.T.Mrdt.meaning (seen_by mid g.N.Named.terms) s.seen from step.Same = rw c.in-Ok-Same.field-0-is at c.in-Ok-Same.ensures.ready in
    join-same on old mid c.prepare_join.ensures.prefix c.prepare_join.ensures.rest s is (sights_of sessions) session from sees ready.group ready.grouped
    c.keeps_order.ensures c.raises_heads.ensures (c.makes_fewer_moves.ensures g.N.Named.terms g.A.Address.address mid.moves c.prepare_join.ensures.valid) c.args.places.now.items ready.is

pub land-requires-clause-made : goal.land-requires-clause-made
land-requires-clause-made g c κs within =
    let on = setting (fix g.T.Mrdt.meaning g.N.Named.terms g.A.Address.address) g.T.Forms.forms g.N.Named.opened in
    let s = c.in-Some.at.now in
    let old = c.args.pass.now in
    let mid = c.prepare_join.new.pass in
    let sessions = c.args.sessions.now.entries in
    let session = c.args.session.now in
    let from = c.args.from.now in
    let found : session_named sessions session ≡ Some s = sym c.in-Some.ensures.value in
    let is = c.requires.sessions.each session s found in
    let sees = sight-found sessions session s found in
    let made = c.in-Ok-Land.prepared in
    let ready : IsJoinReady g.T.Mrdt.meaning (seen_by mid g.N.Named.terms) s.seen from (step.Land made) = rw c.in-Ok-Land.field-0-is at c.in-Ok-Land.ensures.ready in
    let work = ready.is in
    join-begins on old mid c.prepare_join.ensures.prefix c.prepare_join.ensures.rest s is (sights_of sessions) session from sees ready.group ready.grouped made work.0 work.1 work.2

pub land-requires-clause-allowed : goal.land-requires-clause-allowed
land-requires-clause-allowed g c κs within =
    let mid = c.prepare_join.new.pass in
    let seen = c.in-Some.at.now.seen in
    let made = c.in-Ok-Land.prepared in
    let ready : IsJoinReady g.T.Mrdt.meaning (seen_by mid g.N.Named.terms) seen c.args.from.now (step.Land made) = rw c.in-Ok-Land.field-0-is at c.in-Ok-Land.ensures.ready in
    group-allowed g.N.Named.allows made.seen.branch c.requires.allowed g.T.Mrdt.meaning ready.group made.work ready.is.1

pub returns-in-Ok-clause-tried : goal.returns-in-Ok-clause-tried
returns-in-Ok-clause-tried g c =
    let on = setting (fix g.T.Mrdt.meaning g.N.Named.terms g.A.Address.address) g.T.Forms.forms g.N.Named.opened in
    let s = c.in-Some.at.now in
    let old = c.args.pass.now in
    let mid = c.prepare_join.new.pass in
    let sessions = c.args.sessions.now.entries in
    let session = c.args.session.now in
    let from = c.args.from.now in
    let found : session_named sessions session ≡ Some s = sym c.in-Some.ensures.value in
    let is = c.requires.sessions.each session s found in
    let sees = sight-found sessions session s found in
    let made = c.in-Ok-Land.prepared in
    let ready : IsJoinReady g.T.Mrdt.meaning (seen_by mid g.N.Named.terms) s.seen from (step.Land made) = rw c.in-Ok-Land.field-0-is at c.in-Ok-Land.ensures.ready in
    let work = ready.is in
    join-tried on old mid c.prepare_join.ensures.prefix c.prepare_join.ensures.rest s is (sights_of sessions) session from sees ready.group ready.grouped made work.0 work.1 work.2
    c.land.new.pass c.land.ensures.prefix c.args.places.now.items c.land.new.places.items c.in-Ok.landing c.in-Ok.ensures.landed

pub returns-in-Err-land-clause-stopped : goal.returns-in-Err-land-clause-stopped
returns-in-Err-land-clause-stopped g c =
    let on = setting (fix g.T.Mrdt.meaning g.N.Named.terms g.A.Address.address) g.T.Forms.forms g.N.Named.opened in
    let s = c.in-Some.at.now in
    let old = c.args.pass.now in
    let mid = c.prepare_join.new.pass in
    let sessions = c.args.sessions.now.entries in
    let session = c.args.session.now in
    let from = c.args.from.now in
    let found : session_named sessions session ≡ Some s = sym c.in-Some.ensures.value in
    let is = c.requires.sessions.each session s found in
    let sees = sight-found sessions session s found in
    let made = c.in-Ok-Land.prepared in
    let ready : IsJoinReady g.T.Mrdt.meaning (seen_by mid g.N.Named.terms) s.seen from (step.Land made) = rw c.in-Ok-Land.field-0-is at c.in-Ok-Land.ensures.ready in
    let work = ready.is in
    record {
      why = join-unlanded on old mid c.prepare_join.ensures.prefix c.prepare_join.ensures.rest s is (sights_of sessions) session from sees ready.group ready.grouped made work.0 work.1 work.2 c.land.new.pass c.land.ensures.prefix c.in-Err-land.refusal c.in-Err-land.ensures.refused.0;
      stayed = stayed-earlier old mid c.land.new.pass c.args.places.now.items c.land.new.places.items c.prepare_join.ensures.rest c.in-Err-land.ensures.refused.1;
    }

pub land-requires-clause-parts : goal.land-requires-clause-parts
land-requires-clause-parts g c κs within = subst (λ n. 1 < n) (sym (ap (λ p. p.parts) c.prepare_join.ensures.rest)) c.requires.parts
