-- A try to merge, by what became of the pair, its preparation and its landing.
use Rattle.std.proofs.Common.{◌≡◌, ◌<◌, sym, ap, subst, Some, refl}
use Rattle.branch_history.specs.Steps as machine
use Rattle.branch_machine.specs.Fixed.{fix}
use Rattle.parallel_clients.specs.Outcomes.{setting}
use Rattle.parallel_clients.specs.Sessions.{session_named, sights_of}
use Rattle.parallel_clients.proofs.Allowing.{pair-allowed}
use Rattle.parallel_clients.proofs.Sessioned.{sight-found}
use Rattle.parallel_clients.proofs.Mergings.{stayed-earlier, merge-unknown, merge-same, merge-unprepared, merge-begins, merge-unlanded, merge-tried}
use Rattle.parallel_clients.proofs.client.Client.try_merge.Goals as goal

pub pair-requires-clause-history : goal.pair-requires-clause-history
pair-requires-clause-history g c κs within =
    let s = c.in-Some.at.now in
    let found : session_named c.args.sessions.now.entries c.args.session.now ≡ Some s = sym c.in-Some.ensures.value in
    let is = c.requires.sessions.each c.args.session.now s found in
    is.begins

pub pair-requires-clause-terms : goal.pair-requires-clause-terms
pair-requires-clause-terms g c κs within =
    let s = c.in-Some.at.now in
    let found : session_named c.args.sessions.now.entries c.args.session.now ≡ Some s = sym c.in-Some.ensures.value in
    let is = c.requires.sessions.each c.args.session.now s found in
    is.terms_are

pub returns-in-Err-UnknownBranch-clause-stopped : goal.returns-in-Err-UnknownBranch-clause-stopped
returns-in-Err-UnknownBranch-clause-stopped g c =
    let s = c.in-Some.at.now in
    let sessions = c.args.sessions.now.entries in
    let session = c.args.session.now in
    let found : session_named sessions session ≡ Some s = sym c.in-Some.ensures.value in
    let refused = rw c.in-Err-UnknownBranch.field-0-is at c.in-Err-UnknownBranch.ensures.refused in
    record {
      why = merge-unknown (setting (fix g.T.Mrdt.meaning g.N.Named.terms g.A.Address.address) g.T.Forms.forms g.N.Named.opened) c.pair.new.pass.moves (sights_of sessions) session c.args.from.now s.seen.branch (sight-found sessions session s found) refused.1;
      stayed = record { rest = c.pair.ensures.rest; noted = refl };
    }

pub returns-in-Ok-Same-clause-tried : goal.returns-in-Ok-Same-clause-tried
returns-in-Ok-Same-clause-tried g c =
    let s = c.in-Some.at.now in
    let old = c.args.pass.now in
    let mid = c.pair.new.pass in
    let sessions = c.args.sessions.now.entries in
    let session = c.args.session.now in
    let from = c.args.from.now in
    let found : session_named sessions session ≡ Some s = sym c.in-Some.ensures.value in
    let is = c.requires.sessions.each session s found in
    let same = rw c.in-Ok-Same.field-0-is at c.in-Ok-Same.ensures.step in
    merge-same (setting (fix g.T.Mrdt.meaning g.N.Named.terms g.A.Address.address) g.T.Forms.forms g.N.Named.opened) old mid c.in-Ok.ensures.prefix c.in-Ok.ensures.rest s is (sights_of sessions) session from (sight-found sessions session s found) c.in-Ok.pair c.in-Ok.ensures.paired c.keeps_order.ensures c.raises_heads.ensures (c.makes_fewer_moves.ensures g.N.Named.terms g.A.Address.address c.pair.new.pass.moves c.in-Ok.ensures.valid) c.args.places.now.items same

pub returns-in-Err-ValueTooLarge-clause-stopped : goal.returns-in-Err-ValueTooLarge-clause-stopped
returns-in-Err-ValueTooLarge-clause-stopped g c =
    let s = c.in-Some.at.now in
    let old = c.args.pass.now in
    let mid = c.pair.new.pass in
    let sessions = c.args.sessions.now.entries in
    let session = c.args.session.now in
    let from = c.args.from.now in
    let found : session_named sessions session ≡ Some s = sym c.in-Some.ensures.value in
    let is = c.requires.sessions.each session s found in
    let refused = rw c.in-Err-ValueTooLarge.field-0-is at c.in-Err-ValueTooLarge.ensures.refused in
    record { why = merge-unprepared (setting (fix g.T.Mrdt.meaning g.N.Named.terms g.A.Address.address) g.T.Forms.forms g.N.Named.opened) old mid c.in-Ok.ensures.prefix c.in-Ok.ensures.rest s is (sights_of sessions) session from (sight-found sessions session s found) c.in-Ok.pair c.in-Ok.ensures.paired (machine.ValueTooLarge c.in-Err-ValueTooLarge.length) refused; stayed = record { rest = c.in-Ok.ensures.rest; noted = refl } }

pub land-requires-clause-made : goal.land-requires-clause-made
land-requires-clause-made g c κs within =
    let s = c.in-Some.at.now in
    let old = c.args.pass.now in
    let mid = c.pair.new.pass in
    let sessions = c.args.sessions.now.entries in
    let session = c.args.session.now in
    let from = c.args.from.now in
    let found : session_named sessions session ≡ Some s = sym c.in-Some.ensures.value in
    let is = c.requires.sessions.each session s found in
    let work = rw c.in-Ok-Land.field-0-is at c.in-Ok-Land.ensures.step in
    let made = c.in-Ok-Land.prepared in
    merge-begins (setting (fix g.T.Mrdt.meaning g.N.Named.terms g.A.Address.address) g.T.Forms.forms g.N.Named.opened) old mid c.in-Ok.ensures.prefix c.in-Ok.ensures.rest s is (sights_of sessions) session from (sight-found sessions session s found) c.in-Ok.pair c.in-Ok.ensures.paired made work.0 work.1

pub land-requires-clause-allowed : goal.land-requires-clause-allowed
land-requires-clause-allowed g c κs within =
    let work = rw c.in-Ok-Land.field-0-is at c.in-Ok-Land.ensures.step in
    let made = c.in-Ok-Land.prepared in
    pair-allowed g.N.Named.allows made.seen.branch c.requires.allowed g.T.Mrdt.meaning c.in-Ok.pair made.work work.1

pub returns-in-Ok-land-clause-tried : goal.returns-in-Ok-land-clause-tried
returns-in-Ok-land-clause-tried g c =
    let s = c.in-Some.at.now in
    let old = c.args.pass.now in
    let mid = c.pair.new.pass in
    let sessions = c.args.sessions.now.entries in
    let session = c.args.session.now in
    let from = c.args.from.now in
    let found : session_named sessions session ≡ Some s = sym c.in-Some.ensures.value in
    let is = c.requires.sessions.each session s found in
    let work = rw c.in-Ok-Land.field-0-is at c.in-Ok-Land.ensures.step in
    let made = c.in-Ok-Land.prepared in
    merge-tried (setting (fix g.T.Mrdt.meaning g.N.Named.terms g.A.Address.address) g.T.Forms.forms g.N.Named.opened) old mid c.in-Ok.ensures.prefix c.in-Ok.ensures.rest s is (sights_of sessions) session from (sight-found sessions session s found) c.in-Ok.pair c.in-Ok.ensures.paired made work.0 work.1 c.land.new.pass c.land.ensures.prefix c.args.places.now.items c.land.new.places.items c.in-Ok-land.landing c.in-Ok-land.ensures.landed

pub returns-clause-stopped : goal.returns-clause-stopped
returns-clause-stopped g c =
    let s = c.in-Some.at.now in
    let old = c.args.pass.now in
    let mid = c.pair.new.pass in
    let sessions = c.args.sessions.now.entries in
    let session = c.args.session.now in
    let from = c.args.from.now in
    let found : session_named sessions session ≡ Some s = sym c.in-Some.ensures.value in
    let is = c.requires.sessions.each session s found in
    let work = rw c.in-Ok-Land.field-0-is at c.in-Ok-Land.ensures.step in
    let made = c.in-Ok-Land.prepared in
    record {
      why = merge-unlanded (setting (fix g.T.Mrdt.meaning g.N.Named.terms g.A.Address.address) g.T.Forms.forms g.N.Named.opened) old mid c.in-Ok.ensures.prefix c.in-Ok.ensures.rest s is (sights_of sessions) session from (sight-found sessions session s found) c.in-Ok.pair c.in-Ok.ensures.paired made work.0 work.1 c.land.new.pass c.land.ensures.prefix c.in-Err.refusal c.in-Err.ensures.refused.0;
      stayed = stayed-earlier old mid c.land.new.pass c.args.places.now.items c.land.new.places.items c.in-Ok.ensures.rest c.in-Err.ensures.refused.1;
    }

pub land-requires-clause-parts : goal.land-requires-clause-parts
land-requires-clause-parts g c κs within = subst (λ n. 1 < n) (sym (ap (λ p. p.parts) c.pair.ensures.rest)) c.requires.parts
