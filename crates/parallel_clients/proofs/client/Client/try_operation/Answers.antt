-- A try to land an operation, by what became of its preparation and its landing.
use Rattle.std.proofs.Common.{◌≡◌, ◌∙◌, sym, Some, refl}
use Rattle.branch_history.specs.declared.moves.Move.TheVariants as move
use Rattle.branch_history.specs.Steps as machine
use Rattle.branch_history.specs.History.{store_of}
use Rattle.branch_history.specs.Commits.{visible}
use Rattle.branch_machine.specs.Fixed.{fix}
use Rattle.parallel_clients.specs.Outcomes.{setting}
use Rattle.parallel_clients.specs.Sessions.{session_named, sights_of}
use Rattle.parallel_clients.proofs.Sessioned.{session-later, sight-found}
use Rattle.parallel_clients.proofs.Tried.{do-unprepared, do-unlanded, do-lacking, do-tried}
use Rattle.parallel_clients.proofs.client.Client.try_operation.Goals as goal

pub returns-in-Ok-None-clause-stopped : goal.returns-in-Ok-None-clause-stopped
returns-in-Ok-None-clause-stopped g c =
    let s = c.in-Some.at.now in
    let sessions = c.args.sessions.now.entries in
    let found : session_named sessions c.args.session.now ≡ Some s = sym c.in-Some.ensures.value in
    record {
      why = do-lacking (setting (fix g.T.Mrdt.meaning g.N.Named.terms g.A.Address.address) g.T.Forms.forms g.N.Named.opened) c.args.pass.now.moves (sights_of sessions) c.args.session.now s.seen.branch
          (sight-found sessions c.args.session.now s found) c.args.op.now (sym c.in-Ok-None.ensures ∙ c.in-Ok-None.field-0-is);
      stayed = record { rest = refl; noted = refl };
    }

pub returns-in-Err-Exhausted-clause-stopped : goal.returns-in-Err-Exhausted-clause-stopped
returns-in-Err-Exhausted-clause-stopped g c =
    let s = c.in-Some.at.now in
    let moves = c.args.pass.now.moves in
    let sessions = c.args.sessions.now.entries in
    let found : session_named sessions c.args.session.now ≡ Some s = sym c.in-Some.ensures.value in
    let is = c.requires.sessions.each c.args.session.now s found in
    let refused = rw c.in-Err-Exhausted.field-0-is at c.in-Err-Exhausted.ensures.refused in
    record { why = do-unprepared (setting (fix g.T.Mrdt.meaning g.N.Named.terms g.A.Address.address) g.T.Forms.forms g.N.Named.opened) moves s is (sights_of sessions) c.args.session.now (sight-found sessions c.args.session.now s found) c.args.op.now c.in-Ok-Some.op (sym c.in-Ok-Some.ensures ∙ c.in-Ok-Some.field-0-is) (machine.Exhausted c.in-Err-Exhausted.clock) refused; stayed = record { rest = refl; noted = refl } }

pub returns-in-Err-ValueTooLarge-clause-stopped : goal.returns-in-Err-ValueTooLarge-clause-stopped
returns-in-Err-ValueTooLarge-clause-stopped g c =
    let s = c.in-Some.at.now in
    let moves = c.args.pass.now.moves in
    let sessions = c.args.sessions.now.entries in
    let found : session_named sessions c.args.session.now ≡ Some s = sym c.in-Some.ensures.value in
    let is = c.requires.sessions.each c.args.session.now s found in
    let refused = rw c.in-Err-ValueTooLarge.field-0-is at c.in-Err-ValueTooLarge.ensures.refused in
    record { why = do-unprepared (setting (fix g.T.Mrdt.meaning g.N.Named.terms g.A.Address.address) g.T.Forms.forms g.N.Named.opened) moves s is (sights_of sessions) c.args.session.now (sight-found sessions c.args.session.now s found) c.args.op.now c.in-Ok-Some.op (sym c.in-Ok-Some.ensures ∙ c.in-Ok-Some.field-0-is) (machine.ValueTooLarge c.in-Err-ValueTooLarge.length) refused; stayed = record { rest = refl; noted = refl } }

pub land-requires-clause-made : goal.land-requires-clause-made
land-requires-clause-made g c κs within =
    let s = c.in-Some.at.now in
    let found : session_named c.args.sessions.now.entries c.args.session.now ≡ Some s = sym c.in-Some.ensures.value in
    let is = c.requires.sessions.each c.args.session.now s found in
    rw c.in-Ok.ensures.prepared (is.begins, is.terms_are)

pub land-requires-clause-allowed : goal.land-requires-clause-allowed
land-requires-clause-allowed g c κs within =
    let is = sym c.in-Ok-Some.ensures ∙ c.in-Ok-Some.field-0-is in
    rw c.in-Ok.ensures.prepared (λ any. c.requires.allowed (move.Operation c.in-Some.at.now.seen.branch c.in-Ok-Some.op any) is)

pub returns-in-Ok-land-clause-tried : goal.returns-in-Ok-land-clause-tried
returns-in-Ok-land-clause-tried g c =
    let s = c.in-Some.at.now in
    let sessions = c.args.sessions.now.entries in
    let found : session_named sessions c.args.session.now ≡ Some s = sym c.in-Some.ensures.value in
    do-tried c.args.pass.now c.land.new.pass c.args.places.now.items c.land.new.places.items s (sights_of sessions c.args.session.now) (sight-found sessions c.args.session.now s found)
    c.in-Ok.prepared (g.T.Forms.forms.op c.args.op.now) c.in-Ok-Some.op (g.T.Mrdt.meaning.reply_of (visible (store_of s.seen.terms.origin s.seen.history).commits s.seen.head) c.in-Ok-Some.op) (sym c.in-Ok-Some.ensures ∙ c.in-Ok-Some.field-0-is) c.in-Ok.ensures.prepared
    c.in-Ok-land.landing c.in-Ok-land.ensures.landed

pub returns-in-Err-land-clause-stopped : goal.returns-in-Err-land-clause-stopped
returns-in-Err-land-clause-stopped g c =
    let s = c.in-Some.at.now in
    let old = c.args.pass.now.moves in
    let new = c.land.new.pass in
    let sessions = c.args.sessions.now.entries in
    let found : session_named sessions c.args.session.now ≡ Some s = sym c.in-Some.ensures.value in
    let is = session-later g.N.Named.terms old new.moves s c.land.ensures.prefix (c.requires.sessions.each c.args.session.now s found) in
    record {
      why = do-unlanded (setting (fix g.T.Mrdt.meaning g.N.Named.terms g.A.Address.address) g.T.Forms.forms g.N.Named.opened) new.moves s is (sights_of sessions) c.args.session.now (sight-found sessions c.args.session.now s found) c.args.op.now c.in-Ok-Some.op (sym c.in-Ok-Some.ensures ∙ c.in-Ok-Some.field-0-is)
          new c.in-Ok.prepared (g.T.Mrdt.meaning.reply_of (visible (store_of s.seen.terms.origin s.seen.history).commits s.seen.head) c.in-Ok-Some.op) c.in-Err-land.refusal refl c.in-Ok.ensures.prepared c.in-Err-land.ensures.refused.0;
      stayed = c.in-Err-land.ensures.refused.1;
    }
