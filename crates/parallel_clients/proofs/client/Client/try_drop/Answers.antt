-- A try to drop, by what became of it.
use Rattle.std.proofs.Common.{◌≡◌, ◌∙◌, sym, Some, refl}
use Rattle.branch_history.specs.declared.moves.Move.TheVariants as move
use Rattle.branch_machine.specs.Fixed.{fix}
use Rattle.parallel_clients.specs.Outcomes.{setting}
use Rattle.parallel_clients.specs.Sessions.{session_named, sights_of}
use Rattle.parallel_clients.proofs.Sessioned.{sight-found}
use Rattle.parallel_clients.proofs.Droppings.{drop-done, drop-stays, drop-refused}
use Rattle.parallel_clients.proofs.client.Client.try_drop.Goals as goal

pub drop_branch-requires-clause-allowed : goal.drop_branch-requires-clause-allowed
drop_branch-requires-clause-allowed g c κs within = c.requires.allowed (move.Drop c.in-Some.at.now.seen.branch) tt

pub drop_branch-requires-clause-history : goal.drop_branch-requires-clause-history
drop_branch-requires-clause-history g c κs within =
    let s = c.in-Some.at.now in
    let found : session_named c.args.sessions.now.entries c.args.session.now ≡ Some s = sym c.in-Some.ensures.value in
    let is = c.requires.sessions.each c.args.session.now s found in
    is.begins

pub drop_branch-requires-clause-terms : goal.drop_branch-requires-clause-terms
drop_branch-requires-clause-terms g c κs within =
    let s = c.in-Some.at.now in
    let found : session_named c.args.sessions.now.entries c.args.session.now ≡ Some s = sym c.in-Some.ensures.value in
    let is = c.requires.sessions.each c.args.session.now s found in
    is.terms_are

pub returns-in-Ok-clause-tried : goal.returns-in-Ok-clause-tried
returns-in-Ok-clause-tried g c =
    let on = setting (fix g.T.Mrdt.meaning g.N.Named.terms g.A.Address.address) g.T.Forms.forms g.N.Named.opened in
    let s = c.in-Some.at.now in
    let sessions = c.args.sessions.now.entries in
    let session = c.args.session.now in
    let found : session_named sessions session ≡ Some s = sym c.in-Some.ensures.value in
    drop-done on c.args.pass.now c.drop_branch.new.pass s (sights_of sessions) session (sight-found sessions session s found)
    c.in-Ok.moves c.args.places.now.items c.note.new.list.items c.in-Ok.ensures.answered c.note.ensures.items

pub returns-in-Some-undropped-clause-stopped : goal.returns-in-Some-undropped-clause-stopped
returns-in-Some-undropped-clause-stopped g c =
    let on = setting (fix g.T.Mrdt.meaning g.N.Named.terms g.A.Address.address) g.T.Forms.forms g.N.Named.opened in
    let s = c.in-Some.at.now in
    let old = c.args.pass.now in
    let new = c.drop_branch.new.pass in
    let sessions = c.args.sessions.now.entries in
    let session = c.args.session.now in
    let found : session_named sessions session ≡ Some s = sym c.in-Some.ensures.value in
    let is = c.requires.sessions.each session s found in
    record {
      why = drop-refused on old new c.drop_branch.ensures.prefix s is (sights_of sessions) session (sight-found sessions session s found) c.in-Err.refused c.in-Some-undropped.refusal
          (sym c.undropped.ensures ∙ c.in-Some-undropped.is) c.in-Err.ensures.answered;
      stayed = record { rest = drop-stays on old new s c.in-Err.refused c.in-Err.ensures.answered; noted = refl };
    }

pub returns-in-None-clause-tried : goal.returns-in-None-clause-tried
returns-in-None-clause-tried g c =
    let on = setting (fix g.T.Mrdt.meaning g.N.Named.terms g.A.Address.address) g.T.Forms.forms g.N.Named.opened in
    record { rest = drop-stays on c.args.pass.now c.drop_branch.new.pass c.in-Some.at.now c.in-Err.refused c.in-Err.ensures.answered; noted = refl }
