-- One query.
use Rattle.std.proofs.Common.{◌≡◌, ◌∙◌, refl, sym, subst, Some}
use Rattle.std.specs.Prelude.{IsSome}
use Rattle.branch_history.specs.Steps as machine
use Rattle.branch_machine.specs.Fixed.{fix}
use Rattle.parallel_clients.specs.Sessions.{stage_of}
use Rattle.parallel_clients.proofs.Machines.{full-answers}
use Rattle.branch_front.proofs.Prefixes.{prefix_self}
use Rattle.parallel_clients.proofs.Single.{plays-asked}
use Rattle.parallel_clients.proofs.Turned.{look-there}
use Rattle.parallel_clients.proofs.client.Client.ask.Goals as goal

pub returns-in-Ok-ask-clause-plays : goal.returns-in-Ok-ask-clause-plays
returns-in-Ok-ask-clause-plays g c = λ places.
    plays-asked g.T.Forms.forms g.N.Named.terms.origin (stage_of c.args.pass.now c.args.sessions.now.entries places) (stage_of c.look.new.pass c.args.sessions.now.entries places)
    c.args.pass.now c.look.new.pass (prefix_self c.args.pass.now.moves) (prefix_self c.look.new.pass.moves) places places refl refl c.look.ensures.prefix refl refl c.args.branch.now c.args.query.now (
      look-there g.T.Mrdt.meaning g.N.Named.terms c.look.new.pass.moves c.args.branch.now c.in-Ok.seen.branch c.in-Ok.seen.head c.in-Ok.ensures.sees,
      let is : g.T.Forms.forms.query c.args.query.now ≡ Some c.in-Ok-Some.query = sym c.in-Ok-Some.ensures ∙ c.in-Ok-Some.field-0-is in
          subst IsSome (sym is) refl,
    )

-- the branch is there, and the query is of a kind that the store lacks
pub returns-in-Ok-None-clause-stopped : goal.returns-in-Ok-None-clause-stopped
returns-in-Ok-None-clause-stopped g c = (
  look-there g.T.Mrdt.meaning g.N.Named.terms c.look.new.pass.moves c.args.branch.now c.in-Ok.seen.branch c.in-Ok.seen.head c.in-Ok.ensures.sees,
  sym c.in-Ok-None.ensures ∙ c.in-Ok-None.field-0-is,
)

pub returns-in-Err-UnknownBranch-clause-stopped : goal.returns-in-Err-UnknownBranch-clause-stopped
returns-in-Err-UnknownBranch-clause-stopped g c =
    let branch = c.args.branch.now in
    let refused = rw c.in-Err-UnknownBranch.field-0-is at c.in-Err-UnknownBranch.ensures.refused in
    full-answers (fix g.T.Mrdt.meaning g.N.Named.terms g.A.Address.address) c.look.new.pass.moves (machine.Look branch) (machine.Refused (machine.UnknownBranch branch)) refl refused.1
