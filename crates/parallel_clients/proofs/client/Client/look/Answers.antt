-- One look.
use Rattle.std.proofs.Common.{refl}
use Rattle.branch_history.specs.Steps as machine
use Rattle.branch_machine.specs.Fixed.{fix}
use Rattle.parallel_clients.specs.Sessions.{stage_of}
use Rattle.parallel_clients.proofs.Machines.{full-answers}
use Rattle.branch_front.proofs.Prefixes.{prefix_self}
use Rattle.parallel_clients.proofs.Single.{plays-looked}
use Rattle.parallel_clients.proofs.client.Client.look.Goals as goal

pub returns-in-Ok-clause-plays : goal.returns-in-Ok-clause-plays
returns-in-Ok-clause-plays g c = λ places.
    plays-looked g.T.Forms.forms g.N.Named.terms.origin (stage_of c.args.pass.now c.args.sessions.now.entries places) (stage_of c.look_at.new.pass c.look_at.new.sessions.entries places)
    c.args.pass.now c.look_at.new.pass (prefix_self c.args.pass.now.moves) (prefix_self c.look_at.new.pass.moves) places places refl refl c.look_at.ensures.prefix refl c.args.session.now c.args.branch.now _ c.in-Ok.ensures.sees c.in-Ok.ensures.there

pub returns-in-Err-UnknownBranch-clause-stopped : goal.returns-in-Err-UnknownBranch-clause-stopped
returns-in-Err-UnknownBranch-clause-stopped g c =
    let branch = c.args.branch.now in
    let refused = rw c.in-Err-UnknownBranch.field-0-is at c.in-Err-UnknownBranch.ensures.refused in
    full-answers (fix g.T.Mrdt.meaning g.N.Named.terms g.A.Address.address) c.look_at.new.pass.moves (machine.Look branch) (machine.Refused (machine.UnknownBranch branch)) refl refused.1
