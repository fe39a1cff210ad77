-- The value is spelled as it was prepared.
use Rattle.std.proofs.Common.{subst, IfOk}
use Rattle.branch_machine.specs.Fixed.{fix}
use Rattle.store_seen.specs.Views.{PreparedView}
use Rattle.branch_shared.specs.Passes.{LandedAt}
use Rattle.branch_shared.proofs.Spellings.{spelled-landed}
use Rattle.branch_shared.proofs.shared.Shared.land.Goals as goal

pub returns-clause-spelled : goal.returns-clause-spelled
returns-clause-spelled g c =
    let n = g.N.Named in
    let meaning = g.T.Mrdt.meaning in
    let address = g.A.Address.address in
    let land = c.land in
    let landed = subst (λ (made : PreparedView _ _). IfOk land.result (λ landed. LandedAt (fix meaning n.terms address) made c.args.pass.now land.new.pass landed.moves landed.kind)) c.new-prepared.ensures land.ensures.landed in
    spelled-landed meaning address n.terms c.args.prepared c.args.pass.now land.new.pass land.result c.spells_landings.ensures c.requires.history c.requires.terms land.ensures.valid landed
