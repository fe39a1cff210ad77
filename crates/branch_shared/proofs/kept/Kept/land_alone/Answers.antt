-- A job that lands alone.
use Rattle.std.proofs.Common.{subst}
use Rattle.branch_history.specs.declared.moves.Move.{Move}
use Rattle.branch_machine.specs.Fixed.{fix}
use Rattle.branch_shared.specs.Passes.{PassView}
use Rattle.branch_shared.specs.Batches.{JobView, LandsTogether, Serves}
use Rattle.branch_shared.proofs.Adopts.{alone}
use Rattle.branch_shared.proofs.kept.Kept.land_alone.Goals as goal

pub returns : goal.returns
returns g c =
    let fixed = fix g.T.Mrdt.meaning g.N.Named.terms g.A.Address.address in
    let land = c.land-answer in
    let lands = alone fixed g.N.Named.opened g.N.Named.begun c.job.inside.prepared c.pass_again-pass.result land.new.pass land.result land.ensures.prefix land.ensures.sure land.ensures.begun land.ensures.valid land.ensures.faults land.ensures.parts
    land.ensures.landed land.ensures.refused land.ensures.rest land.ensures.quiet in
    let own = subst (λ (p : PassView (Move _ _)). LandsTogether fixed g.N.Named.opened g.N.Named.begun c.job.inside.prepared p (record { pass = land.new.pass; answer = land.result })) c.pass_again-pass.ensures lands in
    subst (λ (job : JobView _ _). Serves fixed g.N.Named.opened g.N.Named.begun job (record { pass = land.new.pass; answer = land.result })) c.job.view_is own
