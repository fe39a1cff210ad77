-- The jobs are the same, whether or not addresses were worked out.
use Rattle.std.proofs.Common.{refl}
use Rattle.store_core.proofs.Batches.{looks_at, terms_at, short_at}
use Rattle.store_core.proofs.store.Core.land_all.Goals as goal

pub returns-in_err-later-clause-leaves : goal.returns-in_err-later-clause-leaves
returns-in_err-later-clause-leaves g c =
    let ended = short_at g.D.Disk g.T.Mrdt.meaning g.A.Address.address c.args.jobs.items c.args.self.now c.self.inside.recorded c.self.inside.disk c.self.inside.opened.value c.self.inside.failed c.self.view_is g.met.D.Disk.only_now c.self.invariant.stands c.from_residual.result _ c.from_residual.ensures.1 in
    ended.leaves

pub land_all_addressed-requires-clause-history : goal.land_all_addressed-requires-clause-history
land_all_addressed-requires-clause-history g c κs within = looks_at c.args.jobs.items _ c.in_ok-later.ensures c.args.self.now c.args.self.now refl c.requires.history

pub land_all_addressed-requires-clause-terms : goal.land_all_addressed-requires-clause-terms
land_all_addressed-requires-clause-terms g c κs within = terms_at c.args.jobs.items _ c.in_ok-later.ensures c.args.self.now c.args.self.now refl c.requires.terms
