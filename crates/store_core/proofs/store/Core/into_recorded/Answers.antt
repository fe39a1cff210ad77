-- The type keeps it.
use Rattle.store_core.proofs.Kept.{kept, kept-left}
use Rattle.store_core.proofs.store.Core.into_recorded.Goals as goal

pub returns-clause-stands : goal.returns-clause-stands
returns-clause-stands g c = kept g.T.Mrdt.meaning g.A.Address.address _ _ _ c.self.view_is c.self.invariant.stands

pub returns-clause-left : goal.returns-clause-left
returns-clause-left g c = kept-left g.T.Mrdt.meaning g.A.Address.address _ _ _ c.self.view_is c.self.invariant.left
