-- Items leave the branches, and the branch is placed behind them.
use Rattle.branch_receipts.proofs.Received.{items-keep, bundle-keeps}
use Rattle.branch_receipts.proofs.laws.keeps_on_the_way.Goals as goal

pub returns : goal.returns
returns g c = λ terms address moves valid name. (
  items-keep g.T.Mrdt.meaning terms address c.adds_all_items.ensures moves valid name,
  bundle-keeps g.T.Mrdt.meaning terms address c.adds_all_items.ensures moves valid name,
)
