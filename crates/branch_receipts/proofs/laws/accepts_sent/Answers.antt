-- The bytes spell one bundle, whose items are taken or met by something else.
use Rattle.branch_receipts.proofs.Accepted.{accepted}
use Rattle.branch_receipts.proofs.laws.accepts_sent.Goals as goal

pub returns : goal.returns
returns g c = λ terms others address size moves more tip addresses from short name free receipt made received.
    accepted g.T.Mrdt.meaning c.reads_bundles.ensures c.sends_bundles.ensures c.adds_all_items.ensures c.accepts_bundles.ensures terms others address size moves more tip addresses from name free short receipt made received
