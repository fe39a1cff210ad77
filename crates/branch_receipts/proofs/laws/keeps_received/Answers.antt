-- By how the bytes were received.
use Rattle.branch_receipts.proofs.Received.{received-has}
use Rattle.branch_receipts.proofs.laws.keeps_received.Goals as goal

pub returns : goal.returns
returns g c = λ terms address moves valid bytes name receipt made received.
    received-has g.T.Mrdt.meaning terms address c.adds_all_items.ensures moves valid name c.adds_items.ensures c.places_branches.ensures bytes receipt made received
