-- Where no move is pending, the history is what is written.
use Rattle.std.proofs.Common.{◌≡◌, subst, slice_get}
use Rattle.branch_history.specs.History.{store_of}
use Rattle.branch_machine.specs.Fixed.{fix}
use Rattle.branch_machine.specs.Objects.{pairs_of}
use Rattle.recorded_history.specs.Items.{lent_item}
use Rattle.recorded_history.proofs.Pending.{written-alone}
use Rattle.recorded_history.proofs.recorded.Recorded.item.Goals as goal

pub returns : goal.returns
returns g c =
    let r = c.args.self.now in
    subst (λ l. lent_item c.item_of.result ≡ slice_get (pairs_of (fix g.T.Mrdt.meaning r.terms g.A.Address.address) (store_of r.terms.origin l).commits) c.args.commit) (written-alone r c.requires.settled) c.item_of.ensures
