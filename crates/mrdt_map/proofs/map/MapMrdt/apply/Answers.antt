use Rattle.mrdt_map.proofs.OnKeys.{applies}
use Rattle.mrdt_map.proofs.map.MapMrdt.apply.Goals as goal

pub returns-clause-applies : goal.returns-clause-applies
returns-clause-applies g c =
    let made = c.in_ok-entries.ensures.applies in
    rw (← c.self.view_is) (applies g.T.Mrdt.meaning c.self.inside.entries c.in_ok-entries.entries c.args.op.now c.args.time made.made c.in_ok-entries.reply made.ordered made.values made.applies)
