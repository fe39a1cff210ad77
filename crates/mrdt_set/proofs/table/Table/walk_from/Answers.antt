use Rattle.std.proofs.Common.{ap, ◌∙◌, drop}
use Rattle.mrdt_set.proofs.table.Table.walk_from.Goals as goal

pub returns : goal.returns
returns c = record { place = c.args.place; same = c.new.ensures ∙ ap (drop c.args.place) c.self.view_is }
