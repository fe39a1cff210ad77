use Rattle.mrdt_sequence.specs.Sequence.{order}
use Rattle.mrdt_sequence.specs.Nodes.{order-ordered}
use Rattle.mrdt_sequence.proofs.Preorder.{ordered-forest}
use Rattle.mrdt_sequence.proofs.laws.nodes_in_preorder.Goals as goal

pub returns : goal.returns
returns c x lawful = ordered-forest (order x) (order-ordered x lawful.well_formed lawful.faithful)
