use Rattle.mrdt_both.specs.Sides.{OnSides}
use Rattle.mrdt_both.proofs.Shares.{shares, share-out}
use Rattle.mrdt_both.proofs.laws.sides_share_the_events.Goals as goal

pub returns-clause-lengths : goal.returns-clause-lengths
returns-clause-lengths g c x l = shares g.A.Mrdt.meaning.reply_of g.B.Mrdt.meaning.reply_of x l.faithful

pub returns-clause-times : goal.returns-clause-times
returns-clause-times g c x l =
    share-out g.A.Mrdt.meaning.reply_of g.B.Mrdt.meaning.reply_of (OnSides g.A.Mrdt.meaning.is_op g.B.Mrdt.meaning.is_op) (OnSides g.A.Mrdt.meaning.is_reply g.B.Mrdt.meaning.is_reply) x l.well_formed l.faithful
