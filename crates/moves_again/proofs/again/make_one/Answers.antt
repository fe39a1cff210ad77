-- One move is made again by its step.
use Rattle.std.proofs.Common.{◌≡◌, refl, sym, subst}
use Rattle.branch_machine.specs.Fixed.{fix}
use Rattle.moves_again.proofs.Made.{by-fork, by-operation, by-merge, by-forward, never-join, never-received, never-place, never-drop}
use Rattle.moves_again.proofs.again.make_one.Goals as goal

pub fork_again-requires-clause-kept : goal.fork_again-requires-clause-kept
fork_again-requires-clause-kept g c κs within = (by-fork (fix g.T.Mrdt.meaning c.args.core.now.terms g.A.Address.address) c.args.core.now.history c.args.made _ _ _ c.in-Fork.is c.requires.repeats).0

pub fork_again-requires-clause-repeats : goal.fork_again-requires-clause-repeats
fork_again-requires-clause-repeats g c κs within = (c.args.made, (by-fork (fix g.T.Mrdt.meaning c.args.core.now.terms g.A.Address.address) c.args.core.now.history c.args.made _ _ _ c.in-Fork.is c.requires.repeats).1)

pub returns-in-Fork-clause-made : goal.returns-in-Fork-clause-made
returns-in-Fork-clause-made g c = c.fork_again.ensures.made c.args.made (by-fork (fix g.T.Mrdt.meaning c.args.core.now.terms g.A.Address.address) c.args.core.now.history c.args.made _ _ _ c.in-Fork.is c.requires.repeats).1

pub returns-in-Fork-clause-moments : goal.returns-in-Fork-clause-moments
returns-in-Fork-clause-moments g c = c.fork_again.ensures.moments c.args.made (by-fork (fix g.T.Mrdt.meaning c.args.core.now.terms g.A.Address.address) c.args.core.now.history c.args.made _ _ _ c.in-Fork.is c.requires.repeats).1

pub operation_again-requires-clause-kept : goal.operation_again-requires-clause-kept
operation_again-requires-clause-kept g c κs within = (by-operation (fix g.T.Mrdt.meaning c.args.core.now.terms g.A.Address.address) c.args.core.now.history c.args.made _ _ _ c.in-Operation.is c.requires.repeats).0

pub operation_again-requires-clause-repeats : goal.operation_again-requires-clause-repeats
operation_again-requires-clause-repeats g c κs within = (c.args.made, (by-operation (fix g.T.Mrdt.meaning c.args.core.now.terms g.A.Address.address) c.args.core.now.history c.args.made _ _ _ c.in-Operation.is c.requires.repeats).1)

pub returns-in-Operation-clause-made : goal.returns-in-Operation-clause-made
returns-in-Operation-clause-made g c = c.operation_again.ensures.made c.args.made (by-operation (fix g.T.Mrdt.meaning c.args.core.now.terms g.A.Address.address) c.args.core.now.history c.args.made _ _ _ c.in-Operation.is c.requires.repeats).1

pub returns-in-Operation-clause-moments : goal.returns-in-Operation-clause-moments
returns-in-Operation-clause-moments g c = c.operation_again.ensures.moments c.args.made (by-operation (fix g.T.Mrdt.meaning c.args.core.now.terms g.A.Address.address) c.args.core.now.history c.args.made _ _ _ c.in-Operation.is c.requires.repeats).1

pub merge_again-requires-clause-kept : goal.merge_again-requires-clause-kept
merge_again-requires-clause-kept g c κs within = (by-merge (fix g.T.Mrdt.meaning c.args.core.now.terms g.A.Address.address) c.args.core.now.history c.args.made _ _ c.in-Merge.is c.requires.repeats).0

pub merge_again-requires-clause-repeats : goal.merge_again-requires-clause-repeats
merge_again-requires-clause-repeats g c κs within = (c.args.made, (by-merge (fix g.T.Mrdt.meaning c.args.core.now.terms g.A.Address.address) c.args.core.now.history c.args.made _ _ c.in-Merge.is c.requires.repeats).1)

pub returns-in-Merge-clause-made : goal.returns-in-Merge-clause-made
returns-in-Merge-clause-made g c = c.merge_again.ensures.made c.args.made (by-merge (fix g.T.Mrdt.meaning c.args.core.now.terms g.A.Address.address) c.args.core.now.history c.args.made _ _ c.in-Merge.is c.requires.repeats).1

pub returns-in-Merge-clause-moments : goal.returns-in-Merge-clause-moments
returns-in-Merge-clause-moments g c = c.merge_again.ensures.moments c.args.made (by-merge (fix g.T.Mrdt.meaning c.args.core.now.terms g.A.Address.address) c.args.core.now.history c.args.made _ _ c.in-Merge.is c.requires.repeats).1

pub merge_again-requires-in-Forward-clause-kept : goal.merge_again-requires-in-Forward-clause-kept
merge_again-requires-in-Forward-clause-kept g c κs within = (by-forward (fix g.T.Mrdt.meaning c.args.core.now.terms g.A.Address.address) c.args.core.now.history c.args.made _ _ c.in-Forward.is c.requires.repeats).0

pub merge_again-requires-in-Forward-clause-repeats : goal.merge_again-requires-in-Forward-clause-repeats
merge_again-requires-in-Forward-clause-repeats g c κs within = (c.args.made, (by-forward (fix g.T.Mrdt.meaning c.args.core.now.terms g.A.Address.address) c.args.core.now.history c.args.made _ _ c.in-Forward.is c.requires.repeats).1)

pub returns-in-Forward-clause-made : goal.returns-in-Forward-clause-made
returns-in-Forward-clause-made g c = c.merge_again-in-Forward.ensures.made c.args.made (by-forward (fix g.T.Mrdt.meaning c.args.core.now.terms g.A.Address.address) c.args.core.now.history c.args.made _ _ c.in-Forward.is c.requires.repeats).1

pub returns-in-Forward-clause-moments : goal.returns-in-Forward-clause-moments
returns-in-Forward-clause-moments g c = c.merge_again-in-Forward.ensures.moments c.args.made (by-forward (fix g.T.Mrdt.meaning c.args.core.now.terms g.A.Address.address) c.args.core.now.history c.args.made _ _ c.in-Forward.is c.requires.repeats).1

pub unreachable-requires : goal.unreachable-requires
unreachable-requires g c = never-join (fix g.T.Mrdt.meaning c.args.core.now.terms g.A.Address.address) c.args.core.now.history c.args.made _ _ c.in-Join.is c.requires.repeats

pub unreachable-requires-in-Received : goal.unreachable-requires-in-Received
unreachable-requires-in-Received g c = never-received (fix g.T.Mrdt.meaning c.args.core.now.terms g.A.Address.address) c.args.core.now.history c.args.made _ _ _ _ c.in-Received.is c.requires.repeats

pub unreachable-requires-in-Place : goal.unreachable-requires-in-Place
unreachable-requires-in-Place g c = never-place (fix g.T.Mrdt.meaning c.args.core.now.terms g.A.Address.address) c.args.core.now.history c.args.made _ _ _ c.in-Place.is c.requires.repeats

pub unreachable-requires-in-Drop : goal.unreachable-requires-in-Drop
unreachable-requires-in-Drop g c = never-drop (fix g.T.Mrdt.meaning c.args.core.now.terms g.A.Address.address) c.args.core.now.history c.args.made _ c.in-Drop.is c.requires.repeats
