-- The sessions after a step that leaves them as they are.
use Rattle.parallel_clients.proofs.Sessioned.{sessions_later}
use Rattle.parallel_clients.proofs.client.Client.step.Goals as goal

pub returns-in_ok-fork-in-Fork-clause-sessions : goal.returns-in_ok-fork-in-Fork-clause-sessions
returns-in_ok-fork-in-Fork-clause-sessions g c = sessions_later g.N.Named.terms c.args.pass.now.moves c.fork.new.pass.moves c.args.sessions.now.entries c.fork.ensures.advances.seen c.requires.sessions

pub returns-in_ok-ask-in-Ask-clause-sessions : goal.returns-in_ok-ask-in-Ask-clause-sessions
returns-in_ok-ask-in-Ask-clause-sessions g c = sessions_later g.N.Named.terms c.args.pass.now.moves c.ask.new.pass.moves c.args.sessions.now.entries c.ask.ensures.prefix c.requires.sessions

pub fork-requires-clause-allowed : goal.fork-requires-clause-allowed
fork-requires-clause-allowed g c κs within = rw c.in-Fork.is at c.requires.allowed

pub merge-requires-clause-allowed : goal.merge-requires-clause-allowed
merge-requires-clause-allowed g c κs within = rw c.in-Merge.is at c.requires.allowed

pub join-requires-clause-allowed : goal.join-requires-clause-allowed
join-requires-clause-allowed g c κs within = rw c.in-Join.is at c.requires.allowed

pub operation-requires-clause-allowed : goal.operation-requires-clause-allowed
operation-requires-clause-allowed g c κs within = rw c.in-Do.is at c.requires.allowed

pub drop_branch-requires-clause-allowed : goal.drop_branch-requires-clause-allowed
drop_branch-requires-clause-allowed g c κs within = rw c.in-Drop.is at c.requires.allowed
