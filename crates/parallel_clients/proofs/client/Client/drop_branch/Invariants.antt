-- Before each further try the client has only looked again.
use Rattle.std.proofs.Common.{◌≤◌, ◌<◌, length, vec_capacity}
use Rattle.branch_machine.specs.Fixed.{fix}
use Rattle.parallel_clients.specs.Clients.{KeepsValid}
use Rattle.parallel_clients.specs.Sessions.{IsWaiting}
use Rattle.parallel_clients.proofs.client.Client.drop_branch.Given as goal

abbrev pub invariant-loop : goal.invariant-loop
invariant-loop g l =
    (goal.iterator-loop g).can_next l.iterator' × (goal.iterator-loop g).is_finite l.iterator'
    × IsWaiting g.N.Named.terms l.initial.pass l.pass l.initial.sessions.entries l.sessions.entries l.initial.places.items l.places.items
    × (length l.places.items < vec_capacity l.places)
    × (vec_capacity l.initial.places ≤ vec_capacity l.places)
    × KeepsValid (fix g.T.Mrdt.meaning g.N.Named.terms g.A.Address.address) l.initial.pass l.pass
