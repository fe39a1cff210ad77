-- What the client has played so far, and the room that is left.
use Rattle.std.proofs.Common.{◌≤◌, length, vec_capacity, take}
use Rattle.branch_machine.specs.Fixed.{fix}
use Rattle.parallel_clients.specs.Clients.{KeepsValid}
use Rattle.parallel_clients.specs.Sessions.{IsPlaying}
use Rattle.parallel_clients.proofs.client.Client.run.Given as goal

abbrev pub invariant-loop-number : goal.invariant-loop-number
invariant-loop-number g l =
    IsPlaying g.T.Forms.forms g.N.Named.terms (take l.number l.steps) l.initial.pass l.pass l.sessions.entries l.places.items
    × (length l.places.items ≤ l.number)
    × (length l.steps ≤ vec_capacity l.places)
    × KeepsValid (fix g.T.Mrdt.meaning g.N.Named.terms g.A.Address.address) l.initial.pass l.pass
