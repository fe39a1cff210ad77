-- The clients so far have left, and there is room for what became of the others.
use Rattle.std.proofs.Common.{◌≡◌, ◌++◌, ◌≤◌, length, vec_capacity}
use Rattle.branch_machine.specs.Fixed.{fix}
use Rattle.parallel_clients.specs.Entrants.{HaveLeft}
use Rattle.parallel_clients.specs.Outcomes.{setting}
use Rattle.parallel_clients.proofs.clients.leave_all.Given as goal

abbrev pub invariant-loop-entrant : goal.invariant-loop-entrant
invariant-loop-entrant g l =
    (l.yielded ++ l.entrant-iterator.rest.items ≡ l.fn.entrants.items)
    × HaveLeft (setting (fix g.T.Mrdt.meaning g.N.Named.terms g.A.Address.address) g.T.Forms.forms g.N.Named.opened) l.fn.pass l.pass l.yielded l.outcomes.items
    × (length l.fn.entrants.items ≤ vec_capacity l.outcomes)
