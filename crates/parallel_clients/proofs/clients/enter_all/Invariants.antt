-- The clients of the seats so far have entered, and there is room for the others.
use Rattle.std.proofs.Common.{◌≡◌, ◌++◌, ◌-◌, ◌*◌, ◌≤◌, length, vec_capacity}
use Rattle.std.specs.List.{AllZip}
use Rattle.parallel_clients.specs.Entrants.{IsReady, HaveEntered}
use Rattle.parallel_clients.proofs.clients.enter_all.Given as goal

abbrev pub invariant-loop-seat : goal.invariant-loop-seat
invariant-loop-seat g l =
    (l.yielded ++ l.seat-iterator.rest.items ≡ l.fn.seats.items)
    × AllZip (IsReady l.fn.pass) l.yielded l.entrants.items
    × HaveEntered (length l.yielded) l.fn.pass l.pass
    × (l.pass.parts ≡ l.fn.pass.parts - 2 * length l.yielded)
    × (length l.fn.seats.items ≤ vec_capacity l.entrants)
