use Rattle.std.proofs.Common.{◌≡◌, ◌++◌, map, length}
use Rattle.mrdt_register.proofs.multi.payloads.Given as goal

-- what was put, and what is ahead
abbrev pub invariant-loop-kept : goal.invariant-loop-kept
invariant-loop-kept l = l.list.items ++ map (λ k. k.payload) l.ahead ≡ map (λ k. k.payload) l.live

abbrev pub decreases-loop-kept : goal.decreases-loop-kept
decreases-loop-kept l = length l.ahead
