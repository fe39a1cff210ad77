use Rattle.std.proofs.Common.{length}
use Rattle.std.specs.List.{flat_map}
use Rattle.live_set.specs.Spelling.{kept_spelling, live_spelling}
use Rattle.live_set.proofs.Writing.{PutSoFar}
use Rattle.live_set.proofs.live.Live.put.Given as goal

abbrev pub invariant-loop-kept : goal.invariant-loop-kept
invariant-loop-kept g l =
    let spelling = g.V.Payload.spelling in
    PutSoFar l.fn.out.items l.out.items (flat_map (kept_spelling spelling) l.ahead) (live_spelling spelling l.self)

-- what is ahead
abbrev pub decreases-loop-kept : goal.decreases-loop-kept
decreases-loop-kept g l = length l.ahead
