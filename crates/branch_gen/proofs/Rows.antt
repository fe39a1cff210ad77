-- The first draws from 0, and the draws of the first line and the first step.
use Rattle.std.proofs.Common.{◌≡◌, refl}
use Rattle.branch_gen.specs.Draws.{next, drawn, pick}

states : (next 0 ≡ 1442695040888963407) × (next 1442695040888963407 ≡ 1876011003808476466) × (next 1876011003808476466 ≡ 11166244414315200793)
unfolding next
states = (refl, refl, refl)

draws : (drawn 0 ≡ 167951807) × (drawn 1442695040888963407 ≡ 218396424) × (drawn 1876011003808476466 ≡ 1299921937)
unfolding drawn next
draws = (refl, refl, refl)

-- session 3 sets a register of several values, the second of eight
line : (pick 4 0 ≡ 3) × (pick 16 (next 0) ≡ 8) × (pick 8 (next (next 0)) ≡ 1)
unfolding pick drawn next
line = (refl, refl, refl)

-- a dequeue from the first of eight queues
step : (pick 8 0 ≡ 7) × (pick 8 (next 0) ≡ 0)
unfolding pick drawn next
step = (refl, refl)
