use Rattle.std.proofs.Common.{◌≡◌, [], ◌∷◌, get_or, map, take}
use Rattle.recorded_history.proofs.staging.addresses.Given as goal

abbrev pub invariant-loop-other : goal.invariant-loop-other
invariant-loop-other g l = l.found.items ≡ map (λ n. get_or l.versions.addresses n []) (l.head ∷ take l.other-index l.others)
