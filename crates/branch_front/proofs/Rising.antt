-- Numbers that rise between two bounds.
use Rattle.std.proofs.Common.{ℕ, ◌≤◌, ◌<◌, List, [], ◌∷◌, ◌++◌, arith}
use Rattle.std.specs.List.{AllByRecursion}
use Rattle.branch_front.specs.Lists.{RisesWithin}

pub rises_further : (first : ℕ) (ns : List ℕ) (last further : ℕ) → RisesWithin first ns last → last ≤ further → RisesWithin first ns further
rises_further first [] last further rises le = omega arith
rises_further first (n ∷ ns) last further rises le = (rises.0, rises_further n ns last further rises.1 le)

pub rises_on : (first : ℕ) (ns : List ℕ) (last next : ℕ) → RisesWithin first ns last → last < next → RisesWithin first (ns ++ next ∷ []) next
rises_on first [] last next rises lt = (omega arith, omega arith)
rises_on first (n ∷ ns) last next rises lt = (rises.0, rises_on n ns last next rises.1 lt)

-- numbers that rise behind others
pub rises_behind : (first : ℕ) (ns : List ℕ) (last mid : ℕ) → RisesWithin first ns last → AllByRecursion (λ n. mid < n) ns → mid ≤ last → RisesWithin mid ns last
rises_behind first [] last mid rises behind le = omega arith
rises_behind first (n ∷ ns) last mid rises behind le = (behind.0, rises.1)

pub rises-append : (first : ℕ) (ns ms : List ℕ) (mid last : ℕ) → RisesWithin first ns mid → RisesWithin mid ms last → RisesWithin first (ns ++ ms) last
rises-append first [] [] mid last rises further = omega arith
rises-append first [] (m ∷ ms) mid last rises further = (omega arith, further.1)
rises-append first (n ∷ ns) ms mid last rises further = (rises.0, rises-append n ns ms mid last rises.1 further)
