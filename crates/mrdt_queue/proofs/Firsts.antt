-- The first entry of a queue.
use Rattle.std.proofs.Common.{◌≡◌, ℕ, ◌<◌, None, Some, List, [], ◌∷◌, length, drop, slice_get, refl, ◌∙◌, ap, sym, arith}
use Rattle.live_set.specs.declared.kept.Kept.{Kept}
use Rattle.live_set.proofs.Sharing.{first_is, first_not}
use Rattle.mrdt_queue.specs.Queue.{TakesFirst, first_of}

pub first_of_get : (ks : List (Kept (List ℕ))) → first_of ks ≡ slice_get ks 0
first_of_get [] = refl
first_of_get (k ∷ ks) = refl

pub has_first : (ks : List (Kept (List ℕ))) (k : Kept (List ℕ)) → slice_get ks 0 ≡ Some k → 0 < length ks
has_first [] k at = absurd (cc at)
has_first (j ∷ ks) k at = omega arith

pub takes_first : (old new : List (Kept (List ℕ))) (k : Kept (List ℕ)) → slice_get old 0 ≡ Some k → new ≡ drop 1 old → TakesFirst old (Some k) new
takes_first old new k at is = first_is old k at ∙ ap (λ js. k ∷ js) (sym is)

pub takes_none : (old new : List (Kept (List ℕ))) → slice_get old 0 ≡ None → new ≡ old → TakesFirst old None new
takes_none old new at is = let none = first_not old at in (none, is ∙ none)
