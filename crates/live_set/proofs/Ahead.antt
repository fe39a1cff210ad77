-- The first of the entries that are ahead.
use Rattle.std.specs.Prelude.{◌≡◌, None, Some, List, [], ◌∷◌, drop, slice_get, refl, true}
use Rattle.std.proofs.Common.{arith}
use Rattle.mrdt_model.specs.declared.time.Time.{Time}
use Rattle.mrdt_model.specs.Times.{same_time}
use Rattle.live_set.specs.declared.kept.Kept.{Kept}
use Rattle.live_set.specs.Walks.{first_time, payload_first, behind_first}

pub first_there : {V : Type 0} (entries : List (Kept V)) (k : Kept V) → slice_get entries 0 ≡ Some k → first_time entries ≡ Some k.time
first_there [] k p = search p
first_there (j ∷ entries) k p = cc p

pub first_none : {V : Type 0} (entries : List (Kept V)) → slice_get entries 0 ≡ None → first_time entries ≡ None
first_none [] p = refl
first_none (j ∷ entries) p = search p

pub payload_there : {V : Type 0} (entries : List (Kept V)) (t : Time) (k : Kept V) → slice_get entries 0 ≡ Some k → same_time t k.time ≡ true → payload_first entries t ≡ Some k.payload
payload_there [] t k p q = search p
payload_there (j ∷ entries) t k p q = grind (arith, p, q)

pub payload_none : {V : Type 0} (entries : List (Kept V)) (t : Time) → slice_get entries 0 ≡ None → payload_first entries t ≡ None
payload_none [] t p = refl
payload_none (j ∷ entries) t p = search p

pub behind_there : {V : Type 0} (entries : List (Kept V)) (t : Time) (k : Kept V) → slice_get entries 0 ≡ Some k → same_time t k.time ≡ true → behind_first entries t ≡ drop 1 entries
behind_there [] t k p q = refl
behind_there (j ∷ entries) t k p q = grind (arith, p, q)

pub behind_none : {V : Type 0} (entries : List (Kept V)) (t : Time) → slice_get entries 0 ≡ None → behind_first entries t ≡ entries
behind_none [] t p = refl
behind_none (j ∷ entries) t p = search p
