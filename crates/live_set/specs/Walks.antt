-- The first entries of lists.
use Rattle.std.specs.Prelude.{if◌then◌else◌, Option, None, Some, List, [], ◌∷◌}
use Rattle.mrdt_model.specs.declared.time.Time.{Time}
use Rattle.mrdt_model.specs.Times.{same_time, is_earlier}
use Rattle.live_set.specs.declared.kept.Kept.{Kept}

abbrev pub first_time : {V : Type 0} → List (Kept V) → Option Time
first_time [] = None
first_time (k ∷ entries) = Some k.time

-- the earlier of two times, where there are two
abbrev pub earlier_of : Option Time → Option Time → Option Time
earlier_of None right = right
earlier_of (Some s) None = Some s
earlier_of (Some s) (Some t) = if is_earlier t s then Some t else Some s

-- the first entry's payload, where that entry is at this time
abbrev pub payload_first : {V : Type 0} → List (Kept V) → Time → Option V
payload_first [] t = None
payload_first (k ∷ entries) t = if same_time t k.time then Some k.payload else None

-- the entries without the first, where that is at this time
abbrev pub behind_first : {V : Type 0} → List (Kept V) → Time → List (Kept V)
behind_first [] t = []
behind_first (k ∷ entries) t = if same_time t k.time then entries else k ∷ entries
