-- What it is to read members one after another.
use Rattle.std.specs.Prelude.{◌≡◌, ℕ, List, [], ◌∷◌, ◌++◌, length}
use Rattle.std.specs.List.{AllByRecursion, flat_map}
use Rattle.std.specs.Map.{keys_of}
use Rattle.std.specs.Ordering.{nat_cmp}
use Rattle.std.specs.Cmp.Lexicographic.{slice_cmp}
use Rattle.std.specs.List.Sorted.{IsStrictlySortedBy}
use Rattle.keyed_slots.specs.Slots.{IsAbove}
use Rattle.mrdt_set.specs.Members.{Times, member_spelling, IsMember}

-- members whose elements rise
abbrev pub AreRising : List (List ℕ × Times) → Type 0
AreRising members = IsStrictlySortedBy (slice_cmp nat_cmp) (keys_of members) × AllByRecursion IsMember members

-- one member is taken from the front of the bytes, and put behind the old ones
pub record TakesMember (bytes : List ℕ) (old : List (List ℕ × Times)) (rest : List ℕ) (new : List (List ℕ × Times)) : Type 0 where
  pub taken : List ℕ × Times
  pub good : IsMember taken
  pub above : IsAbove taken.0 (keys_of old)
  pub members : new ≡ old ++ taken ∷ []
  pub spelled : bytes ≡ member_spelling taken ++ rest

-- this many members, whose elements rise, are taken from the front of the bytes
pub record AreTaken (bytes : List ℕ) (count : ℕ) (rest : List ℕ) (members : List (List ℕ × Times)) : Type 0 where
  pub many : length members ≡ count
  pub rising : AreRising members
  pub spelled : bytes ≡ flat_map member_spelling members ++ rest
