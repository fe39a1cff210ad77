-- The stored objects as lists of bytes, the file that they stand in, and what a list of objects adds to them.
use Rattle.std.specs.Prelude.{◌≡◌, ℕ, Bool, List, [], ◌∷◌, ◌++◌, length, take, Option, Some, None, ◌&&◌, not, if◌then◌else◌, nat_eq, codes}
use Rattle.std.specs.List.{concat, list_any, find}
use Rattle.std.specs.Cmp.Lexicographic.{pointwise}
use Rattle.branch_wire.specs.Fields.{short_number, version}

-- the stored objects, in the order in which they were stored
abbrev pub Stored : Type 0
Stored = List (List ℕ)

-- the letters, a version, and four bytes 0
abbrev pub header_of : ℕ → List ℕ
header_of number = codes "MRDTOBJS" ++ (short_number number ++ short_number 0)

-- the header that is written
abbrev pub header : List ℕ
header = header_of version

-- the bytes of the file in a version
abbrev pub file_in : ℕ → Stored → List ℕ
file_in number stored = header_of number ++ concat stored

-- the bytes of the file that is written
abbrev pub file_of : Stored → List ℕ
file_of stored = file_in version stored

-- the file begins with this text
abbrev pub Begins : List ℕ → List ℕ → Type 0
Begins text file = take (length text) file ≡ text

abbrev pub same : List ℕ → List ℕ → Bool
same = pointwise nat_eq

-- whether an object has the address
abbrev pub has_address : (List ℕ → List ℕ) → List ℕ → List ℕ → Bool
has_address address a x = same (address x) a

-- the first object with the address
abbrev pub first_with : (List ℕ → List ℕ) → List ℕ → Stored → Option (List ℕ)
first_with address a stored = find (has_address address a) stored

-- the first object with the address of this one, and other bytes
abbrev pub clash : (List ℕ → List ℕ) → List ℕ → Stored → Option (List ℕ)
clash address x stored = find (λ y. has_address address (address x) y && not (same y x)) stored

-- of a list, the first object that clashes with a stored one, or with an earlier one of the list: that one, and it
abbrev pub collision : (List ℕ → List ℕ) → Stored → Stored → Option (List ℕ × List ℕ)
collision address stored [] = None
collision address stored (x ∷ xs) = elim (clash address x stored) [
  | None ↦ collision address (stored ++ x ∷ []) xs
  | Some y ↦ Some (y, x)
]

-- the objects of a list that are not stored, and equal no earlier one of it
abbrev pub fresh : Stored → Stored → Stored
fresh stored [] = []
fresh stored (x ∷ xs) = if list_any (same x) stored then fresh stored xs else x ∷ fresh (stored ++ x ∷ []) xs
