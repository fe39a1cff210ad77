-- Lists of trees, each seen as its height and its entries.
use Rattle.std.specs.Prelude.{◌≡◌, ℕ, ℤ, pos, ◌+ℤ◌, ◌<ℤ◌, ◌≤ℤ◌, Bool, true, slice_get, ◌+◌, ◌<◌, ◌≤◌, List, [], ◌∷◌, ◌++◌, take, drop, length, None, Some}
use Rattle.std.specs.declared.option.Option.{Option}
use Rattle.std.specs.Option.{option_to_list}
use Rattle.std.specs.List.{flat_map, sum_by}

-- the sum of the weights
abbrev pub weights : {T : Type 0} → (T → ℕ) → List T → ℕ
weights weight_of entries = sum_by weight_of entries

-- the sum of the amounts
abbrev pub amounts : {T : Type 0} → (T → ℤ) → List T → ℤ
amounts amount_of [] = pos 0
amounts amount_of (x ∷ entries) = amount_of x +ℤ amounts amount_of entries

-- the entries of all trees
abbrev pub lists : {T : Type 0} → List (ℕ × List T) → List T
lists trees = flat_map (λ t. t.1) trees

-- all trees have this height
abbrev pub AreAt : {T : Type 0} → ℕ → List (ℕ × List T) → Type 0
AreAt h [] = Unit {0}
AreAt h (t ∷ trees) = (t.0 ≡ h) × AreAt h trees

-- behind the old trees stand new ones of this height, and their entries are these
pub record Puts {T : Type 0} (old : List (ℕ × List T)) (new : List (ℕ × List T)) (h : ℕ) (entries : List T) : Type 0 where
  pub made : List (ℕ × List T)
  pub behind : new ≡ old ++ made
  pub all : AreAt h made
  pub same : lists made ≡ entries

-- the entries with an entry, or none, in the place of so many from a place on
abbrev pub edited : {T : Type 0} → ℕ → ℕ → Option T → List T → List T
edited place cut item entries = take place entries ++ option_to_list item ++ drop (place + cut) entries

-- the entries of a tree that may be there
abbrev pub root_entries : {T : Type 0} → Option (ℕ × List T) → List T
root_entries None = []
root_entries (Some t) = t.1

-- some entries stand at a place, one or more
pub record IsRun {T : Type 0} (entries : List T) (place : ℕ) (run : List T) : Type 0 where
  pub some : 0 < length run
  pub within : place + length run ≤ length entries
  pub same : run ++ drop (place + length run) entries ≡ drop place entries

-- the sum of the weights passes w with the entry at a place
pub record IsPassed {T : Type 0} (weight_of : T → ℕ) (entries : List T) (w : ℕ) (place : ℕ) : Type 0 where
  pub there : place < length entries
  pub before : weights weight_of (take place entries) ≤ w
  pub passed : w < weights weight_of (take (place + 1) entries)

-- the sum of the amounts passes a with the entry at a place
pub record IsReached {T : Type 0} (amount_of : T → ℤ) (entries : List T) (a : ℤ) (place : ℕ) : Type 0 where
  pub there : place < length entries
  pub before : amounts amount_of (take place entries) ≤ℤ a
  pub passed : a <ℤ amounts amount_of (take (place + 1) entries)

-- where an entry passes the test, so do all before it
abbrev pub IsPartitioned : {T : Type 0} → (T → Bool) → List T → Type 0
IsPartitioned {T} passes entries =
    (i j : ℕ) (x y : T) → i ≤ j → slice_get entries i ≡ Some x → slice_get entries j ≡ Some y → passes y ≡ true → passes x ≡ true

-- the entries of a leaf are ahead, and behind them those from a place on: none are ahead in the leaf only where none
-- are ahead at all
pub record IsAhead {T : Type 0} (entries : List T) (leaf : List T) (place : ℕ) : Type 0 where
  pub within : place ≤ length entries
  pub none : leaf ≡ [] → place ≡ length entries

-- a leaf, where there is one, has the entries at a place
abbrev pub IsLeafAt : {T : Type 0} → List T → ℕ → Option (ℕ × List T) → Type 0
IsLeafAt entries place None = Unit {0}
IsLeafAt entries place (Some leaf) = (leaf.0 ≡ 0) × IsRun entries place leaf.1

-- the entries from one place to another stand behind the old ones
pub record TakesOver {T : Type 0} (old : List T) (entries : List T) (place : ℕ) (new : List T) (next : ℕ) : Type 0 where
  pub some : place < next
  pub within : next ≤ length entries
  pub same : new ++ drop next entries ≡ old ++ drop place entries
