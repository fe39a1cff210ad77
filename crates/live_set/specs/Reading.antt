-- What it is to read entries one after another.
use Rattle.std.specs.Prelude.{◌≡◌, ℕ, List, [], ◌∷◌, ◌++◌}
use Rattle.live_set.specs.declared.kept.Kept.{Kept}
use Rattle.live_set.specs.Entries.{kept_times, AllBefore}
use Rattle.live_set.specs.Spelling.{kept_spelling, KeptFits}

-- one entry is taken from the front of the bytes, and put behind the old ones
pub record TakesKept {V : Type 0} (fits : V → Type 0) (spelling : V → List ℕ) (bytes : List ℕ) (old : List (Kept V)) (rest : List ℕ) (new : List (Kept V)) : Type 0 where
  pub taken : Kept V
  pub good : KeptFits fits taken
  pub later : AllBefore (kept_times old) taken.time
  pub entries : new ≡ old ++ taken ∷ []
  pub spelled : bytes ≡ kept_spelling spelling taken ++ rest
