-- What the front of a shared store knows of the moves that landed.
use Rattle.std.specs.Prelude.{◌≡◌, ℕ, List, ◌++◌, map}
use Rattle.branch_history.specs.declared.moves.Move.{Move}
use Rattle.branch_shared.specs.declared.name.Entry.{Entry}

module _ {O R : Type 0} where
  -- the moves
  abbrev pub moves_of : List (Entry O R) → List (Move O R)
  moves_of entries = map (λ e. e.made) entries

  -- the moments of the disk at which they were acknowledged
  abbrev pub moments_of : List (Entry O R) → List ℕ
  moments_of entries = map (λ e. e.since) entries

  -- moves that are acknowledged at one moment
  abbrev pub entries_at : ℕ → List (Move O R) → List (Entry O R)
  entries_at since moves = map (λ m. record { made = m; since = since }) moves

  -- behind these entries stand moves that were acknowledged at that moment, or none
  abbrev pub AreNoted : ℕ → List (Entry O R) → List (Entry O R) → Type 0
  AreNoted since old new = (more : List (Move O R)) × (new ≡ old ++ entries_at since more)
