-- What each named session sees.
use Rattle.std.specs.Prelude.{ℕ, bytes_eq, List, [], ◌∷◌, if◌then◌else◌, Some, None}
use Rattle.std.specs.declared.option.Option.{Option}

-- a branch by its number, and the commit that was seen as its head
pub record Sight : Type 0 where
  pub branch : ℕ
  pub head : ℕ

-- a session, and what it came to see
pub record Session : Type 0 where
  pub name : List ℕ
  pub sight : Sight

-- of what sessions came to see, the newest first: what the session with a name sees now
abbrev pub seen_by : List Session → List ℕ → Option Sight
seen_by [] name = None
seen_by (s ∷ older) name = if bytes_eq s.name name then Some s.sight else seen_by older name
