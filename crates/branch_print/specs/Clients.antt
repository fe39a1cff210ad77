-- The texts of what became of a client.
use Rattle.std.specs.Prelude.{ℕ, List, ◌++◌, codes, decimal}

-- the client of a number
abbrev pub client_text : ℕ → List ℕ
client_text client = codes "client " ++ decimal client

-- it did all its steps, and so many moves landed
abbrev pub client_done_text : ℕ → ℕ → List ℕ
client_done_text client moves = client_text client ++ codes " done " ++ decimal moves
