-- The texts of the commands by which stores exchange commits.
use Rattle.std.specs.Prelude.{ℕ, List, [], ◌++◌, codes, decimal}
use Rattle.hex.specs.Hex.{encode_lower}
use Rattle.branch_history.specs.Steps.{Refusal, UnknownBranch, NameTaken, Exhausted, FullCommits, FullBranches, FullMoves, ValueTooLarge, OwnOrigin, TimeClash, BadBundle, Collision}
use Rattle.branch_print.specs.Texts.{line_end}

-- an address of 32 bytes, in 64 lower-case hexadecimal digits
abbrev pub address_text : List ℕ → List ℕ
address_text address = encode_lower address ++ line_end

-- so many commits were new, and the branch of a number was made at the commit of another number
abbrev pub received_text : ℕ → ℕ → ℕ → List ℕ
received_text count branch commit =
    codes "received " ++ decimal count ++ codes " as " ++ decimal branch ++ codes " at #" ++ decimal commit ++ line_end

-- Why such a command ends, where it is not for the files: of an item by its number, from 1; number 0 is the bundle itself.
-- These commands drop no branch and are on no head that was seen before, so they have no text for refusals of that.
abbrev pub stop_text : ℕ → Refusal → List ℕ
stop_text item (UnknownBranch name) = codes "refused unknown " ++ name ++ line_end
stop_text item (NameTaken number) = codes "refused taken " ++ decimal number ++ line_end
stop_text item BadBundle = codes "refused bundle " ++ decimal item ++ line_end
stop_text item OwnOrigin = codes "refused own origin " ++ decimal item ++ line_end
stop_text item (TimeClash commit) = codes "refused time clash " ++ decimal item ++ codes " with #" ++ decimal commit ++ line_end
stop_text item (Exhausted clock) = codes "refused exhausted " ++ decimal clock ++ line_end
stop_text item (ValueTooLarge size) = codes "refused too large " ++ decimal size ++ line_end
stop_text item (FullCommits count) = codes "refused full commits " ++ decimal count ++ line_end
stop_text item (FullBranches count) = codes "refused full branches " ++ decimal count ++ line_end
stop_text item (FullMoves count) = codes "refused full moves " ++ decimal count ++ line_end
stop_text item (Collision address stored fresh) = codes "refused collision " ++ encode_lower address ++ line_end
stop_text item other = []
