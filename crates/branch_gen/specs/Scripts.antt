-- Scripts of drawn lines.
use Rattle.std.specs.Prelude.{ℕ, zero, suc, ◌==◌, ◌∷◌, List, [], ◌++◌, codes, nat_le, if◌then◌else◌}
use Rattle.std.specs.Fmt.{decimal, signed_decimal}
use Rattle.branch_gen.specs.Draws.{next, pick, Drawn, key_at, word_at, amount_at}

abbrev pub line_end : List ℕ
line_end = 10 ∷ []

-- the session of a number
abbrev pub session_text : ℕ → List ℕ
session_text i = codes "s" ++ decimal i

-- the branch of a number: `main`, or one of the three that are forked from it
abbrev pub branch_text : ℕ → List ℕ
branch_text i = if i == 0 then codes "main" else codes "g" ++ decimal i

-- `do SESSION KIND KEY OPERATION`, by a draw of the key
abbrev pub do_text : ℕ → List ℕ → List ℕ → ℕ → List ℕ
do_text i kind operation x = codes "do " ++ session_text i ++ codes " " ++ kind ++ codes " " ++ key_at x ++ codes " " ++ operation

-- an operation of a session that takes no word
abbrev pub plain_line : ℕ → List ℕ → List ℕ → ℕ → Drawn (List ℕ)
plain_line i kind operation x = record { made = do_text i kind operation x ++ line_end; state = next x }

-- one that takes a word, drawn behind the key
abbrev pub word_line : ℕ → List ℕ → List ℕ → ℕ → Drawn (List ℕ)
word_line i kind operation x = record {
  made = do_text i kind operation x ++ codes " " ++ word_at (next x) ++ line_end;
  state = next (next x);
}

-- an addition to a counter, whose amount is drawn behind the key
abbrev pub amount_line : ℕ → ℕ → Drawn (List ℕ)
amount_line i x = record {
  made = do_text i (codes "counter") (codes "add") x ++ codes " " ++ signed_decimal (amount_at (next x)) ++ line_end;
  state = next (next x);
}

-- a merge of a branch that is drawn
abbrev pub merge_line : ℕ → ℕ → Drawn (List ℕ)
merge_line i x = record {
  made = codes "merge " ++ session_text i ++ codes " " ++ branch_text (pick 4 x) ++ line_end;
  state = next x;
}

-- a look at the session's own branch
abbrev pub look_text : ℕ → List ℕ
look_text i = codes "look " ++ session_text i ++ codes " " ++ branch_text i ++ line_end

-- one, without a draw
abbrev pub look_line : ℕ → ℕ → Drawn (List ℕ)
look_line i x = record { made = look_text i; state = x }

-- the line of session i that a number below 16 stands for, with its further draws
unfoldable pub line_for : ℕ → ℕ → ℕ → Drawn (List ℕ)
line_for i a x =
    if nat_le a 1 then merge_line i x
    else if nat_le a 2 then look_line i x
    else if nat_le a 4 then amount_line i x
    else if nat_le a 5 then plain_line i (codes "flag") (codes "enable") x
    else if nat_le a 6 then plain_line i (codes "flag") (codes "disable") x
    else if nat_le a 7 then word_line i (codes "lww") (codes "set") x
    else if nat_le a 8 then word_line i (codes "multi") (codes "set") x
    else if nat_le a 10 then word_line i (codes "set") (codes "add") x
    else if nat_le a 11 then word_line i (codes "set") (codes "remove") x
    else if nat_le a 12 then word_line i (codes "log") (codes "append") x
    else if nat_le a 14 then word_line i (codes "queue") (codes "enqueue") x
    else plain_line i (codes "queue") (codes "dequeue") x

-- a line: its session and what it does are drawn first
unfoldable pub line : ℕ → Drawn (List ℕ)
line x = line_for (pick 4 x) (pick 16 (next x)) (next (next x))

-- some lines, from a state on
abbrev pub lines : ℕ → ℕ → List ℕ
lines zero x = []
lines (suc steps) x = (line x).made ++ lines steps (line x).state

-- three branches, and a session on each of the four
abbrev pub begin_text : List ℕ
begin_text =
    codes "fork g1 main" ++ line_end ++ codes "fork g2 main" ++ line_end ++ codes "fork g3 main" ++ line_end
    ++ codes "look s0 main" ++ line_end ++ codes "look s1 g1" ++ line_end ++ codes "look s2 g2" ++ line_end ++ codes "look s3 g3" ++ line_end

-- the script of a number
unfoldable pub script_text : ℕ → ℕ → List ℕ
script_text steps number = begin_text ++ lines steps number
