-- A drawn script is whole lines.
use Rattle.std.proofs.Common.{zero, suc, ◌≡◌, ℕ, Bool, true, false, nat_le, List, [], ◌∷◌, ◌++◌, codes, refl, inl, inr, if◌then◌else◌}
use Rattle.std.specs.Fmt.{signed_decimal}
use Rattle.branch_gen.specs.Draws.{Drawn, next, pick, word_at, amount_at}
use Rattle.branch_gen.specs.Scripts.{session_text, branch_text, do_text, merge_line, look_line, amount_line, plain_line, word_line, line_for, line, lines, begin_text, script_text}
use Rattle.branch_shell.specs.Reading.{IsWholeLines}
use Rattle.branch_shell.proofs.Cuts.{whole-append}

-- what was drawn ends a line
record Ends (d : Drawn (List ℕ)) : Type 0 where
  front : List ℕ
  is : d.made ≡ front ++ 10 ∷ []

either : (t : Bool) (a b : Drawn (List ℕ)) → Ends a → Ends b → Ends (if t then a else b)
either true a b p q = p
either false a b p q = q

merge_ends : (i x : ℕ) → Ends (merge_line i x)
merge_ends i x = record { front = codes "merge " ++ session_text i ++ codes " " ++ branch_text (pick 4 x); is = refl }

look_ends : (i x : ℕ) → Ends (look_line i x)
look_ends i x = record { front = codes "look " ++ session_text i ++ codes " " ++ branch_text i; is = refl }

plain_ends : (i : ℕ) (kind operation : List ℕ) (x : ℕ) → Ends (plain_line i kind operation x)
plain_ends i kind operation x = record { front = do_text i kind operation x; is = refl }

word_ends : (i : ℕ) (kind operation : List ℕ) (x : ℕ) → Ends (word_line i kind operation x)
word_ends i kind operation x = record { front = do_text i kind operation x ++ codes " " ++ word_at (next x); is = refl }

amount_ends : (i x : ℕ) → Ends (amount_line i x)
amount_ends i x = record { front = do_text i (codes "counter") (codes "add") x ++ codes " " ++ signed_decimal (amount_at (next x)); is = refl }

line_for-ends : (i a x : ℕ) → Ends (line_for i a x)
unfolding line_for
line_for-ends i a x =
    either (nat_le a 1) _ _ (merge_ends i x) (either (nat_le a 2) _ _ (look_ends i x) (either (nat_le a 4) _ _ (amount_ends i x)
    (either (nat_le a 5) _ _ (plain_ends i (codes "flag") (codes "enable") x) (either (nat_le a 6) _ _ (plain_ends i (codes "flag") (codes "disable") x)
    (either (nat_le a 7) _ _ (word_ends i (codes "lww") (codes "set") x) (either (nat_le a 8) _ _ (word_ends i (codes "multi") (codes "set") x)
    (either (nat_le a 10) _ _ (word_ends i (codes "set") (codes "add") x) (either (nat_le a 11) _ _ (word_ends i (codes "set") (codes "remove") x)
    (either (nat_le a 12) _ _ (word_ends i (codes "log") (codes "append") x) (either (nat_le a 14) _ _ (word_ends i (codes "queue") (codes "enqueue") x)
    (plain_ends i (codes "queue") (codes "dequeue") x)))))))))))

line-ends : (x : ℕ) → Ends (line x)
unfolding line
line-ends x = line_for-ends (pick 4 x) (pick 16 (next x)) (next (next x))

lines-whole : (steps x : ℕ) → IsWholeLines (lines steps x)
lines-whole zero x = inl refl
lines-whole (suc steps) x = let e = line-ends x in whole-append (line x).made (lines steps (line x).state) (inr (e.front, e.is)) (lines-whole steps (line x).state)

begin-whole : IsWholeLines begin_text
begin-whole = inr (codes "fork g1 main\nfork g2 main\nfork g3 main\nlook s0 main\nlook s1 g1\nlook s2 g2\nlook s3 g3", refl)

pub drawn-whole : (steps number : ℕ) → IsWholeLines (script_text steps number)
unfolding script_text
drawn-whole steps number = whole-append begin_text (lines steps number) begin-whole (lines-whole steps number)
