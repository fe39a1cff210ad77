-- Whole lines, and the lines of an input that is put together from parts.
use Rattle.std.proofs.Common.{suc, ◌≡◌, ◌≢◌, ℕ, ◌<◌, ◌+◌, Bool, true, false, cond, List, [], ◌∷◌, ◌++◌, length, nat_eq, refl, ap, sym, subst, ◌∙◌, append_assoc, append-nil, length-append, inl, inr, arith}
use Rattle.std.specs.List.{list_any}
use Rattle.std.proofs.lemmas.Bool.{or_parts}
use Rattle.branch_script.specs.Lines.{lines_of, onto_first}
use Rattle.branch_shell.specs.Reading.{IsWholeLines, HasNoLineEnd, AreShort}

lines_of-end : (b : ℕ) (bs : List ℕ) → nat_eq b 10 ≡ true → lines_of (b ∷ bs) ≡ [] ∷ lines_of bs
lines_of-end b bs h = ap (λ t. cond t ([] ∷ lines_of bs) (onto_first b (lines_of bs))) h

lines_of-on : (b : ℕ) (bs : List ℕ) → nat_eq b 10 ≡ false → lines_of (b ∷ bs) ≡ onto_first b (lines_of bs)
lines_of-on b bs h = ap (λ t. cond t ([] ∷ lines_of bs) (onto_first b (lines_of bs))) h

-- some first line
record Begins (lines : List (List ℕ)) : Type 0 where
  first : List ℕ
  others : List (List ℕ)
  is : lines ≡ first ∷ others

onto_first-append : (b : ℕ) (ls ms : List (List ℕ)) → Begins ls → onto_first b (ls ++ ms) ≡ onto_first b ls ++ ms
onto_first-append b ls ms h = subst (λ k. onto_first b (k ++ ms) ≡ onto_first b k ++ ms) (sym h.is) refl

onto_first-begins : (b : ℕ) (ls : List (List ℕ)) → Begins (onto_first b ls)
onto_first-begins b [] = record { first = b ∷ []; others = []; is = refl }
onto_first-begins b (l ∷ ls) = record { first = b ∷ l; others = ls; is = refl }

begins_step : (b : ℕ) (bs : List ℕ) (t : Bool) → nat_eq b 10 ≡ t → Begins (lines_of (b ∷ bs))
begins_step b bs true is = record { first = []; others = lines_of bs; is = lines_of-end b bs is }
begins_step b bs false is = subst Begins (sym (lines_of-on b bs is)) (onto_first-begins b (lines_of bs))

lines_of-begins : (b : ℕ) (bs : List ℕ) → Begins (lines_of (b ∷ bs))
lines_of-begins b bs = begins_step b bs (nat_eq b 10) refl

ended_begins : (a : List ℕ) → Begins (lines_of (a ++ 10 ∷ []))
ended_begins [] = lines_of-begins 10 []
ended_begins (x ∷ a) = lines_of-begins x (a ++ 10 ∷ [])

split_step : (x : ℕ) (a b : List ℕ) (t : Bool) → nat_eq x 10 ≡ t → lines_of (a ++ 10 ∷ b) ≡ lines_of (a ++ 10 ∷ []) ++ lines_of b
    → lines_of (x ∷ (a ++ 10 ∷ b)) ≡ lines_of (x ∷ (a ++ 10 ∷ [])) ++ lines_of b
split_step x a b true is h = lines_of-end x (a ++ 10 ∷ b) is ∙ ap (λ ls. [] ∷ ls) h ∙ sym (ap (λ ls. ls ++ lines_of b) (lines_of-end x (a ++ 10 ∷ []) is))
split_step x a b false is h =
    lines_of-on x (a ++ 10 ∷ b) is ∙ ap (onto_first x) h ∙ onto_first-append x (lines_of (a ++ 10 ∷ [])) (lines_of b) (ended_begins a)
    ∙ sym (ap (λ ls. ls ++ lines_of b) (lines_of-on x (a ++ 10 ∷ []) is))

lines_of-split : (a b : List ℕ) → lines_of (a ++ 10 ∷ b) ≡ lines_of (a ++ 10 ∷ []) ++ lines_of b
lines_of-split [] b = refl
lines_of-split (x ∷ a) b = split_step x a b (nat_eq x 10) refl (lines_of-split a b)

-- behind whole lines other lines begin
pub lines_of-whole : (whole more : List ℕ) → IsWholeLines whole → lines_of (whole ++ more) ≡ lines_of whole ++ lines_of more
lines_of-whole whole more (inl none) = subst (λ w. lines_of (w ++ more) ≡ lines_of w ++ lines_of more) (sym none) refl
lines_of-whole whole more (inr ends) =
    subst (λ w. lines_of (w ++ more) ≡ lines_of w ++ lines_of more) (sym ends.1) (ap lines_of (append_assoc ends.0 (10 ∷ []) more) ∙ lines_of-split ends.0 more)

-- bytes without a line end are one line, ended or not
pub lines_of-line : (line : List ℕ) → HasNoLineEnd line → lines_of (line ++ 10 ∷ []) ≡ line ∷ []
lines_of-line [] h = refl
lines_of-line (x ∷ line) h =
    let p = or_parts (nat_eq x 10) (list_any (λ b. nat_eq b 10) line) h in
    lines_of-on x (line ++ 10 ∷ []) p.0 ∙ ap (onto_first x) (lines_of-line line p.1)

pub lines_of-unended : (rest : List ℕ) → HasNoLineEnd rest → rest ≢ [] → lines_of rest ≡ rest ∷ []
lines_of-unended [] h full = absurd (full refl)
lines_of-unended (x ∷ []) h full = let p = or_parts (nat_eq x 10) false h in lines_of-on x [] p.0
lines_of-unended (x ∷ (y ∷ rest)) h full =
    let p = or_parts (nat_eq x 10) (list_any (λ b. nat_eq b 10) (y ∷ rest)) h in
    lines_of-on x (y ∷ rest) p.0 ∙ ap (onto_first x) (lines_of-unended (y ∷ rest) p.1 (λ e. cc))

-- whole lines and one more are whole lines
pub whole-more : (whole line : List ℕ) → IsWholeLines ((whole ++ line) ++ 10 ∷ [])
whole-more whole line = inr (whole ++ line, refl)

pub whole-append : (a b : List ℕ) → IsWholeLines a → IsWholeLines b → IsWholeLines (a ++ b)
whole-append a b ended (inl none) = subst (λ k. IsWholeLines (a ++ k)) (sym none) (subst IsWholeLines (sym (append-nil a)) ended)
whole-append a b ended (inr ends) = inr (a ++ ends.0, ap (λ k. a ++ k) ends.1 ∙ sym (append_assoc a ends.0 (10 ∷ [])))

pub short-append : (ls ms : List (List ℕ)) → AreShort ls → AreShort ms → AreShort (ls ++ ms)
short-append [] ms h k = k
short-append (l ∷ ls) ms h k = (h.0, short-append ls ms h.1 k)

pub unended-short : (rest : List ℕ) → HasNoLineEnd rest → length rest < 4096 → AreShort (lines_of rest)
unended-short [] h fewer = tt
unended-short (x ∷ rest) h fewer = subst AreShort (sym (lines_of-unended (x ∷ rest) h (λ e. cc))) (fewer, tt)

-- one line more of some bytes
pub record IsNextLine (bytes done line behind : List ℕ) : Type 0 where
  pub parts : bytes ≡ ((done ++ line) ++ 10 ∷ []) ++ behind
  pub lines : lines_of ((done ++ line) ++ 10 ∷ []) ≡ lines_of done ++ line ∷ []
  pub shorter : length line < length bytes

pub next_line : (bytes done line behind rest : List ℕ) → bytes ≡ done ++ rest → rest ≡ line ++ 10 ∷ behind → IsWholeLines done → HasNoLineEnd line → IsNextLine bytes done line behind
next_line bytes done line behind rest is cut ended unended =
    let whole : bytes ≡ ((done ++ line) ++ 10 ∷ []) ++ behind =
    is ∙ ap (λ r. done ++ r) cut ∙ sym (append_assoc done line (10 ∷ behind)) ∙ sym (append_assoc (done ++ line) (10 ∷ []) behind) in
    let long : length bytes ≡ length done + length rest = ap length is ∙ length-append done rest in
    let rest_long : length rest ≡ length line + suc (length behind) = ap length cut ∙ length-append line (10 ∷ behind) in
    record {
      parts = whole;
      lines = ap lines_of (append_assoc done line (10 ∷ [])) ∙ lines_of-whole done (line ++ 10 ∷ []) ended ∙ ap (λ ls. lines_of done ++ ls) (lines_of-line line unended);
      shorter = omega (arith, long, rest_long);
    }
