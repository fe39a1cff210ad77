-- Words but for the flag among them.
use Rattle.std.proofs.Common.{◌≡◌, ◌++◌, ◌∙◌, ◌||◌, ◌&&◌, ◌<◌, ◌+◌, ℕ, not, Bool, true, false, List, [], ◌∷◌, refl, ap, sym, map, take, get_or, length, append_assoc, bytes_eq, codes, if◌then◌else◌}
use Rattle.std.specs.List.{list_any}
use Rattle.std.proofs.lemmas.List.{take_more, map-append}
use Rattle.std.proofs.lemmas.List.Folds.{list_any-append}
use Rattle.branch_command.specs.Flags.{is_flag, is_last, flag_among, but_flag}

-- what is kept of a word, by whether the words are over and whether it is the flag
abbrev pub kept_of : Bool → Bool → List ℕ → List (List ℕ)
kept_of is_over is_one word = if not is_over && is_one then [] else word ∷ []

kept_alone : (is_one ends : Bool) (word : List ℕ) → (if is_one || ends then (if is_one then [] else word ∷ []) else word ∷ []) ≡ kept_of false is_one word
kept_alone true ends word = refl
kept_alone false true word = refl
kept_alone false false word = refl

kept_behind : (is_one ends over one : Bool) (w : List ℕ) (ws but all : List (List ℕ)) (word : List ℕ) → all ≡ but ++ kept_of over one word
    → (if is_one || ends then (if is_one then ws ++ word ∷ [] else w ∷ ws ++ word ∷ []) else w ∷ all)
    ≡ (if is_one || ends then (if is_one then ws else w ∷ ws) else w ∷ but) ++ kept_of ((is_one || ends) || over) one word
kept_behind true ends over one w ws but all word rest = refl
kept_behind false true over one w ws but all word rest = refl
kept_behind false false over one w ws but all word rest = ap (λ l. w ∷ l) rest

-- a word behind others
one_kept : (words : List (List ℕ)) (word : List ℕ) → but_flag (words ++ word ∷ []) ≡ but_flag words ++ kept_of (list_any is_last words) (is_flag word) word
one_kept [] word = kept_alone (is_flag word) (bytes_eq word (codes "--")) word
one_kept (w ∷ ws) word =
    kept_behind (is_flag w) (bytes_eq w (codes "--")) (list_any is_last ws) (is_flag word) w ws (but_flag ws) (but_flag (ws ++ word ∷ [])) word (one_kept ws word)

found_alone : (is_one ends : Bool) → (if is_one || ends then is_one else false) ≡ (false || (not false && is_one))
found_alone true ends = refl
found_alone false true = refl
found_alone false false = refl

found_behind : (is_one ends over one among all : Bool) → all ≡ (among || (not over && one))
    → (if is_one || ends then is_one else all) ≡ ((if is_one || ends then is_one else among) || (not ((is_one || ends) || over) && one))
found_behind true ends over one among all rest = refl
found_behind false true over one among all rest = refl
found_behind false false over one among all rest = rest

one_found : (words : List (List ℕ)) (word : List ℕ) → flag_among (words ++ word ∷ []) ≡ (flag_among words || (not (list_any is_last words) && is_flag word))
one_found [] word = found_alone (is_flag word) (bytes_eq word (codes "--"))
one_found (w ∷ ws) word =
    found_behind (is_flag w) (bytes_eq w (codes "--")) (list_any is_last ws) (is_flag word) (flag_among ws) (flag_among (ws ++ word ∷ [])) (one_found ws word)

last_behind : (over last : Bool) → (over || (last || false)) ≡ (over || last)
last_behind true true = refl
last_behind false true = refl
last_behind true false = refl
last_behind false false = refl

module _ {W : Type 0} (text : W → List ℕ) (words : List W) (i : ℕ) (d : W) (inside : i < length words) where
  more : map text (take (i + 1) words) ≡ map text (take i words) ++ text (get_or words i d) ∷ []
  more = ap (map text) (take_more words i d inside) ∙ map-append text (take i words) (get_or words i d ∷ [])

  -- a word more was kept, or not
  pub word-kept : (word : List ℕ) (is_over : Bool) (old mid new : List (List ℕ)) → word ≡ text (get_or words i d)
      → mid ≡ old ++ but_flag (map text (take i words)) → is_over ≡ list_any is_last (map text (take i words))
      → new ≡ mid ++ kept_of is_over (is_flag word) word → new ≡ old ++ but_flag (map text (take (i + 1) words))
  word-kept word is_over old mid new item kept over is =
      let w = text (get_or words i d) in
      let of = list_any is_last (map text (take i words)) in
      is ∙ ap (λ x. mid ++ kept_of is_over (is_flag x) x) item ∙ ap (λ b. mid ++ kept_of b (is_flag w) w) over ∙ ap (λ l. l ++ kept_of of (is_flag w) w) kept
      ∙ append_assoc old (but_flag (map text (take i words))) (kept_of of (is_flag w) w)
      ∙ ap (λ l. old ++ l) (sym (ap but_flag more ∙ one_kept (map text (take i words)) w))

  -- whether the words are over then
  pub word-last : (word : List ℕ) (is_over next : Bool) → word ≡ text (get_or words i d) → is_over ≡ list_any is_last (map text (take i words))
      → next ≡ (is_over || is_last word) → next ≡ list_any is_last (map text (take (i + 1) words))
  word-last word is_over next item over is =
      let w = text (get_or words i d) in
      is ∙ ap (λ x. is_over || is_last x) item ∙ ap (λ b. b || is_last w) over
      ∙ sym (ap (list_any is_last) more ∙ list_any-append is_last (map text (take i words)) (w ∷ []) ∙ last_behind (list_any is_last (map text (take i words))) (is_last w))

  -- and whether the flag is among them
  pub word-found : (word : List ℕ) (is_over is_found next : Bool) → word ≡ text (get_or words i d) → is_over ≡ list_any is_last (map text (take i words))
      → is_found ≡ flag_among (map text (take i words)) → next ≡ (is_found || (not is_over && is_flag word)) → next ≡ flag_among (map text (take (i + 1) words))
  word-found word is_over is_found next item over found is =
      let w = text (get_or words i d) in
      is ∙ ap (λ x. is_found || (not is_over && is_flag x)) item ∙ ap (λ b. is_found || (not b && is_flag w)) over
      ∙ ap (λ b. b || (not (list_any is_last (map text (take i words))) && is_flag w)) found ∙ sym (ap flag_among more ∙ one_found (map text (take i words)) w)
