-- What came of a run: how many replies there were, and how many count under each word.
use Rattle.std.specs.Prelude.{ℕ, Bool, true, false, ◌≤◌, nat_eq, List, ◌++◌, codes, decimal, length, count_by, if◌then◌else◌}
use Rattle.std.specs.List.{starts_with}
use Rattle.branch_history.specs.Steps.{Refusal}
use Rattle.branch_history.specs.Steps as step
use Rattle.branch_print.specs.Texts.{same_text, line_end}
use Rattle.branch_print.specs.declared.summaries.Summary.{Summary}
use Rattle.branch_print.specs.declared.summaries.Word.{Word}
use Rattle.branch_print.specs.declared.summaries.Word.TheVariants.{Landed, Merged, Forward, Same, Stale, Forked, Looked, Errors}

-- a reply begins with a text
abbrev pub begins : List ℕ → List ℕ → Bool
begins reply text = starts_with nat_eq reply text

-- The word that a reply counts under: its first one; `errors` for each that begins with `error`; and else `looked`, since what a
-- session sees begins with the session's name. No drawn line joins branches or drops one, so those replies have no word of their own.
abbrev pub word_of : List ℕ → Word
word_of reply =
    if begins reply (codes "landed ") then Landed
    else if begins reply (codes "merged ") then Merged
    else if begins reply (codes "forward ") then Forward
    else if begins reply (same_text ++ line_end) then Same
    else if begins reply (codes "stale ") then Stale
    else if begins reply (codes "forked ") then Forked
    else if begins reply (codes "error ") then Errors
    else Looked

-- the word for a refusal: a stale move has its own
abbrev pub refusal_word : Refusal → Word
refusal_word (step.Stale newest) = Stale
refusal_word refusal = Errors

-- two words are one
abbrev pub is_word : Word → Word → Bool
is_word Landed Landed = true
is_word Merged Merged = true
is_word Forward Forward = true
is_word Same Same = true
is_word Stale Stale = true
is_word Forked Forked = true
is_word Looked Looked = true
is_word Errors Errors = true
is_word word other = false

-- how many of the replies count under a word
abbrev pub how_many : Word → List (List ℕ) → ℕ
how_many word replies = count_by (λ reply. is_word word (word_of reply)) replies

-- what came of a run that was answered by these replies
abbrev pub summary_of : List (List ℕ) → Summary
summary_of replies = record {
  lines = length replies;
  landed = how_many Landed replies;
  merged = how_many Merged replies;
  forward = how_many Forward replies;
  same = how_many Same replies;
  stale = how_many Stale replies;
  forked = how_many Forked replies;
  looked = how_many Looked replies;
  errors = how_many Errors replies;
}

-- no more replies count under a word than there are
pub record AreWithin (s : Summary) : Type 0 where
  pub landed : s.landed ≤ s.lines
  pub merged : s.merged ≤ s.lines
  pub forward : s.forward ≤ s.lines
  pub same : s.same ≤ s.lines
  pub stale : s.stale ≤ s.lines
  pub forked : s.forked ≤ s.lines
  pub looked : s.looked ≤ s.lines
  pub errors : s.errors ≤ s.lines

abbrev pub summary_text : Summary → List ℕ
summary_text s =
    codes "lines " ++ decimal s.lines ++ codes " landed " ++ decimal s.landed ++ codes " merged " ++ decimal s.merged
    ++ codes " forward " ++ decimal s.forward ++ codes " same " ++ decimal s.same ++ codes " stale " ++ decimal s.stale
    ++ codes " forked " ++ decimal s.forked ++ codes " looked " ++ decimal s.looked ++ codes " errors " ++ decimal s.errors
