-- Lines whose replies are counted.
use Rattle.std.proofs.Common.{◌≡◌, ◌≢◌, ℕ, ◌≤◌, List, [], ◌∷◌, ◌++◌, nat_eq, refl, ap, sym, subst, ◌∙◌, append_assoc, append-nil, inl, inr}
use Rattle.std.specs.Prelude.{None}
use Rattle.std.specs.List.{list_any}
use Rattle.std.proofs.lemmas.Bool.{or_parts}
use Rattle.branch_disk.specs.Disk.{Files, LeavesOnly}
use Rattle.branch_disk.specs.Moments.{weakened}
use Rattle.branch_names.specs.declared.terms.Terms.{Terms}
use Rattle.branch_print.specs.declared.summaries.Summary.{Summary}
use Rattle.branch_print.specs.Summaries.{summary_of}
use Rattle.branch_engine.specs.Play.{Play, line_told, after_from}
use Rattle.branch_engine.specs.Readings.{ReadAsEither}
use Rattle.branch_engine.specs.Engines.{EngineView, IsAt}
use Rattle.branch_shell.specs.Reading.{IsWholeLines, HasNoLineEnd}
use Rattle.branch_shell.specs.Documents.{fixed_under, with_reply, replies_from}
use Rattle.branch_shell.specs.Telling.{ReadsAfterSome, TellsLines, CountsLines, LeavesSome}
use Rattle.branch_shell.proofs.Told.{more_lines, one_line, moments_behind}
use Rattle.branch_shell.specs.Values.{ValueType}
use Rattle.branch_doc.specs.Types.{PlainForms}
use Rattle.branch_machine.specs.Fixed.{Fixed}

with_reply-append : (text : List ℕ) (rs ss : List (List ℕ)) → with_reply text (rs ++ ss) ≡ with_reply text rs ++ ss
with_reply-append [] rs ss = refl
with_reply-append (b ∷ bs) rs ss = refl

replies_from-append : {S O R Q A : Type 0} (forms : PlainForms O Q R A) (fixed : Fixed S O R Q A) (p : Play O R) (ls ms : List (List ℕ)) → replies_from forms fixed p (ls ++ ms) ≡ replies_from forms fixed p ls ++ replies_from forms fixed (after_from forms fixed p ls) ms
replies_from-append forms fixed p [] ms = refl
replies_from-append forms fixed p (l ∷ ls) ms =
    let told = line_told forms fixed p l in
    ap (with_reply told.text) (replies_from-append forms fixed told.after ls ms)
    ∙ with_reply-append told.text (replies_from forms fixed told.after ls) (replies_from forms fixed (after_from forms fixed told.after ls) ms)

-- a line with a reply, and one without
one_reply : (text : List ℕ) → text ≢ [] → with_reply text [] ≡ text ∷ []
one_reply [] full = absurd (full refl)
one_reply (b ∷ bs) full = refl

pub counts_reply : (text reply : List ℕ) (replies : List (List ℕ)) (s : Summary) → reply ≡ text → reply ≢ [] → s ≡ summary_of (replies ++ reply ∷ []) → s ≡ summary_of (replies ++ with_reply text [])
counts_reply text reply replies s is full counted =
    counted ∙ ap (λ (r : List (List ℕ)). summary_of (replies ++ r)) (ap (λ (t : List ℕ). t ∷ []) is ∙ sym (one_reply text (λ e. full (is ∙ e))))

pub counts_no_reply : (text reply : List ℕ) (replies : List (List ℕ)) (s : Summary) → reply ≡ text → reply ≡ [] → s ≡ summary_of replies → s ≡ summary_of (replies ++ with_reply text [])
counts_no_reply text reply replies s is none counted =
    counted ∙ ap summary_of (sym (append-nil replies)) ∙ ap (λ (t : List ℕ). summary_of (replies ++ with_reply t [])) (sym none ∙ is)

-- what is behind a line of whole lines is whole lines
not_nil : (a b : List ℕ) → a ++ 10 ∷ b ≡ [] → ⊥
not_nil [] b e = cc e
not_nil (x ∷ a) b e = cc e

whole_from : (a b front : List ℕ) → a ++ 10 ∷ b ≡ front ++ 10 ∷ [] → IsWholeLines b
whole_from [] b [] e = inl (cc e)
whole_from [] b (x ∷ front) e = inr (front, cc e)
whole_from (y ∷ a) b [] e = absurd (not_nil a b (cc e))
whole_from (y ∷ a) b (x ∷ front) e = whole_from a b front (cc e)

pub whole_behind : (rest line behind : List ℕ) → IsWholeLines rest → rest ≡ line ++ 10 ∷ behind → IsWholeLines behind
whole_behind rest line behind (inl none) is = absurd (not_nil line behind (sym is ∙ none))
whole_behind rest line behind (inr ends) is = whole_from line behind ends.0 (sym is ∙ ends.1)

never_unended : (front : List ℕ) → HasNoLineEnd (front ++ 10 ∷ []) → ⊥
never_unended [] h = cc h
never_unended (x ∷ front) h = never_unended front (or_parts (nat_eq x 10) (list_any (λ b. nat_eq b 10) (front ++ 10 ∷ [])) h).1

-- whole lines without a line end are none
pub no_rest : (rest : List ℕ) → IsWholeLines rest → HasNoLineEnd rest → rest ≡ []
no_rest rest (inl none) h = none
no_rest rest (inr ends) h = absurd (never_unended ends.0 (subst HasNoLineEnd ends.1 h))

module _ {D : Type 0} (may_leave : D → Files → Type 0) (moment : D → ℕ) (left_since : D → ℕ → Files → Type 0)
    (counts_now : (d : D) (t : ℕ) (c : Files) → t ≤ moment d → may_leave d c → left_since d t c)
    (only_now : (d : D) (c : Files) → left_since d (moment d) c → may_leave d c) {S O R Q A : Type 0} (of : ValueType S O R Q A) (address : List ℕ → List ℕ) where
  pub counts-none : (a : EngineView O R D) (s : Summary) → CountsLines may_leave of address [] a s s
  counts-none a s terms p at replies is = is ∙ ap summary_of (sym (append-nil replies))

  pub counts-append : (ls ms : List (List ℕ)) (a b c : EngineView O R D) (s t u : Summary) → TellsLines may_leave moment left_since of address ls a b None None
      → CountsLines may_leave of address ls a s t → CountsLines may_leave of address ms b t u → CountsLines may_leave of address (ls ++ ms) a s u
  counts-append ls ms a b c s t u told first second terms p at replies is =
      let forms = of.forms in
      let fixed = fixed_under of address terms in
      let mid = after_from forms fixed p ls in
      second terms mid (told terms p at).at (replies ++ replies_from forms fixed p ls) (first terms p at replies is)
      ∙ ap summary_of (append_assoc replies (replies_from forms fixed p ls) (replies_from forms fixed mid ms) ∙ ap (λ r. replies ++ r) (sym (replies_from-append forms fixed p ls ms)))

  -- at each moment of telling one line
  pub leaves_line : (line : List ℕ) (a b : EngineView O R D)
      → ((terms : Terms) (p : Play O R) → IsAt may_leave (fixed_under of address terms) a p → LeavesOnly moment left_since a.core.disk b.core.disk (ReadAsEither (fixed_under of address terms) p.moves (line_told of.forms (fixed_under of address terms) p line).after.moves))
      → LeavesSome may_leave moment left_since of address (line ∷ []) a b
  leaves_line line a b moments terms p at =
      let forms = of.forms in
      let fixed = fixed_under of address terms in
      weakened moment left_since a.core.disk b.core.disk (ReadAsEither fixed p.moves (line_told forms fixed p line).after.moves) (ReadsAfterSome forms fixed p (line ∷ []) []) (moments terms p at) (one_line forms fixed p line)

  -- of lines behind others
  pub leaves-append : (ls ms : List (List ℕ)) (a b c : EngineView O R D) → TellsLines may_leave moment left_since of address ls a b None None
      → LeavesSome may_leave moment left_since of address ms b c → LeavesSome may_leave moment left_since of address (ls ++ ms) a c
  leaves-append ls ms a b c told second terms p at =
      let forms = of.forms in
      let fixed = fixed_under of address terms in
      let x = told terms p at in
      moments_behind may_leave moment left_since counts_now only_now forms fixed p ls ms a b c None None x (second terms (after_from forms fixed p ls) x.at)

  -- and of more lines
  pub leaves_more : (ls ms : List (List ℕ)) (a b : EngineView O R D) → LeavesSome may_leave moment left_since of address ls a b → LeavesSome may_leave moment left_since of address (ls ++ ms) a b
  leaves_more ls ms a b moments terms p at =
      let forms = of.forms in
      let fixed = fixed_under of address terms in
      weakened moment left_since a.core.disk b.core.disk (ReadsAfterSome forms fixed p ls []) (ReadsAfterSome forms fixed p (ls ++ ms) []) (moments terms p at) (more_lines forms fixed p ls ms [])

  -- those of lines that were told
  pub leaves_told : (ls : List (List ℕ)) (a b : EngineView O R D) → TellsLines may_leave moment left_since of address ls a b None None → LeavesSome may_leave moment left_since of address ls a b
  leaves_told ls a b told terms p at = (told terms p at).moments
