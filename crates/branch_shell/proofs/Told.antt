-- Lines that were told behind others, and what a crash leaves meanwhile.
use Rattle.std.proofs.Common.{◌≡◌, ℕ, ◌≤◌, List, [], ◌∷◌, ◌++◌, refl, ap, sym, subst, ◌∙◌, append_assoc, append-nil, inl, inr}
use Rattle.std.specs.Prelude.{Option}
use Rattle.std.specs.Io.KnownBytes.{Appends}
use Rattle.std.proofs.KnownBytes.{Appends-nil, Appends-trans}
use Rattle.branch_disk.specs.Disk.{Files, LeavesOnly}
use Rattle.branch_disk.specs.Moments.{started, goes_on, weakened, now_too}
use Rattle.branch_engine.specs.Play.{Play, line_told, text_from, after_from}
use Rattle.branch_engine.specs.Readings.{ReadAs, ReadAsEither}
use Rattle.branch_engine.specs.Engines.{EngineView, IsAt}
use Rattle.branch_shell.specs.declared.status.Status.{Status}
use Rattle.branch_shell.specs.declared.status.Status.TheVariants.{WriteFault}
use Rattle.branch_shell.specs.Reading.{IsFirstPart, GivesPart}
use Rattle.branch_shell.specs.Telling.{ReadsAfterSome, Tells, TellsLines, Stops, StopsLines, IsPartGiven}
use Rattle.branch_shell.specs.Values.{ValueType}
use Rattle.branch_shell.specs.Documents.{fixed_under}
use Rattle.branch_doc.specs.Types.{PlainForms}
use Rattle.branch_machine.specs.Fixed.{Fixed}

pub after_from-append : {S O R Q A : Type 0} (forms : PlainForms O Q R A) (fixed : Fixed S O R Q A) (p : Play O R) (ls ms : List (List ℕ)) → after_from forms fixed p (ls ++ ms) ≡ after_from forms fixed (after_from forms fixed p ls) ms
after_from-append forms fixed p [] ms = refl
after_from-append forms fixed p (l ∷ ls) ms = after_from-append forms fixed (line_told forms fixed p l).after ls ms

pub text_from-append : {S O R Q A : Type 0} (forms : PlainForms O Q R A) (fixed : Fixed S O R Q A) (p : Play O R) (ls ms : List (List ℕ)) → text_from forms fixed p (ls ++ ms) ≡ text_from forms fixed p ls ++ text_from forms fixed (after_from forms fixed p ls) ms
text_from-append forms fixed p [] ms = refl
text_from-append forms fixed p (l ∷ ls) ms =
    ap (λ t. (line_told forms fixed p l).text ++ t) (text_from-append forms fixed (line_told forms fixed p l).after ls ms)
    ∙ sym (append_assoc (line_told forms fixed p l).text (text_from forms fixed (line_told forms fixed p l).after ls) (text_from forms fixed (after_from forms fixed (line_told forms fixed p l).after ls) ms))

pub nothing_part : (text : List ℕ) → IsFirstPart [] text
nothing_part text = (text, refl)

pub whole_part : (text : List ℕ) → IsFirstPart text text
whole_part text = ([], sym (append-nil text))

-- a first part of what is behind a text, behind it
pub part_behind : (front part text : List ℕ) → IsFirstPart part text → IsFirstPart (front ++ part) (front ++ text)
part_behind front part text h = (h.0, ap (λ t. front ++ t) h.1 ∙ sym (append_assoc front part h.0))

-- a first part of a first part
pub part_of_part : (a b c : List ℕ) → IsFirstPart a b → IsFirstPart b c → IsFirstPart a c
part_of_part a b c h k = (h.0 ++ k.0, k.1 ∙ ap (λ t. t ++ k.0) h.1 ∙ append_assoc a h.0 k.0)

-- files that read as the history after some lines
module _ {S O R Q A : Type 0} (forms : PlainForms O Q R A) (fixed : Fixed S O R Q A) (p : Play O R) where
  pub after_none : (ls : List (List ℕ)) (c : Files) → ReadAs fixed p.moves c → ReadsAfterSome forms fixed p ls [] c
  after_none ls c reads = record { first = []; others = ls; parts = refl; reads = reads; answered = nothing_part [] }

  pub after_all : (ls : List (List ℕ)) (c : Files) → ReadAs fixed (after_from forms fixed p ls).moves c → ReadsAfterSome forms fixed p ls (text_from forms fixed p ls) c
  after_all ls c reads = record { first = ls; others = []; parts = sym (append-nil ls); reads = reads; answered = whole_part (text_from forms fixed p ls) }

  -- the same of fewer answers
  pub fewer_answers : (ls : List (List ℕ)) (a b : List ℕ) (c : Files) → IsFirstPart a b → ReadsAfterSome forms fixed p ls b c → ReadsAfterSome forms fixed p ls a c
  fewer_answers ls a b c part r = record {
    first = r.first;
    others = r.others;
    parts = r.parts;
    reads = r.reads;
    answered = part_of_part a b (text_from forms fixed p r.first) part r.answered;
  }

  -- the same among more lines
  pub more_lines : (ls ms : List (List ℕ)) (text : List ℕ) (c : Files) → ReadsAfterSome forms fixed p ls text c → ReadsAfterSome forms fixed p (ls ++ ms) text c
  more_lines ls ms text c r = record {
    first = r.first;
    others = r.others ++ ms;
    parts = ap (λ l. l ++ ms) r.parts ∙ append_assoc r.first r.others ms;
    reads = r.reads;
    answered = r.answered;
  }

  -- after some lines behind others
  pub behind_lines : (ls ms : List (List ℕ)) (text : List ℕ) (c : Files) → ReadsAfterSome forms fixed (after_from forms fixed p ls) ms text c
      → ReadsAfterSome forms fixed p (ls ++ ms) (text_from forms fixed p ls ++ text) c
  behind_lines ls ms text c r = record {
    first = ls ++ r.first;
    others = r.others;
    parts = ap (λ l. ls ++ l) r.parts ∙ sym (append_assoc ls r.first r.others);
    reads = subst (λ (q : Play O R). ReadAs fixed q.moves c) (sym (after_from-append forms fixed p ls r.first)) r.reads;
    answered = subst (IsFirstPart (text_from forms fixed p ls ++ text)) (sym (text_from-append forms fixed p ls r.first)) (part_behind (text_from forms fixed p ls) text (text_from forms fixed (after_from forms fixed p ls) r.first) r.answered);
  }

  before_or_after : (l : List ℕ) (c : Files) → ReadAsEither fixed p.moves (line_told forms fixed p l).after.moves c → ReadsAfterSome forms fixed p (l ∷ []) [] c
  before_or_after l c (inl before) = after_none (l ∷ []) c before
  before_or_after l c (inr after) = fewer_answers (l ∷ []) [] (text_from forms fixed p (l ∷ [])) c (nothing_part (text_from forms fixed p (l ∷ []))) (after_all (l ∷ []) c after)

  pub one_line : (l : List ℕ) (c : Files) → ReadAsEither fixed p.moves (line_told forms fixed p l).after.moves c → ReadsAfterSome forms fixed p (l ∷ []) [] c
  one_line = before_or_after

module _ {D : Type 0} (may_leave : D → Files → Type 0) (moment : D → ℕ) (left_since : D → ℕ → Files → Type 0)
    (counts_now : (d : D) (t : ℕ) (c : Files) → t ≤ moment d → may_leave d c → left_since d t c)
    (only_now : (d : D) (c : Files) → left_since d (moment d) c → may_leave d c) where
  -- no line was told
  pub tells-none : {S O R Q A : Type 0} (of : ValueType S O R Q A) (address : List ℕ → List ℕ) (a : EngineView O R D) (f : Option (List ℕ)) → TellsLines may_leave moment left_since of address [] a a f f
  tells-none of address a f terms p at =
      let forms = of.forms in
      let fixed = fixed_under of address terms in
      record {
        at = at;
        gave = Appends-nil f;
        moments = started moment left_since a.core.disk (ReadsAfterSome forms fixed p [] []) (λ c left. after_none forms fixed p [] c (at.images c (only_now a.core.disk c left)));
      }

  module _ {S O R Q A : Type 0} (forms : PlainForms O Q R A) (fixed : Fixed S O R Q A) (p : Play O R) (ls ms : List (List ℕ)) (a b c : EngineView O R D) (f g : Option (List ℕ)) (first : Tells may_leave moment left_since ls a b f g forms fixed p) where
    pub moments_behind : LeavesOnly moment left_since b.core.disk c.core.disk (ReadsAfterSome forms fixed (after_from forms fixed p ls) ms []) → LeavesOnly moment left_since a.core.disk c.core.disk (ReadsAfterSome forms fixed p (ls ++ ms) [])
    moments_behind next =
        goes_on moment left_since a.core.disk b.core.disk c.core.disk (ReadsAfterSome forms fixed p (ls ++ ms) []) (ReadsAfterSome forms fixed (after_from forms fixed p ls) ms [])
        (weakened moment left_since a.core.disk b.core.disk (ReadsAfterSome forms fixed p ls []) (ReadsAfterSome forms fixed p (ls ++ ms) []) first.moments (more_lines forms fixed p ls ms []))
        next
        (λ i r. fewer_answers forms fixed p (ls ++ ms) [] (text_from forms fixed p ls ++ []) i (nothing_part (text_from forms fixed p ls ++ [])) (behind_lines forms fixed p ls ms [] i r))

    tells_behind : (h : Option (List ℕ)) → Tells may_leave moment left_since ms b c g h forms fixed (after_from forms fixed p ls) → Tells may_leave moment left_since (ls ++ ms) a c f h forms fixed p
    tells_behind h second = record {
      at = subst (IsAt may_leave fixed c) (sym (after_from-append forms fixed p ls ms)) second.at;
      gave = subst (Appends f h) (sym (text_from-append forms fixed p ls ms)) (Appends-trans f g h (text_from forms fixed p ls) (text_from forms fixed (after_from forms fixed p ls) ms) first.gave second.gave);
      moments = moments_behind second.moments;
    }

    stops_behind : (h : Option (List ℕ)) (status : Status) → Stops may_leave moment left_since ms b c g h status forms fixed (after_from forms fixed p ls) → Stops may_leave moment left_since (ls ++ ms) a c f h status forms fixed p
    stops_behind h status second =
        let told : List ℕ = text_from forms fixed p ls in
        let q : Play O R = after_from forms fixed p ls in
        let text_is : text_from forms fixed p (ls ++ second.before) ++ second.part ≡ told ++ (text_from forms fixed q second.before ++ second.part) =
        ap (λ t. t ++ second.part) (text_from-append forms fixed p ls second.before) ∙ append_assoc told (text_from forms fixed q second.before) second.part in
        record {
          before = ls ++ second.before;
          line = second.line;
          part = second.part;
          lines_are = ap (λ l. ls ++ l) second.lines_are ∙ sym (append_assoc ls second.before (second.line ∷ []));
          part_is = subst (λ (r : Play O R). IsPartGiven status second.part (line_told forms fixed r second.line).text) (sym (after_from-append forms fixed p ls second.before)) second.part_is;
          gave = subst (Appends f h) (sym text_is) (Appends-trans f g h told (text_from forms fixed q second.before ++ second.part) first.gave second.gave);
          moments = moments_behind second.moments;
          held = λ i left. subst (λ (t : List ℕ). ReadsAfterSome forms fixed p (ls ++ ms) t i) (sym text_is) (behind_lines forms fixed p ls ms (text_from forms fixed q second.before ++ second.part) i (second.held i left));
        }

  pub tells-append : {S O R Q A : Type 0} (of : ValueType S O R Q A) (address : List ℕ → List ℕ) (ls ms : List (List ℕ)) (a b c : EngineView O R D) (f g h : Option (List ℕ)) → TellsLines may_leave moment left_since of address ls a b f g
      → TellsLines may_leave moment left_since of address ms b c g h → TellsLines may_leave moment left_since of address (ls ++ ms) a c f h
  tells-append of address ls ms a b c f g h first second terms p at =
      let forms = of.forms in
      let fixed = fixed_under of address terms in
      let x = first terms p at in tells_behind forms fixed p ls ms a b c f g x h (second terms (after_from forms fixed p ls) x.at)

  pub stops-append : {S O R Q A : Type 0} (of : ValueType S O R Q A) (address : List ℕ → List ℕ) (ls ms : List (List ℕ)) (a b c : EngineView O R D) (f g h : Option (List ℕ)) (status : Status) → TellsLines may_leave moment left_since of address ls a b f g
      → StopsLines may_leave moment left_since of address ms b c g h status → StopsLines may_leave moment left_since of address (ls ++ ms) a c f h status
  stops-append of address ls ms a b c f g h status first second terms p at =
      let forms = of.forms in
      let fixed = fixed_under of address terms in
      let x = first terms p at in stops_behind forms fixed p ls ms a b c f g x h status (second terms (after_from forms fixed p ls) x.at)

  -- one line, by what the engine says of it
  module _ {S O R Q A : Type 0} (line : List ℕ) (a b : EngineView O R D) (forms : PlainForms O Q R A) (fixed : Fixed S O R Q A) (p : Play O R) (moments : LeavesOnly moment left_since a.core.disk b.core.disk (ReadAsEither fixed p.moves (line_told forms fixed p line).after.moves)) where
    line_moments : LeavesOnly moment left_since a.core.disk b.core.disk (ReadsAfterSome forms fixed p (line ∷ []) [])
    line_moments = weakened moment left_since a.core.disk b.core.disk (ReadAsEither fixed p.moves (line_told forms fixed p line).after.moves) (ReadsAfterSome forms fixed p (line ∷ []) []) moments (one_line forms fixed p line)

    pub line_tells : (f g : Option (List ℕ)) → IsAt may_leave fixed b (line_told forms fixed p line).after → Appends f g (line_told forms fixed p line).text → Tells may_leave moment left_since (line ∷ []) a b f g forms fixed p
    line_tells f g at gave = record { at = at; gave = subst (Appends f g) (sym (append-nil (line_told forms fixed p line).text)) gave; moments = line_moments }

    -- nothing of the reply was given
    pub line_stops : (f : Option (List ℕ)) (status : Status) → IsPartGiven status [] (line_told forms fixed p line).text → Stops may_leave moment left_since (line ∷ []) a b f f status forms fixed p
    line_stops f status none = record {
      before = [];
      line = line;
      part = [];
      lines_are = refl;
      part_is = none;
      gave = Appends-nil f;
      moments = line_moments;
      held = λ c left. now_too moment left_since may_leave counts_now a.core.disk b.core.disk (ReadsAfterSome forms fixed p (line ∷ []) []) line_moments c left;
    }

    -- a first part of the reply was given
    pub line_cut : (f g : Option (List ℕ)) → IsAt may_leave fixed b (line_told forms fixed p line).after → GivesPart f g (line_told forms fixed p line).text → Stops may_leave moment left_since (line ∷ []) a b f g WriteFault forms fixed p
    line_cut f g at gives = record {
      before = [];
      line = line;
      part = gives.part;
      lines_are = refl;
      part_is = (gives.rest, gives.whole);
      gave = gives.given;
      moments = line_moments;
      held = λ c left. fewer_answers forms fixed p (line ∷ []) gives.part (text_from forms fixed p (line ∷ [])) c
          (gives.rest, append-nil (line_told forms fixed p line).text ∙ gives.whole)
          (after_all forms fixed p (line ∷ []) c (at.images c left));
    }
