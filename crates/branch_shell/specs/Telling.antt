-- Lines that an engine told, what was given of their text, and what a crash leaves meanwhile.
use Rattle.std.specs.Prelude.{◌≡◌, ℕ, List, [], ◌∷◌, ◌++◌, length}
use Rattle.std.specs.declared.option.Option.{Option}
use Rattle.std.specs.Io.KnownBytes.{Appends, Consumes, IsAtEnd}
use Rattle.branch_disk.specs.Disk.{Files, LeavesOnly}
use Rattle.branch_names.specs.declared.terms.Terms.{Terms}
use Rattle.branch_script.specs.Lines.{lines_of}
use Rattle.branch_print.specs.declared.summaries.Summary.{Summary}
use Rattle.branch_print.specs.Summaries.{summary_of}
use Rattle.branch_engine.specs.Play.{Play, line_told, text_from, after_from}
use Rattle.branch_engine.specs.Readings.{ReadAs}
use Rattle.branch_engine.specs.Engines.{EngineView, IsAt}
use Rattle.branch_shell.specs.declared.status.Status.{Status}
use Rattle.branch_shell.specs.declared.status.Status.TheVariants.{WriteFault}
use Rattle.branch_shell.specs.Documents.{fixed_under, replies_from}
use Rattle.branch_shell.specs.Values.{ValueType}
use Rattle.branch_shell.specs.Reading.{IsWholeLines, HasNoLineEnd, IsCut, AreShort, IsFirstPart}
use Rattle.branch_doc.specs.Types.{PlainForms}
use Rattle.branch_machine.specs.Fixed.{Fixed}

-- the files read as the history after some of the lines, in order, and the text is a first part of
-- what those are answered with
pub record ReadsAfterSome {S O R Q A : Type 0} (forms : PlainForms O Q R A) (fixed : Fixed S O R Q A)
    (p : Play O R) (lines : List (List ℕ)) (text : List ℕ) (c : Files) : Type 0 where
  pub first : List (List ℕ)
  pub others : List (List ℕ)
  pub parts : lines ≡ first ++ others
  pub reads : ReadAs fixed (after_from forms fixed p first).moves c
  pub answered : IsFirstPart text (text_from forms fixed p first)

-- the lines were told from a play on: their text was given, and at each moment a crash left the
-- history after some of them
pub record Tells {S O R Q A D : Type 0} (may_leave : D → Files → Type 0) (moment : D → ℕ)
    (left_since : D → ℕ → Files → Type 0) (lines : List (List ℕ)) (old new : EngineView O R D)
    (given_old given_new : Option (List ℕ)) (forms : PlainForms O Q R A) (fixed : Fixed S O R Q A)
    (p : Play O R) : Type 0 where
  pub at : IsAt may_leave fixed new (after_from forms fixed p lines)
  pub gave : Appends given_old given_new (text_from forms fixed p lines)
  pub moments : LeavesOnly moment left_since old.core.disk new.core.disk
      (ReadsAfterSome forms fixed p lines [])

abbrev pub TellsLines : {S O R Q A D : Type 0} → (D → Files → Type 0) → (D → ℕ)
    → (D → ℕ → Files → Type 0) → ValueType S O R Q A → (List ℕ → List ℕ) → List (List ℕ)
    → EngineView O R D → EngineView O R D → Option (List ℕ) → Option (List ℕ) → Type 0
TellsLines {S} {O} {R} may_leave moment left_since of address lines old new given_old given_new =
    (terms : Terms) (p : Play O R) → IsAt may_leave (fixed_under of address terms) old p
    → Tells may_leave moment left_since lines old new given_old given_new
    of.forms (fixed_under of address terms) p

-- of the reply at which telling stopped: a first part, where the sink failed; else nothing
abbrev pub IsPartGiven : Status → List ℕ → List ℕ → Type 0
IsPartGiven WriteFault part reply = IsFirstPart part reply
IsPartGiven status part reply = part ≡ []

-- telling was stopped at the last of the lines, with the replies before it given
pub record Stops {S O R Q A D : Type 0} (may_leave : D → Files → Type 0) (moment : D → ℕ)
    (left_since : D → ℕ → Files → Type 0) (lines : List (List ℕ)) (old new : EngineView O R D)
    (given_old given_new : Option (List ℕ)) (status : Status) (forms : PlainForms O Q R A)
    (fixed : Fixed S O R Q A) (p : Play O R) : Type 0 where
  pub before : List (List ℕ)
  pub line : List ℕ
  pub part : List ℕ
  pub lines_are : lines ≡ before ++ line ∷ []
  pub part_is : IsPartGiven status part (line_told forms fixed (after_from forms fixed p before) line).text
  pub gave : Appends given_old given_new (text_from forms fixed p before ++ part)
  pub moments : LeavesOnly moment left_since old.core.disk new.core.disk
      (ReadsAfterSome forms fixed p lines [])
  pub held : (c : Files) → may_leave new.core.disk c
      → ReadsAfterSome forms fixed p lines (text_from forms fixed p before ++ part) c

abbrev pub StopsLines : {S O R Q A D : Type 0} → (D → Files → Type 0) → (D → ℕ)
    → (D → ℕ → Files → Type 0) → ValueType S O R Q A → (List ℕ → List ℕ) → List (List ℕ)
    → EngineView O R D → EngineView O R D → Option (List ℕ) → Option (List ℕ) → Status → Type 0
StopsLines {S} {O} {R} may_leave moment left_since of address lines old new given_old given_new
    status =
    (terms : Terms) (p : Play O R) → IsAt may_leave (fixed_under of address terms) old p
    → Stops may_leave moment left_since lines old new given_old given_new status
    of.forms (fixed_under of address terms) p

-- the whole lines of the bytes were told, and this is left behind them
pub record TellsWhole {S O R Q A D : Type 0} (may_leave : D → Files → Type 0) (moment : D → ℕ)
    (left_since : D → ℕ → Files → Type 0) (of : ValueType S O R Q A) (address : List ℕ → List ℕ)
    (bytes rest : List ℕ) (old new : EngineView O R D) (given_old given_new : Option (List ℕ))
    : Type 0 where
  pub whole : List ℕ
  pub cut : IsCut bytes whole rest
  pub told : TellsLines may_leave moment left_since of address (lines_of whole) old new given_old
      given_new

-- telling was stopped at the last of some whole lines at the front of the bytes
pub record StopsWhole {S O R Q A D : Type 0} (may_leave : D → Files → Type 0) (moment : D → ℕ)
    (left_since : D → ℕ → Files → Type 0) (of : ValueType S O R Q A) (address : List ℕ → List ℕ)
    (bytes : List ℕ) (old new : EngineView O R D) (given_old given_new : Option (List ℕ))
    (status : Status) : Type 0 where
  pub whole : List ℕ
  pub rest : List ℕ
  pub parts : bytes ≡ whole ++ rest
  pub ended : IsWholeLines whole
  pub short : AreShort (lines_of whole)
  pub stopped : StopsLines may_leave moment left_since of address (lines_of whole) old new given_old
      given_new status

-- the next bytes of the source were put behind those that wait; none only at the end
pub record Takes (old new : List ℕ) (left_old left_new : Option (List ℕ)) (count : ℕ) : Type 0 where
  pub piece : List ℕ
  pub added : new ≡ old ++ piece
  pub counted : length piece ≡ count
  pub took : Consumes left_old left_new piece
  pub last : count ≡ 0 → IsAtEnd left_new

-- so far the source's bytes up to those that wait were told
pub record IsReading {S O R Q A D : Type 0} (may_leave : D → Files → Type 0) (moment : D → ℕ)
    (left_since : D → ℕ → Files → Type 0) (of : ValueType S O R Q A) (address : List ℕ → List ℕ)
    (first now : EngineView O R D) (pending : List ℕ) (read : ℕ)
    (left_first left_now given_first given_now : Option (List ℕ)) : Type 0 where
  pub done : List ℕ
  pub ended : IsWholeLines done
  pub short : AreShort (lines_of done)
  pub unended : HasNoLineEnd pending
  pub took : Consumes left_first left_now (done ++ pending)
  pub counted : read ≡ length (done ++ pending)
  pub told : TellsLines may_leave moment left_since of address (lines_of done) first now given_first
      given_now

-- the summary goes on by the replies to the lines, from a play on
abbrev pub CountsLines : {S O R Q A D : Type 0} → (D → Files → Type 0) → ValueType S O R Q A
    → (List ℕ → List ℕ) → List (List ℕ) → EngineView O R D → Summary → Summary → Type 0
CountsLines {S} {O} {R} may_leave of address lines old before after =
    (terms : Terms) (p : Play O R) → IsAt may_leave (fixed_under of address terms) old p
    → (replies : List (List ℕ)) → before ≡ summary_of replies
    → after ≡ summary_of (replies ++ replies_from of.forms (fixed_under of address terms) p lines)

-- at each moment a crash left the history after some of the lines, from a play on
abbrev pub LeavesSome : {S O R Q A D : Type 0} → (D → Files → Type 0) → (D → ℕ)
    → (D → ℕ → Files → Type 0) → ValueType S O R Q A → (List ℕ → List ℕ) → List (List ℕ)
    → EngineView O R D → EngineView O R D → Type 0
LeavesSome {S} {O} {R} may_leave moment left_since of address lines old new =
    (terms : Terms) (p : Play O R) → IsAt may_leave (fixed_under of address terms) old p
    → LeavesOnly moment left_since old.core.disk new.core.disk
    (ReadsAfterSome of.forms (fixed_under of address terms) p lines [])
