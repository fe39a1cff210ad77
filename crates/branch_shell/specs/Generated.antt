-- Generated work: what the script that is drawn from a number writes over a store, and what a crash
-- leaves of it.
use Rattle.std.specs.Prelude.{◌≡◌, ℕ, List, [], ◌++◌}
use Rattle.std.specs.declared.option.Option.{Option}
use Rattle.branch_disk.specs.Disk.{Files, LeavesOnly}
use Rattle.branch_script.specs.Lines.{lines_of}
use Rattle.branch_gen.specs.Scripts as drawn
use Rattle.branch_print.specs.Texts.{line_end}
use Rattle.branch_print.specs.Reports.{report_text}
use Rattle.branch_print.specs.Summaries.{summary_of, summary_text}
use Rattle.branch_engine.specs.Play.{begins}
use Rattle.branch_command.specs.Work.{Work}
use Rattle.branch_shell.specs.declared.status.Status.{Status}
use Rattle.branch_shell.specs.declared.status.Status.TheVariants.{Done}
use Rattle.branch_shell.specs.Stores.{Stored, ReadsAsStore, IsOpenedAs}
use Rattle.branch_shell.specs.Values.{ValueType}
use Rattle.branch_shell.specs.Documents.{fixed_of, store_after, replies_over}
use Rattle.branch_shell.specs.Telling.{ReadsAfterSome}

-- the lines that are drawn
abbrev pub drawn_lines : Work → List (List ℕ)
drawn_lines work = lines_of (drawn.script_text work.steps work.number)

-- what came of lines over a store, and then the report of the store after them
abbrev pub work_text : {S O R Q A : Type 0} → ValueType S O R Q A → (List ℕ → List ℕ) → Stored O R
    → List (List ℕ) → List ℕ
work_text of address store lines = (summary_text (summary_of (replies_over of address store lines))
    ++ line_end) ++ report_text store.terms.origin (store_after of address store lines).history

-- what came of the drawn lines over the store that opening found, and the report of the store after
-- them
abbrev pub SaysWork : {S O R Q A : Type 0} → ValueType S O R Q A → (List ℕ → List ℕ)
    → Option Files → Work → List ℕ → Type 0
SaysWork {S} {O} {R} of address told work text = (store : Stored O R)
    × IsOpenedAs of.kind of.meaning address told store
    × (text ≡ work_text of address store (drawn_lines work))

-- the files read as the store after some of the lines, in order
abbrev pub HoldsAfterSome : {S O R Q A : Type 0} → ValueType S O R Q A → (List ℕ → List ℕ)
    → Stored O R → List (List ℕ) → Files → Type 0
HoldsAfterSome of address store lines c = ReadsAfterSome of.forms (fixed_of of address store)
    (begins store.history) lines [] c

-- What a crash leaves of the disk of generated work: at each moment the store after some of its
-- lines, in order; and after `Done` after all.
pub record SurvivesWork {S O R Q A D : Type 0} (may_leave : D → Files → Type 0) (moment : D → ℕ)
    (left_since : D → ℕ → Files → Type 0) (of : ValueType S O R Q A) (address : List ℕ → List ℕ)
    (store : Stored O R) (lines : List (List ℕ)) (old new : D) (status : Status) : Type 0 where
  pub any_moment : LeavesOnly moment left_since old new (HoldsAfterSome of address store lines)
  pub complete : status ≡ Done → (c : Files) → may_leave new c
      → ReadsAsStore of.meaning address (store_after of address store lines) c
