-- Generated work, from the opening of its store on.
use Rattle.std.proofs.Common.{◌≡◌, ◌≢◌, ℕ, ◌≤◌, List, [], ◌++◌, refl, ap₂, subst, ◌∙◌, inl, inr}
use Rattle.std.specs.Prelude.{Option, None}
use Rattle.branch_disk.specs.Disk.{Files}
use Rattle.branch_disk.specs.declared.disk.Disk.{Ghosts}
use Rattle.branch_disk.specs.Moments.{now_too}
use Rattle.branch_print.specs.declared.summaries.Summary.{Summary}
use Rattle.branch_print.specs.Texts.{line_end}
use Rattle.branch_print.specs.Reports.{report_text}
use Rattle.branch_print.specs.Summaries.{summary_of, summary_text}
use Rattle.branch_engine.specs.Play.{begins, after_from}
use Rattle.branch_engine.specs.Engines.{EngineView, IsAt}
use Rattle.branch_command.specs.Commands.{Generate}
use Rattle.branch_command.specs.Work.{Work}
use Rattle.branch_shell.specs.declared.status.Status.{Status}
use Rattle.branch_shell.specs.declared.status.Status.TheVariants.{Done, Usage, StoreRefused, DiskFault, ReadFault, WriteFault, LineTooLong, InputTooLong, Memory}
use Rattle.branch_shell.specs.Counts.{StopsCounting, HasReason}
use Rattle.branch_shell.specs.Stores.{Stored, ReadsAsStore, IsOpenedAs}
use Rattle.branch_shell.specs.Once.{WroteOnce, Answers}
use Rattle.branch_shell.specs.Documents.{fixed_of, replies_over, SaysUnopened}
use Rattle.branch_shell.specs.Telling.{TellsLines, LeavesSome}
use Rattle.branch_shell.specs.Generated.{drawn_lines, work_text, SaysWork, HoldsAfterSome, SurvivesWork}
use Rattle.branch_shell.specs.Disks.{LeavesAsBefore}
use Rattle.branch_shell.specs.Ran.{HoldsStore, LeavesWork, Ran}
use Rattle.branch_shell.proofs.Ends.{after_lines-is}
use Rattle.branch_shell.proofs.Once.{wrote_map}
use Rattle.branch_shell.proofs.Opening.{for_its_kind, store_read, failed}
use Rattle.branch_shell.specs.Values.{ValueType}
use Rattle.branch_history.specs.declared.moves.Move.{Move}

-- what stopped the lines is not that all was done
pub stopped_undone : (before now : ℕ) (status : Status) → StopsCounting before now status → status ≢ Done
stopped_undone before now Done stops done = stops
stopped_undone before now Usage stops done = stops
stopped_undone before now StoreRefused stops done = stops
stopped_undone before now DiskFault stops done = cc done
stopped_undone before now ReadFault stops done = stops
stopped_undone before now WriteFault stops done = stops
stopped_undone before now LineTooLong stops done = stops
stopped_undone before now InputTooLong stops done = stops
stopped_undone before now Memory stops done = cc done

-- and of all counts it raised none but that of the disk
pub stopped_reason : (n k before now : ℕ) (status : Status) → StopsCounting before now status
    → HasReason (record { source = n; sink = k; disk = before }) (record { source = n; sink = k; disk = now }) status
stopped_reason n k before now Done stops = absurd stops
stopped_reason n k before now Usage stops = absurd stops
stopped_reason n k before now StoreRefused stops = absurd stops
stopped_reason n k before now DiskFault stops = (stops, refl, refl)
stopped_reason n k before now ReadFault stops = absurd stops
stopped_reason n k before now WriteFault stops = absurd stops
stopped_reason n k before now LineTooLong stops = absurd stops
stopped_reason n k before now InputTooLong stops = absurd stops
stopped_reason n k before now Memory stops = (refl, refl, stops)

-- and then nothing was written
pub nothing_said : (success refusal : List ℕ → Type 0) (before now : ℕ) (status : Status) → StopsCounting before now status → WroteOnce success refusal status []
nothing_said success refusal before now Done stops = absurd stops
nothing_said success refusal before now Usage stops = absurd stops
nothing_said success refusal before now StoreRefused stops = absurd stops
nothing_said success refusal before now DiskFault stops = refl
nothing_said success refusal before now ReadFault stops = absurd stops
nothing_said success refusal before now WriteFault stops = absurd stops
nothing_said success refusal before now LineTooLong stops = absurd stops
nothing_said success refusal before now InputTooLong stops = absurd stops
nothing_said success refusal before now Memory stops = refl

-- a store that was opened was not refused
pub never_refused : (P : List ℕ → Type 0) (status : Status) (g0 g1 : Option (List ℕ)) → Answers P (λ whole. ⊥) status g0 g1 → status ≡ StoreRefused → ⊥
never_refused P status g0 g1 w is = subst (λ (s : Status). WroteOnce P (λ whole. ⊥) s w.0) is w.2

module _ {S O R Q A : Type 0} (of : ValueType S O R Q A) (address : List ℕ → List ℕ) where
  pub work_said : (store : Stored O R) (lines : List (List ℕ)) (summary : Summary) (history : List (Move O R)) → summary ≡ summary_of (replies_over of address store lines)
      → history ≡ (after_from of.forms (fixed_of of address store) (begins store.history) lines).moves → (whole : List ℕ) → whole ≡ (summary_text summary ++ line_end) ++ report_text store.terms.origin history → whole ≡ work_text of address store lines
  work_said store lines summary history counted after whole is =
      is ∙ ap₂ (λ (s : Summary) (h : List (Move O R)). (summary_text s ++ line_end) ++ report_text store.terms.origin h) counted (after ∙ after_lines-is of address store lines)

  module _ {D : Type 0} (contents : D → Option Files) (may_leave : D → Files → Type 0) (moment : D → ℕ) (left_since : D → ℕ → Files → Type 0)
      (counts_now : (d : D) (t : ℕ) (c : Files) → t ≤ moment d → may_leave d c → left_since d t c) where
    -- all lines were told
    pub survives_told : (store : Stored O R) (lines : List (List ℕ)) (old new : EngineView O R D) (status : Status) → IsAt may_leave (fixed_of of address store) old (begins store.history)
        → TellsLines may_leave moment left_since of address lines old new None None → SurvivesWork may_leave moment left_since of address store lines old.core.disk new.core.disk status
    survives_told store lines old new status at told =
        let t = told store.terms (begins store.history) at in
        record {
          any_moment = t.moments;
          complete = λ done c left. subst (λ (h : List (Move O R)). ReadsAsStore of.meaning address (record { terms = store.terms; history = h }) c) (after_lines-is of address store lines) (t.at.images c left);
        }

    -- or some of them
    pub survives_stopped : (store : Stored O R) (lines : List (List ℕ)) (old new : EngineView O R D) (status : Status) → IsAt may_leave (fixed_of of address store) old (begins store.history)
        → LeavesSome may_leave moment left_since of address lines old new → status ≢ Done → SurvivesWork may_leave moment left_since of address store lines old.core.disk new.core.disk status
    survives_stopped store lines old new status at moments undone = record { any_moment = moments store.terms (begins store.history) at; complete = λ done. absurd (undone done) }

  -- from the opening of the store on
  module _ {D : Type 0} (disk : Ghosts D)
      (counts_now : (d : D) (t : ℕ) (c : Files) → t ≤ disk.moment d → disk.may_leave d c → disk.left_since d t c)
      (only_now : (d : D) (c : Files) → disk.left_since d (disk.moment d) c → disk.may_leave d c)
      (work : Work) (left : Option (List ℕ)) (old : D) where
    -- the store was opened
    module _ (mid new : D) (found : Stored O R) (status : Status) (text : List ℕ) (is : IsOpenedAs of.kind of.meaning address (disk.contents old) found)
        (first : LeavesAsBefore disk old mid)
        (survives : SurvivesWork disk.may_leave disk.moment disk.left_since of address found (drawn_lines work) mid new status)
        (w : WroteOnce (λ whole. whole ≡ work_text of address found (drawn_lines work)) (λ whole. ⊥) status text) where
      work_over : (store : Stored O R) → HoldsStore disk of address old store
          → LeavesWork disk of address store (drawn_lines work) old new status [] text
      work_over store holds =
          let s : SurvivesWork disk.may_leave disk.moment disk.left_since of address store (drawn_lines work) mid new status =
          subst (λ (k : Stored O R). SurvivesWork disk.may_leave disk.moment disk.left_since of address k (drawn_lines work) mid new status)
          (store_read of address disk counts_now only_now old store found holds is) survives in
          inr (record {
            opened = mid;
            before = first;
            any_moment = s.any_moment;
            at_end = now_too disk.moment disk.left_since disk.may_leave counts_now mid new
                (HoldsAfterSome of address store (drawn_lines work)) s.any_moment;
            complete = s.complete;
          })

      pub work_opened : Ran disk of address (Generate work) old new left status [] text
      work_opened = record {
        wrote = (
          refl,
          wrote_map (λ whole. whole ≡ work_text of address found (drawn_lines work)) (λ whole. ⊥)
              (SaysWork of address (disk.contents old) work) (SaysUnopened of address (disk.contents old))
              (λ whole so. (found, is, so)) (λ whole no. absurd no) status text w,
        );
        leaves = record {
          over = work_over;
          none = λ files says none. absurd {A = LeavesAsBefore disk old new}
              (none found.terms found.history (for_its_kind of address files found.terms found.history is.kind_is (is.reads files says)));
        };
        refused = λ refused. absurd {A = LeavesAsBefore disk old new}
            (subst (λ (s : Status). WroteOnce (λ whole. whole ≡ work_text of address found (drawn_lines work)) (λ whole. ⊥) s text) refused w);
      }

    -- or it was not
    module _ (new : D) (status : Status) (text : List ℕ) (all : LeavesAsBefore disk old new)
        (w : WroteOnce (λ whole. ⊥) (SaysUnopened of address (disk.contents old)) status text) where
      work_unopened : (store : Stored O R) → HoldsStore disk of address old store
          → LeavesWork disk of address store (drawn_lines work) old new status [] text
      work_unopened store holds = inl (failed of address disk counts_now only_now old new store status text holds all w)

      pub work_refused : Ran disk of address (Generate work) old new left status [] text
      work_refused = record {
        wrote = (
          refl,
          wrote_map (λ whole. ⊥) (SaysUnopened of address (disk.contents old))
              (SaysWork of address (disk.contents old) work) (SaysUnopened of address (disk.contents old))
              (λ whole no. absurd no) (λ whole says. says) status text w,
        );
        leaves = record { over = work_unopened; none = λ files says none. all };
        refused = λ refused. all;
      }
