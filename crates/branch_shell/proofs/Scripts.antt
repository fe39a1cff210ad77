-- A script from the opening of its store on.
use Rattle.std.proofs.Common.{◌⊎◌, ◌≡◌, ◌≢◌, ℕ, ◌≤◌, List, [], ◌∷◌, ◌++◌, refl, ap, sym, subst, ◌∙◌, inl, inr}
use Rattle.std.specs.Prelude.{Option}
use Rattle.std.specs.Io.KnownBytes.{Keeps}
use Rattle.std.proofs.KnownBytes.{Appends-kept}
use Rattle.branch_disk.specs.declared.disk.Disk.{Ghosts}
use Rattle.branch_disk.specs.Disk.{Files}
use Rattle.branch_script.specs.Lines.{lines_of}
use Rattle.branch_command.specs.Commands.{Script}
use Rattle.branch_engine.specs.Play.{begins, text_from, after_from}
use Rattle.branch_shell.specs.declared.status.Status.{Status}
use Rattle.branch_shell.specs.declared.status.Status.TheVariants.{Done, Usage, StoreRefused, DiskFault, ReadFault, WriteFault, LineTooLong, InputTooLong, Memory}
use Rattle.branch_shell.specs.Reading.{IsFirstPart, Exchanges}
use Rattle.branch_shell.specs.Stores.{Stored, IsOpenedAs}
use Rattle.branch_shell.specs.Once.{WroteOnce}
use Rattle.branch_shell.specs.Documents.{fixed_of, script_text, SaysUnopened}
use Rattle.branch_shell.specs.Disks.{LeavesAsBefore}
use Rattle.branch_shell.specs.Ran.{HoldsStore, LeavesScript, Ran}
use Rattle.branch_shell.specs.Statuses.{WroteOver, WroteOf, Runs, TellsWholeLines, TellsPart}
use Rattle.branch_shell.proofs.Told.{whole_part, text_from-append}
use Rattle.branch_shell.proofs.Ends.{script_text-is}
use Rattle.branch_shell.proofs.Opening.{for_its_kind, store_read, failed}
use Rattle.branch_shell.specs.Values.{ValueType}

pub exchanges_map : (l0 l1 g0 g1 : Option (List ℕ)) (P Q : List ℕ → List ℕ → Type 0) → ((input text : List ℕ) → P input text → Q input text) → Exchanges l0 l1 g0 g1 P → Exchanges l0 l1 g0 g1 Q
exchanges_map l0 l1 g0 g1 P Q f e = (e.0, e.1, e.2, e.3, f e.0 e.1 e.4)

module _ {S O R Q A : Type 0} (of : ValueType S O R Q A) (address : List ℕ → List ℕ) where
  before_is_part : (store : Stored O R) (before : List (List ℕ)) (line : List ℕ) → IsFirstPart (script_text of address store before) (script_text of address store (before ++ line ∷ []))
  before_is_part store before line = (
    text_from of.forms (fixed_of of address store) (after_from of.forms (fixed_of of address store) (begins store.history) before) (line ∷ []),
    sym (script_text-is of address store (before ++ line ∷ [])) ∙ text_from-append of.forms (fixed_of of address store) (begins store.history) before (line ∷ [])
        ∙ ap (λ t. t ++ text_from of.forms (fixed_of of address store) (after_from of.forms (fixed_of of address store) (begins store.history) before) (line ∷ [])) (script_text-is of address store before),
  )

  whole_is_part : (store : Stored O R) (left : Option (List ℕ)) (input text rest : List ℕ) → TellsWholeLines of address store input text rest → TellsPart of address store left input text
  whole_is_part store left input text rest w = record {
    lines = lines_of w.whole;
    read = inl (record { whole = w.whole; rest = rest; parts = w.cut.parts; ended = w.cut.ended; lines_are = refl; short = w.cut.short });
    part = subst (IsFirstPart text) w.text_is (whole_part text);
  }

  -- whatever a script wrote over a store is a first part of the text of lines that were read
  is_part : (store : Stored O R) (left : Option (List ℕ)) (status : Status) (input text : List ℕ) → WroteOver of address store left status input text → TellsPart of address store left input text
  is_part store left Done input text w = record { lines = lines_of input; read = inr (w.0, refl, w.2); part = subst (IsFirstPart text) w.3 (whole_part text) }
  is_part store left Usage input text w = absurd w
  is_part store left StoreRefused input text w = absurd w
  is_part store left DiskFault input text w = record { lines = w.before ++ w.line ∷ []; read = w.read; part = subst (λ (t : List ℕ). IsFirstPart t (script_text of address store (w.before ++ w.line ∷ []))) (sym w.text_is) (before_is_part store w.before w.line) }
  is_part store left ReadFault input text w = whole_is_part store left input text w.1 w.3
  is_part store left WriteFault input text w = w
  is_part store left LineTooLong input text w = whole_is_part store left input text w.0 w.2
  is_part store left InputTooLong input text w = whole_is_part store left input text w.1 w.3
  is_part store left Memory input text w = w

  module _ {D : Type 0} (contents : D → Option Files) (may_leave : D → Files → Type 0) (moment : D → ℕ) (left_since : D → ℕ → Files → Type 0)
      (counts_now : (d : D) (t : ℕ) (c : Files) → t ≤ moment d → may_leave d c → left_since d t c) where
    -- a run that ended so, and then could not finish
    pub unfinished : (store : Stored O R) (old new : D) (l0 l1 g0 g1 g2 : Option (List ℕ)) (status : Status) → Keeps g1 g2 → Exchanges l0 l1 g0 g1 (Runs may_leave moment left_since of address store old new l1 status)
        → Exchanges l0 l1 g0 g2 (Runs may_leave moment left_since of address store old new l1 WriteFault)
    unfinished store old new l0 l1 g0 g1 g2 status keeps e =
        let r = e.4 in (
          e.0,
          e.1,
          e.2,
          Appends-kept g0 g1 g2 e.1 e.3 keeps,
          record {
            wrote = is_part store l1 status e.0 e.1 r.wrote;
            size = r.size;
            survives = record { any_moment = r.survives.any_moment; answered = r.survives.answered; complete = λ done. absurd (cc) };
          },
        )

    pub finished : (store : Stored O R) (old new : D) (l0 l1 g0 g1 g2 : Option (List ℕ)) (status : Status) → Keeps g1 g2 → Exchanges l0 l1 g0 g1 (Runs may_leave moment left_since of address store old new l1 status)
        → Exchanges l0 l1 g0 g2 (Runs may_leave moment left_since of address store old new l1 status)
    finished store old new l0 l1 g0 g1 g2 status keeps e = (e.0, e.1, e.2, Appends-kept g0 g1 g2 e.1 e.3 keeps, e.4)

  -- from the opening of the store on
  module _ {D : Type 0} (disk : Ghosts D)
      (counts_now : (d : D) (t : ℕ) (c : Files) → t ≤ disk.moment d → disk.may_leave d c → disk.left_since d t c)
      (only_now : (d : D) (c : Files) → disk.left_since d (disk.moment d) c → disk.may_leave d c) where
    -- a script over the store that was opened
    module _ (old mid new : D) (found : Stored O R) (left : Option (List ℕ)) (status : Status) (input text : List ℕ)
        (is : IsOpenedAs of.kind of.meaning address (disk.contents old) found) (first : LeavesAsBefore disk old mid)
        (runs : Runs disk.may_leave disk.moment disk.left_since of address found mid new left status input text) where
      script_over : (store : Stored O R) → HoldsStore disk of address old store
          → LeavesScript disk of address store old new left status input text
      script_over store holds =
          let r : Runs disk.may_leave disk.moment disk.left_since of address store mid new left status input text =
          subst (λ (s : Stored O R). Runs disk.may_leave disk.moment disk.left_since of address s mid new left status input text)
          (store_read of address disk counts_now only_now old store found holds is) runs in
          inr (record {
            opened = mid;
            before = first;
            any_moment = r.survives.any_moment;
            at_end = r.survives.answered;
            complete = r.survives.complete;
          })

      never_refused : status ≡ StoreRefused → ⊥
      never_refused refused =
          subst (λ (s : Status). WroteOver of address found left s input text) refused runs.wrote

      pub script_opened : Ran disk of address Script old new left status input text
      script_opened = record {
        wrote = inr (found, is, runs.size, runs.wrote);
        leaves = record {
          over = script_over;
          none = λ files told none. absurd {A = LeavesAsBefore disk old new}
              (none found.terms found.history (for_its_kind of address files found.terms found.history is.kind_is (is.reads files told)));
        };
        refused = λ refused. absurd {A = LeavesAsBefore disk old new} (never_refused refused);
      }

    -- or one that was not opened
    module _ (old new : D) (left : Option (List ℕ)) (status : Status) (text : List ℕ) (all : LeavesAsBefore disk old new)
        (w : WroteOnce (λ whole. ⊥) (SaysUnopened of address (disk.contents old)) status text) where
      script_unopened : (store : Stored O R) → HoldsStore disk of address old store
          → LeavesScript disk of address store old new left status [] text
      script_unopened store holds = inl (failed of address disk counts_now only_now old new store status text holds all w)

      pub script_refused : Ran disk of address Script old new left status [] text
      script_refused = record {
        wrote = inl (refl, w);
        leaves = record { over = script_unopened; none = λ files told none. all };
        refused = λ refused. all;
      }

  -- what was given over the store that was opened, or this
  pub wrote_opened : {D : Type 0} (may_leave : D → Files → Type 0) (moment : D → ℕ) (left_since : D → ℕ → Files → Type 0) (told : Option Files) (found : Stored O R) → IsOpenedAs of.kind of.meaning address told found → (mid new : D)
      (l0 l1 g0 g1 : Option (List ℕ)) (status : Status) (same : Type 0) → same ⊎ Exchanges l0 l1 g0 g1 (Runs may_leave moment left_since of address found mid new l1 status) → same ⊎ Exchanges l0 l1 g0 g1 (WroteOf of address Script told l1 status)
  wrote_opened may_leave moment left_since told found is mid new l0 l1 g0 g1 status same (inl stays) = inl stays
  wrote_opened may_leave moment left_since told found is mid new l0 l1 g0 g1 status same (inr e) = inr (e.0, e.1, e.2, e.3, inr (found, is, e.4.size, e.4.wrote))
