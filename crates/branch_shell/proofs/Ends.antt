-- How a script ends, by what was told so far.
use Rattle.std.proofs.Common.{◌≡◌, ℕ, ◌+◌, ◌^◌, ◌<◌, ◌≤◌, List, [], ◌∷◌, ◌++◌, length, refl, ap, sym, subst, ◌∙◌, append_assoc, append-nil, length-append, inl, inr, arith}
use Rattle.std.specs.Prelude.{Option, Result, Ok, Err, OnOk, IfErr}
use Rattle.std.specs.Io.KnownBytes.{Consumes, Keeps}
use Rattle.std.proofs.KnownBytes.{Consumes-kept, Consumes-trans}
use Rattle.branch_disk.specs.Disk.{Files}
use Rattle.branch_disk.specs.Moments.{weakened}
use Rattle.branch_script.specs.Lines.{lines_of}
use Rattle.branch_engine.specs.Play.{Play, begins, line_told, text_from, after_from, text_of, after_lines}
use Rattle.branch_engine.specs.Readings.{ReadAs}
use Rattle.branch_engine.specs.Engines.{EngineView, IsAt}
use Rattle.branch_shell.specs.declared.status.Status.{Status}
use Rattle.branch_shell.specs.declared.status.Status.TheVariants.{Done, Usage, StoreRefused, DiskFault, ReadFault, WriteFault, LineTooLong, InputTooLong, Memory}
use Rattle.branch_shell.specs.Reading.{HasNoLineEnd, IsWholeLines, AreShort, WereRead, IsFirstPart, Exchanges}
use Rattle.branch_shell.specs.Counts.{StopsTelling}
use Rattle.branch_shell.specs.Documents.{fixed_of, script_text}
use Rattle.branch_shell.specs.Statuses.{WroteOver, Survives, Runs, HoldsSome, but_last, TellsWholeLines, TellsPart, TellsBefore, status_of}
use Rattle.branch_shell.specs.Telling.{ReadsAfterSome, Tells, TellsLines, Stops, StopsLines, TellsWhole, StopsWhole, Takes, IsReading}
use Rattle.branch_shell.proofs.Cuts.{lines_of-whole, unended-short, whole-append, short-append}
use Rattle.branch_shell.proofs.Told.{text_from-append, tells-append, stops-append, after_all, part_behind, nothing_part}
use Rattle.branch_shell.specs.Values.{ValueType}
use Rattle.branch_shell.specs.Stores.{Stored}

module _ {S O R Q A : Type 0} (of : ValueType S O R Q A) (address : List ℕ → List ℕ) where
  pub script_text-is : (store : Stored O R) (lines : List (List ℕ)) → text_from of.forms (fixed_of of address store) (begins store.history) lines ≡ script_text of address store lines
  unfolding text_of
  script_text-is store lines = refl

  pub after_lines-is : (store : Stored O R) (lines : List (List ℕ)) → (after_from of.forms (fixed_of of address store) (begins store.history) lines).moves ≡ after_lines of.forms (fixed_of of address store) store.history lines
  unfolding after_lines
  after_lines-is store lines = refl

  but_last-append : (before : List (List ℕ)) (line : List ℕ) → but_last (before ++ line ∷ []) ≡ before
  but_last-append [] line = refl
  but_last-append (l ∷ []) line = refl
  but_last-append (l ∷ (m ∷ ls)) line = ap (λ k. l ∷ k) (but_last-append (m ∷ ls) line)

  but_last_part : (ls : List (List ℕ)) → (rest : List (List ℕ)) × (ls ≡ but_last ls ++ rest)
  but_last_part [] = ([], refl)
  but_last_part (l ∷ []) = (l ∷ [], refl)
  but_last_part (l ∷ (m ∷ ls)) = let r = but_last_part (m ∷ ls) in (r.0, ap (λ k. l ∷ k) r.1)

  -- the text of all lines has that of all but the last
  covers_all : (store : Stored O R) (ls : List (List ℕ)) → IsFirstPart (script_text of address store (but_last ls)) (text_from of.forms (fixed_of of address store) (begins store.history) ls)
  covers_all store ls =
      let r = but_last_part ls in
      let p = begins store.history in
      subst (λ (t : List ℕ). IsFirstPart t (text_from of.forms (fixed_of of address store) p ls)) (script_text-is store (but_last ls))
      (text_from of.forms (fixed_of of address store) (after_from of.forms (fixed_of of address store) p (but_last ls)) r.0, ap (text_from of.forms (fixed_of of address store) p) r.1 ∙ text_from-append of.forms (fixed_of of address store) p (but_last ls) r.0)

  -- and so has a text behind that of all but the last
  covers_before : (store : Stored O R) (before lines : List (List ℕ)) (line part : List ℕ) → lines ≡ before ++ line ∷ [] → IsFirstPart (script_text of address store (but_last lines)) (text_from of.forms (fixed_of of address store) (begins store.history) before ++ part)
  covers_before store before lines line part is =
      let same : but_last lines ≡ before = ap but_last is ∙ but_last-append before line in
      subst (λ (t : List ℕ). IsFirstPart t (text_from of.forms (fixed_of of address store) (begins store.history) before ++ part)) (script_text-is store before ∙ ap (script_text of address store) (sym same)) (part, refl)

  -- the whole lines in front of some bytes were read
  first_lines : (left : Option (List ℕ)) (done more : List ℕ) → IsWholeLines done → AreShort (lines_of done) → WereRead left (done ++ more) (lines_of done)
  first_lines left done more ended short = inl (record { whole = done; rest = more; parts = refl; ended = ended; lines_are = refl; short = short })

  module _ {D : Type 0} (may_leave : D → Files → Type 0) (moment : D → ℕ) (left_since : D → ℕ → Files → Type 0)
      (counts_now : (d : D) (t : ℕ) (c : Files) → t ≤ moment d → may_leave d c → left_since d t c)
      (only_now : (d : D) (c : Files) → left_since d (moment d) c → may_leave d c) where
    -- telling was stopped at the last of some lines that were read
    module _ (store : Stored O R) (first f : EngineView O R D) (g0 g2 : Option (List ℕ)) (left : Option (List ℕ)) (input : List ℕ) (lines : List (List ℕ)) (read : WereRead left input lines) (small : length input ≤ 2 ^ 32) where
      abbrev start : Play O R
      start = begins store.history

      module _ (status : Status) (x : Stops may_leave moment left_since lines first f g0 g2 status of.forms (fixed_of of address store) start) where
        abbrev text : List ℕ
        text = text_from of.forms (fixed_of of address store) start x.before ++ x.part

        -- of the reply at which it stopped a first part was given
        part_of_all : IsFirstPart x.part (line_told of.forms (fixed_of of address store) (after_from of.forms (fixed_of of address store) start x.before) x.line).text → IsFirstPart text (script_text of address store lines)
        part_of_all part =
            let reply : List ℕ = (line_told of.forms (fixed_of of address store) (after_from of.forms (fixed_of of address store) start x.before) x.line).text in
            let all : script_text of address store lines ≡ text_from of.forms (fixed_of of address store) start x.before ++ reply =
            sym (script_text-is store lines) ∙ ap (text_from of.forms (fixed_of of address store) start) x.lines_are ∙ text_from-append of.forms (fixed_of of address store) start x.before (x.line ∷ [])
            ∙ ap (λ t. text_from of.forms (fixed_of of address store) start x.before ++ t) (append-nil reply) in
            subst (IsFirstPart text) (sym all) (part_behind (text_from of.forms (fixed_of of address store) start x.before) x.part reply part)

        tells_part : IsFirstPart x.part (line_told of.forms (fixed_of of address store) (after_from of.forms (fixed_of of address store) start x.before) x.line).text → TellsPart of address store left input text
        tells_part part = record { lines = lines; read = read; part = part_of_all part }

        none_is_part : x.part ≡ [] → IsFirstPart x.part (line_told of.forms (fixed_of of address store) (after_from of.forms (fixed_of of address store) start x.before) x.line).text
        none_is_part none = subst (λ (p : List ℕ). IsFirstPart p (line_told of.forms (fixed_of of address store) (after_from of.forms (fixed_of of address store) start x.before) x.line).text) (sym none) (nothing_part (line_told of.forms (fixed_of of address store) (after_from of.forms (fixed_of of address store) start x.before) x.line).text)

        tells_before : x.part ≡ [] → TellsBefore of address store left input text
        tells_before none = record {
          before = x.before;
          line = x.line;
          read = subst (WereRead left input) x.lines_are read;
          text_is = ap (λ p. text_from of.forms (fixed_of of address store) start x.before ++ p) none ∙ append-nil (text_from of.forms (fixed_of of address store) start x.before) ∙ script_text-is store x.before;
        }

        stop_survives : (status ≡ Done → ⊥) → Survives may_leave moment left_since of address store first.core.disk f.core.disk left status input text
        stop_survives undone = record {
          any_moment = weakened moment left_since first.core.disk f.core.disk (ReadsAfterSome of.forms (fixed_of of address store) start lines []) (HoldsSome of address store left input) x.moments (λ c r. (lines, read, r));
          answered = λ c now. (lines, read, x.held c now, covers_before store x.before lines x.line x.part x.lines_are);
          complete = λ done. absurd (undone done);
        }

        stop_runs : WroteOver of address store left status input text → (status ≡ Done → ⊥) → Runs may_leave moment left_since of address store first.core.disk f.core.disk left status input text
        stop_runs wrote undone = record { wrote = wrote; size = small; survives = stop_survives undone }

      pub stops_run : (gb gn db dn : ℕ) (status : Status) (x : Stops may_leave moment left_since lines first f g0 g2 status of.forms (fixed_of of address store) start) → StopsTelling gb gn db dn status
          → Runs may_leave moment left_since of address store first.core.disk f.core.disk left status input (text_from of.forms (fixed_of of address store) start x.before ++ x.part)
      stops_run gb gn db dn WriteFault x stops = stop_runs WriteFault x (tells_part WriteFault x x.part_is) (λ e. cc)
      stops_run gb gn db dn DiskFault x stops = stop_runs DiskFault x (tells_before DiskFault x x.part_is) (λ e. cc)
      stops_run gb gn db dn Memory x stops = stop_runs Memory x (tells_part Memory x (none_is_part Memory x x.part_is)) (λ e. cc)
      stops_run gb gn db dn Done x stops = absurd stops
      stops_run gb gn db dn Usage x stops = absurd stops
      stops_run gb gn db dn StoreRefused x stops = absurd stops
      stops_run gb gn db dn ReadFault x stops = absurd stops
      stops_run gb gn db dn LineTooLong x stops = absurd stops
      stops_run gb gn db dn InputTooLong x stops = absurd stops

    module _ (l0 g0 : Option (List ℕ)) (first e : EngineView O R D) (pending : List ℕ) (read : ℕ) (l1 g1 : Option (List ℕ)) (r : IsReading may_leave moment left_since of address first e pending read l0 l1 g0 g1) (store : Stored O R) (at : IsAt may_leave (fixed_of of address store) first (begins store.history)) where
      abbrev told : Tells may_leave moment left_since (lines_of r.done) first e g0 g1 of.forms (fixed_of of address store) (begins store.history)
      told = r.told store.terms (begins store.history) at

      abbrev said : List ℕ
      said = text_from of.forms (fixed_of of address store) (begins store.history) (lines_of r.done)

      -- between two lines, with more bytes read behind them
      survives_here : (l2 : Option (List ℕ)) (status : Status) (more : List ℕ) → (status ≡ Done → ⊥) → Survives may_leave moment left_since of address store first.core.disk e.core.disk l2 status (r.done ++ more) said
      survives_here l2 status more undone =
          let was = first_lines l2 r.done more r.ended r.short in
          record {
            any_moment = weakened moment left_since first.core.disk e.core.disk (ReadsAfterSome of.forms (fixed_of of address store) (begins store.history) (lines_of r.done) []) (HoldsSome of address store l2 (r.done ++ more)) told.moments (λ c s. (lines_of r.done, was, s));
            answered = λ c now. (lines_of r.done, was, after_all of.forms (fixed_of of address store) (begins store.history) (lines_of r.done) c (told.at.images c now), covers_all store (lines_of r.done));
            complete = λ done. absurd (undone done);
          }

      whole_lines : TellsWholeLines of address store (r.done ++ pending) said pending
      whole_lines = record { whole = r.done; cut = record { parts = refl; ended = r.ended; unended = r.unended; short = r.short }; text_is = script_text-is store (lines_of r.done) }

      abbrev EndsHere : Option (List ℕ) → Status → Type 0
      EndsHere l2 status = Exchanges l0 l2 g0 g1 (Runs may_leave moment left_since of address store first.core.disk e.core.disk l2 status)

      pub at_read_fault : (l2 : Option (List ℕ)) → read < 2 ^ 32 → length pending < 4096 → Keeps l1 l2 → EndsHere l2 ReadFault
      at_read_fault l2 room fewer keeps = (
        r.done ++ pending,
        said,
        Consumes-kept l0 l1 l2 (r.done ++ pending) r.took keeps,
        told.gave,
        record { wrote = (omega (arith, room, r.counted), pending, fewer, whole_lines); size = omega (arith, room, r.counted); survives = survives_here l2 ReadFault pending (λ e. cc) },
      )

      pub at_long_line : read ≤ 2 ^ 32 → length pending ≡ 4096 → EndsHere l1 LineTooLong
      at_long_line most long = (
        r.done ++ pending,
        said,
        r.took,
        told.gave,
        record { wrote = (pending, long, whole_lines); size = omega (arith, most, r.counted); survives = survives_here l1 LineTooLong pending (λ e. cc) },
      )

      pub at_long_input : read ≡ 2 ^ 32 → length pending < 4096 → EndsHere l1 InputTooLong
      at_long_input all fewer = (
        r.done ++ pending,
        said,
        r.took,
        told.gave,
        record { wrote = (sym r.counted ∙ all, pending, fewer, whole_lines); size = omega (arith, all, r.counted); survives = survives_here l1 InputTooLong pending (λ e. cc) },
      )

    module _ (l0 g0 : Option (List ℕ)) (first e : EngineView O R D) (pending : List ℕ) (read : ℕ) (l1 g1 : Option (List ℕ)) (r : IsReading may_leave moment left_since of address first e pending read l0 l1 g0 g1) (more : List ℕ) (l2 : Option (List ℕ)) (count : ℕ) (t : Takes pending more l1 l2 count) where
      took_more : Consumes l0 l2 (r.done ++ more)
      took_more = subst (Consumes l0 l2) (append_assoc r.done pending t.piece ∙ ap (λ p. r.done ++ p) (sym t.added)) (Consumes-trans l0 l1 l2 (r.done ++ pending) t.piece r.took t.took)

      count_more : length (r.done ++ more) ≡ read + count
      count_more =
          ap (λ p. length (r.done ++ p)) t.added ∙ ap length (sym (append_assoc r.done pending t.piece)) ∙ length-append (r.done ++ pending) t.piece
          ∙ ap (λ n. n + length t.piece) (sym r.counted) ∙ ap (λ n. read + n) t.counted

      -- the whole lines of what waits were told
      pub next_reading : (rest : List ℕ) (f : EngineView O R D) (g2 : Option (List ℕ)) → TellsWhole may_leave moment left_since of address more rest e f g1 g2 → IsReading may_leave moment left_since of address first f rest (read + count) l0 l2 g0 g2
      next_reading rest f g2 w =
          let all : r.done ++ more ≡ (r.done ++ w.whole) ++ rest = ap (λ p. r.done ++ p) w.cut.parts ∙ sym (append_assoc r.done w.whole rest) in
          let lines : lines_of (r.done ++ w.whole) ≡ lines_of r.done ++ lines_of w.whole = lines_of-whole r.done w.whole r.ended in
          record {
            done = r.done ++ w.whole;
            ended = whole-append r.done w.whole r.ended w.cut.ended;
            short = subst AreShort (sym lines) (short-append (lines_of r.done) (lines_of w.whole) r.short w.cut.short);
            unended = w.cut.unended;
            took = subst (Consumes l0 l2) all took_more;
            counted = sym count_more ∙ ap length all;
            told =
                subst (λ (ls : List (List ℕ)). TellsLines may_leave moment left_since of address ls first f g0 g2) (sym lines)
                (tells-append may_leave moment left_since counts_now only_now of address (lines_of r.done) (lines_of w.whole) first e f g0 g1 g2 r.told w.told);
          }

      module _ (store : Stored O R) (at : IsAt may_leave (fixed_of of address store) first (begins store.history)) where
        -- the lines told so far and some more, at the last of which telling was stopped
        stopped : (f : EngineView O R D) (g2 : Option (List ℕ)) (gb gn db dn : ℕ) (status : Status) (ls : List (List ℕ)) → StopsTelling gb gn db dn status → length (r.done ++ more) ≤ 2 ^ 32
            → WereRead l2 (r.done ++ more) (lines_of r.done ++ ls) → StopsLines may_leave moment left_since of address ls e f g1 g2 status
            → Exchanges l0 l2 g0 g2 (Runs may_leave moment left_since of address store first.core.disk f.core.disk l2 status)
        stopped f g2 gb gn db dn status ls stops small read_them s =
            let x = stops-append may_leave moment left_since counts_now only_now of address (lines_of r.done) ls first e f g0 g1 g2 status r.told s store.terms (begins store.history) at in (
              r.done ++ more,
              text_from of.forms (fixed_of of address store) (begins store.history) x.before ++ x.part,
              took_more,
              x.gave,
              stops_run store first f g0 g2 l2 (r.done ++ more) (lines_of r.done ++ ls) read_them small gb gn db dn status x stops,
            )

        pub at_some_lines : (f : EngineView O R D) (g2 : Option (List ℕ)) (gb gn db dn : ℕ) (status : Status) → StopsTelling gb gn db dn status → read + count ≤ 2 ^ 32 → StopsWhole may_leave moment left_since of address more e f g1 g2 status
            → Exchanges l0 l2 g0 g2 (Runs may_leave moment left_since of address store first.core.disk f.core.disk l2 status)
        at_some_lines f g2 gb gn db dn status stops room s =
            let lines : lines_of (r.done ++ s.whole) ≡ lines_of r.done ++ lines_of s.whole = lines_of-whole r.done s.whole r.ended in
            let c = count_more in
            stopped f g2 gb gn db dn status (lines_of s.whole) stops (omega (arith, c, room))
            (inl (record {
              whole = r.done ++ s.whole;
              rest = s.rest;
              parts = ap (λ q. r.done ++ q) s.parts ∙ sym (append_assoc r.done s.whole s.rest);
              ended = whole-append r.done s.whole r.ended s.ended;
              lines_are = sym lines;
              short = short-append (lines_of r.done) (lines_of s.whole) r.short s.short;
            }))
            s.stopped

        -- the source is at its end
        module _ (none : count ≡ 0) (room : read < 2 ^ 32) (fewer : length more < 4096) where
          same_pending : more ≡ pending
          same_pending = t.added ∙ ap (λ p. pending ++ p) (empty t.piece (t.counted ∙ none)) ∙ append-nil pending
            where
              empty : (xs : List ℕ) → length xs ≡ 0 → xs ≡ []
              empty [] h = refl
              empty (x ∷ xs) h = absurd (omega (arith, h))

          few : length (r.done ++ more) < 2 ^ 32
          few = let c = count_more in omega (arith, c, none, room)

          open_more : HasNoLineEnd more
          open_more = subst HasNoLineEnd (sym same_pending) r.unended

          all_lines : lines_of (r.done ++ more) ≡ lines_of r.done ++ lines_of more
          all_lines = lines_of-whole r.done more r.ended

          all_short : AreShort (lines_of r.done ++ lines_of more)
          all_short = short-append (lines_of r.done) (lines_of more) r.short (unended-short more open_more fewer)

          read_all : WereRead l2 (r.done ++ more) (lines_of r.done ++ lines_of more)
          read_all = inr (t.last none, sym all_lines, all_short)

          at_last : (f : EngineView O R D) (g2 : Option (List ℕ)) → TellsLines may_leave moment left_since of address (lines_of more) e f g1 g2 → Exchanges l0 l2 g0 g2 (Runs may_leave moment left_since of address store first.core.disk f.core.disk l2 Done)
          at_last f g2 tells =
              let ls : List (List ℕ) = lines_of r.done ++ lines_of more in
              let x = tells-append may_leave moment left_since counts_now only_now of address (lines_of r.done) (lines_of more) first e f g0 g1 g2 r.told tells store.terms (begins store.history) at in (
                r.done ++ more,
                text_from of.forms (fixed_of of address store) (begins store.history) ls,
                took_more,
                x.gave,
                record {
                  wrote = (t.last none, few, subst AreShort (sym all_lines) all_short, ap (text_from of.forms (fixed_of of address store) (begins store.history)) (sym all_lines) ∙ script_text-is store (lines_of (r.done ++ more)));
                  size = let f' = few in omega (arith, f');
                  survives = record {
                    any_moment = weakened moment left_since first.core.disk f.core.disk (ReadsAfterSome of.forms (fixed_of of address store) (begins store.history) ls []) (HoldsSome of address store l2 (r.done ++ more)) x.moments (λ c s. (ls, read_all, s));
                    answered = λ c now. (ls, read_all, after_all of.forms (fixed_of of address store) (begins store.history) ls c (x.at.images c now), covers_all store ls);
                    complete = λ done c now.
                        subst (λ h. ReadAs (fixed_of of address store) h c) (ap (λ (k : List (List ℕ)). (after_from of.forms (fixed_of of address store) (begins store.history) k).moves) (sym all_lines) ∙ after_lines-is store (lines_of (r.done ++ more))) (x.at.images c now);
                  };
                },
              )

          pub at_last_result : (f : EngineView O R D) (g2 : Option (List ℕ)) (gb gn db dn : ℕ) (result : Result (Unit {0}) Status)
              → OnOk result (TellsLines may_leave moment left_since of address (lines_of more) e f g1 g2) → IfErr result (StopsLines may_leave moment left_since of address (lines_of more) e f g1 g2) → IfErr result (StopsTelling gb gn db dn)
              → Exchanges l0 l2 g0 g2 (Runs may_leave moment left_since of address store first.core.disk f.core.disk l2 (status_of result))
          at_last_result f g2 gb gn db dn (Ok done) ok err stops = at_last f g2 ok
          at_last_result f g2 gb gn db dn (Err status) ok err stops = let small = few in stopped f g2 gb gn db dn status (lines_of more) stops (omega (arith, small)) read_all err
