-- The walk over the records, record by record.
use Rattle.std.proofs.Common.{◌≡◌, ℕ, ◌+◌, ◌-◌, List, [], ◌∷◌, ◌++◌, length, take, drop, refl, sym, ◌∙◌, ap, arith, subst, length-append, Some}
use Rattle.std.specs.Prelude.{slice_get}
use Rattle.std.proofs.lemmas.List.{take_all, drop-drop}
use Rattle.mrdt_model.specs.Laws.{Meaning}
use Rattle.branch_disk.specs.declared.part.Part.TheVariants.{Objects, Heads}
use Rattle.branch_names.specs.declared.terms.Terms.{Terms}
use Rattle.branch_wire.specs.StoredObjects.{Begins}
use Rattle.branch_history.specs.declared.moves.Move.{Move}
use Rattle.heads_journal.specs.declared.record.Record.{Record}
use Rattle.heads_journal.specs.Format.{IsRecord}
use Rattle.branch_machine.specs.Fixed.{FixedIn, present, fix_in, fix}
use Rattle.branch_machine.specs.Objects.{objects_text, end_of, region}
use Rattle.branch_machine.proofs.Valid.{valid-none}
use Rattle.branch_files.specs.Next.{end_at, bytes_behind}
use Rattle.branch_files.specs.Records.{new_address, records_of, IsKnown, AreKnown}
use Rattle.branch_files.proofs.Longer.{none-known, objects_text-more}
use Rattle.branch_files.proofs.Next.{end-with}
use Rattle.recorded_history.specs.Views.{RecordedView}
use Rattle.commit_replay.specs.declared.refused.ReplayRefused.{ReplayRefused}
use Rattle.commit_replay.specs.declared.refused.ReplayRefused.TheVariants.{NotAStore, BadRecord, Truncated, BadObject, BadCommit, Memory}
use Rattle.commit_replay.specs.Follows.{form_of}
use Rattle.commit_replay.specs.Refusals.{StopsAs, StopsAheadAs, ReplayRefusedAs}
use Rattle.commit_replay.specs.Walk.{bytes_ahead, left_ahead, GoesOn, IsWalked}
use Rattle.commit_replay.proofs.Forms.{full-same, record-same, region-same, end-same}
use Rattle.commit_replay.proofs.Versions.{known-in, known-today}
use Rattle.commit_replay.proofs.Steps.{follows-more}

module _ {S O R Q A : Type 0} (m : Meaning S O R Q A) (address : List ℕ → List ℕ) (terms : Terms) (version : ℕ) (records : List Record) (objects : List ℕ) where
  abbrev fixed : FixedIn (form_of version) S O R Q A
  fixed = fix_in (form_of version) m terms address

  -- the empty history
  pub walked-none : (r : RecordedView (Move O R)) → r ≡ record { written = []; pending = []; terms = terms } → Begins (objects_text fixed []) objects → IsWalked fixed r 0 records objects
  unfolding records_of
  walked-none r is begins =
      subst (λ (x : RecordedView (Move O R)). IsWalked fixed x 0 records objects) (sym is)
      (record { settled = refl; terms = refl; counted = refl; follows = record { valid = valid-none fixed; within = omega arith; recorded = refl; known = none-known fixed; stored = begins } })

  pub ahead-none : (r : RecordedView (Move O R)) → r ≡ record { written = []; pending = []; terms = terms } → (first ahead : List ℕ) → first ≡ objects_text fixed [] → ahead ≡ drop (length first) objects → ahead ≡ drop (end_of fixed r.written) objects
  ahead-none r is first ahead text left =
      left ∙ ap (λ (l : List ℕ). drop (length l) objects) text ∙ ap (λ (x : RecordedView (Move O R)). drop (end_of fixed x.written) objects) (sym is)

  module _ (r : RecordedView (Move O R)) (count : ℕ) (walked : IsWalked fixed r count records objects) (next : Record) (comes : slice_get records count ≡ Some next) where
    at : slice_get records (length r.written) ≡ Some next
    at = ap (slice_get records) walked.counted ∙ comes

    module _ (ahead : List ℕ) (behind : ahead ≡ drop (end_of fixed r.written) objects) where
      bytes-same : bytes_ahead (fix m terms address) r.written ahead next ≡ bytes_behind fixed r.written objects next
      bytes-same =
          ap (λ (n : ℕ). take (end_at next - n) ahead) (end-same m terms address present (form_of version) r.written)
          ∙ ap (λ (l : List ℕ). take (end_at next - end_of fixed r.written) l) behind

      -- one more move
      pub walked-more : (new : RecordedView (Move O R)) → IsRecord version next → IsKnown next → GoesOn (fix m r.terms address) r new next (bytes_ahead (fix m r.terms address) r.written ahead next) → IsWalked fixed new (count + 1) records objects
      walked-more new is known goes =
          let own = subst (λ (l : Terms). GoesOn (fix m l address) r new next (bytes_ahead (fix m l address) r.written ahead next)) walked.terms goes in
          let total : length (r.written ++ own.made ∷ []) ≡ count + 1 = omega (arith, walked.counted, length-append r.written (own.made ∷ [])) in
          subst (λ (x : RecordedView (Move O R)). IsWalked fixed x (count + 1) records objects) (sym own.grown)
          (record {
            settled = refl;
            terms = walked.terms;
            counted = total;
            follows = follows-more fixed r.written objects records next own.made walked.follows at (known-in version next is known)
                (full-same m terms address present (form_of version) r.written own.made own.full)
                (sym (record-same m terms address present (form_of version) r.written own.made) ∙ own.recorded)
                (sym (region-same m terms address present (form_of version) r.written own.made) ∙ own.stored ∙ bytes-same);
          })

      -- and what is left ahead stands behind it
      pub left-more : (new : RecordedView (Move O R)) → GoesOn (fix m r.terms address) r new next (bytes_ahead (fix m r.terms address) r.written ahead next)
          → (left : List ℕ) → left ≡ left_ahead (fix m r.terms address) r.written ahead next → left ≡ drop (end_of fixed new.written) objects
      left-more new goes left is =
          let own = subst (λ (l : Terms). GoesOn (fix m l address) r new next (bytes_ahead (fix m l address) r.written ahead next)) walked.terms goes in
          let here = subst (λ (l : Terms). left ≡ left_ahead (fix m l address) r.written ahead next) walked.terms is in
          let today = fix m terms address in
          let old : ℕ = end_of fixed r.written in
          let moves : List (Move O R) = r.written ++ own.made ∷ [] in
          let end : end_at next ≡ end_of fixed moves = ap end_at (sym own.recorded) ∙ end-with (new_address today r.written own.made) (end_of today moves) own.made ∙ end-same m terms address present (form_of version) moves in
          let longer : old + (end_of fixed moves - old) ≡ end_of fixed moves = omega (arith, ap length (objects_text-more fixed r.written own.made), length-append (objects_text fixed r.written) (region fixed r.written own.made)) in
          here ∙ ap (λ (n : ℕ). drop (end_at next - n) ahead) (end-same m terms address present (form_of version) r.written)
          ∙ ap (λ (n : ℕ). drop (n - old) ahead) end ∙ ap (λ (l : List ℕ). drop (end_of fixed moves - old) l) behind
          ∙ drop-drop (end_of fixed moves - old) old objects ∙ ap (λ (n : ℕ). drop n objects) longer
          ∙ ap (λ (x : RecordedView (Move O R)). drop (end_of fixed x.written) objects) (sym own.grown)

    -- the records so far are of known kinds
    pub walked-known : AreKnown (fix m r.terms address) r.written
    walked-known = subst (λ (l : Terms). AreKnown (fix m l address) r.written) (sym walked.terms) (known-today m terms address version r.written walked.follows.known)

    refused : (why : ReplayRefused) → StopsAs fixed r.written objects next why → ReplayRefusedAs fixed records objects why
    refused NotAStore stops = absurd stops
    refused (BadRecord number) stops = (r.written, walked.follows, (next, at, stops))
    refused (Truncated Objects place) stops = (r.written, walked.follows, (next, at, stops))
    refused (Truncated Heads place) stops = absurd stops
    refused (BadObject place) stops = (r.written, walked.follows, (next, at, stops))
    refused (BadCommit number) stops = (r.written, walked.follows, (next, at, stops))
    refused Memory stops = tt

    -- the next record goes no further
    pub walk-stops : (ahead : List ℕ) → ahead ≡ drop (end_of fixed r.written) objects → (why : ReplayRefused) → StopsAheadAs (fix_in (form_of version) m r.terms address) r.written ahead next why → ReplayRefusedAs fixed records objects why
    walk-stops ahead behind why stops = refused why (subst (λ (l : Terms). StopsAheadAs (fix_in (form_of version) m l address) r.written ahead next why) walked.terms stops objects behind)

  -- all the records
  module _ (r : RecordedView (Move O R)) (walked : IsWalked fixed r (length records) records objects) where
    pub walked-all : records_of fixed r.written ≡ records
    walked-all = walked.follows.recorded ∙ take_all (length r.written) records (omega (arith, walked.counted))

    pub walked-settled : r ≡ record { written = r.written; pending = []; terms = terms }
    walked-settled = ap (λ (p : List (Move O R)). record { written = r.written; pending = p; terms = r.terms }) walked.settled ∙ ap (λ (l : Terms). record { written = r.written; pending = []; terms = l }) walked.terms
