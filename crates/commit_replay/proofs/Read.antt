-- What files read as whose records and objects are replayed.
use Rattle.std.proofs.Common.{suc, ◌≡◌, ℕ, ◌+◌, ◌*◌, ◌<◌, inl, inr, List, [], ◌∷◌, ◌++◌, length, get_or, take, drop, refl, sym, ◌∙◌, ap, arith, subst, append_assoc, append-nil, length-append, length-drop, Option, Some, None}
use Rattle.std.proofs.lemmas.List.{take_at, get_or-drop, drop-drop}
use Rattle.mrdt_model.specs.Laws.{Meaning}
use Rattle.branch_disk.specs.Disk.{Files}
use Rattle.branch_wire.specs.StoredObjects.{Begins}
use Rattle.branch_disk.specs.declared.part.Part.{Part}
use Rattle.branch_disk.specs.declared.part.Part.TheVariants.{Objects, Heads}
use Rattle.branch_names.specs.declared.terms.Terms.{Terms}
use Rattle.branch_history.specs.declared.moves.Move.{Move}
use Rattle.heads_journal.specs.declared.record.Record.{Record}
use Rattle.heads_journal.specs.declared.reading.Stop.{Stop}
use Rattle.heads_journal.specs.declared.reading.Stop.TheVariants as stop
use Rattle.heads_journal.specs.Format.{IsHeader, header_fields}
use Rattle.heads_journal.specs.Heads.{HasHeader, ShutAt, open_records, heads_text}
use Rattle.heads_journal.specs.Heads as heads
use Rattle.heads_journal.specs.Reading.{IsOpen, StopsAt}
use Rattle.heads_journal.specs.Reading as heads_reading
use Rattle.heads_journal.proofs.Spelled.{length-header_fields}
use Rattle.heads_journal.proofs.Readings.{length-heads_text}
use Rattle.heads_journal.proofs.Whole.{all_fit}
use Rattle.branch_machine.specs.Fixed.{Form, FixedIn, fix_in}
use Rattle.branch_machine.specs.Objects.{objects_text}
use Rattle.branch_machine.proofs.Valid.{valid-none}
use Rattle.branch_files.specs.Records.{records_after, records_of, header_in, history_text, gate_of}
use Rattle.branch_files.specs.Stands.{Spans}
use Rattle.branch_files.specs.Next.{IsNext}
use Rattle.branch_files.specs.Reading.{Answer, Opens, NotAStore, BadRecord, BadObject, BadCommit, Truncated, EndsWith, ReadsIn, IsNoStoreInOf, ReadsInOf}
use Rattle.branch_files.proofs.Longer.{begins-more, none-known}
use Rattle.branch_files.proofs.Next.{next-record}
use Rattle.branch_files.proofs.Limited.{terms-same_in}
use Rattle.commit_replay.specs.declared.refused.ReplayRefused.{ReplayRefused}
use Rattle.commit_replay.specs.declared.refused.ReplayRefused.TheVariants as refused
use Rattle.commit_replay.specs.Follows.{Follows, MayCome}
use Rattle.commit_replay.specs.Refusals.{ReplayRefusedAs}
use Rattle.commit_replay.specs.Laws.{answer_of, ReadsAsRefused}
use Rattle.commit_replay.proofs.Held.{Holds, spans, is-open, is-next, one-next, whole-text}

module _ {S O R Q A : Type 0} {form : Form} (fixed : FixedIn form S O R Q A) where
  length-after : (before moves : List (Move O R)) → length (records_after fixed before moves) ≡ length moves
  length-after before [] = refl
  length-after before (m ∷ ms) = ap suc (length-after (before ++ m ∷ []) ms)

  -- a history has as many records as moves
  pub length-records : (moves : List (Move O R)) → length (records_of fixed moves) ≡ length moves
  unfolding records_of
  length-records moves = length-after [] moves

-- heads without a header of a form span no history
module _ {S O R Q A : Type 0} (form : Form) (m : Meaning S O R Q A) (address : List ℕ → List ℕ) (files : Files) where
  headed : (terms : Terms) → IsHeader (header_in form terms) → Spans (fix_in form m terms address) [] files → HasHeader (header_in form terms) files.heads
  headed terms fits spans =
      let fixed = fix_in form m terms address in
      let header = header_in form terms in
      let own = begins-more (history_text fixed []) files.heads spans.heads in
      let records = records_of fixed [] in
      let gate = spans.gate in record {
        header = ap (take 64) (own.is ∙ ap (λ (l : List ℕ). 1 ∷ l) (append_assoc (header_fields header) (open_records records) own.more))
            ∙ take_at (1 ∷ header_fields header) (open_records records ++ own.more) 64 (ap suc (length-header_fields header));
        fits = fits;
        long = omega (arith, gate, length-append (header_fields header) (open_records records), length-header_fields header);
      }

  pub no_header : ((terms : Terms) → HasHeader (header_in form terms) files.heads → ⊥) → ReadsIn form m address files NotAStore
  no_header none = inl (refl, λ terms fits spans. none terms (headed terms fits spans))

  pub no_header_of : (kind : ℕ) → heads.HasNone form.version kind files.heads → ReadsInOf form kind m address files NotAStore
  no_header_of kind none = inl (refl, λ terms is fits spans. none terms is (headed terms fits spans))

  module _ (terms : Terms) (has : HasHeader (header_in form terms) files.heads) where
    abbrev own_fixed : FixedIn form S O R Q A
    own_fixed = fix_in form m terms address

    text-is : history_text own_fixed [] ≡ 1 ∷ header_fields (header_in form terms)
    unfolding records_of
    text-is = ap (λ (l : List ℕ). 1 ∷ l) (append-nil (header_fields (header_in form terms)))

    text-long : length (1 ∷ header_fields (header_in form terms)) ≡ 64
    text-long = ap suc (length-header_fields (header_in form terms))

    begins : Begins (history_text own_fixed []) files.heads
    begins =
        subst (λ (l : List ℕ). Begins l files.heads) (sym text-is)
        (ap (λ (n : ℕ). take n files.heads) text-long ∙ has.header)

    -- with the objects of the empty history they are a store's
    pub begun : Begins (objects_text own_fixed []) files.objects → ReadsIn form m address files NotAStore → ⊥
    begun objects (inl (is, none)) =
        none terms has.fits (record {
          valid = valid-none own_fixed;
          objects = objects;
          heads = begins;
          gate = let long = has.long in omega (arith, ap length text-is, text-long, long);
          known = none-known own_fixed;
        })
    begun objects (inr (other, moves, fits, there, ends)) = ends

    -- and without them none's
    pub not_begun : (Begins (objects_text own_fixed []) files.objects → ⊥) → ReadsIn form m address files NotAStore
    not_begun none =
        inl (
          refl,
          λ other fits spans.
              let same = terms-same_in form other terms (records_of (fix_in form m other address) []) (records_of own_fixed []) files.heads fits has.fits spans.heads begins in
              none (subst (λ (l : Terms). Begins (objects_text (fix_in form m l address) []) files.objects) same spans.objects),
        )

module _ {S O R Q A : Type 0} (form : Form) (m : Meaning S O R Q A) (terms : Terms) (address : List ℕ → List ℕ) (files : Files) (records : List Record) (fits : IsHeader (header_in form terms)) (holds : Holds (header_in form terms) records files.heads) where
  abbrev fixed : FixedIn form S O R Q A
  fixed = fix_in form m terms address

  module _ (moves : List (Move O R)) (follows : Follows fixed moves records files.objects) where
    abbrev spanned : Spans fixed moves files
    spanned = spans fixed moves records files holds follows

    ends : (a : Answer O R) → EndsWith fixed moves files a → ReadsInOf form terms.kind m address files a
    ends a ending = inr (terms, moves, refl, fits, spanned, ending)

    -- behind a history of all the records
    module _ (all : records_of fixed moves ≡ records) where
      abbrev gate : ℕ
      gate = gate_of fixed moves

      gate-is : gate ≡ length (heads_text (header_in form terms) records)
      gate-is = ap length (whole-text fixed moves records files holds follows all)

      place-is : gate ≡ 64 * (length records + 1)
      place-is = gate-is ∙ length-heads_text (header_in form terms) records (all_fit form.version records holds.fit)

      count-is : length records ≡ length moves
      count-is = ap length (sym all) ∙ length-records fixed moves

      rest-is : drop (length (heads_text (header_in form terms) records)) files.heads ≡ drop gate files.heads
      rest-is = ap (λ (k : ℕ). drop k files.heads) (sym gate-is)

      shut-at : ShutAt 0 (drop gate files.heads) → ShutAt gate files.heads
      shut-at shut = record {
        there = let there = shut.there in omega (arith, length-drop gate files.heads);
        shut = λ is. shut.shut (get_or-drop gate files.heads 0 0 ∙ ap (λ (k : ℕ). get_or files.heads k 0) (omega arith) ∙ is);
      }

      stopped : (part : Part) (place : ℕ) → part ≡ Heads → place ≡ gate → IsOpen (drop gate files.heads) → length (drop gate files.heads) < 65 → ReadsInOf form terms.kind m address files (Truncated part place)
      stopped part place is at opens less =
          subst (λ (p : Part). ReadsInOf form terms.kind m address files (Truncated p place)) (sym is)
          (ends (Truncated Heads place) (at, opens, omega (arith, less, length-drop gate files.heads)))

      none-next : heads_reading.IsBad form.version (drop gate files.heads) → (r : Record) → IsNext fixed moves files.heads r → ⊥
      none-next bad r next = bad r (next-record fixed moves files.heads r next) (ap (take 63) (drop-drop 1 gate files.heads) ∙ next.spelled)

      stops : (stop : Option Stop) → StopsAt form.version (drop gate files.heads) (length records + 1) stop → ReadsInOf form terms.kind m address files (answer_of terms moves stop)
      stops None shut = ends (Opens terms moves) (refl, refl, shut-at shut)
      stops (Some (stop.Truncated part place)) (is, at, opens, less) = stopped part place is (at ∙ sym place-is) opens less
      stops (Some (stop.BadRecord bad)) (at, opens, long, none) =
          ends (BadRecord bad)
          (at ∙ ap (λ (k : ℕ). k + 1) count-is, record { gate = opens; long = let more = long in let there = spanned.gate in omega (arith, length-drop gate files.heads) }, none-next none)

      pub stops-so : (stop : Option Stop) → StopsAt form.version (drop (length (heads_text (header_in form terms) records)) files.heads) (length records + 1) stop → ReadsInOf form terms.kind m address files (answer_of terms moves stop)
      stops-so stop is = stops stop (subst (λ (rest : List ℕ). StopsAt form.version rest (length records + 1) stop) rest-is is)

  -- a history with other terms has another header
  no_store : (Spans fixed [] files → ⊥) → IsNoStoreInOf form terms.kind m address files
  no_store none other is other_fits other_spans =
      none (subst (λ (l : Terms). Spans (fix_in form m l address) [] files) (terms-same_in form other terms (records_of (fix_in form m other address) []) records files.heads other_fits fits other_spans.heads holds.text) other_spans)

  pub refuses-so : (refusal : ReplayRefused) → ReplayRefusedAs fixed records files.objects refusal → ReadsAsRefused form terms.kind m address files refusal
  refuses-so refused.NotAStore none = inl (refl, no_store (λ spanned. none spanned.objects))
  refuses-so refused.Memory is = tt
  refuses-so (refused.BadRecord number) (moves, follows, (r, comes, (at, none))) =
      ends moves follows (BadRecord number) (
        at,
        is-open fixed moves records files holds follows r comes,
        λ q next. none (subst (MayCome fixed moves) (one-next fixed moves records files holds follows r comes q next) (record { room = next.room; known = next.known; suits = next.suits })),
      )
  refuses-so (refused.Truncated Heads place) (moves, follows, (r, comes, is)) = absurd is
  refuses-so (refused.Truncated Objects place) (moves, follows, (r, comes, (at, may, less))) =
      ends moves follows (Truncated Objects place) (at, (r, is-next fixed moves records files holds follows r comes may, less))
  refuses-so (refused.BadObject place) (moves, follows, (r, comes, (at, whole, none))) =
      ends moves follows (BadObject place)
      (at, (r, record { next = is-next fixed moves records files holds follows r comes whole.may; long = whole.long }, whole.makes, none))
  refuses-so (refused.BadCommit number) (moves, follows, (r, comes, (at, whole, shape, none))) =
      ends moves follows (BadCommit number) (
        at,
        (
          r,
          record { stored = record { next = is-next fixed moves records files holds follows r comes whole.may; long = whole.long }; makes = whole.makes; shape = shape },
          none,
        ),
      )
