-- Files whose heads have records, and whose objects begin with those of a history of the first of them.
use Rattle.std.proofs.Common.{suc, ◌≡◌, ℕ, ◌+◌, ◌<◌, List, [], ◌∷◌, ◌++◌, length, take, drop, refl, sym, ◌∙◌, ap, arith, append_assoc, length-append, length-drop, take-append-drop, Option, Some, None}
use Rattle.std.specs.Prelude.{All, slice_get}
use Rattle.std.proofs.lemmas.List.{take_at}
use Rattle.std.proofs.Math.Seq.{drop-append_seam, drop-append-add}
use Rattle.branch_disk.specs.Disk.{Files}
use Rattle.branch_wire.specs.StoredObjects.{Begins}
use Rattle.branch_history.specs.declared.moves.Move.{Move}
use Rattle.heads_journal.specs.declared.record.Record.{Record}
use Rattle.heads_journal.specs.declared.reading.Stop.{Stop}
use Rattle.heads_journal.specs.declared.reading.Stop.TheVariants as stop
use Rattle.heads_journal.specs.Format.{Header, header_fields, fields_of, record_fields, Fits, IsRecord}
use Rattle.heads_journal.specs.Heads.{open_records, heads_text}
use Rattle.heads_journal.specs.Reading.{IsOpen, StopsAt, ReadsAs}
use Rattle.heads_journal.proofs.Spelled.{length-spelled}
use Rattle.heads_journal.proofs.Records.{spelled-same}
use Rattle.heads_journal.proofs.Readings.{record-same}
use Rattle.branch_machine.specs.Fixed.{Form, FixedIn}
use Rattle.branch_files.specs.Records.{header_in, records_of, history_text, gate_of}
use Rattle.branch_files.specs.Stands.{Spans}
use Rattle.branch_files.specs.Next.{IsOpenAt, IsNext}
use Rattle.branch_files.proofs.Longer.{begins-more, more-begins}
use Rattle.commit_replay.specs.Follows.{Follows, MayCome}
use Rattle.commit_replay.proofs.Lists.{drop-at, All-at}

-- the heads begin with the records, all gates open, and the next gate is there
pub record Holds (h : Header) (records : List Record) (heads : List ℕ) : Type 0 where
  pub text : Begins (heads_text h records) heads
  pub gate : length (heads_text h records) < length heads
  pub fit : All (IsRecord h.version) records

not_empty : (rest : List ℕ) → IsOpen rest → 0 < length rest
not_empty [] is = absurd (cc)
not_empty (x ∷ rest) is = omega arith

some-behind : (which : ℕ) (rest : List ℕ) (number : ℕ) (stop : Option Stop) → StopsAt which rest number stop → 0 < length rest
some-behind which rest number None ends = ends.there
some-behind which rest number (Some (stop.Truncated part place)) ends = not_empty rest ends.2
some-behind which rest number (Some (stop.BadRecord bad)) ends = not_empty rest ends.1

pub holds-read : (h : Header) (records : List Record) (heads : List ℕ) (stop : Option Stop) → ReadsAs heads h records stop → Holds h records heads
holds-read h records heads stop reads =
    let n : ℕ = length (heads_text h records) in
    let some = some-behind h.version (drop n heads) (length records + 1) stop reads.ends in
    record { text = reads.text; gate = omega (arith, some, length-drop n heads); fit = reads.fit }

open_records-append : (rs qs : List Record) → open_records (rs ++ qs) ≡ open_records rs ++ open_records qs
open_records-append [] qs = refl
open_records-append (r ∷ rs) qs = ap (λ (l : List ℕ). 1 ∷ (record_fields r ++ l)) (open_records-append rs qs) ∙ ap (λ (l : List ℕ). 1 ∷ l) (sym (append_assoc (record_fields r) (open_records rs) (open_records qs)))

heads-append : (h : Header) (rs qs : List Record) → heads_text h (rs ++ qs) ≡ heads_text h rs ++ open_records qs
heads-append h rs qs = ap (λ (l : List ℕ). 1 ∷ (header_fields h ++ l)) (open_records-append rs qs) ∙ ap (λ (l : List ℕ). 1 ∷ l) (sym (append_assoc (header_fields h) (open_records rs) (open_records qs)))

module _ {S O R Q A : Type 0} {form : Form} (fixed : FixedIn form S O R Q A) (moves : List (Move O R)) (records : List Record) (files : Files) (holds : Holds (header_in form fixed.terms) records files.heads) (follows : Follows fixed moves records files.objects) where
  abbrev n : ℕ
  n = length moves

  abbrev text : List ℕ
  text = history_text fixed moves

  -- the bytes behind all records
  abbrev behind : List ℕ
  behind = (begins-more (heads_text (header_in form fixed.terms) records) files.heads holds.text).more

  parted : heads_text (header_in form fixed.terms) records ≡ text ++ open_records (drop n records)
  parted =
      ap (heads_text (header_in form fixed.terms)) (sym (take-append-drop n records)) ∙ heads-append (header_in form fixed.terms) (take n records) (drop n records)
      ∙ ap (λ (rs : List Record). heads_text (header_in form fixed.terms) rs ++ open_records (drop n records)) (sym follows.recorded)

  heads-are : files.heads ≡ text ++ (open_records (drop n records) ++ behind)
  heads-are =
      (begins-more (heads_text (header_in form fixed.terms) records) files.heads holds.text).is ∙ ap (λ (l : List ℕ). l ++ behind) parted
      ∙ append_assoc text (open_records (drop n records)) behind

  pub spans : Spans fixed moves files
  spans = record {
    valid = follows.valid;
    objects = follows.stored;
    heads = more-begins text files.heads (record { more = open_records (drop n records) ++ behind; is = heads-are });
    gate = let less = holds.gate in omega (arith, ap length parted, length-append text (open_records (drop n records)));
    known = follows.known;
  }

  -- a record of them that comes behind the history
  module _ (r : Record) (comes : slice_get records n ≡ Some r) where
    abbrev after : List ℕ
    after = open_records (drop (suc n) records) ++ behind

    next-are : files.heads ≡ text ++ 1 ∷ (record_fields r ++ after)
    next-are =
        heads-are ∙ ap (λ (rs : List Record). text ++ (open_records rs ++ behind)) (drop-at records n r comes)
        ∙ ap (λ (l : List ℕ). text ++ 1 ∷ l) (append_assoc (record_fields r) (open_records (drop (suc n) records)) behind)

    fits : Fits r
    fits = (All-at (IsRecord form.version) records n r holds.fit comes).0

    long-behind : 0 < length behind
    long-behind = let less = holds.gate in omega (arith, ap length (begins-more (heads_text (header_in form fixed.terms) records) files.heads holds.text).is, length-append (heads_text (header_in form fixed.terms) records) behind)

    at-gate : drop (gate_of fixed moves) files.heads ≡ 1 ∷ (record_fields r ++ after)
    at-gate = ap (drop (gate_of fixed moves)) next-are ∙ drop-append_seam text (1 ∷ (record_fields r ++ after))

    pub is-open : IsOpenAt fixed moves files.heads
    is-open = record {
      gate = ap (take 1) at-gate;
      long = omega (arith, long-behind, ap length next-are, length-append text (1 ∷ (record_fields r ++ after)), length-append (record_fields r) after, length-append (open_records (drop (suc n) records)) behind, length-spelled (fields_of r) fits.0);
    }

    spelled : take 63 (drop (gate_of fixed moves + 1) files.heads) ≡ record_fields r
    spelled =
        ap (λ (l : List ℕ). take 63 (drop (gate_of fixed moves + 1) l)) next-are ∙ ap (λ (l : List ℕ). take 63 l) (drop-append-add text (1 ∷ (record_fields r ++ after)) 1)
        ∙ take_at (record_fields r) after 63 (length-spelled (fields_of r) fits.0)

    pub is-next : MayCome fixed moves r → IsNext fixed moves files.heads r
    is-next may = record { there = is-open; spelled = spelled; fits = fits; known = may.known; room = may.room; suits = may.suits }

    -- no other record is spelled there
    pub one-next : (q : Record) → IsNext fixed moves files.heads q → q ≡ r
    one-next q next = record-same q r next.fits fits (spelled-same (fields_of q) (fields_of r) next.fits.0 fits.0 (sym next.spelled ∙ spelled))

  -- a history of all the records
  module _ (all : records_of fixed moves ≡ records) where
    pub whole-text : history_text fixed moves ≡ heads_text (header_in form fixed.terms) records
    whole-text = ap (heads_text (header_in form fixed.terms)) all
