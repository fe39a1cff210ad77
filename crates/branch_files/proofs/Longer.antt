-- The texts of longer histories.
use Rattle.std.proofs.Common.{◌≡◌, ℕ, ◌≤◌, List, [], ◌∷◌, ◌++◌, length, take, drop, refl, sym, ◌∙◌, ap, subst, arith, append_assoc, append-nil, length-append, take-append-drop}
use Rattle.std.specs.List.{concat, AllByRecursion}
use Rattle.std.proofs.Math.Seq.{take-append_seam}
use Rattle.std.proofs.lemmas.List.Folds.{concat-append}
use Rattle.branch_disk.specs.Disk.{Files}
use Rattle.branch_wire.specs.StoredObjects.{Stored, header_of, file_in, fresh, Begins}
use Rattle.branch_history.specs.declared.moves.Move.{Move}
use Rattle.branch_history.proofs.Later.{IsLonger}
use Rattle.heads_journal.specs.declared.record.Record.{Record}
use Rattle.heads_journal.specs.Format.{Header, header_fields, record_fields}
use Rattle.heads_journal.specs.Heads.{open_records, heads_text}
use Rattle.branch_machine.specs.Fixed.{Form, FixedIn}
use Rattle.branch_machine.specs.Objects.{objects_of, objects_text, new_objects, region}
use Rattle.branch_machine.proofs.Valid.{valid-first}
use Rattle.branch_machine.proofs.Pairs.{objects-more}
use Rattle.branch_files.specs.Records.{header_in, record_of, records_after, records_of, IsKnownIn, AreKnown, history_text}
use Rattle.branch_files.specs.Stands.{Spans}

-- what begins with a text is the text, and more
pub begins-more : (text file : List ℕ) → Begins text file → IsLonger text file
begins-more text file begins = record { more = drop (length text) file; is = sym (take-append-drop (length text) file) ∙ ap (λ (l : List ℕ). l ++ drop (length text) file) begins }

pub more-begins : (text file : List ℕ) → IsLonger text file → Begins text file
more-begins text file longer = ap (take (length text)) longer.is ∙ take-append_seam text longer.more

pub longer-trans : {X : Type 0} (a b c : List X) → IsLonger a b → IsLonger b c → IsLonger a c
longer-trans a b c p q = record { more = p.more ++ q.more; is = q.is ∙ ap (λ l. l ++ q.more) p.is ∙ append_assoc a p.more q.more }

pub longer-length : {X : Type 0} (a b : List X) → IsLonger a b → length a ≤ length b
longer-length a b p = omega (arith, ap length p.is, length-append a p.more)

all-parts : {X : Type 0} (P : X → Type 0) (xs ys : List X) → AllByRecursion P (xs ++ ys) → AllByRecursion P xs × AllByRecursion P ys
all-parts P [] ys all = (tt, all)
all-parts P (x ∷ xs) ys all = let parts = all-parts P xs ys all.1 in ((all.0, parts.0), parts.1)

all-append : {X : Type 0} (P : X → Type 0) (xs ys : List X) → AllByRecursion P xs → AllByRecursion P ys → AllByRecursion P (xs ++ ys)
all-append P [] ys all more = more
all-append P (x ∷ xs) ys all more = (all.0, all-append P xs ys all.1 more)

open_records-append : (rs qs : List Record) → open_records (rs ++ qs) ≡ open_records rs ++ open_records qs
open_records-append [] qs = refl
open_records-append (r ∷ rs) qs = ap (λ (l : List ℕ). 1 ∷ (record_fields r ++ l)) (open_records-append rs qs) ∙ ap (λ (l : List ℕ). 1 ∷ l) (sym (append_assoc (record_fields r) (open_records rs) (open_records qs)))

file-append : (version : ℕ) (stored more : Stored) → file_in version (stored ++ more) ≡ file_in version stored ++ concat more
file-append version stored more = ap (λ (l : List ℕ). header_of version ++ l) (concat-append stored more) ∙ sym (append_assoc (header_of version) (concat stored) (concat more))

heads-append : (h : Header) (rs qs : List Record) → heads_text h (rs ++ qs) ≡ heads_text h rs ++ open_records qs
heads-append h rs qs = ap (λ (l : List ℕ). 1 ∷ (header_fields h ++ l)) (open_records-append rs qs) ∙ ap (λ (l : List ℕ). 1 ∷ l) (sym (append_assoc (header_fields h) (open_records rs) (open_records qs)))

module _ {S O R Q A : Type 0} {form : Form} (fixed : FixedIn form S O R Q A) where
  after-append : (before first second : List (Move O R)) → records_after fixed before (first ++ second) ≡ records_after fixed before first ++ records_after fixed (before ++ first) second
  after-append before [] second = ap (λ (b : List (Move O R)). records_after fixed b second) (sym (append-nil before))
  after-append before (m ∷ ms) second =
      ap (λ (l : List Record). record_of fixed before m ∷ l)
      (after-append (before ++ m ∷ []) ms second ∙ ap (λ (b : List (Move O R)). records_after fixed (before ++ m ∷ []) ms ++ records_after fixed b second) (append_assoc before (m ∷ []) ms))

  pub records-append : (first second : List (Move O R)) → records_of fixed (first ++ second) ≡ records_of fixed first ++ records_after fixed first second
  unfolding records_of
  records-append first second = after-append [] first second

  pub history-append : (first second : List (Move O R)) → history_text fixed (first ++ second) ≡ history_text fixed first ++ open_records (records_after fixed first second)
  history-append first second = ap (heads_text (header_in form fixed.terms)) (records-append first second) ∙ heads-append (header_in form fixed.terms) (records_of fixed first) (records_after fixed first second)

  pub history-longer : (first second : List (Move O R)) → IsLonger (history_text fixed first) (history_text fixed (first ++ second))
  history-longer first second = record { more = open_records (records_after fixed first second); is = history-append first second }

  pub records-more : (moves : List (Move O R)) (m : Move O R) → records_of fixed (moves ++ m ∷ []) ≡ records_of fixed moves ++ record_of fixed moves m ∷ []
  records-more moves m = records-append moves (m ∷ [])

  -- no records are of other kinds
  pub none-known : AreKnown fixed []
  unfolding records_of
  none-known = tt

  -- the first of records of known kinds are
  pub known-first : (first second : List (Move O R)) → AreKnown fixed (first ++ second) → AreKnown fixed first
  known-first first second known = (all-parts (IsKnownIn form.version) (records_of fixed first) (records_after fixed first second) (subst (AllByRecursion (IsKnownIn form.version)) (records-append first second) known)).0

  -- and so is the last
  pub known-last : (moves : List (Move O R)) (m : Move O R) → AreKnown fixed (moves ++ m ∷ []) → IsKnownIn form.version (record_of fixed moves m)
  known-last moves m known = (all-parts (IsKnownIn form.version) (records_of fixed moves) (record_of fixed moves m ∷ []) (subst (AllByRecursion (IsKnownIn form.version)) (records-more moves m) known)).1.0

  -- one more record of a known kind
  pub known-with : (moves more : List (Move O R)) (r : Record) → records_of fixed (moves ++ more) ≡ records_of fixed moves ++ r ∷ [] → AreKnown fixed moves → IsKnownIn form.version r → AreKnown fixed (moves ++ more)
  known-with moves more r are known is = subst (AllByRecursion (IsKnownIn form.version)) (sym are) (all-append (IsKnownIn form.version) (records_of fixed moves) (r ∷ []) known (is, tt))

  pub known-more : (moves : List (Move O R)) (m : Move O R) → AreKnown fixed moves → IsKnownIn form.version (record_of fixed moves m) → AreKnown fixed (moves ++ m ∷ [])
  known-more moves m known is = known-with moves (m ∷ []) (record_of fixed moves m) (records-more moves m) known is

  -- one more move
  pub history-more : (moves : List (Move O R)) (m : Move O R) → history_text fixed (moves ++ m ∷ []) ≡ history_text fixed moves ++ 1 ∷ record_fields (record_of fixed moves m)
  history-more moves m = history-append moves (m ∷ []) ∙ ap (λ (l : List ℕ). history_text fixed moves ++ 1 ∷ l) (append-nil (record_fields (record_of fixed moves m)))

  pub objects_text-more : (moves : List (Move O R)) (m : Move O R) → objects_text fixed (moves ++ m ∷ []) ≡ objects_text fixed moves ++ region fixed moves m
  objects_text-more moves m = ap (file_in form.version) (objects-more fixed moves m) ∙ file-append form.version (objects_of fixed moves) (fresh (objects_of fixed moves) (new_objects fixed moves m))

  pub objects-longer : (first second : List (Move O R)) → IsLonger (objects_text fixed first) (objects_text fixed (first ++ second))
  objects-longer first [] = record { more = []; is = ap (objects_text fixed) (append-nil first) ∙ sym (append-nil (objects_text fixed first)) }
  objects-longer first (m ∷ ms) =
      subst (λ (all : List (Move O R)). IsLonger (objects_text fixed first) (objects_text fixed all)) (append_assoc first (m ∷ []) ms)
      (longer-trans (objects_text fixed first) (objects_text fixed (first ++ m ∷ [])) (objects_text fixed ((first ++ m ∷ []) ++ ms)) (record { more = region fixed first m; is = objects_text-more first m }) (objects-longer (first ++ m ∷ []) ms))

  -- files have the first part of what they have
  pub spans-first : (files : Files) (first second : List (Move O R)) → Spans fixed (first ++ second) files → Spans fixed first files
  spans-first files first second spans = record {
    valid = valid-first fixed first second spans.valid;
    objects = more-begins (objects_text fixed first) files.objects
        (longer-trans (objects_text fixed first) (objects_text fixed (first ++ second)) files.objects (objects-longer first second) (begins-more (objects_text fixed (first ++ second)) files.objects spans.objects));
    heads = more-begins (history_text fixed first) files.heads
        (longer-trans (history_text fixed first) (history_text fixed (first ++ second)) files.heads (history-longer first second) (begins-more (history_text fixed (first ++ second)) files.heads spans.heads));
    gate = let less = longer-length (history_text fixed first) (history_text fixed (first ++ second)) (history-longer first second) in let more = spans.gate in omega arith;
    known = known-first first second spans.known;
  }
