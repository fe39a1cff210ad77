-- What reading the first disk and making its moves again say of an upgrade.
use Rattle.std.proofs.Common.{◌≡◌, ◌≢◌, ◌⊎◌, inl, inr, ℕ, ◌≤◌, List, [], ◌∷◌, ◌++◌, refl, ap, sym, ◌∙◌, subst, Option, Some, arith}
use Rattle.std.specs.Prelude.{Result, Ok, Err}
use Rattle.std.specs.Option.{ForSome}
use Rattle.std.specs.List.{AllByRecursion}
use Rattle.branch_io.specs.Causes.{Rose, HasCauseOf}
use Rattle.branch_disk.specs.Disk.{Files, LeavesOnly}
use Rattle.branch_disk.specs.declared.disk.Disk.{Ghosts}
use Rattle.branch_names.specs.declared.terms.Terms.{Terms}
use Rattle.branch_doc.specs.Forms.{DocOp, DocReply, DocQuery, DocAnswer}
use Rattle.branch_doc.specs.Document.{document}
use Rattle.mrdt_old_doc.specs.OldDocument.{OldDocOp, old_document, renewed_op}
use Rattle.branch_history.specs.declared.moves.Move.{Move}
use Rattle.branch_history.specs.declared.moves.Move.TheVariants as move
use Rattle.branch_machine.specs.Fixed.{FixedIn, fix_in}
use Rattle.branch_machine.specs.Validity.{IsFullyValid}
use Rattle.branch_files.specs.Reading.{Opens, ReadsIn}
use Rattle.branch_files.specs.Records.{record_of, records_after, records_of, IsKnownIn, AreKnown}
use Rattle.branch_renewal.specs.Laws.{IsOfFirstKinds}
use Rattle.store_core.specs.declared.answers.OpenRefused.{OpenRefused}
use Rattle.store_core.specs.declared.answers.OpenRefused.TheVariants as open_refusal
use Rattle.store_core.specs.Inits.{IsEmpty}
use Rattle.store_core.specs.Opens.{old_form, OpenRefusedIn, ReadsOnlyIn, RefusedOnlyIn}
use Rattle.moves_again.specs.declared.answers.MakeRefused.{MakeRefused}
use Rattle.moves_again.specs.declared.answers.MakeRefused.TheVariants as make_refusal
use Rattle.moves_again.specs.Again.{NoneOrSome, MakeRefusedAs}
use Rattle.store_upgrade.specs.declared.answers.UpgradeRefused.{UpgradeRefused}
use Rattle.store_upgrade.specs.declared.answers.UpgradeRefused.TheVariants as refusal
use Rattle.store_upgrade.specs.Upgrades.{open_refused, make_refused, today, moves_today, WasRead, Begun, UpgradeRefusedAs, HasCauseOfEither}

-- the moves of files of version 1 are of the first kinds
module _ {S O R Q A : Type 0} (fixed : FixedIn old_form S O R Q A) where
  first_kind : (before : List (Move O R)) (m : Move O R) → IsKnownIn 1 (record_of fixed before m) → IsOfFirstKinds m
  first_kind before (move.Fork name number from) is = tt
  first_kind before (move.Operation r op reply) is = tt
  first_kind before (move.Merge r m) is = tt
  first_kind before (move.Forward r m) is = tt
  first_kind before (move.Join r ms) is = let h : 5 ≤ 4 = is.within in absurd (omega arith)
  first_kind before (move.Received parents origin clock act) is = let h : 6 ≤ 4 = is.within in absurd (omega arith)
  first_kind before (move.Place name number n) is = let h : 7 ≤ 4 = is.within in absurd (omega arith)
  first_kind before (move.Drop r) is = let h : 8 ≤ 4 = is.within in absurd (omega arith)

  first_kinds_after : (before ms : List (Move O R)) → AllByRecursion (IsKnownIn 1) (records_after fixed before ms) → AllByRecursion IsOfFirstKinds ms
  first_kinds_after before [] known = tt
  first_kinds_after before (m ∷ ms) known = (first_kind before m known.0, first_kinds_after (before ++ m ∷ []) ms known.1)

  pub first-kinds : (moves : List (Move O R)) → AreKnown fixed moves → AllByRecursion IsOfFirstKinds moves
  unfolding records_of
  first-kinds moves known = first_kinds_after [] moves known

module _ {D : Type 0} (disk : Ghosts D) (address : List ℕ → List ℕ) (first second : D) where
  -- the first disk was not read
  pub not-read : (e : OpenRefused) → ForSome (disk.contents first) (OpenRefusedIn old_form old_document address e)
      → ForSome (disk.contents first) (RefusedOnlyIn old_form old_document address e) → UpgradeRefusedAs disk address first second second (open_refused e)
  not-read open_refusal.NotAStore is only = ((λ f told. (is f told, only f told)), refl)
  not-read (open_refusal.BadRecord number) is only = ((λ f told. (is f told, only f told)), refl)
  not-read (open_refusal.Truncated part place) is only = ((λ f told. (is f told, only f told)), refl)
  not-read (open_refusal.BadObject place) is only = ((λ f told. (is f told, only f told)), refl)
  not-read (open_refusal.BadCommit number) is only = ((λ f told. (is f told, only f told)), refl)
  not-read open_refusal.DiskFault is only = inl refl
  not-read open_refusal.Memory is only = inl refl

  module _ (terms : Terms) (moves : List (Move OldDocOp DocReply)) (now : D)
      (reads : ForSome (disk.contents first) (λ f. ReadsIn old_form old_document address f (Opens terms moves)))
      (only : ForSome (disk.contents first) (ReadsOnlyIn old_form old_document address (Opens terms moves)))
      (valid : IsFullyValid (fix_in old_form old_document terms address) moves)
      (moments : ((c : Files) → disk.may_leave second c → IsEmpty c) → LeavesOnly disk.moment disk.left_since second now (NoneOrSome (today address terms) (moves_today moves))) where
    abbrev pub begun : Begun disk address first second now
    begun = record { terms = terms; moves = moves; read = record { reads = λ f told. (reads f told, only f told); valid = valid }; moments = moments }

    -- its moves were not all made again
    pub not-made : (e : MakeRefused) → MakeRefusedAs (today address terms) (moves_today moves) (disk.contents second) (disk.contents now) (disk.may_leave now) e
        → UpgradeRefusedAs disk address first second now (make_refused e)
    not-made (make_refusal.NotEmpty length) is = (begun, is.0, is.1)
    not-made (make_refusal.Refused number) is = (begun, is.0, is.1)
    not-made make_refusal.DiskFault is = inr begun
    not-made make_refusal.Memory is = inr begun

-- a fault of the first disk, where nothing was done to the second
pub cause-first : {T : Type 0} (a b c : ℕ) (e : OpenRefused) → HasCauseOf {T = T} open_refusal.DiskFault a b (Err e) → HasCauseOfEither a b c c (open_refused e)
cause-first a b c open_refusal.NotAStore cause = record { first_later = cause.later; second_later = omega arith; failed = λ is. absurd (cc); others = λ _. (cause.others (λ is. cc), refl) }
cause-first a b c (open_refusal.BadRecord number) cause = record { first_later = cause.later; second_later = omega arith; failed = λ is. absurd (cc); others = λ _. (cause.others (λ is. cc), refl) }
cause-first a b c (open_refusal.Truncated part place) cause = record { first_later = cause.later; second_later = omega arith; failed = λ is. absurd (cc); others = λ _. (cause.others (λ is. cc), refl) }
cause-first a b c (open_refusal.BadObject place) cause = record { first_later = cause.later; second_later = omega arith; failed = λ is. absurd (cc); others = λ _. (cause.others (λ is. cc), refl) }
cause-first a b c (open_refusal.BadCommit number) cause = record { first_later = cause.later; second_later = omega arith; failed = λ is. absurd (cc); others = λ _. (cause.others (λ is. cc), refl) }
cause-first a b c open_refusal.DiskFault cause = record { first_later = cause.later; second_later = omega arith; failed = λ _. inl (cause.failed refl, refl); others = λ other. absurd (other refl) }
cause-first a b c open_refusal.Memory cause = record { first_later = cause.later; second_later = omega arith; failed = λ is. absurd (cc); others = λ _. (cause.others (λ is. cc), refl) }

-- of neither
pub cause-neither : (a b c : ℕ) → b ≡ a → HasCauseOfEither a b c c refusal.Memory
cause-neither a b c same = record { first_later = omega arith; second_later = omega arith; failed = λ is. absurd (cc); others = λ _. (same, refl) }

-- and of the second
pub cause-second : {T : Type 0} (a b c d : ℕ) → b ≡ a → (e : MakeRefused) → HasCauseOf {T = T} make_refusal.DiskFault c d (Err e) → HasCauseOfEither a b c d (make_refused e)
cause-second a b c d same (make_refusal.NotEmpty length) cause = record { first_later = omega arith; second_later = cause.later; failed = λ is. absurd (cc); others = λ _. (same, cause.others (λ is. cc)) }
cause-second a b c d same (make_refusal.Refused number) cause = record { first_later = omega arith; second_later = cause.later; failed = λ is. absurd (cc); others = λ _. (same, cause.others (λ is. cc)) }
cause-second a b c d same make_refusal.DiskFault cause = record { first_later = omega arith; second_later = cause.later; failed = λ _. inr (same, cause.failed refl); others = λ other. absurd (other refl) }
cause-second a b c d same make_refusal.Memory cause = record { first_later = omega arith; second_later = cause.later; failed = λ is. absurd (cc); others = λ _. (same, cause.others (λ is. cc)) }
