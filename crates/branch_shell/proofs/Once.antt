-- What was written that no line is answered with, and the counts of faults then.
use Rattle.std.proofs.Common.{◌≡◌, ◌≢◌, ℕ, List, refl, sym, ap, subst, inl, inr}
use Rattle.std.specs.Prelude.{Option, Some, IsSome, Err, ◌↔◌}
use Rattle.std.specs.Option.{ForSome}
use Rattle.branch_io.specs.Causes.{HasCauseOf}
use Rattle.mrdt_model.specs.Laws.{Meaning}
use Rattle.branch_disk.specs.Disk.{Files}
use Rattle.branch_files.specs.Reading.{ReadsAsOf, NotAStore, BadRecord, BadObject, BadCommit, Truncated}
use Rattle.store_core.specs.Opens.{OpenRefusedAs, ReadsAsNone}
use Rattle.store_core.specs.declared.answers.OpenRefused.{OpenRefused}
use Rattle.store_core.specs.declared.answers.OpenRefused.TheVariants as refusal
use Rattle.branch_shell.specs.declared.status.Status.{Status}
use Rattle.branch_shell.specs.declared.status.Status.TheVariants.{Done, Usage, StoreRefused, DiskFault, ReadFault, WriteFault, LineTooLong, InputTooLong, Memory}
use Rattle.branch_shell.specs.Counts.{HasReason, SaysReason}
use Rattle.branch_shell.specs.declared.unopened.Unopened.{Unopened}
use Rattle.branch_shell.specs.declared.unopened.Unopened.TheVariants.{OldVersion, Refused}
use Rattle.branch_shell.specs.Refusals.{FoundAs, UnopenedAs, open_refusal_text, unopened_text}
use Rattle.branch_shell.specs.Stores.{SaysRefused}
use Rattle.branch_shell.specs.Once.{WroteOnce, Answers, Says}

-- a text that was said
module _ (success refused : List ℕ → Type 0) (text : List ℕ) (result : Status) (g0 g1 : Option (List ℕ)) (before now : ℕ) where
  pub said_done : success text → Says text Done result g0 g1 before now → Answers success refused result g0 g1
  said_done ok (inl (is, gave, same)) = (text, gave, subst (λ (s : Status). WroteOnce success refused s text) (sym is) ok)
  said_done ok (inr (is, gives, rose)) = (gives.part, gives.given, subst (λ (s : Status). WroteOnce success refused s gives.part) (sym is) (text, inl ok, (gives.rest, gives.whole)))

  pub said_refused : refused text → Says text StoreRefused result g0 g1 before now → Answers success refused result g0 g1
  said_refused ok (inl (is, gave, same)) = (text, gave, subst (λ (s : Status). WroteOnce success refused s text) (sym is) ok)
  said_refused ok (inr (is, gives, rose)) = (gives.part, gives.given, subst (λ (s : Status). WroteOnce success refused s gives.part) (sym is) (text, inr ok, (gives.rest, gives.whole)))

pub reason_done : (text : List ℕ) (result : Status) (g0 g1 : Option (List ℕ)) (before now : ℕ) → Says text Done result g0 g1 before now → SaysReason before now result
reason_done text result g0 g1 before now (inl (is, gave, same)) = subst (SaysReason before now) (sym is) same
reason_done text result g0 g1 before now (inr (is, gives, rose)) = subst (SaysReason before now) (sym is) rose

pub reason_refused : (text : List ℕ) (result : Status) (g0 g1 : Option (List ℕ)) (before now : ℕ) → Says text StoreRefused result g0 g1 before now → SaysReason before now result
reason_refused text result g0 g1 before now (inl (is, gave, same)) = subst (SaysReason before now) (sym is) same
reason_refused text result g0 g1 before now (inr (is, gives, rose)) = subst (SaysReason before now) (sym is) rose

-- other texts, each of which is one of these
pub wrote_map : (success refused success' refused' : List ℕ → Type 0) → ((whole : List ℕ) → success whole → success' whole) → ((whole : List ℕ) → refused whole → refused' whole)
    → (status : Status) (text : List ℕ) → WroteOnce success refused status text → WroteOnce success' refused' status text
wrote_map success refused success' refused' f g Done text w = f text w
wrote_map success refused success' refused' f g Usage text w = w
wrote_map success refused success' refused' f g StoreRefused text w = g text w
wrote_map success refused success' refused' f g DiskFault text w = w
wrote_map success refused success' refused' f g ReadFault text w = w
wrote_map success refused success' refused' f g WriteFault text (whole, (inl is), part) = (whole, inl (f whole is), part)
wrote_map success refused success' refused' f g WriteFault text (whole, (inr is), part) = (whole, inr (g whole is), part)
wrote_map success refused success' refused' f g LineTooLong text w = w
wrote_map success refused success' refused' f g InputTooLong text w = w
wrote_map success refused success' refused' f g Memory text w = w

pub answers_map : (success refused success' refused' : List ℕ → Type 0) → ((whole : List ℕ) → success whole → success' whole) → ((whole : List ℕ) → refused whole → refused' whole)
    → (status : Status) (g0 g1 : Option (List ℕ)) → Answers success refused status g0 g1 → Answers success' refused' status g0 g1
answers_map success refused success' refused' f g status g0 g1 w = (w.0, w.1, wrote_map success refused success' refused' f g status w.0 w.2)

-- what is said of a refusal to open is what the files read as
module _ {S O R Q A T P X B C : Type 0} (kind : ℕ) (meaning : Meaning S O R Q A) (old : Meaning T P X B C)
    (address : List ℕ → List ℕ) (told : Option Files) where
  pub says_refused : (u : Unopened) → ForSome told (UnopenedAs kind meaning old address u)
      → (IsSome (unopened_text u) → ForSome told (ReadsAsNone kind meaning address))
      → (text : List ℕ) → unopened_text u ≡ Some text → SaysRefused kind meaning old address told text
  says_refused OldVersion is none text says = (
    NotAStore,
    record { reads = λ f t. (is f t).0; no_store = none refl },
    inr ((λ f t. (is f t).1), sym (cc says)),
  )
  says_refused (Refused refusal.NotAStore) is none text says = (
    NotAStore,
    record { reads = λ f t. (is f t).0; no_store = none refl },
    inl ((λ f t. (is f t).1), sym (cc says)),
  )
  says_refused (Refused (refusal.BadRecord number)) is none text says =
      (BadRecord number, record { reads = is; no_store = none refl }, sym (cc says))
  says_refused (Refused (refusal.BadObject place)) is none text says =
      (BadObject place, record { reads = is; no_store = none refl }, sym (cc says))
  says_refused (Refused (refusal.BadCommit number)) is none text says =
      (BadCommit number, record { reads = is; no_store = none refl }, sym (cc says))
  says_refused (Refused (refusal.Truncated part place)) is none text says =
      (Truncated part place, record { reads = is; no_store = none refl }, sym (cc says))
  says_refused (Refused refusal.DiskFault) is none text says = absurd (cc says)
  says_refused (Refused refusal.Memory) is none text says = absurd (cc says)

-- what files read as no store read as in the old version too, so is why they are not opened
pub unopened_so : {S O R Q A T P X B C : Type 0} (kind : ℕ) (meaning : Meaning S O R Q A) (old : Meaning T P X B C)
    (address : List ℕ → List ℕ) (u : Unopened) (files : Files) → ReadsAsOf kind meaning address files NotAStore
    → FoundAs old address u files → UnopenedAs kind meaning old address u files
unopened_so kind meaning old address OldVersion files none found = (none, found)
unopened_so kind meaning old address (Refused refusal.NotAStore) files none found = (none, found)
unopened_so kind meaning old address (Refused refusal.DiskFault) files none found = found
unopened_so kind meaning old address (Refused refusal.Memory) files none found = found
unopened_so kind meaning old address (Refused (refusal.BadRecord number)) files none found = absurd found
unopened_so kind meaning old address (Refused (refusal.BadObject place)) files none found = absurd found
unopened_so kind meaning old address (Refused (refusal.BadCommit number)) files none found = absurd found
unopened_so kind meaning old address (Refused (refusal.Truncated part place)) files none found = absurd found

-- and what is refused otherwise is refused so
pub unopened_else : {S O R Q A T P X B C : Type 0} (kind : ℕ) (meaning : Meaning S O R Q A) (old : Meaning T P X B C)
    (address : List ℕ → List ℕ) (r : OpenRefused) (files : Files) → r ≢ refusal.NotAStore
    → OpenRefusedAs kind meaning address r files → UnopenedAs kind meaning old address (Refused r) files
unopened_else kind meaning old address refusal.NotAStore files other is = absurd (other refl)
unopened_else kind meaning old address refusal.DiskFault files other is = is
unopened_else kind meaning old address refusal.Memory files other is = is
unopened_else kind meaning old address (refusal.BadRecord number) files other is = is
unopened_else kind meaning old address (refusal.BadObject place) files other is = is
unopened_else kind meaning old address (refusal.BadCommit number) files other is = is
unopened_else kind meaning old address (refusal.Truncated part place) files other is = is

-- a refusal with a text comes neither of the disk nor of the memory
pub has_text : (r : OpenRefused) → IsSome (open_refusal_text r)
    → (r ≢ refusal.DiskFault) × (r ≢ refusal.Memory)
has_text refusal.NotAStore is = ((λ e. cc e), λ e. cc e)
has_text (refusal.BadRecord number) is = ((λ e. cc e), λ e. cc e)
has_text (refusal.BadObject place) is = ((λ e. cc e), λ e. cc e)
has_text (refusal.BadCommit number) is = ((λ e. cc e), λ e. cc e)
has_text (refusal.Truncated part place) is = ((λ e. cc e), λ e. cc e)
has_text refusal.DiskFault is = absurd (cc is)
has_text refusal.Memory is = absurd (cc is)

pub wrapped_cause : (d0 d1 : ℕ) (r : OpenRefused)
    → HasCauseOf {T = Unit {0}} refusal.DiskFault d0 d1 (Err r)
    → HasCauseOf {T = Unit {0}} (Refused refusal.DiskFault) d0 d1 (Err (Refused r))
wrapped_cause d0 d1 r cause = record {
  later = cause.later;
  failed = λ e. let same : r ≡ refusal.DiskFault = cc e in cause.failed (ap Err same);
  others = λ n. cause.others (λ e. n (let same : r ≡ refusal.DiskFault = cc e in ap (λ x. Err (Refused x)) same));
}

-- the counts where the disk did not fail
pub reason_said : (success refused : List ℕ → Type 0) (n k0 k1 d0 d1 : ℕ) (g0 g1 : Option (List ℕ)) (status : Status) → Answers success refused status g0 g1 → d1 ≡ d0 → status ≢ DiskFault → SaysReason k0 k1 status
    → HasReason (record { source = n; sink = k0; disk = d0 }) (record { source = n; sink = k1; disk = d1 }) status
reason_said success refused n k0 k1 d0 d1 g0 g1 Done w same other says = (refl, says, same)
reason_said success refused n k0 k1 d0 d1 g0 g1 Usage w same other says = (refl, says, same)
reason_said success refused n k0 k1 d0 d1 g0 g1 StoreRefused w same other says = (refl, says, same)
reason_said success refused n k0 k1 d0 d1 g0 g1 DiskFault w same other says = absurd (other refl)
reason_said success refused n k0 k1 d0 d1 g0 g1 ReadFault w same other says = absurd w.2
reason_said success refused n k0 k1 d0 d1 g0 g1 WriteFault w same other says = (says, inl (refl, same))
reason_said success refused n k0 k1 d0 d1 g0 g1 LineTooLong w same other says = (refl, says, same)
reason_said success refused n k0 k1 d0 d1 g0 g1 InputTooLong w same other says = (refl, says, same)
reason_said success refused n k0 k1 d0 d1 g0 g1 Memory w same other says = (refl, says, same)

-- and where it may have
pub reason_opening : (success refused : List ℕ → Type 0) (n k0 k1 d0 d1 : ℕ) (g0 g1 : Option (List ℕ)) (r : Unopened) (status : Status) → Answers success refused status g0 g1
    → HasCauseOf {T = Unit {0}} (Refused refusal.DiskFault) d0 d1 (Err r) → (status ≡ DiskFault) ↔ (r ≡ (Refused refusal.DiskFault)) → SaysReason k0 k1 status
    → HasReason (record { source = n; sink = k0; disk = d0 }) (record { source = n; sink = k1; disk = d1 }) status
reason_opening success refused n k0 k1 d0 d1 g0 g1 r DiskFault w cause fault says = (cause.failed (cc (fault.0 refl)), refl, says)
reason_opening success refused n k0 k1 d0 d1 g0 g1 r Done w cause fault says = reason_said success refused n k0 k1 d0 d1 g0 g1 Done w (cause.others (λ e. absurd (let f = fault.1 (cc e) in cc f))) (λ e. cc) says
reason_opening success refused n k0 k1 d0 d1 g0 g1 r Usage w cause fault says = absurd w.2
reason_opening success refused n k0 k1 d0 d1 g0 g1 r StoreRefused w cause fault says = reason_said success refused n k0 k1 d0 d1 g0 g1 StoreRefused w (cause.others (λ e. absurd (let f = fault.1 (cc e) in cc f))) (λ e. cc) says
reason_opening success refused n k0 k1 d0 d1 g0 g1 r ReadFault w cause fault says = absurd w.2
reason_opening success refused n k0 k1 d0 d1 g0 g1 r WriteFault w cause fault says = reason_said success refused n k0 k1 d0 d1 g0 g1 WriteFault w (cause.others (λ e. absurd (let f = fault.1 (cc e) in cc f))) (λ e. cc) says
reason_opening success refused n k0 k1 d0 d1 g0 g1 r LineTooLong w cause fault says = absurd w.2
reason_opening success refused n k0 k1 d0 d1 g0 g1 r InputTooLong w cause fault says = absurd w.2
reason_opening success refused n k0 k1 d0 d1 g0 g1 r Memory w cause fault says = reason_said success refused n k0 k1 d0 d1 g0 g1 Memory w (cause.others (λ e. absurd (let f = fault.1 (cc e) in cc f))) (λ e. cc) says

-- where the sink failed, the disk did not
pub not_behind : (d0 d1 : ℕ) (r : Unopened) (status : Status) → HasCauseOf {T = Unit {0}} (Refused refusal.DiskFault) d0 d1 (Err r) → (status ≡ DiskFault) ↔ (r ≡ (Refused refusal.DiskFault)) → status ≡ WriteFault → d1 ≡ d0
not_behind d0 d1 r status cause fault is = cause.others (λ e. let f = fault.1 (cc e) in absurd (cc (f, is)))

-- success or a fault of the sink is no fault of the disk
pub done_is_no_fault : (text : List ℕ) (result : Status) (g0 g1 : Option (List ℕ)) (before now : ℕ) → Says text Done result g0 g1 before now → result ≡ DiskFault → ⊥
done_is_no_fault text result g0 g1 before now (inl (is, gave, same)) fault = absurd (cc (is, fault))
done_is_no_fault text result g0 g1 before now (inr (is, gives, rose)) fault = absurd (cc (is, fault))
