-- What compacting wrote and left, and the counts of faults then.
use Rattle.std.proofs.Common.{◌≡◌, ◌≢◌, ◌⊎◌, ℕ, List, [], ◌∷◌, length, false, refl, sym, ap, ap₂, subst, ◌∙◌, inl, inr}
use Rattle.std.specs.Prelude.{Option, Some}
use Rattle.branch_disk.specs.declared.disk.Disk.{Ghosts}
use Rattle.branch_disk.specs.Disk.{Files, LeavesOnly}
use Rattle.branch_disk.specs.Moments.{weakened}
use Rattle.branch_files.specs.Reading.{Opens, ReadsAs}
use Rattle.branch_compact.specs.Compact.{compact}
use Rattle.branch_compact.specs.Switch.{current, is_current}
use Rattle.branch_print.specs.Reports.{compacted_text}
use Rattle.store_compact.specs.declared.answers.Which.{Which}
use Rattle.store_compact.specs.declared.answers.Which.TheVariants.{First, Second}
use Rattle.store_compact.specs.declared.answers.Compacted.{Compacted}
use Rattle.store_compact.specs.declared.answers.CompactRefused.{CompactRefused}
use Rattle.store_compact.specs.declared.answers.CompactRefused.TheVariants as refusal
use Rattle.store_compact.specs.Compacting.{first_of, second_of, ReadsEither, Compacts, IsCompacted as IsMade, IsNotCompacted, HasCauseOfEither}
use Rattle.branch_shell.specs.declared.status.Status.{Status}
use Rattle.branch_shell.specs.declared.status.Status.TheVariants.{Done, StoreRefused, DiskFault, WriteFault, Memory}
use Rattle.branch_shell.specs.Counts.{HaveReason}
use Rattle.branch_shell.specs.Once.{Answers, WroteOnce}
use Rattle.branch_shell.specs.Documents.{SaysUnopened}
use Rattle.branch_shell.specs.Stores.{Stored, IsOpenedAs}
use Rattle.branch_shell.specs.Disks.{IsSettled, IsCurrentBy, LeavesAsBefore, StaysSame}
use Rattle.branch_shell.specs.Compacting.{counts_text, view_of, SaysCompacted, StaysAside, Stage, GoInStages, IsCompactedFrom, RanCompact}
use Rattle.std.proofs.KnownBytes.{Appends-nil}
use Rattle.branch_io.specs.Causes.{Rose}
use Rattle.branch_shell.proofs.Once.{answers_map}
use Rattle.branch_shell.proofs.Chosen.{reason_swapped}
use Rattle.branch_shell.specs.Values.{ValueType}

-- one of two disks has failed since, and all other counts are the same
abbrev HaveFailed : ℕ → ℕ → ℕ → ℕ → ℕ → ℕ → Type 0
HaveFailed n k first second first_now second_now =
    HaveReason (record { source = n; sink = k; first = first; second = second })
    (record { source = n; sink = k; first = first_now; second = second_now }) DiskFault

-- one of two disks failed, and the other did not
pub one_failed : (n k first first_now second second_now : ℕ)
    → (Rose first first_now × (second_now ≡ second)) ⊎ ((first_now ≡ first) × Rose second second_now)
    → HaveReason (record { source = n; sink = k; first = first; second = second })
    (record { source = n; sink = k; first = first_now; second = second_now }) DiskFault
one_failed n k first first_now second second_now (inl of_first) = inl ((of_first.0, refl, refl), of_first.1)
one_failed n k first first_now second second_now (inr of_second) = inr ((of_second.1, refl, refl), of_second.0)

-- the current disk and the other, of the first and the second
pub placed_back : {D : Type 0} (which : Which) (first second held other : D)
    → held ≡ first_of which first second → other ≡ second_of which first second
    → (first_of which held other ≡ first) × (second_of which held other ≡ second)
placed_back First first second held other is_held is_other = (is_held, is_other)
placed_back Second first second held other is_held is_other = (is_other, is_held)

-- the stages of a compaction, as those of two disks of which one goes on at a time
module _ {D : Type 0} (disk : Ghosts D) {S O R Q A : Type 0} (of : ValueType S O R Q A) (address : List ℕ → List ℕ) (store : Stored O R) (opened other first second : D) where
  abbrev Either : Files → Files → Type 0
  Either f s = ReadsEither of.meaning address store.terms store.history (current f s)

  abbrev Read : Files → Files → Type 0
  Read f s = ReadsAs of.meaning address (current f s) (Opens store.terms store.history)

  -- who goes from one disk to another, beside images of the other disk
  written : (from to : D) (aside : Files → Type 0) (P Q : Files → Files → Type 0) → ((c f : Files) → P c f → Q c f)
      → LeavesOnly disk.moment disk.left_since from to (λ c. (f : Files) → aside f → P c f) → LeavesOnly disk.moment disk.left_since from to (λ c. (f : Files) → aside f → Q c f)
  written from to aside P Q so all =
      weakened disk.moment disk.left_since from to (λ c. (f : Files) → aside f → P c f) (λ c. (f : Files) → aside f → Q c f) all (λ c p f there. so c f (p f there))

  in_stages : (which : Which) → Compacts disk of.meaning address which (view_of store opened) other first second
      → (all : List (Stage D)) × GoInStages disk Either all (first_of which opened other) (second_of which opened other) first second
  in_stages First s = (
    record { which = Second; to = second } ∷ record { which = First; to = first } ∷ [],
    (written other second (disk.may_leave opened) (λ c f. Read f c) (λ c f. Either f c) (λ c f read. inl read) s.writing, (s.switching, (refl, refl))),
  )
  in_stages Second s = (
    record { which = First; to = s.between } ∷ record { which = First; to = first } ∷ [],
    (written other s.between (disk.may_leave opened) Read Either (λ c f read. inl read) s.writing, (s.switching, (refl, s.kept))),
  )

module _ {D : Type 0} (disk : Ghosts D) {S O R Q A : Type 0} (of : ValueType S O R Q A) (address : List ℕ → List ℕ) (which : Which) (store : Stored O R)
    (opened other first second held_now other_now : D)
    (is_held : held_now ≡ first_of which first second)
    (is_other : other_now ≡ second_of which first second) where
  moved : (status : Status)
      → IsCompactedFrom disk of address which store opened other first second status
      → IsCompactedFrom disk of address which store opened other (first_of which held_now other_now)
      (second_of which held_now other_now) status
  moved status is =
      let back = placed_back which first second held_now other_now is_held is_other in
      subst (λ (s : D). IsCompactedFrom disk of address which store opened other (first_of which held_now other_now) s status) (sym back.1)
      (subst (λ (f : D). IsCompactedFrom disk of address which store opened other f second status) (sym back.0) is)

  -- where it went through
  pub made_so : (counted : Compacted) (status : Status)
      → IsMade disk of.meaning address which (view_of store opened) other counted first second
      → IsCompactedFrom disk of address which store opened other (first_of which held_now other_now)
      (second_of which held_now other_now) status
  made_so counted status is = moved status (record {
    stages = is.moments;
    pairs = in_stages disk of address store opened other first second which is.moments;
    either = λ f s left right. inr (is.reads f s left right);
    complete = λ done. is.reads;
    exact = λ done. is.exact;
  })

  -- and where not
  pub not_made_so : (why : CompactRefused) (status : Status) → status ≢ Done
      → IsNotCompacted disk of.meaning address which (view_of store opened) other why first second
      → IsCompactedFrom disk of address which store opened other (first_of which held_now other_now)
      (second_of which held_now other_now) status
  not_made_so why status other_status is = moved status (record {
    stages = is.moments;
    pairs = in_stages disk of address store opened other first second which is.moments;
    either = is.reads;
    complete = λ done. absurd (other_status done);
    exact = λ done. absurd (other_status done);
  })

  no_cause_of : (w : Which) → held_now ≡ first_of w first second → other_now ≡ second_of w first second
      → disk.faults first ≡ disk.faults (first_of w opened other)
      → disk.faults second ≡ disk.faults (second_of w opened other)
      → (disk.faults held_now ≡ disk.faults opened) × (disk.faults other_now ≡ disk.faults other)
  no_cause_of First h o f s = (ap disk.faults h ∙ f, ap disk.faults o ∙ s)
  no_cause_of Second h o f s = (ap disk.faults h ∙ s, ap disk.faults o ∙ f)

  -- no disk failed
  pub no_cause_so : disk.faults first ≡ disk.faults (first_of which opened other)
      → disk.faults second ≡ disk.faults (second_of which opened other)
      → (disk.faults held_now ≡ disk.faults opened) × (disk.faults other_now ≡ disk.faults other)
  no_cause_so same_first same_second = no_cause_of which is_held is_other same_first same_second

  moved_counts : (n k : ℕ) (h o : D) → held_now ≡ h → other_now ≡ o
      → HaveFailed n k (disk.faults opened) (disk.faults other) (disk.faults h) (disk.faults o)
      → HaveFailed n k (disk.faults opened) (disk.faults other) (disk.faults held_now) (disk.faults other_now)
  moved_counts n k h o is_h is_o failed =
      subst (λ (x : D). HaveFailed n k (disk.faults opened) (disk.faults other) (disk.faults x) (disk.faults other_now)) (sym is_h)
      (subst (λ (x : D). HaveFailed n k (disk.faults opened) (disk.faults other) (disk.faults h) (disk.faults x)) (sym is_o) failed)

  failed_of : (n k : ℕ) (w : Which) → held_now ≡ first_of w first second → other_now ≡ second_of w first second
      → HasCauseOfEither (disk.faults (first_of w opened other)) (disk.faults first)
      (disk.faults (second_of w opened other)) (disk.faults second) refusal.DiskFault
      → HaveFailed n k (disk.faults opened) (disk.faults other) (disk.faults held_now) (disk.faults other_now)
  failed_of n k First h o cause = moved_counts n k first second h o
      (one_failed n k (disk.faults opened) (disk.faults first) (disk.faults other) (disk.faults second) (cause.failed refl))
  failed_of n k Second h o cause = moved_counts n k second first h o
      (reason_swapped n k (disk.faults other) (disk.faults opened) n k (disk.faults first) (disk.faults second) DiskFault
      (one_failed n k (disk.faults other) (disk.faults first) (disk.faults opened) (disk.faults second) (cause.failed refl)))

  -- one of them did
  pub failed_so : (n k : ℕ) → HasCauseOfEither (disk.faults (first_of which opened other)) (disk.faults first)
      (disk.faults (second_of which opened other)) (disk.faults second) refusal.DiskFault
      → HaveReason (record { source = n; sink = k; first = disk.faults opened; second = disk.faults other })
      (record { source = n; sink = k; first = disk.faults held_now; second = disk.faults other_now }) DiskFault
  failed_so n k cause = failed_of n k which is_held is_other cause

  -- why it did not go through, by the counts
  pub refused_reason : (n k : ℕ) (why : CompactRefused) (status : Status)
      → (why ≡ refusal.DiskFault → status ≡ DiskFault) → (why ≡ refusal.Memory → status ≡ Memory)
      → HasCauseOfEither (disk.faults (first_of which opened other)) (disk.faults first)
      (disk.faults (second_of which opened other)) (disk.faults second) why
      → HaveReason (record { source = n; sink = k; first = disk.faults opened; second = disk.faults other })
      (record { source = n; sink = k; first = disk.faults held_now; second = disk.faults other_now }) status
  refused_reason n k refusal.DiskFault status fault memory cause =
      subst (λ (s : Status). HaveReason (record { source = n; sink = k; first = disk.faults opened; second = disk.faults other })
      (record { source = n; sink = k; first = disk.faults held_now; second = disk.faults other_now }) s) (sym (fault refl)) (failed_so n k cause)
  refused_reason n k refusal.Memory status fault memory cause =
      let none = cause.others (λ e. cc e) in
      let same = no_cause_so none.0 none.1 in
      subst (λ (s : Status). HaveReason (record { source = n; sink = k; first = disk.faults opened; second = disk.faults other })
      (record { source = n; sink = k; first = disk.faults held_now; second = disk.faults other_now }) s) (sym (memory refl))
      (inl ((refl, refl, same.0), same.1))

-- what did not go through wrote nothing
pub refused_wrote : (success refused : List ℕ → Type 0) (why : CompactRefused) (status : Status)
    → (why ≡ refusal.DiskFault → status ≡ DiskFault) → (why ≡ refusal.Memory → status ≡ Memory)
    → (g : Option (List ℕ)) → Answers success refused status g g
refused_wrote success refused refusal.DiskFault status fault memory g =
    subst (λ (s : Status). Answers success refused s g g) (sym (fault refl)) ([], Appends-nil g, refl)
refused_wrote success refused refusal.Memory status fault memory g =
    subst (λ (s : Status). Answers success refused s g g) (sym (memory refl)) ([], Appends-nil g, refl)

-- and is neither done nor a fault of the sink
pub refused_status : (why : CompactRefused) (status : Status)
    → (why ≡ refusal.DiskFault → status ≡ DiskFault) → (why ≡ refusal.Memory → status ≡ Memory)
    → (status ≢ Done) × (status ≢ WriteFault)
refused_status refusal.DiskFault status fault memory =
    let is = fault refl in ((λ e. cc (is, e)), λ e. cc (is, e))
refused_status refusal.Memory status fault memory =
    let is = memory refl in ((λ e. cc (is, e)), λ e. cc (is, e))

-- the text of how many moves stay
pub counts_so : {O R : Type 0} (store : Stored O R) (counted : Compacted)
    → counted.kept ≡ length (compact store.terms store.history) → counted.moves ≡ length store.history
    → (status : Status) (g0 g1 : Option (List ℕ))
    → Answers (λ whole. whole ≡ compacted_text counted.kept counted.moves) (λ whole. ⊥) status g0 g1
    → Answers (λ whole. whole ≡ counts_text store) (λ whole. ⊥) status g0 g1
counts_so store counted kept moves status g0 g1 w =
    answers_map (λ whole. whole ≡ compacted_text counted.kept counted.moves) (λ whole. ⊥)
    (λ whole. whole ≡ counts_text store) (λ whole. ⊥)
    (λ whole is. is ∙ ap₂ compacted_text kept moves) (λ whole no. no) status g0 g1 w

-- what has no text of success is not done
pub never_done : (refused : List ℕ → Type 0) (status : Status) (g0 g1 : Option (List ℕ))
    → Answers (λ whole. ⊥) refused status g0 g1 → status ≢ Done
never_done refused status g0 g1 w is =
    subst (λ (s : Status). WroteOnce (λ whole. ⊥) refused s w.0) is w.2

-- a first disk that is not current, each image of which is what it tells
pub aside_so : {D : Type 0} (disk : Ghosts D) (which : Which) (other : D) → IsSettled disk other
    → (which ≡ Second → (f : Files) → disk.contents other ≡ Some f → IsCurrentBy which f) → which ≡ Second
    → (c : Files) → disk.may_leave other c → (disk.contents other ≡ Some c) × (is_current c ≡ false)
aside_so disk which other settled aside is c image =
    let told = settled c image in
    (told, subst (λ (w : Which). IsCurrentBy w c) is (aside is c told))
