-- The lines of clients, what became of these, and what is left of the store on which they worked.
use Rattle.std.proofs.Common.{suc, ◌≡◌, ℕ, ◌+◌, ◌<◌, List, [], ◌∷◌, ◌++◌, length, take, length-take-le, refl, ap, sym, subst, ◌∙◌, append_assoc, append-nil, inl, inr, arith}
use Rattle.std.specs.Prelude.{Option, Some, None, IfSome, IsSome, IfOk, OnErr, Result, Ok, Err, slice_get}
use Rattle.std.specs.Io.KnownBytes.{Appends}
use Rattle.std.specs.List.{AllByRecursion}
use mathlib.Core.List.{IsPrefix}
use Rattle.branch_io.specs.Causes.{Rose}
use Rattle.branch_disk.specs.Disk.{Files}
use Rattle.branch_files.specs.Laws.{ReadsWhatStands}
use Rattle.branch_files.specs.Stands.{Stands}
use Rattle.branch_history.specs.declared.moves.Move.{Move}
use Rattle.branch_machine.specs.Laws.{HasFullyValidPrefixes}
use Rattle.branch_machine.specs.Validity.{IsFullyValid}
use Rattle.branch_shared.specs.Crashes.{StandsFrom}
use Rattle.branch_command.specs.Work.{Clients}
use Rattle.branch_gen.specs.Clients.{client_steps}
use Rattle.parallel_clients.specs.declared.outcome.ClientRefusal.{ClientRefusal}
use Rattle.parallel_clients.specs.declared.outcome.ClientRefusal.TheVariants as refused
use Rattle.parallel_clients.specs.declared.outcome.Outcome.{Outcome}
use Rattle.parallel_clients.specs.declared.outcome.Outcome.TheVariants as outcome
use Rattle.parallel_clients.specs.Outcomes.{Setting, setting}
use Rattle.client_runs.specs.Worked.{HasWorked, HaveWorked}
use Rattle.store_core.specs.Images.{AllStand, WithFirst}
use Rattle.branch_shell.specs.declared.status.Status.{Status}
use Rattle.branch_shell.specs.declared.status.Status.TheVariants.{Done, Usage, StoreRefused, DiskFault, ReadFault, WriteFault, LineTooLong, InputTooLong, Memory}
use Rattle.branch_shell.specs.Counts.{HasReason, SaysReason}
use Rattle.branch_shell.specs.Once.{Answers, WroteOnce}
use Rattle.branch_shell.specs.Stores.{Stored, ReadsAsStore}
use Rattle.branch_shell.specs.Bundling.{fixed_for}
use Rattle.branch_shell.specs.Together.{client_line, both_texts, client_lines, with_history, CameTogether, ReadsFrom, ReadsWithFirst, FindsBranch, FindsAll, IsFault, TellsFault, SomeTellFault, StopsFor}
use Rattle.branch_shell.specs.Values.{ValueType}

-- two texts that there are
record BothThere (a b : Option (List ℕ)) (text : List ℕ) : Type 0 where
  first : List ℕ
  second : List ℕ
  first_is : a ≡ Some first
  second_is : b ≡ Some second
  text_is : text ≡ first ++ second

both_there : (a b : Option (List ℕ)) (text : List ℕ) → both_texts a b ≡ Some text → BothThere a b text
both_there None b text is = absurd (cc is)
both_there (Some a) None text is = absurd (cc is)
both_there (Some a) (Some b) text is = record { first = a; second = b; first_is = refl; second_is = refl; text_is = sym (cc is) }

-- the line of one client more
pub one_line_more : (n : ℕ) (outcomes : List Outcome) (one : Outcome) (lines line : List ℕ) → client_lines n outcomes ≡ Some lines → client_line (n + length outcomes) one ≡ Some line
    → client_lines n (outcomes ++ one ∷ []) ≡ Some (lines ++ line)
one_line_more n [] one lines line told is =
    let none : lines ≡ [] = sym (cc told) in
    let at : n + 0 ≡ n = omega arith in
    ap (λ o. both_texts o (Some [])) (ap (λ k. client_line k one) (sym at) ∙ is) ∙ ap Some (append-nil line ∙ ap (λ (t : List ℕ). t ++ line) (sym none))
one_line_more n (o ∷ os) one lines line told is =
    let both = both_there (client_line n o) (client_lines (n + 1) os) lines told in
    let at : (n + 1) + length os ≡ n + suc (length os) = omega arith in
    let rest = one_line_more (n + 1) os one both.second line both.second_is (ap (λ k. client_line k one) at ∙ is) in
    ap (λ a. both_texts a (client_lines (n + 1) (os ++ one ∷ []))) both.first_is ∙ ap (both_texts (Some both.first)) rest
    ∙ ap Some (sym (append_assoc both.first both.second line) ∙ ap (λ (t : List ℕ). t ++ line) (sym both.text_is))

-- the lines of the clients up to one of them were written
pub record MoreWritten (outcomes : List Outcome) (k : ℕ) (old new : List ℕ) : Type 0 where
  pub lines : List ℕ
  pub told : client_lines 0 (take (k + 1) outcomes) ≡ Some lines
  pub written : new ≡ old ++ lines

pub one_more_written : (outcomes : List Outcome) (k : ℕ) (one : Outcome) (lines old mid new : List ℕ) → k < length outcomes → take (k + 1) outcomes ≡ take k outcomes ++ one ∷ [] → client_lines 0 (take k outcomes) ≡ Some lines
    → mid ≡ old ++ lines → IsSome (client_line k one) → IfSome (client_line k one) (λ line. new ≡ mid ++ line) → MoreWritten outcomes k old new
one_more_written outcomes k one lines old mid new within more told front there added = by_line (client_line k one) refl there added
  where
    by_line : (o : Option (List ℕ)) → client_line k one ≡ o → IsSome o → IfSome o (λ line. new ≡ mid ++ line) → MoreWritten outcomes k old new
    by_line None is some new_is = absurd (cc some)
    by_line (Some line) is some new_is =
        let at : 0 + length (take k outcomes) ≡ k = omega (arith, length-take-le k outcomes (omega (arith, within))) in
        record {
          lines = lines ++ line;
          told = ap (client_lines 0) more ∙ one_line_more 0 (take k outcomes) one lines line told (ap (λ n. client_line n one) at ∙ is);
          written = new_is ∙ ap (λ (t : List ℕ). t ++ line) front ∙ append_assoc old lines line;
        }

-- what is true of each item of a list
each_item : {X : Type 0} (P : X → Type 0) (xs : List X) → ((k : ℕ) (x : X) → slice_get xs k ≡ Some x → P x) → AllByRecursion P xs
each_item P [] each = tt
each_item P (x ∷ xs) each = (each 0 x refl, each_item P xs (λ k y is. each (suc k) y is))

pub stops_map : (P Q : Type 0) (status : Status) → (P → Q) → StopsFor P status → StopsFor Q status
stops_map P Q Done f stops = stops
stops_map P Q Usage f stops = stops
stops_map P Q StoreRefused f stops = stops
stops_map P Q DiskFault f stops = f stops
stops_map P Q ReadFault f stops = stops
stops_map P Q WriteFault f stops = stops
stops_map P Q LineTooLong f stops = stops
stops_map P Q InputTooLong f stops = stops
stops_map P Q Memory f stops = stops

-- what became of clients of drawn steps
module _ {S O R Q A : Type 0} (on : Setting S O R Q A) (old new : List (Move O R)) (faults count steps number : ℕ) (outcomes : List Outcome) (worked : HaveWorked on old new faults count steps number outcomes) where
  finds_branch : (client step : ℕ) (refusal : ClientRefusal) (places : List ℕ) → HasWorked on old new faults (client_steps client steps number) (outcome.Refused step refusal places) → FindsBranch refusal
  finds_branch client step (refused.UnknownBranch name) places h = h.may
  finds_branch client step (refused.Dropped branch) places h = tt
  finds_branch client step refused.KeepsMain places h = tt
  finds_branch client step (refused.Exhausted clock) places h = tt
  finds_branch client step (refused.FullCommits n) places h = tt
  finds_branch client step (refused.FullBranches n) places h = tt
  finds_branch client step (refused.FullMoves n) places h = tt
  finds_branch client step (refused.ValueTooLarge size) places h = tt
  finds_branch client step (refused.Collision address stored fresh) places h = tt
  finds_branch client step refused.NoSequences places h = h.may
  finds_branch client step refused.DiskFault places h = tt
  finds_branch client step (refused.Failed n) places h = tt
  finds_branch client step refused.Memory places h = tt

  finds_own : (client : ℕ) (one : Outcome) → HasWorked on old new faults (client_steps client steps number) one → FindsAll one
  finds_own client (outcome.Done places) h = tt
  finds_own client (outcome.Refused step refusal places) h = finds_branch client step refusal places h
  finds_own client (outcome.Unseen step places) h = h.may

  pub finds_all : AllByRecursion FindsAll outcomes
  finds_all = each_item FindsAll outcomes (λ client one is. finds_own client one (worked.each client one is))

  fault_of_step : (client step : ℕ) (refusal : ClientRefusal) (places : List ℕ) → HasWorked on old new faults (client_steps client steps number) (outcome.Refused step refusal places) → IsFault refusal
      → Rose on.opened (on.opened + faults)
  fault_of_step client step (refused.UnknownBranch name) places h fault = absurd fault
  fault_of_step client step (refused.Dropped branch) places h fault = absurd fault
  fault_of_step client step refused.KeepsMain places h fault = absurd fault
  fault_of_step client step (refused.Exhausted clock) places h fault = absurd fault
  fault_of_step client step (refused.FullCommits n) places h fault = absurd fault
  fault_of_step client step (refused.FullBranches n) places h fault = absurd fault
  fault_of_step client step (refused.FullMoves n) places h fault = absurd fault
  fault_of_step client step (refused.ValueTooLarge size) places h fault = absurd fault
  fault_of_step client step (refused.Collision address stored fresh) places h fault = absurd fault
  fault_of_step client step refused.NoSequences places h fault = absurd fault
  fault_of_step client step refused.DiskFault places h fault = h.is.comes.refused
  fault_of_step client step (refused.Failed n) places h fault = h.is.comes.refused.1
  fault_of_step client step refused.Memory places h fault = absurd fault

  fault_of_one : (client : ℕ) (one : Outcome) → HasWorked on old new faults (client_steps client steps number) one → TellsFault one → Rose on.opened (on.opened + faults)
  fault_of_one client (outcome.Done places) h fault = absurd fault
  fault_of_one client (outcome.Refused step refusal places) h fault = fault_of_step client step refusal places h fault
  fault_of_one client (outcome.Unseen step places) h fault = absurd fault

  -- a fault of the disk that a client tells came since the store was opened
  pub fault_rose : SomeTellFault outcomes → Rose on.opened (on.opened + faults)
  fault_rose some = fault_of_one some.0 some.1 (worked.each some.0 some.1 some.2) some.3

-- what stands for a store, or for a part of its moves, reads as it
module _ {S O R Q A : Type 0} (of : ValueType S O R Q A) (address : List ℕ → List ℕ) (reads : ReadsWhatStands of.meaning) (store : Stored O R) where
  pub reads_all : (history : List (Move O R)) → IsFullyValid (fixed_for of.meaning address store) history → (images : Files → Type 0) → AllStand (fixed_for of.meaning address store) history images
      → (c : Files) → images c → ReadsAsStore of.meaning address (with_history store history) c
  reads_all history valid images stand c left = reads store.terms address history c valid (stand c left)

  module _ (prefixes : HasFullyValidPrefixes of.meaning) (whole : List (Move O R)) (valid : IsFullyValid (fixed_for of.meaning address store) whole) where
    reads_part : (moves : List (Move O R)) → IsPrefix moves whole → (c : Files) → Stands (fixed_for of.meaning address store) moves c → ReadsAsStore of.meaning address (with_history store moves) c
    reads_part moves within c stands =
        let so = subst (IsFullyValid (fixed_for of.meaning address store)) (sym within.1) valid in
        reads store.terms address moves c (prefixes store.terms address moves within.0 so) stands

    pub reads_from : (c : Files) → StandsFrom (fixed_for of.meaning address store) store.history whole c → ReadsFrom of address store whole c
    reads_from c is = record { moves = is.moves; begins = is.begins; within = is.within; reads = reads_part is.moves is.within c is.stands }

    pub reads_first : (history more : List (Move O R)) → history ++ more ≡ whole → (c : Files) → WithFirst (fixed_for of.meaning address store) history more c → ReadsWithFirst of address store history more c
    reads_first history more is c with_first =
        let first = with_first.0 in
        let within : IsPrefix (history ++ first) whole = (with_first.1.0, append_assoc history first with_first.1.0 ∙ ap (λ (l : List (Move O R)). history ++ l) with_first.1.1 ∙ is) in
        (first, with_first.1, reads_part (history ++ first) within c with_first.2)

-- the history that a store came to by clients, or by none
pub came_together : {E : Type 0} {S O R Q A : Type 0} (of : ValueType S O R Q A) (address : List ℕ → List ℕ) (store : Stored O R) (clients : Clients) (history : List (Move O R)) (opened since : ℕ) (r : Result (List Outcome) E) → IsPrefix store.history history → IsFullyValid (fixed_for of.meaning address store) history
    → IfOk r (HaveWorked (setting (fixed_for of.meaning address store) of.forms opened) store.history history since clients.count clients.work.steps clients.work.number) → OnErr r (history ≡ store.history) → CameTogether of address store clients history
came_together of address store clients history opened since (Ok outcomes) grown valid worked idle = inr (outcomes, record { opened = opened; since = since; grown = grown; valid = valid; worked = worked })
came_together of address store clients history opened since (Err e) grown valid worked idle = inl idle

-- the counts where the disk's count stays as it was: it may stand at its last value
pub reason_stays : (success refused : List ℕ → Type 0) (n k0 k1 d0 d1 : ℕ) (g0 g1 : Option (List ℕ)) (status : Status) → Answers success refused status g0 g1 → d1 ≡ d0 → (status ≡ DiskFault → Rose d0 d1)
    → SaysReason k0 k1 status → HasReason (record { source = n; sink = k0; disk = d0 }) (record { source = n; sink = k1; disk = d1 }) status
reason_stays success refused n k0 k1 d0 d1 g0 g1 Done w same rose says = (refl, says, same)
reason_stays success refused n k0 k1 d0 d1 g0 g1 Usage w same rose says = (refl, says, same)
reason_stays success refused n k0 k1 d0 d1 g0 g1 StoreRefused w same rose says = (refl, says, same)
reason_stays success refused n k0 k1 d0 d1 g0 g1 DiskFault w same rose says = (rose refl, refl, says)
reason_stays success refused n k0 k1 d0 d1 g0 g1 ReadFault w same rose says = absurd w.2
reason_stays success refused n k0 k1 d0 d1 g0 g1 WriteFault w same rose says = (says, inl (refl, same))
reason_stays success refused n k0 k1 d0 d1 g0 g1 LineTooLong w same rose says = (refl, says, same)
reason_stays success refused n k0 k1 d0 d1 g0 g1 InputTooLong w same rose says = (refl, says, same)
reason_stays success refused n k0 k1 d0 d1 g0 g1 Memory w same rose says = (refl, says, same)

-- what was written tells no misuse; and of a run that is done all of it
pub never_usage : (success refused : List ℕ → Type 0) (status : Status) (g0 g1 : Option (List ℕ)) → Answers success refused status g0 g1 → status ≡ Usage → ⊥
never_usage success refused status g0 g1 w is = subst (λ (s : Status). WroteOnce success refused s w.0) is w.2

pub all_said : (success refused : List ℕ → Type 0) (status : Status) (g0 g1 : Option (List ℕ)) → Answers success refused status g0 g1 → status ≡ Done → (text : List ℕ) × Appends g0 g1 text × success text
all_said success refused status g0 g1 w is = (w.0, w.1, subst (λ (s : Status). WroteOnce success refused s w.0) is w.2)
