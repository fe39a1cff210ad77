-- Commits of another store that are made anew on commits that are here.
use Rattle.std.specs.Prelude.{◌≡◌, ℕ, ◌+◌, List, [], ◌∷◌, length, Some}
use Rattle.std.specs.declared.option.Option.{Option}
use Rattle.mrdt_model.specs.Laws.{Meaning}
use Rattle.branch_names.specs.declared.layout.Layout.{Layout}
use Rattle.branch_names.specs.declared.terms.Terms.{Terms}
use Rattle.branch_history.specs.declared.moves.Move.{Move}
use Rattle.branch_history.specs.Commits.{Commit, clock_of, greatest_clock, visible, visible_at_all}
use Rattle.branch_history.specs.History.{store_of}
use Rattle.branch_history.specs.Machine.{turn, makes, event_made}
use Rattle.branch_history.specs.Steps as machine
use Rattle.branch_history.specs.Validity.{IsStep, IsValid}
use Rattle.store_seen.specs.declared.answers.RemakeRefused.{RemakeRefused}
use Rattle.store_seen.specs.declared.answers.RemakeRefused.TheVariants as remake_refusal
use Rattle.store_seen.specs.declared.answers.ReceiveRefused.{ReceiveRefused}
use Rattle.store_seen.specs.declared.answers.ReceiveRefused.TheVariants as receive_refusal
use Rattle.store_seen.specs.declared.arrival.Arriving.{Arriving}
use Rattle.store_seen.specs.declared.arrival.Arriving.TheVariants as arriving
use Rattle.store_seen.specs.declared.arrival.WrittenArrival.{WrittenArrival}
use Rattle.store_seen.specs.declared.arrival.WrittenArrival.TheVariants as written
use Rattle.store_seen.specs.Keeps.{kept_spelling, bytes_at, IsSpelledValue, AreSpelled}
use Rattle.store_seen.specs.Views.{CoreView, ArrivalView}

-- the step that receives a merge of an origin with these parents, of which there are some
abbrev pub receive_merge : {O Q : Type 0} → ℕ → List ℕ → machine.Step O Q
receive_merge origin [] = machine.ReceiveMerge origin 0 []
receive_merge origin (h ∷ ms) = machine.ReceiveMerge origin h ms

-- the step that receives what was made anew
abbrev pub step_in : {S O R Q : Type 0} → ℕ → Arriving S O R → machine.Step O Q
step_in origin (arriving.Operation parent clock value op reply spelled) = machine.ReceiveOperation origin parent op
step_in origin (arriving.Merge parents clock value spelled) = receive_merge origin parents

-- a core where a step receives it
abbrev pub arrived_at : {O R Q : Type 0} → CoreView (Move O R) → machine.Step O Q → ArrivalView O R Q
arrived_at core step = record { history = core.history; terms = core.terms; step = step }

-- the core where it was made anew
abbrev pub core_then : {O R Q : Type 0} → ArrivalView O R Q → CoreView (Move O R)
core_then arrival = record { history = arrival.history; terms = arrival.terms }

-- an operation of an origin made anew on a commit: the clock after the commit's, the reply that what is visible there determines, and a value that stands for its event and what it has seen
pub record IsRemadeOperation {S O R Q A : Type 0} (meaning : Meaning S O R Q A) (commits : List (Commit O R)) (origin parent clock : ℕ) (value : S) (op : O) (reply : R) : Type 0 where
  pub timed : clock ≡ clock_of commits parent + 1
  pub known_reply : meaning.is_reply reply
  pub replies : reply ≡ meaning.reply_of (visible commits parent) op
  pub stands : meaning.stands value (event_made meaning commits origin parent op ∷ visible commits parent)

-- a merge made anew: the greatest clock of its parents, and a value that stands for what is visible at one of them
pub record IsRemadeMerge {S O R Q A : Type 0} (meaning : Meaning S O R Q A) (commits : List (Commit O R)) (parents : List ℕ) (clock : ℕ) (value : S) : Type 0 where
  pub timed : clock ≡ greatest_clock commits parents
  pub stands : meaning.stands value (visible_at_all commits parents)

-- what was made anew in a layout, with the spellings of what is to be written of it, and the length of that of the value
abbrev pub IsRemade : {S O R Q A : Type 0} → Meaning S O R Q A → Layout → List (Commit O R) → ℕ → Arriving S O R → Type 0
IsRemade meaning layout commits origin (arriving.Operation parent clock value op reply spelled) = IsRemadeOperation meaning commits origin parent clock value op reply × AreSpelled meaning layout value op reply spelled
IsRemade meaning layout commits origin (arriving.Merge parents clock value spelled) = IsRemadeMerge meaning commits parents clock value × IsSpelledValue meaning layout value spelled

-- a valid history, a step that may receive, and what it receives made anew
pub record IsArrival {S O R Q A : Type 0} (meaning : Meaning S O R Q A) (terms : Terms) (history : List (Move O R)) (origin : ℕ) (made : Arriving S O R) : Type 0 where
  pub valid : IsValid meaning terms history
  pub is_step : IsStep meaning (store_of terms.origin history) (step_in {Q = Q} origin made)
  pub remade : IsRemade meaning terms.layout (store_of terms.origin history).commits origin made

-- what is written of an operation: its parent, the clock after the parent's, the length of the spelling of the value, this spelling where the layout keeps it, and the spellings of the operation and of the reply
pub record IsWrittenOperation {S O R Q A : Type 0} (meaning : Meaning S O R Q A) (layout : Layout) (commits : List (Commit O R)) (origin h : ℕ) (op : O) (parent clock size : ℕ) (value_bytes : Option (List ℕ)) (op_bytes reply_bytes : List ℕ) : Type 0 where
  pub parent_is : parent ≡ h
  pub clock_is : clock ≡ clock_of commits h + 1
  pub size_is : size ≡ length (meaning.spelling_of (event_made meaning commits origin h op ∷ visible commits h))
  pub value_is : value_bytes ≡ kept_spelling layout (meaning.spelling_of (event_made meaning commits origin h op ∷ visible commits h))
  pub op_is : op_bytes ≡ meaning.op_spelling op
  pub reply_is : reply_bytes ≡ meaning.reply_spelling (meaning.reply_of (visible commits h) op)

-- of a merge: its parents, the greatest of their clocks, the length of the spelling of the value of what is visible at one of them, and this spelling where the layout keeps it
pub record IsWrittenMerge {S O R Q A : Type 0} (meaning : Meaning S O R Q A) (layout : Layout) (commits : List (Commit O R)) (all parents : List ℕ) (clock size : ℕ) (value_bytes : Option (List ℕ)) : Type 0 where
  pub parents_are : parents ≡ all
  pub clock_is : clock ≡ greatest_clock commits all
  pub size_is : size ≡ length (meaning.spelling_of (visible_at_all commits all))
  pub value_is : value_bytes ≡ kept_spelling layout (meaning.spelling_of (visible_at_all commits all))

-- what is written in a layout is that of the commit that a step receives
abbrev pub IsWrittenOf : {S O R Q A : Type 0} → Meaning S O R Q A → Layout → List (Commit O R) → machine.Step O Q → WrittenArrival → Type 0
IsWrittenOf meaning layout commits (machine.ReceiveOperation origin h op) (written.Operation parent clock size value_bytes op_bytes reply_bytes) = IsWrittenOperation meaning layout commits origin h op parent clock size (bytes_at value_bytes) op_bytes.now reply_bytes.now
IsWrittenOf meaning layout commits (machine.ReceiveMerge origin h ms) (written.Merge parents clock size value_bytes) = IsWrittenMerge meaning layout commits (h ∷ ms) parents.now clock size (bytes_at value_bytes)
IsWrittenOf meaning layout commits step is = ⊥

abbrev pub IsWrittenArrival : {S O R Q A : Type 0} → Meaning S O R Q A → ArrivalView O R Q → WrittenArrival → Type 0
IsWrittenArrival meaning arrival is = IsWrittenOf meaning arrival.terms.layout (store_of arrival.terms.origin arrival.history).commits arrival.step is

-- the commit has this origin
abbrev pub HasOrigin : {O Q : Type 0} → machine.Step O Q → ℕ → Type 0
HasOrigin (machine.ReceiveOperation origin h op) n = n ≡ origin
HasOrigin (machine.ReceiveMerge origin h ms) n = n ≡ origin
HasOrigin step n = ⊥

-- a merge was not made anew exactly where its step is none
abbrev pub RemakeRefusedAs : {S O R Q A : Type 0} → Meaning S O R Q A → CoreView (Move O R) → machine.Step O Q → RemakeRefused → Type 0
RemakeRefusedAs meaning core step remake_refusal.NotApart = ¬ IsStep meaning (store_of core.terms.origin core.history) step
RemakeRefusedAs meaning core step remake_refusal.Memory = Unit {0}

-- a refusal of the machine to receive is this one
abbrev pub ReceiveRefusedBy : Option machine.Refusal → ReceiveRefused → Type 0
ReceiveRefusedBy refusal receive_refusal.OwnOrigin = refusal ≡ Some machine.OwnOrigin
ReceiveRefusedBy refusal (receive_refusal.TimeClash number) = refusal ≡ Some (machine.TimeClash number)
ReceiveRefusedBy refusal (receive_refusal.Exhausted clock) = refusal ≡ Some (machine.Exhausted clock)
ReceiveRefusedBy refusal (receive_refusal.ValueTooLarge length) = refusal ≡ Some (machine.ValueTooLarge length)
ReceiveRefusedBy refusal (receive_refusal.FullCommits count) = refusal ≡ Some (machine.FullCommits count)
ReceiveRefusedBy refusal (receive_refusal.FullMoves count) = refusal ≡ Some (machine.FullMoves count)
ReceiveRefusedBy refusal receive_refusal.Memory = Unit {0}

-- the machine makes a move of the step now, and answers the number of the new commit
abbrev pub MayReceive : {S O R Q A : Type 0} → Meaning S O R Q A → CoreView (Move O R) → machine.Step O Q → Type 0
MayReceive {S} {O} {R} meaning core step =
    (made : Move O R) × (turn meaning core.terms core.history step ≡ makes made (machine.New (length (store_of core.terms.origin core.history).commits)))
