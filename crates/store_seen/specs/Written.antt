-- What is written of a prepared work.
use Rattle.std.specs.Prelude.{◌≡◌, ℕ, ◌+◌, ◌<◌, ◌≤◌, All, List, [], ◌∷◌, length}
use Rattle.std.specs.declared.option.Option.{Option}
use Rattle.mrdt_model.specs.Laws.{Meaning}
use Rattle.branch_history.specs.declared.moves.Move.{Move}
use Rattle.branch_history.specs.Commits.{clock_of, greatest_clock, visible, visible_at_all}
use Rattle.branch_history.specs.History.{store_of}
use Rattle.branch_history.specs.Machine.{event_made}
use Rattle.store_seen.specs.declared.prepared.Written.{Written}
use Rattle.store_seen.specs.declared.prepared.Written.TheVariants as written
use Rattle.store_seen.specs.Keeps.{kept_spelling, bytes_at}
use Rattle.store_seen.specs.Views.{SeenView, PreparedView, Work, Operation, Merge, Join, Forward}

-- of an operation: the clock after the head's, the length of the spelling of the value of what is visible there with the new event, this spelling where the layout keeps it, and the spellings of the operation and of the reply that what is visible determines
pub record IsWrittenOperation {S O R Q A : Type 0} (meaning : Meaning S O R Q A) (seen : SeenView (Move O R)) (op : O) (reply : R) (clock size : ℕ) (value_bytes : Option (List ℕ)) (op_bytes reply_bytes : List ℕ) : Type 0 where
  pub clock_is : clock ≡ clock_of (store_of seen.terms.origin seen.history).commits seen.head + 1
  pub replies : reply ≡ meaning.reply_of (visible (store_of seen.terms.origin seen.history).commits seen.head) op
  pub size_is : size ≡ length (meaning.spelling_of (event_made meaning (store_of seen.terms.origin seen.history).commits (seen.terms.origin + seen.branch) seen.head op ∷ visible (store_of seen.terms.origin seen.history).commits seen.head))
  pub value_is :
      value_bytes
      ≡ kept_spelling seen.terms.layout
      (meaning.spelling_of (event_made meaning (store_of seen.terms.origin seen.history).commits (seen.terms.origin + seen.branch) seen.head op ∷ visible (store_of seen.terms.origin seen.history).commits seen.head))
  pub op_is : op_bytes ≡ meaning.op_spelling op
  pub reply_is : reply_bytes ≡ meaning.reply_spelling reply

-- of a merge of a commit of the history: this commit, the greater of the two clocks, the length of the spelling of the value of what is visible at either, and this spelling where the layout keeps it
pub record IsWrittenMerge {S O R Q A : Type 0} (meaning : Meaning S O R Q A) (seen : SeenView (Move O R)) (commit other clock size : ℕ) (value_bytes : Option (List ℕ)) : Type 0 where
  pub other_is : other ≡ commit
  pub there : commit < length (store_of seen.terms.origin seen.history).commits
  pub clock_is : clock ≡ greatest_clock (store_of seen.terms.origin seen.history).commits (seen.head ∷ commit ∷ [])
  pub size_is : size ≡ length (meaning.spelling_of (visible_at_all (store_of seen.terms.origin seen.history).commits (seen.head ∷ commit ∷ [])))
  pub value_is : value_bytes ≡ kept_spelling seen.terms.layout (meaning.spelling_of (visible_at_all (store_of seen.terms.origin seen.history).commits (seen.head ∷ commit ∷ [])))

-- of a join of two to eight commits of the history: these commits, the greatest of all clocks, the length of the spelling of the value of what is visible at the head or one of them, and this spelling where the layout keeps it
pub record IsWrittenJoin {S O R Q A : Type 0} (meaning : Meaning S O R Q A) (seen : SeenView (Move O R)) (commits others : List ℕ) (clock size : ℕ) (value_bytes : Option (List ℕ)) : Type 0 where
  pub others_are : others ≡ commits
  pub there : All (λ n. n < length (store_of seen.terms.origin seen.history).commits) commits
  pub several : 2 ≤ length commits
  pub few : length commits ≤ 8
  pub clock_is : clock ≡ greatest_clock (store_of seen.terms.origin seen.history).commits (seen.head ∷ commits)
  pub size_is : size ≡ length (meaning.spelling_of (visible_at_all (store_of seen.terms.origin seen.history).commits (seen.head ∷ commits)))
  pub value_is : value_bytes ≡ kept_spelling seen.terms.layout (meaning.spelling_of (visible_at_all (store_of seen.terms.origin seen.history).commits (seen.head ∷ commits)))

-- what is written is that of the work: of a move up, the commit
abbrev pub IsWrittenWork : {S O R Q A : Type 0} → Meaning S O R Q A → SeenView (Move O R) → Work O R → Written → Type 0
IsWrittenWork meaning seen (Operation op reply) (written.Operation clock size value_bytes op_bytes reply_bytes) = IsWrittenOperation meaning seen op reply clock size (bytes_at value_bytes) op_bytes.now reply_bytes.now
IsWrittenWork meaning seen (Operation op reply) (written.Merge other clock size value_bytes) = ⊥
IsWrittenWork meaning seen (Operation op reply) (written.Join others clock size value_bytes) = ⊥
IsWrittenWork meaning seen (Operation op reply) (written.Forward other) = ⊥
IsWrittenWork meaning seen (Merge commit) (written.Operation clock size value_bytes op_bytes reply_bytes) = ⊥
IsWrittenWork meaning seen (Merge commit) (written.Merge other clock size value_bytes) = IsWrittenMerge meaning seen commit other clock size (bytes_at value_bytes)
IsWrittenWork meaning seen (Merge commit) (written.Join others clock size value_bytes) = ⊥
IsWrittenWork meaning seen (Merge commit) (written.Forward other) = ⊥
IsWrittenWork meaning seen (Join commits) (written.Operation clock size value_bytes op_bytes reply_bytes) = ⊥
IsWrittenWork meaning seen (Join commits) (written.Merge other clock size value_bytes) = ⊥
IsWrittenWork meaning seen (Join commits) (written.Join others clock size value_bytes) = IsWrittenJoin meaning seen commits others.now clock size (bytes_at value_bytes)
IsWrittenWork meaning seen (Join commits) (written.Forward other) = ⊥
IsWrittenWork meaning seen (Forward commit) (written.Operation clock size value_bytes op_bytes reply_bytes) = ⊥
IsWrittenWork meaning seen (Forward commit) (written.Merge other clock size value_bytes) = ⊥
IsWrittenWork meaning seen (Forward commit) (written.Join others clock size value_bytes) = ⊥
IsWrittenWork meaning seen (Forward commit) (written.Forward other) = (other ≡ commit) × (commit < length (store_of seen.terms.origin seen.history).commits)

abbrev pub IsWritten : {S O R Q A : Type 0} → Meaning S O R Q A → PreparedView O R → Written → Type 0
IsWritten meaning made is = IsWrittenWork meaning made.seen made.work is
