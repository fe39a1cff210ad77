-- The rule of the word: what holds between any two atomic steps, and what a step tells the one that makes it.
use Rattle.std.specs.Prelude.{◌≡◌, ℕ, ◌+◌, ◌≤◌, true, List, [], ◌∷◌, ◌++◌, length}
use mathlib.Core.Option.{some}
use mathlib.Core.List.{IsPrefix}
use lib.ListN.{get_elem?}
use Rattle.branch_front.specs.declared.seat_view.SeatView.{SeatView}
use Rattle.branch_front.specs.declared.rule.Counts.{Counts}
use Rattle.branch_front.specs.Lists.{RisesWithin, total, times, once_within, AreAllWithin, AreDistinct, AreSomeWithin}
use Rattle.branch_front.specs.SeatViews.{with_entry}

-- how a view stands to the writer's: its list begins the writer's, and its faults are no more, nor are those that it heard of.
-- The lengths at which its own entries landed rise within its list. It has a receipt for each entry that it claims, and none
-- with no part
pub record Fits {M : Type 0} (begun : ℕ) (writer v : SeatView M) : Type 0 where
  pub moves : IsPrefix v.moves writer.moves
  pub faults : v.faults ≤ writer.faults
  pub mine : RisesWithin begun v.mine (begun + length v.moves)
  pub counted : v.receipts ≡ length (v.mine ++ v.others)
  pub idle : v.parts ≡ 0 → v.receipts ≡ 0
  pub heard : IsPrefix v.heard writer.moves
  pub heard_faults : v.heard_faults ≤ writer.faults

-- this seat is the writer's and no other is, and each view fits the writer's
pub record Seated {M : Type 0} (begun seat : ℕ) (writer : SeatView M) (views : List (SeatView M)) : Type 0 where
  pub here : get_elem? views seat ≡ some writer
  pub writes : writer.writes ≡ true
  pub alone : (by : ℕ) (v : SeatView M) → get_elem? views by ≡ some v → v.writes ≡ true → by ≡ seat
  pub each : (by : ℕ) (v : SeatView M) → get_elem? views by ≡ some v → Fits begun writer v

-- the word is the length of the history, of which the writer has seen all that came since the word's first value. The parts
-- of all views are those that the front was made with, and their receipts are as many as the entries that came. Each of these
-- entries is claimed by one view, once, and no other number by any
pub record CountsOneHistory {M : Type 0} (counts : Counts) (words : List ℕ) (views : List (SeatView M)) : Type 0 where
  pub seat : ℕ
  pub writer : SeatView M
  pub seated : Seated counts.begun seat writer views
  pub word : words ≡ (counts.begun + length writer.moves) ∷ []
  pub parts : total (λ v. v.parts) views ≡ counts.parts
  pub receipts : total (λ v. v.receipts) views ≡ length writer.moves
  pub claims : (n : ℕ) → total (λ v. times n (v.mine ++ v.others)) views ≡ once_within counts.begun (counts.begun + length writer.moves) n

-- the word was the length, and the entry stands behind all others, at a length above those of the caller's earlier ones. With it
-- the caller's view claims entries that came, each once
pub record Added {M : Type 0} (entry : List M) (begun : ℕ) (old : SeatView M) (found : ℕ) (new : SeatView M) : Type 0 where
  pub word : found ≡ begun + length old.moves
  pub after : new ≡ with_entry entry begun old
  pub mine : RisesWithin begun new.mine (found + 1)
  pub claims : AreSomeWithin begun (new.mine ++ new.others) (found + 1)

-- the writer's faults are those told. It learns that the word is the length, how what it heard stands to what it knows,
-- that it claims entries that came, each once, and that it has all receipts and claims all entries where it has all parts
pub record WriterLooked {M : Type 0} (begun parts faults : ℕ) (old : SeatView M) (found : ℕ) (new : SeatView M) : Type 0 where
  pub after : new ≡ record old { faults = faults }
  pub word : found ≡ begun + length old.moves
  pub mine : RisesWithin begun old.mine (begun + length old.moves)
  pub heard : IsPrefix old.heard old.moves
  pub heard_faults : old.heard_faults ≤ old.faults
  pub receipts : old.receipts ≤ length old.moves
  pub all : old.parts ≡ parts → old.receipts ≡ length old.moves
  pub counted : old.receipts ≡ length (old.mine ++ old.others)
  pub claims : AreSomeWithin begun (old.mine ++ old.others) (begun + length old.moves)
  pub every : old.parts ≡ parts → AreAllWithin begun (old.mine ++ old.others) (begun + length old.moves)

-- nothing changes. A caller learns that what it heard begins its list, where that is as long, and that it claims no entry twice
pub record CallerLooked {M : Type 0} (old : SeatView M) (found : ℕ) (new : SeatView M) : Type 0 where
  pub after : new ≡ old
  pub heard : length old.heard ≤ length old.moves → IsPrefix old.heard old.moves
  pub receipts : old.receipts ≤ found
  pub claims : AreDistinct (old.mine ++ old.others)
