use Rattle.std.proofs.Common.{◌≡◌, ◌++◌, List, ℕ, refl}
use Rattle.branch_history.specs.Steps.{Refusal, UnknownBranch, NameTaken, Dropped, KeepsMain, Stale, Exhausted, FullCommits, FullBranches, FullMoves, ValueTooLarge, OwnOrigin, TimeClash, BadBundle, Collision}
use Rattle.branch_print.specs.Texts.{refusal_text, line_end}
use Rattle.branch_print.specs.Summaries.{word_of, refusal_word}
use Rattle.branch_print.proofs.laws.counts_outcomes.Goals as goal

by_refusal : (branch : List ℕ) (refusal : Refusal) → word_of (refusal_text branch refusal ++ line_end) ≡ refusal_word refusal
by_refusal branch (UnknownBranch name) = refl
by_refusal branch (NameTaken number) = refl
by_refusal branch (Dropped number) = refl
by_refusal branch KeepsMain = refl
by_refusal branch (Stale newest) = refl
by_refusal branch (Exhausted clock) = refl
by_refusal branch (FullCommits count) = refl
by_refusal branch (FullBranches count) = refl
by_refusal branch (FullMoves count) = refl
by_refusal branch (ValueTooLarge size) = refl
by_refusal branch OwnOrigin = refl
by_refusal branch (TimeClash number) = refl
by_refusal branch BadBundle = refl
by_refusal branch (Collision address stored fresh) = refl

pub returns-clause-refused : goal.returns-clause-refused
returns-clause-refused g c takes session branch refusal = by_refusal branch refusal
