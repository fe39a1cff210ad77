use Rattle.std.proofs.Common.{◌≡◌, ◌∙◌, ℕ, Option, Some, List, ap, codes}
use Rattle.std.proofs.lemmas.Option.{IfSome_then}
use Rattle.clap.specs.Matches.{found_of}
use Rattle.clap.specs.Walk.{Row, first_of, rows_of}
use Rattle.branch_command.specs.Numbers.{Numbers, number_or}
use Rattle.branch_command.proofs.Five.{Reads, all_read, in_range, never_none}
use Rattle.branch_command.proofs.limits.read_limits.Goals as goal
use Rattle.branch_command.proofs.limits.read_limits.Goals.{After-new}

given : After-new → List Row
given c = rows_of (found_of c.args.given.now)

numbers : After-new → Numbers
numbers c = record {
  clock = c.in_ok-clock.clock;
  commits = c.in_ok-commits.commits;
  branches = c.in_ok-branches.branches;
  value = c.in_ok-value.value;
  moves = c.in_ok-moves.moves;
}

usually : (most a b n : ℕ) (o : Option (List ℕ)) → a ≡ b → Some n ≡ number_or most a o → Some n ≡ number_or most b o
usually most a b n o same e = e ∙ ap (λ (u : ℕ). number_or most u o) same

reads : (c : After-new) → Reads (given c) (numbers c)
unfolding given numbers
reads c = record {
  clock = usually 18446744073709551615 _ _ _ (first_of (codes "max-clock") (given c)) c.default-usual.ensures.0 c.in_ok-clock.ensures;
  commits = usually 4294967295 _ _ _ (first_of (codes "max-commits") (given c)) (c.from.ensures ∙ c.default-usual.ensures.1) c.in_ok-commits.ensures;
  branches = usually 4294967295 _ _ _ (first_of (codes "max-branches") (given c)) (c.from-2.ensures ∙ c.default-usual.ensures.2) c.in_ok-branches.ensures;
  value = usually 1073741824 _ _ _ (first_of (codes "max-value") (given c)) c.default-usual.ensures.3 c.in_ok-value.ensures;
  moves = usually 281474976710656 _ _ _ (first_of (codes "max-moves") (given c)) c.default-usual.ensures.4 c.in_ok-moves.ensures;
}

pub returns-clause-some : goal.returns-clause-some
unfolding given numbers
returns-clause-some c = IfSome_then c.new.result c.new.ensures.numbers (λ limits h. (numbers c, all_read (given c) (numbers c) (reads c), h))

pub returns-clause-none : goal.returns-clause-none
unfolding given numbers
returns-clause-none c = never_none c.new.result _ (c.new.ensures.in_range.1 (in_range (given c) (numbers c) (reads c)))
