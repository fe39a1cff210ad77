use Rattle.std.proofs.Common.{◌≡◌, ◌+◌, ◌≤◌, ℕ, false, Option, Some, None, option_map, if◌then◌else◌, ap, arith, refl}
use Rattle.std.proofs.lemmas.Bool.{le-leb}
use Rattle.clap.proofs.OnLiterals.{clap_on_literals}
use Rattle.branch_command.specs.Commands.{Init, command_of}
use Rattle.branch_command.specs.Numbers.{all_five, number_of, usual}
use Rattle.branch_command.specs.Terms.{TermNumbers, terms_with}
use Rattle.branch_command.specs.Program.{program}
use Rattle.branch_command.proofs.Five.{number_low_high}
use Rattle.branch_command.proofs.laws.options.Goals as goal

only_clock : (o : Option ℕ) → option_map Init (terms_with (all_five o (Some usual.commits) (Some usual.branches) (Some usual.value) (Some usual.moves)) (Some 0) false false) ≡ option_map (λ n. Init (record { limits = record usual { clock = n }; origin = 0; sequences = false; changes = false })) o
only_clock None = refl
only_clock (Some n) = refl

pub returns-clause-clock : goal.returns-clause-clock
unfolding command_of program clap_on_literals
returns-clause-clock c = λ word. only_clock (number_of 18446744073709551615 word)

only_commits : (o : Option ℕ) → option_map Init (terms_with (all_five (Some usual.clock) o (Some usual.branches) (Some usual.value) (Some usual.moves)) (Some 0) false false) ≡ option_map (λ n. Init (record { limits = record usual { commits = n }; origin = 0; sequences = false; changes = false })) o
only_commits None = refl
only_commits (Some n) = refl

pub returns-clause-commits : goal.returns-clause-commits
unfolding command_of program clap_on_literals
returns-clause-commits c = λ word. only_commits (number_of 4294967295 word)

-- so many branches from origin 0 on have origins in range
only_branches : (o : Option ℕ) → ((n : ℕ) → Some n ≡ o → n ≤ 4294967295) → option_map Init (terms_with (all_five (Some usual.clock) (Some usual.commits) o (Some usual.value) (Some usual.moves)) (Some 0) false false) ≡ option_map (λ n. Init (record { limits = record usual { branches = n }; origin = 0; sequences = false; changes = false })) o
only_branches None low = refl
only_branches (Some n) low =
    let small : n ≤ 4294967295 = low n refl in
    let terms : TermNumbers = record { limits = record usual { branches = n }; origin = 0; sequences = false; changes = false } in
    ap (λ b. option_map Init (if b then Some terms else None)) (le-leb (0 + n) 4294967296 (omega (arith, small)))

pub returns-clause-branches : goal.returns-clause-branches
unfolding command_of program clap_on_literals
returns-clause-branches c = λ word. only_branches (number_of 4294967295 word) (λ n said. (number_low_high 4294967295 n word said).1)

only_value : (o : Option ℕ) → option_map Init (terms_with (all_five (Some usual.clock) (Some usual.commits) (Some usual.branches) o (Some usual.moves)) (Some 0) false false) ≡ option_map (λ n. Init (record { limits = record usual { value = n }; origin = 0; sequences = false; changes = false })) o
only_value None = refl
only_value (Some n) = refl

pub returns-clause-value : goal.returns-clause-value
unfolding command_of program clap_on_literals
returns-clause-value c = λ word. only_value (number_of 1073741824 word)

only_moves : (o : Option ℕ) → option_map Init (terms_with (all_five (Some usual.clock) (Some usual.commits) (Some usual.branches) (Some usual.value) o) (Some 0) false false) ≡ option_map (λ n. Init (record { limits = record usual { moves = n }; origin = 0; sequences = false; changes = false })) o
only_moves None = refl
only_moves (Some n) = refl

pub returns-clause-moves : goal.returns-clause-moves
unfolding command_of program clap_on_literals
returns-clause-moves c = λ word. only_moves (number_of 281474976710656 word)

pub returns-clause-twice : goal.returns-clause-twice
unfolding command_of program clap_on_literals
returns-clause-twice c = λ a b. refl

pub returns-clause-origin : goal.returns-clause-origin
unfolding command_of program clap_on_literals
returns-clause-origin c = λ word. refl

pub returns-clause-all : goal.returns-clause-all
unfolding command_of program clap_on_literals
returns-clause-all c = λ a b c d e f. refl

pub returns-clause-sequences : goal.returns-clause-sequences
unfolding command_of program clap_on_literals
returns-clause-sequences c = λ a b c d e f. refl

pub returns-clause-changes : goal.returns-clause-changes
unfolding command_of program clap_on_literals
returns-clause-changes c = λ a b c d e f. refl
