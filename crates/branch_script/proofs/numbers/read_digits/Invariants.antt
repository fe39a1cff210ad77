use Rattle.std.proofs.Common.{◌≡◌, drop}
use Rattle.branch_script.specs.Numbers.{read_on}
use Rattle.branch_script.proofs.numbers.read_digits.Given as goal

abbrev pub invariant-loop-digit : goal.invariant-loop-digit
invariant-loop-digit l = read_on 0 l.word ≡ read_on l.value (drop l.digit-index l.word)
