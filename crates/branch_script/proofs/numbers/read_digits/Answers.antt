use Rattle.std.proofs.Common.{◌≤◌, ◌<◌, ◌*◌, ◌+◌, ◌^◌, arith}
use Rattle.branch_script.specs.Numbers.{read_on}
use Rattle.branch_script.proofs.Digits.{read_on-drop_ge}
use Rattle.branch_script.proofs.numbers.read_digits.Goals as goal

pub returns-in_err-checked_mul-clause-none : goal.returns-in_err-checked_mul-clause-none
returns-in_err-checked_mul-clause-none c =
    let large = read_on-drop_ge c.loop-digit.value c.loop-digit.digit-index c.args.word.now c.loop-digit-test.true in
    let big : c.loop-digit.value * 10 < 2 ^ 64 → ⊥ = c.in_err-checked_mul.ensures in
    let all : 2 ^ 64 ≤ read_on 0 c.args.word.now = omega (arith, large, big, c.loop-digit.invariant) in
    rw c.from_residual.ensures all

pub returns-in_err-value-clause-none : goal.returns-in_err-value-clause-none
returns-in_err-value-clause-none c =
    let large = read_on-drop_ge c.loop-digit.value c.loop-digit.digit-index c.args.word.now c.loop-digit-test.true in
    let big : c.in_ok-checked_mul.field-0 + c.from.result < 2 ^ 64 → ⊥ = c.in_err-value.ensures in
    let all : 2 ^ 64 ≤ read_on 0 c.args.word.now = omega (arith, large, big, c.loop-digit.invariant, c.in_ok-checked_mul.ensures, c.from.ensures) in
    rw c.from_residual-in_err-value.ensures all
