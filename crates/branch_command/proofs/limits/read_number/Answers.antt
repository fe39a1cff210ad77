use Rattle.std.proofs.Common.{◌≡◌, ◌∙◌, Some, None, true, nat_le, if◌then◌else◌, ap, arith, sym}
use Rattle.std.specs.Prelude.{slice_get}
use Rattle.std.proofs.lemmas.Bool.{le-leb}
use Rattle.branch_command.proofs.Digits.{number_read, up_to}
use Rattle.branch_command.proofs.limits.read_number.Goals as goal

pub returns-then-number-most : goal.returns-then-number-most
returns-then-number-most c =
    let first = c.in_ok-first.ensures.value ∙ ap (λ bs. slice_get bs 0) c.as_bytes.ensures.value in
    let read = number_read c.args.most c.in_ok-first.first.now c.args.word.now c.parse.result first
    (sym c.if-not-is_ascii_digit.ensures.value) c.if-first-eq48.false (omega (arith, c.ranges.most.fits)) c.parse.ensures.value.0 in
    let small : nat_le c.in-Ok.number c.args.most ≡ true = le-leb _ _ c.if-number-most.true in
    sym (ap (λ b. if b then Some c.in-Ok.number else None) small) ∙ sym (ap (up_to c.args.most) c.in-Ok.is) ∙ read

pub returns-in-Err : goal.returns-in-Err
returns-in-Err c =
    let first = c.in_ok-first.ensures.value ∙ ap (λ bs. slice_get bs 0) c.as_bytes.ensures.value in
    let read = number_read c.args.most c.in_ok-first.first.now c.args.word.now c.parse.result first
    (sym c.if-not-is_ascii_digit.ensures.value) c.if-first-eq48.false (omega (arith, c.ranges.most.fits)) c.parse.ensures.value.0 in
    sym (ap (up_to c.args.most) c.in-Err.is) ∙ read
