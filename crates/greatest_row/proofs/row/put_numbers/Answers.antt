use Rattle.std.proofs.Common.{◌≡◌, ◌∷◌, ◌+◌, subst, get_or, drop}
use Rattle.std.proofs.lemmas.List.{drop_more}
use Rattle.branch_wire.specs.Fields.{number}
use Rattle.branch_wire.proofs.Parts.{on-err}
use Rattle.live_set.proofs.Writing.{PutSoFar, so_far-part}
use Rattle.greatest_row.specs.Rows.{row_spelling}
use Rattle.greatest_row.proofs.row.put_numbers.Goals as goal

pub returns-in_err-put_u64-clause-err : goal.returns-in_err-put_u64-clause-err
returns-in_err-put_u64-clause-err c =
    let old = c.args.out.now.items in
    let out = c.loop-number.out.items in
    let xs = c.args.numbers.now in
    let i = c.loop-number.number-index in
    let next : drop i xs ≡ get_or xs i 0 ∷ drop (i + 1) xs = drop_more xs i 0 c.loop-number-test.true in
    let so_far = subst (λ ys. PutSoFar old out (row_spelling ys) (row_spelling xs)) next c.loop-number.invariant in
    on-err c.from_residual.result (so_far-part old out c.put_u64.new.out.items (number (get_or xs i 0)) (row_spelling (drop (i + 1) xs)) (row_spelling xs) so_far c.in_err-put_u64.ensures.err)
