use Rattle.std.proofs.Common.{◌≡◌, ◌++◌, ℕ, List, [], codes, subst, rules}
use Rattle.std.proofs.lemmas.List.{append-nil}
use Rattle.mrdt_model.specs.Spelled.{AppendsPart}
use Rattle.branch_wire.proofs.Parts.{on-err}
use Rattle.branch_print.proofs.Written.{each-part}
use Rattle.branch_print.proofs.pieces.put_each.Goals as goal

pub returns-in_err-put_pieces-clause-err : goal.returns-in_err-put_pieces-clause-err
returns-in_err-put_pieces-clause-err c =
    let item = c.item-item.result in
    let old = c.loop-item.out.items in
    let new = c.put_pieces.new.out.items in
    let bytes : c.as_slice.result.now ≡ item = search rules in
    let same : codes " " ++ (c.as_slice.result.now ++ []) ≡ codes " " ++ item = simp (bytes, append-nil) in
    on-err c.from_residual.result (each-part (λ (item : List ℕ). codes " " ++ item) c.args.items.now c.loop-item.item-index item item c.args.out.now.items old new
    c.loop-item-test.true c.item-item.is c.loop-item.invariant (subst (AppendsPart old new) same c.in_err-put_pieces.ensures.err))
