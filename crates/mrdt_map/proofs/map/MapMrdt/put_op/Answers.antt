use Rattle.std.proofs.Common.{◌≡◌, ◌++◌, ◌∙◌, ap, subst, List, ℕ}
use Rattle.std.proofs.lemmas.Result.{on_err_weaker}
use Rattle.mrdt_model.specs.Spelled.{AppendsPart}
use Rattle.branch_wire.specs.Fields.{field}
use Rattle.branch_wire.proofs.Parts.{part-first, part-second, on-err}
use Rattle.mrdt_map.proofs.map.MapMrdt.put_op.Goals as goal

pub returns-in_err-put_bytes-clause-err : goal.returns-in_err-put_bytes-clause-err
returns-in_err-put_bytes-clause-err g c =
    let old = c.args.out.now.items in
    let new = c.put_bytes.new.out.items in
    let part = subst (λ (key : List ℕ). AppendsPart old new (field key)) c.as_slice.ensures.bytes c.in_err-put_bytes.ensures.err in
    on-err c.from_residual.result (part-first old new (field c.args.op.now.key) (g.T.Mrdt.meaning.op_spelling c.args.op.now.operation) part)

pub returns-clause-err : goal.returns-clause-err
returns-clause-err g c =
    let old = c.args.out.now.items in
    let mid = c.put_bytes.new.out.items in
    let key : mid ≡ old ++ field c.args.op.now.key = c.in_ok-put_bytes.ensures.ok ∙ ap (λ k. old ++ field k) c.as_slice.ensures.bytes in
    on_err_weaker c.put_op.result (part-second old mid c.put_op.new.out.items (field c.args.op.now.key) (g.T.Mrdt.meaning.op_spelling c.args.op.now.operation) key) c.put_op.ensures.err
