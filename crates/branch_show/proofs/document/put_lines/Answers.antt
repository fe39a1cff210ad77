use Rattle.std.proofs.Common.{ap, subst}
use Rattle.mrdt_model.specs.Spelled.{AppendsPart}
use Rattle.branch_print.proofs.Written.{each-part}
use Rattle.branch_show.specs.Documents.{key_line}
use Rattle.branch_show.proofs.Refused.{on-err}
use Rattle.branch_show.proofs.document.put_lines.Goals as goal

pub returns-in_err-put_line-clause-err : goal.returns-in_err-put_line-clause-err
returns-in_err-put_line-clause-err g c =
    let line = key_line (g.V.Asked.answers c.args.document.now) c.args.kind in
    let old = c.loop-key.out.items in
    let new = c.put_line.new.out.items in
    on-err c.from_residual.result (each-part line c.args.keys.now c.loop-key.key-index c.key-item.result c.key-item.result c.args.out.now.items old new
    c.loop-key-test.true c.key-item.is c.loop-key.invariant (subst (AppendsPart old new) (ap line c.as_slice.ensures.bytes) c.in_err-put_line.ensures.err))
