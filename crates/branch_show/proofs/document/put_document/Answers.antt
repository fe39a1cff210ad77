use Rattle.std.proofs.Common.{◌≡◌, List, get_or, ap, rules}
use Rattle.branch_doc.specs.declared.plain.Kind.{Kind}
use Rattle.branch_doc.specs.declared.plain.Kind.TheVariants.{Counter}
use Rattle.branch_print.proofs.Written.{each-part}
use Rattle.branch_show.specs.Documents.{all_kinds, kind_lines, document_text}
use Rattle.branch_show.proofs.Refused.{on-err}
use Rattle.branch_show.proofs.document.put_document.Goals as goal

pub returns-clause-ok : goal.returns-clause-ok
unfolding document_text
returns-clause-ok g c = search rules

pub returns-in_err-put_kind_lines-clause-err : goal.returns-in_err-put_kind_lines-clause-err
unfolding document_text
returns-in_err-put_kind_lines-clause-err g c =
    let i = c.loop-kind.kind-index in
    let kind = get_or c.all_kinds-kind-items.result i Counter in
    let is : kind ≡ get_or all_kinds i Counter = ap (λ (kinds : List Kind). get_or kinds i Counter) c.all_kinds-kind-items.ensures in
    on-err c.from_residual.result (each-part (kind_lines (g.V.Asked.answers c.args.document.now)) all_kinds i kind Counter c.args.out.now.items c.loop-kind.out.items
    c.put_kind_lines.new.out.items c.loop-kind-test.true is c.loop-kind.invariant c.in_err-put_kind_lines.ensures.err)
