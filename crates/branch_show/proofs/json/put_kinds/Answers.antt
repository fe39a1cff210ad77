use Rattle.std.proofs.Common.{◌≡◌, Bool, List, get_or, ap}
use Rattle.branch_doc.specs.declared.plain.Kind.{Kind}
use Rattle.branch_doc.specs.declared.plain.Kind.TheVariants.{Counter}
use Rattle.branch_doc.specs.declared.plain.PlainQuery.TheVariants.{Keys}
use Rattle.branch_show.specs.Documents.{all_kinds}
use Rattle.branch_show.specs.Json.{is_told, kind_member}
use Rattle.branch_show.proofs.Commas.{told-written, any-written}
use Rattle.branch_show.proofs.Refused.{told-part, on-err}
use Rattle.branch_show.proofs.json.put_kinds.Goals as goal

pub loop-kind-preserved : goal.loop-kind-preserved
loop-kind-preserved g c =
    let answers = g.V.Asked.answers c.args.document.now in
    let told : Kind → Bool = λ k. is_told (answers (Keys k)) in
    let i = c.loop-kind.kind-index in
    let kind = get_or c.all_kinds-kind-items.result i Counter in
    let is : kind ≡ get_or all_kinds i Counter = ap (λ (kinds : List Kind). get_or kinds i Counter) c.all_kinds-kind-items.ensures in (
      told-written (kind_member answers) told all_kinds i Counter kind c.loop-kind.is_behind c.args.out.now.items c.loop-kind.out.items c.put_told.new.out.items c.loop-kind-test.true
          is c.loop-kind.invariant.0 c.loop-kind.invariant.1 c.in_ok-is_behind.ensures.ok,
      any-written told all_kinds i Counter kind c.loop-kind.is_behind c.in_ok-is_behind.is_behind c.loop-kind-test.true is c.loop-kind.invariant.1 c.in_ok-is_behind.ensures.next,
    )

pub returns-in_err-is_behind-clause-err : goal.returns-in_err-is_behind-clause-err
returns-in_err-is_behind-clause-err g c =
    let answers = g.V.Asked.answers c.args.document.now in
    let told : Kind → Bool = λ k. is_told (answers (Keys k)) in
    let i = c.loop-kind.kind-index in
    let kind = get_or c.all_kinds-kind-items.result i Counter in
    let is : kind ≡ get_or all_kinds i Counter = ap (λ (kinds : List Kind). get_or kinds i Counter) c.all_kinds-kind-items.ensures in
    on-err c.from_residual.result (told-part (kind_member answers) told all_kinds i Counter kind c.loop-kind.is_behind c.args.out.now.items c.loop-kind.out.items
    c.put_told.new.out.items c.loop-kind-test.true
    is c.loop-kind.invariant.0 c.loop-kind.invariant.1 c.in_err-is_behind.ensures.err)
