use Rattle.std.proofs.Common.{◌≡◌, ◌++◌, ◌∙◌, ap, subst, List, ℕ}
use Rattle.std.proofs.lemmas.Result.{on_err_weaker}
use Rattle.mrdt_model.specs.Spelled.{AppendsPart}
use Rattle.branch_wire.specs.Fields.{field}
use Rattle.branch_wire.proofs.Parts.{part-first, part-second, on-err}
use Rattle.mrdt_map.proofs.tables.put_entry.Goals as goal

pub returns-in_err-put_bytes-clause-err : goal.returns-in_err-put_bytes-clause-err
returns-in_err-put_bytes-clause-err g c =
    let old = c.args.out.now.items in
    let new = c.put_bytes.new.out.items in
    let part = subst (λ (key : List ℕ). AppendsPart old new (field key)) (c.as_slice.ensures.bytes ∙ c.get-name.ensures ∙ c.key.ensures) c.in_err-put_bytes.ensures.err in
    on-err c.from_residual-in_err-put_bytes.result (part-first old new (field c.args.slot.now.0) (field (g.T.Inner.meaning.state_spelling c.args.slot.now.1)) part)

pub returns-clause-err : goal.returns-clause-err
returns-clause-err g c =
    let old = c.args.out.now.items in
    let mid = c.put_bytes.new.out.items in
    let new = c.put_bytes-2.new.out.items in
    let spelling = g.T.Inner.meaning.state_spelling c.args.slot.now.1 in
    let key : mid ≡ old ++ field c.args.slot.now.0 = c.in_ok-put_bytes.ensures.ok ∙ ap (λ k. old ++ field k) (c.as_slice.ensures.bytes ∙ c.get-name.ensures ∙ c.key.ensures) in
    let own = g.T.Inner.meaning.state_spelling c.get-own.result.now in
    let written : c.as_slice-2.result.now ≡ own = cc (c.as_slice-2.ensures.value, c.in_ok-put_state.ensures.ok, ap (λ none. none ++ own) c.new-spelling.ensures.items) in
    let value : c.as_slice-2.result.now ≡ spelling = written ∙ ap g.T.Inner.meaning.state_spelling (c.get-own.ensures ∙ c.value.ensures) in
    on_err_weaker c.put_bytes-2.result (λ part. part-second old mid new (field c.args.slot.now.0) (field spelling) key (subst (λ (bytes : List ℕ). AppendsPart mid new (field bytes)) value part)) c.put_bytes-2.ensures.err
