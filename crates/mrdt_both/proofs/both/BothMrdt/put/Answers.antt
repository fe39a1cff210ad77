use Rattle.std.proofs.Common.{◌≡◌, ◌++◌, ◌∙◌, ap, subst, List, ℕ, OnErr}
use Rattle.std.proofs.lemmas.Result.{on_err_weaker}
use Rattle.mrdt_model.specs.Spelled.{AppendsPart}
use Rattle.branch_wire.specs.Fields.{field}
use Rattle.branch_wire.proofs.Parts.{part-first, part-second, on-err}
use Rattle.mrdt_both.proofs.both.BothMrdt.put.Goals as goal

pub returns-in_err-put_bytes-clause-err : goal.returns-in_err-put_bytes-clause-err
returns-in_err-put_bytes-clause-err g c =
    let old = c.args.out.now.items in
    let new = c.put_bytes.new.out.items in
    let first = g.A.Mrdt.meaning.state_spelling c.self.inside.first in
    let second = g.B.Mrdt.meaning.state_spelling c.self.inside.second in
    let own = g.A.Mrdt.meaning.state_spelling c.get.result.now in
    let spelled : c.as_slice.result.now ≡ own = cc (c.as_slice.ensures.value, c.in_ok-put.ensures.ok, ap (λ none. none ++ own) c.new-spelling.ensures.items) in
    let value : c.as_slice.result.now ≡ first = spelled ∙ ap g.A.Mrdt.meaning.state_spelling c.get.ensures in
    let part = subst (λ (bytes : List ℕ). AppendsPart old new (field bytes)) value c.in_err-put_bytes.ensures.err in
    rw (← c.self.view_is) (on-err c.from_residual-in_err-put_bytes.result (part-first old new (field first) second part))

pub returns-clause-err : goal.returns-clause-err
returns-clause-err g c =
    let old = c.args.out.now.items in
    let mid = c.put_bytes.new.out.items in
    let new = c.put-2.new.out.items in
    let first = g.A.Mrdt.meaning.state_spelling c.self.inside.first in
    let second = g.B.Mrdt.meaning.state_spelling c.self.inside.second in
    let own = g.A.Mrdt.meaning.state_spelling c.get.result.now in
    let spelled : c.as_slice.result.now ≡ own = cc (c.as_slice.ensures.value, c.in_ok-put.ensures.ok, ap (λ none. none ++ own) c.new-spelling.ensures.items) in
    let value : c.as_slice.result.now ≡ first = spelled ∙ ap g.A.Mrdt.meaning.state_spelling c.get.ensures in
    let written : mid ≡ old ++ field first = c.in_ok-put_bytes.ensures.ok ∙ ap (λ bytes. old ++ field bytes) value in
    rw (← c.self.view_is) (on_err_weaker c.put-2.result (part-second old mid new (field first) second written) (subst (λ v. OnErr c.put-2.result (AppendsPart mid new (g.B.Mrdt.meaning.state_spelling v))) c.get-2.ensures c.put-2.ensures.err))
