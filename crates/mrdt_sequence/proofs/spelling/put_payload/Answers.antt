use Rattle.std.proofs.Common.{rules, ◌≡◌, ◌++◌, ◌∙◌, OnErr, subst}
use Rattle.std.proofs.lemmas.Result.{on_err_weaker}
use Rattle.mrdt_model.specs.Spelled.{AppendsPart}
use Rattle.branch_wire.specs.Fields.{field}
use Rattle.branch_wire.proofs.Parts.{part-second}
use Rattle.mrdt_sequence.specs.Sequence.{hidden_field}
use Rattle.mrdt_sequence.proofs.spelling.put_payload.Goals as goal

pub returns-clause-err : goal.returns-clause-err
returns-clause-err c =
    let old = c.args.out.now.items in
    let mid = c.push.new.self.items in
    let node = c.args.node.now in
    let first : mid ≡ old ++ hidden_field node.hidden = search rules in
    on_err_weaker c.put_bytes.result (part-second old mid c.put_bytes.new.out.items (hidden_field node.hidden) (field node.payload) first) (subst (λ p. OnErr c.put_bytes.result (AppendsPart mid c.put_bytes.new.out.items (field p))) (c.as_slice.ensures.bytes ∙ c.get.ensures) c.put_bytes.ensures.err)
