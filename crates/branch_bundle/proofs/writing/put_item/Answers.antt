use Rattle.std.proofs.Common.{◌≡◌, ◌∙◌, ◌++◌, List, ℕ, ap, sym, subst}
use Rattle.mrdt_model.specs.Spelled.{AppendsPart}
use Rattle.branch_wire.proofs.Parts.{part-none, part-second, on-err}
use Rattle.branch_bundle.proofs.writing.put_item.Goals as goal

pub returns-in_err-extend_from_slice-2-clause-err : goal.returns-in_err-extend_from_slice-2-clause-err
returns-in_err-extend_from_slice-2-clause-err c =
    let old = c.args.out.now.items in
    let mid = c.extend_from_slice.new.self.items in
    let new = c.extend_from_slice-2.new.self.items in
    let value : List ℕ = c.args.item.now.value in
    let commit : List ℕ = c.args.item.now.commit in
    let written : mid ≡ old ++ value = c.in_ok-extend_from_slice.ensures.items ∙ ap (λ (l : List ℕ). old ++ l) c.as_slice.ensures.bytes in
    let none : AppendsPart mid new commit = subst (λ (l : List ℕ). AppendsPart mid l commit) (sym c.in_err-extend_from_slice-2.ensures.items) (part-none mid commit) in
    on-err c.from_residual-in_err-extend_from_slice-2.result (part-second old mid new value commit written none)
