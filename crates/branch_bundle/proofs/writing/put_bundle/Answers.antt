use Rattle.std.proofs.Common.{◌≡◌, ◌∙◌, ◌++◌, List, ℕ, ap, subst}
use Rattle.std.proofs.lemmas.Result.{on_ok_weaker, on_err_weaker}
use Rattle.mrdt_model.specs.Spelled.{AppendsPart}
use Rattle.branch_wire.proofs.Parts.{on-err}
use Rattle.branch_bundle.specs.declared.bundle.Item.{Item}
use Rattle.branch_bundle.specs.Held.{plain, items_text, front}
use Rattle.branch_bundle.proofs.Whole.{written-whole, written-items, written-front}
use Rattle.branch_bundle.proofs.writing.put_bundle.Goals as goal

pub returns-in_err-extend_from_slice-2-clause-err : goal.returns-in_err-extend_from_slice-2-clause-err
returns-in_err-extend_from_slice-2-clause-err c =
    let old = c.args.out.now.items in
    let mid = c.extend_from_slice.new.self.items in
    let first : mid ≡ old ++ front c.args.layout = c.in_ok-extend_from_slice.ensures.items ∙ ap (λ (l : List ℕ). old ++ l) c.front_of-front.ensures in
    on-err c.from_residual-in_err-extend_from_slice-2.result
    (written-front c.args.layout old mid c.extend_from_slice-2.new.self.items (plain c.args.bundle.now) first c.in_err-extend_from_slice-2.ensures.items)

pub returns-clause-ok : goal.returns-clause-ok
returns-clause-ok c =
    let old = c.args.out.now.items in
    let mid = c.extend_from_slice.new.self.items in
    let next = c.extend_from_slice-2.new.self.items in
    let first : mid ≡ old ++ front c.args.layout = c.in_ok-extend_from_slice.ensures.items ∙ ap (λ (l : List ℕ). old ++ l) c.front_of-front.ensures in
    on_ok_weaker c.put_items.result
    (λ is. written-whole c.args.layout old mid next c.put_items.new.out.items (plain c.args.bundle.now) first c.in_ok-extend_from_slice-2.ensures.items (is ∙ ap (λ (l : List Item). next ++ items_text l) c.as_slice.ensures))
    c.put_items.ensures.ok

pub returns-clause-err : goal.returns-clause-err
returns-clause-err c =
    let old = c.args.out.now.items in
    let mid = c.extend_from_slice.new.self.items in
    let next = c.extend_from_slice-2.new.self.items in
    let new = c.put_items.new.out.items in
    let first : mid ≡ old ++ front c.args.layout = c.in_ok-extend_from_slice.ensures.items ∙ ap (λ (l : List ℕ). old ++ l) c.front_of-front.ensures in
    on_err_weaker c.put_items.result
    (λ part. written-items c.args.layout old mid next new (plain c.args.bundle.now) first c.in_ok-extend_from_slice-2.ensures.items (subst (λ (l : List Item). AppendsPart next new (items_text l)) c.as_slice.ensures part))
    c.put_items.ensures.err
