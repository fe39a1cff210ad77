use Rattle.std.proofs.Common.{◌≡◌, ◌∙◌, ◌++◌, List, ℕ, ap, sym}
use Rattle.std.proofs.lemmas.Bool.{both_ways}
use Rattle.std.proofs.lemmas.Slice.Eq.{bytes_eq-Decides}
use Rattle.branch_wire.proofs.Parts.{on-err}
use Rattle.branch_bundle.specs.Held.{front}
use Rattle.branch_bundle.proofs.Whole.{short-front, other-front}
use Rattle.branch_bundle.proofs.reading.take_front.Goals as goal

pub returns-in_err-bytes-clause-outside : goal.returns-in_err-bytes-clause-outside
returns-in_err-bytes-clause-outside c = on-err c.from_residual.result (short-front c.args.layout c.args.cursor.now c.in_err-bytes.ensures.short.0)

pub returns-then-eq-clause-ok : goal.returns-then-eq-clause-ok
returns-then-eq-clause-ok c =
    let same : c.in_ok-bytes.bytes.now ≡ c.as_slice.result.now = (bytes_eq-Decides c.in_ok-bytes.bytes.now c.as_slice.result.now).0 (sym c.eq.ensures ∙ c.if-eq.true) in
    let is : c.in_ok-bytes.bytes.now ≡ front c.args.layout = same ∙ c.as_slice.ensures ∙ c.front_of-wanted.ensures in
    c.in_ok-bytes.ensures.ok.1 ∙ ap (λ (l : List ℕ). l ++ c.take_exact.new.self) is

pub returns-else-eq-clause-outside : goal.returns-else-eq-clause-outside
returns-else-eq-clause-outside c =
    other-front c.args.layout c.args.cursor.now c.in_ok-bytes.bytes.now c.take_exact.new.self c.in_ok-bytes.ensures.ok.0 c.in_ok-bytes.ensures.ok.1
    (λ is. both_ways c.eq.result c.if-eq.false (c.eq.ensures ∙ (bytes_eq-Decides c.in_ok-bytes.bytes.now c.as_slice.result.now).1 (is ∙ sym c.front_of-wanted.ensures ∙ sym c.as_slice.ensures)))
