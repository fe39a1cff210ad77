use Rattle.std.proofs.Common.{◌≡◌, ◌&&◌, Bool, true, not, sym, ap, ◌∙◌, List, ℕ}
use Rattle.std.specs.Prelude.{nat_le}
use Rattle.std.specs.List.{list_all}
use Rattle.branch_script.specs.Lines.{is_empty, words_of}
use Rattle.branch_script.proofs.Mapped.{list_all-map}
use Rattle.branch_script.proofs.words.plain.Goals as goal

pub returns-then-printable : goal.returns-then-printable
returns-then-printable c =
    let full : List ℕ → Bool = λ word. not (is_empty word) in
    let bytes : list_all (λ b. nat_le 32 b && nat_le b 126) c.args.line.now ≡ true = sym c.printable.ensures ∙ c.if-printable.true in
    c.none_empty.ensures ∙ sym (list_all-map full (λ word. word.now) c.args.words.now) ∙ ap (λ ws. list_all full ws) c.requires
    ∙ ap (λ t. t && list_all full (words_of c.args.line.now)) (sym bytes)
