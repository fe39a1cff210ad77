use Rattle.std.proofs.Common.{◌≡◌, ◌∙◌, ℕ, List, [], ◌∷◌, length, refl, sym, ap}
use Rattle.branch_shell.proofs.answer.is_empty.Goals.{then-objects-ne0-via-then-objects-ne0, then-objects-ne0-via-else-objects-ne0+then-heads-ne0}
use Rattle.branch_shell.proofs.answer.is_empty.Goals as goal

none_of : (xs : List ℕ) → length xs ≡ 0 → xs ≡ []
none_of [] is = refl
none_of (x ∷ xs) is = absurd (cc is)

pub returns-then-objects-ne0-clause-bytes : goal.returns-then-objects-ne0-clause-bytes
returns-then-objects-ne0-clause-bytes g c same f told empty =
    elim c.then-objects-ne0.branch [
      | then-objects-ne0-via-then-objects-ne0 w ↦ w.if-objects-ne0.true (c.in_ok-objects.ensures.told f told ∙ ap length empty.0)
      | then-objects-ne0-via-else-objects-ne0+then-heads-ne0 w ↦ w.if-heads-ne0.true (c.in_ok-heads.ensures.told f (c.length.ensures.same ∙ told) ∙ ap length empty.1)
    ]

pub returns-clause-empty : goal.returns-clause-empty
returns-clause-empty g c same f told = (
  none_of f.objects (sym (c.in_ok-objects.ensures.told f told) ∙ c.if-objects-ne0.false),
  none_of f.heads (sym (c.in_ok-heads.ensures.told f (c.length.ensures.same ∙ told)) ∙ c.if-heads-ne0.false),
)
