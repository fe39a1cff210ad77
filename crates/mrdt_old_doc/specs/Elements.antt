-- What a set without Clear means, and its laws: those of a set over its renewed operations.
use Rattle.std.proofs.Common.{◌≡◌, ℕ, ◌⊎◌, List, ◌∷◌, refl, ap, inl, inr}
use Rattle.mrdt_model.specs.Spelled.{IsBytes}
use Rattle.mrdt_model.specs.Laws.{Meaning, KeepsLaws}
use Rattle.mrdt_renewal.specs.Renewals.{meaning_through}
use Rattle.mrdt_renewal.specs.Laws.{through_laws}
use Rattle.mrdt_set.specs.declared.set.SetOp.{SetOp}
use Rattle.mrdt_set.specs.declared.set.SetOp.TheVariants as set_op
use Rattle.mrdt_set.specs.declared.set.SetQuery.{SetQuery}
use Rattle.mrdt_set.specs.declared.set.SetAnswer.{SetAnswer}
use Rattle.mrdt_set.specs.Members.{Times}
use Rattle.mrdt_set.specs.Set.{IsSetOp, op_spelling, set_meaning}
use Rattle.mrdt_set.specs.SetLaws.{set_laws}
use Rattle.mrdt_old_doc.specs.declared.elements.ElementsOp.{ElementsOp}
use Rattle.mrdt_old_doc.specs.declared.elements.ElementsOp.TheVariants.{Add, Remove}

-- the operation of a set that it is renewed to
abbrev pub renewed_elements_op : ElementsOp → SetOp
renewed_elements_op (Add x) = set_op.Add x
renewed_elements_op (Remove x) = set_op.Remove x

-- byte 1 or byte 2, and behind it an element
abbrev pub IsOpSpelling : List ℕ → Type 0
IsOpSpelling bytes = (x : List ℕ) × IsBytes x × ((bytes ≡ 1 ∷ x) ⊎ (bytes ≡ 2 ∷ x))

abbrev pub elements_meaning : Meaning (List (List ℕ × Times)) ElementsOp (Unit {0}) SetQuery SetAnswer
elements_meaning = meaning_through set_meaning renewed_elements_op IsOpSpelling

one_renewed : (o p : ElementsOp) → renewed_elements_op o ≡ renewed_elements_op p → o ≡ p
one_renewed (Add u) (Add v) is = let elements_are : u ≡ v = cc is in ap Add elements_are
one_renewed (Add u) (Remove v) is = absurd (cc is)
one_renewed (Remove u) (Add v) is = absurd (cc is)
one_renewed (Remove u) (Remove v) is = let elements_are : u ≡ v = cc is in ap Remove elements_are

op_inside : (o : ElementsOp) → IsSetOp (renewed_elements_op o) → IsOpSpelling (op_spelling (renewed_elements_op o))
op_inside (Add x) known = (x, known, inl refl)
op_inside (Remove x) known = (x, known, inr refl)

pub elements_laws : KeepsLaws elements_meaning
elements_laws = through_laws set_meaning renewed_elements_op IsOpSpelling set_laws one_renewed op_inside
