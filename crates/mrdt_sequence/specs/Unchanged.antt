-- Merges of which one side is the same as the base: the other side is what both have.
use Rattle.std.proofs.Common.{◌≡◌, Bool, true, false, ◌&&◌, ◌||◌, List, refl, ◌∙◌, ap, sym}
use Rattle.mrdt_model.specs.Times.{both, either}
use Rattle.mrdt_model.specs.Executions.{restrict}
use Rattle.mrdt_model.specs.Laws.{Merges}
use Rattle.mrdt_model.proofs.TimeSets.{restrict-agree}
use Rattle.mrdt_model.proofs.Executions.{closed_both}
use Rattle.mrdt_sequence.specs.declared.node.Node.{Node}
use Rattle.mrdt_sequence.specs.Order.{woven}
use Rattle.mrdt_sequence.specs.Sequence.{nodes, sequence_meaning}
use Rattle.mrdt_sequence.specs.Nodes.{nodes-woven}

within_right : (p q : Bool) → ((p && q) || q) ≡ q
within_right true true = refl
within_right true false = refl
within_right false q = refl

within_left : (p q : Bool) → (p || (p && q)) ≡ p
within_left true q = refl
within_left false q = refl

-- weaving the base into a side changes nothing
pub unchanged-left : (base left right : List Node) → base ≡ left → Merges sequence_meaning base left right right
unchanged-left base left right same x a b l in_a in_b is_base is_left is_right =
    is_right
    ∙ sym (ap nodes (restrict-agree (either (both a b) b) b x (λ t m. within_right (a t) (b t))))
    ∙ sym (nodes-woven x (both a b) b l.well_formed l.faithful (closed_both a b x in_a in_b) in_b)
    ∙ ap (λ ls. woven ls (nodes (restrict b x))) (sym is_base ∙ same ∙ is_left)
    ∙ nodes-woven x a b l.well_formed l.faithful in_a in_b

pub unchanged-right : (base left right : List Node) → base ≡ right → Merges sequence_meaning base left right left
unchanged-right base left right same x a b l in_a in_b is_base is_left is_right =
    is_left
    ∙ sym (ap nodes (restrict-agree (either a (both a b)) a x (λ t m. within_left (a t) (b t))))
    ∙ sym (nodes-woven x a (both a b) l.well_formed l.faithful in_a (closed_both a b x in_a in_b))
    ∙ ap (woven (nodes (restrict a x))) (sym is_base ∙ same ∙ is_right)
    ∙ nodes-woven x a b l.well_formed l.faithful in_a in_b
