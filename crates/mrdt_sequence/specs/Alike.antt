-- Nodes whose spellings stand at the front of the same bytes.
use Rattle.std.proofs.Common.{◌≡◌, ℕ, Bool, true, false, Option, None, Some, List, ◌++◌, refl, ◌∙◌, ap, sym, append_assoc}
use Rattle.mrdt_model.specs.declared.time.Time.{Time}
use Rattle.mrdt_model.specs.Times.{IsTime}
use Rattle.branch_wire.specs.Fields.{time_field, field}
use Rattle.branch_wire.proofs.OneWay.{times}
use Rattle.mrdt_sequence.specs.declared.node.Node.{Node}
use Rattle.mrdt_sequence.specs.Sequence.{IsReply, named_time, hidden_field, node_spelling}

pub named_one : (x y : Option Time) (a b : List ℕ) → IsReply x → IsReply y → named_time x ++ a ≡ named_time y ++ b → (x ≡ y) × (a ≡ b)
named_one None None a b p q is = (refl, cc)
named_one None (Some t) a b p q is = cc
named_one (Some s) None a b p q is = cc
named_one (Some s) (Some t) a b p q is =
    let rest : time_field s ++ a ≡ time_field t ++ b = cc in
    let one = times.one s t a b p q rest in
    (ap Some one.0, one.1)

hidden_one : (x y : Bool) (a b : List ℕ) → hidden_field x ++ a ≡ hidden_field y ++ b → (x ≡ y) × (a ≡ b)
hidden_one true true a b is = (refl, cc)
hidden_one false false a b is = (refl, cc)
hidden_one true false a b is = cc
hidden_one false true a b is = cc

abbrev node_of : Time → Option Time → Bool → List ℕ → Node
node_of t p h y = record { time = t; parent = p; hidden = h; payload = y }

pub same_node : (m n : Node) → m.time ≡ n.time → m.parent ≡ n.parent → m.hidden ≡ n.hidden → m.payload ≡ n.payload → m ≡ n
same_node m n t p h y =
    ap (λ s. node_of s m.parent m.hidden m.payload) t ∙ ap (λ q. node_of n.time q m.hidden m.payload) p ∙ ap (λ g. node_of n.time n.parent g m.payload) h ∙ ap (λ z. node_of n.time n.parent n.hidden z) y

abbrev behind_parent : Node → List ℕ
behind_parent n = hidden_field n.hidden ++ field n.payload

abbrev behind_time : Node → List ℕ
behind_time n = named_time n.parent ++ behind_parent n

-- but for the payload they are equal, and the payloads' spellings stand at the front of what is left
pub place_one : (m n : Node) (a b : List ℕ) → IsTime m.time → IsTime n.time → IsReply m.parent → IsReply n.parent → node_spelling m ++ a ≡ node_spelling n ++ b
    → (m.time ≡ n.time) × (m.parent ≡ n.parent) × (m.hidden ≡ n.hidden) × (field m.payload ++ a ≡ field n.payload ++ b)
place_one m n a b time also parent too is =
    let one = times.one m.time n.time (behind_time m ++ a) (behind_time n ++ b) time also (sym (append_assoc (time_field m.time) (behind_time m) a) ∙ is ∙ append_assoc (time_field n.time) (behind_time n) b) in
    let two = named_one m.parent n.parent (behind_parent m ++ a) (behind_parent n ++ b) parent too (sym (append_assoc (named_time m.parent) (behind_parent m) a) ∙ one.1 ∙ append_assoc (named_time n.parent) (behind_parent n) b) in
    let three = hidden_one m.hidden n.hidden (field m.payload ++ a) (field n.payload ++ b) two.1 in
    (one.0, two.0, three.0, three.1)
