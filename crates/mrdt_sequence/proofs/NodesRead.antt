-- Nodes that were read, against those that the bytes may spell.
use Rattle.std.proofs.Common.{◌≡◌, ℕ, ◌+◌, ◌^◌, ◌<◌, List, [], ◌∷◌, ◌++◌, length, reverse, refl, ◌∙◌, ap, sym, subst, append_assoc, arith, length-append}
use Rattle.std.specs.List.{flat_map, AllByRecursion}
use Rattle.mrdt_model.specs.declared.time.Time.{Time}
use Rattle.branch_wire.specs.Fields.{number}
use Rattle.branch_wire.specs.Reading.{ReadsOneWay}
use Rattle.branch_wire.proofs.OneWay.{fields}
use Rattle.branch_wire.proofs.Lists.{flat_map-front, flat_map-push, counted-one_way}
use Rattle.mrdt_sequence.specs.declared.node.Node.{Node}
use Rattle.mrdt_sequence.specs.Order.{nearest_earlier, IsOrderedBehind, IsOrdered}
use Rattle.mrdt_sequence.specs.Sequence.{NodeFits, AreNodes, node_spelling, sequence_spelling}
use Rattle.mrdt_sequence.specs.Reading.{IsPath, AreOrdered}
use Rattle.mrdt_sequence.specs.Alike.{same_node, place_one}

-- nodes are read in one way
pub node_way : ReadsOneWay NodeFits node_spelling
node_way = record {
  one = λ m n a b p q is.
      let one = place_one m n a b p.time q.time p.parent q.parent is in
      let two = fields.one m.payload n.payload a b p.payload.1 q.payload.1 one.3 in
      (same_node m n one.0 one.1 one.2 two.0, two.1);
}

pub nodes_way : (ms ns : List Node) (a b : List ℕ) → AreOrdered ms → AreOrdered ns → sequence_spelling ms ++ a ≡ sequence_spelling ns ++ b → (ms ≡ ns) × (a ≡ b)
nodes_way ms ns a b p q is = (counted-one_way NodeFits node_spelling node_way).one ms ns a b (p.few, p.each) (q.few, q.each) is

-- the times of nodes, the last one first, and others behind them
abbrev pub before_last : List Node → List Time → List Time
before_last [] before = before
before_last (n ∷ ns) before = before_last ns (n.time ∷ before)

before-push : (ns : List Node) (n : Node) (before : List Time) → before_last (ns ++ n ∷ []) before ≡ n.time ∷ before_last ns before
before-push [] n before = refl
before-push (m ∷ ns) n before = before-push ns n (m.time ∷ before)

ordered-push : (before : List Time) (ns : List Node) (n : Node) → IsOrderedBehind before ns → n.parent ≡ nearest_earlier n.time (before_last ns before) → IsOrderedBehind before (ns ++ n ∷ [])
ordered-push before [] n o is = (is, tt)
ordered-push before (m ∷ ns) n o is = (o.0, ordered-push (m.time ∷ before) ns n o.1 is)

ordered-next : (before : List Time) (ns more : List Node) (n : Node) → IsOrderedBehind before (ns ++ (n ∷ more)) → n.parent ≡ nearest_earlier n.time (before_last ns before)
ordered-next before [] more n o = o.0
ordered-next before (m ∷ ns) more n o = ordered-next (m.time ∷ before) ns more n o.1

all-push : (ns : List Node) (n : Node) → AllByRecursion NodeFits ns → NodeFits n → AllByRecursion NodeFits (ns ++ n ∷ [])
all-push [] n all last = (last, tt)
all-push (m ∷ ns) n all last = (all.0, all-push ns n all.1 last)

all-behind : (ns more : List Node) (n : Node) → AllByRecursion NodeFits (ns ++ (n ∷ more)) → NodeFits n
all-behind [] more n all = all.0
all-behind (m ∷ ns) more n all = all-behind ns more n all.1

-- this many nodes are taken from the front of the bytes, in order
pub record AreTaken (bytes : List ℕ) (count : ℕ) (rest : List ℕ) (ns : List Node) (path : List Time) : Type 0 where
  pub many : length ns ≡ count
  pub good : AllByRecursion NodeFits ns
  pub ordered : IsOrdered ns
  pub spelled : bytes ≡ flat_map node_spelling ns ++ rest
  pub sight : IsPath path (before_last ns [])

pub taken-none : (bytes : List ℕ) (path : List Time) → path ≡ [] → AreTaken bytes 0 bytes [] path
taken-none bytes path is = record { many = refl; good = tt; ordered = tt; spelled = refl; sight = λ t. ap (λ p. nearest_earlier t (reverse p)) is }

-- one more node is taken
pub taken-more : (bytes rest more : List ℕ) (count : ℕ) (ns new : List Node) (n : Node) (path seen : List Time) → AreTaken bytes count rest ns path → NodeFits n → rest ≡ node_spelling n ++ more → n.parent ≡ nearest_earlier n.time (before_last ns []) → new ≡ ns ++ n ∷ [] → IsPath seen (n.time ∷ before_last ns [])
    → AreTaken bytes (count + 1) more new seen
taken-more bytes rest more count ns new n path seen so_far fits spelled parent is sight = record {
  many = ap length is ∙ length-append ns (n ∷ []) ∙ ap (λ m. m + 1) so_far.many;
  good = subst (AllByRecursion NodeFits) (sym is) (all-push ns n so_far.good fits);
  ordered = subst IsOrdered (sym is) (ordered-push [] ns n so_far.ordered parent);
  spelled =
      so_far.spelled ∙ ap (λ r. flat_map node_spelling ns ++ r) spelled
      ∙ sym (append_assoc (flat_map node_spelling ns) (node_spelling n) more)
      ∙ ap (λ b. b ++ more) (sym (flat_map-push node_spelling ns n) ∙ ap (flat_map node_spelling) (sym is));
  sight = subst (IsPath seen) (sym (ap (λ ks. before_last ks []) is ∙ before-push ns n [])) sight;
}

-- where more nodes are spelled than were taken, the next of them is spelled at the front
pub taken-next : (bytes rest more : List ℕ) (count : ℕ) (ns js : List Node) (path : List Time) → AreTaken bytes count rest ns path → count < length js → AreOrdered js → bytes ≡ flat_map node_spelling js ++ more
    → (n : Node) × (r : List ℕ) × NodeFits n × (n.parent ≡ nearest_earlier n.time (before_last ns [])) × (rest ≡ node_spelling n ++ r)
taken-next bytes rest more count ns js path so_far few inside is =
    let many = so_far.many in
    let front = flat_map-front NodeFits node_spelling node_way ns js rest more so_far.good inside.each (omega (arith, many, few)) (sym so_far.spelled ∙ is) in
    at front.0 front.1 front.2
  where
    at : (is : List Node) → js ≡ ns ++ is → rest ≡ flat_map node_spelling is ++ more → (n : Node) × (r : List ℕ) × NodeFits n × (n.parent ≡ nearest_earlier n.time (before_last ns [])) × (rest ≡ node_spelling n ++ r)
    at [] same spelled = let many = so_far.many in absurd (omega (arith, few, many, ap length same, length-append ns []))
    at (n ∷ is) same spelled = (
      n,
      flat_map node_spelling is ++ more,
      all-behind ns is n (subst (AllByRecursion NodeFits) same inside.each),
      ordered-next [] ns is n (subst IsOrdered same inside.ordered),
      spelled ∙ append_assoc (node_spelling n) (flat_map node_spelling is) more,
    )

pub taken-whole : (whole bytes rest : List ℕ) (n : ℕ) (ns : List Node) (path : List Time) → whole ≡ number n ++ bytes → AreTaken bytes n rest ns path → whole ≡ sequence_spelling ns ++ rest
taken-whole whole bytes rest n ns path is all =
    let flat = flat_map node_spelling ns in
    is ∙ ap (λ b. number n ++ b) all.spelled ∙ sym (append_assoc (number n) flat rest) ∙ ap (λ m. (number m ++ flat) ++ rest) (sym all.many)

pub taken-ordered : (bytes rest : List ℕ) (n : ℕ) (ns : List Node) (path : List Time) → AreTaken bytes n rest ns path → n < 2 ^ 64 → AreOrdered ns
taken-ordered bytes rest n ns path all fit = let many = all.many in record { few = omega (arith, many, fit); each = all.good; ordered = all.ordered }

pub ordered_of : (ns : List Node) → AreNodes ns → AreOrdered ns
ordered_of ns all = record { few = all.few; each = all.each; ordered = all.ordered }
