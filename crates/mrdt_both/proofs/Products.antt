-- The laws of a product's values, from those of its sides.
use Rattle.std.proofs.Common.{◌≡◌, ℕ, ◌^◌, ◌<◌, List, ◌++◌, length, length-append, refl, ap, sym, subst, arith}
use Rattle.mrdt_model.specs.declared.time.Time.{Time}
use Rattle.mrdt_model.specs.Laws.{Meaning, Applies, StandsAsWell}
use Rattle.mrdt_model.proofs.Parts.{part-after, part-next, part-other}
use Rattle.branch_wire.specs.Fields.{field}
use Rattle.branch_wire.proofs.Numbers.{length-field}
use Rattle.branch_wire.proofs.OneWay.{fields}
use Rattle.mrdt_both.specs.declared.both.Side.TheVariants.{First, Second}
use Rattle.mrdt_both.specs.Sides.{OnSides, at_first, at_second, first_part, second_part, both_meaning}
use Rattle.mrdt_both.specs.SidesLaws.{first_lawful, second_lawful}

module _ {V W O P R S Q T A B : Type 0} (m : Meaning V O R Q A) (n : Meaning W P S T B) where
  pub copies : (v : V) (w : W) (v' : V) (w' : W) → StandsAsWell m v v' → StandsAsWell n w w' → StandsAsWell (both_meaning m n) (v, w) (v', w')
  copies v w v' w' first second x l is = (first (first_part x) (first_lawful m n x l) is.0, second (second_part x) (second_lawful m n x l) is.1)

  -- an operation of the first side, and a copy of the second value
  pub applies-first : (old : V × W) (o : O) (time : Time) (v : V) (w : W) (reply : R) → Applies m old.0 o time v reply → StandsAsWell n old.1 w → Applies (both_meaning m n) old (First o) time (v, w) (First reply)
  applies-first old o time v w reply made copy x l is after =
      let here = made (first_part x) (first_lawful m n x l) is.0 (part-after at_first x time after) in
      let own = part-next at_first (OnSides {X = O} {Y = P} m.is_op n.is_op) (OnSides {X = R} {Y = S} m.is_reply n.is_reply) x time (First o) (First reply) (o, reply) refl l.well_formed in
      let other = part-other at_second (OnSides {X = O} {Y = P} m.is_op n.is_op) (OnSides {X = R} {Y = S} m.is_reply n.is_reply) x time (First o) (First reply) refl in (
        ap First here.0,
        (subst (m.stands v) (sym own) here.1, subst (n.stands w) (sym other) (copy (second_part x) (second_lawful m n x l) is.1)),
      )

  -- an operation of the second side, and a copy of the first value
  pub applies-second : (old : V × W) (p : P) (time : Time) (v : V) (w : W) (reply : S) → Applies n old.1 p time w reply → StandsAsWell m old.0 v → Applies (both_meaning m n) old (Second p) time (v, w) (Second reply)
  applies-second old p time v w reply made copy x l is after =
      let here = made (second_part x) (second_lawful m n x l) is.1 (part-after at_second x time after) in
      let own = part-next at_second (OnSides {X = O} {Y = P} m.is_op n.is_op) (OnSides {X = R} {Y = S} m.is_reply n.is_reply) x time (Second p) (Second reply) (p, reply) refl l.well_formed in
      let other = part-other at_first (OnSides {X = O} {Y = P} m.is_op n.is_op) (OnSides {X = R} {Y = S} m.is_reply n.is_reply) x time (Second p) (Second reply) refl in (
        ap Second here.0,
        (subst (m.stands v) (sym other) (copy (first_part x) (first_lawful m n x l) is.0), subst (n.stands w) (sym own) here.1),
      )

-- a text that stands behind its length in short bytes is short
pub short-field : (first second bytes : List ℕ) → field first ++ second ≡ bytes → length bytes < 2 ^ 64 → length first < 2 ^ 64
short-field first second bytes is short =
    let size = length-append (field first) second in
    let own = length-field first in
    let whole = ap length is in
    omega (arith, size, own, whole, short)

-- Texts that stand behind each other, the first behind its length, in short bytes are short, and are told by the bytes.
pub pair-alike : (first second other more : List ℕ) → length (field first ++ second) < 2 ^ 64 → field first ++ second ≡ field other ++ more → (length first < 2 ^ 64) × (length second < 2 ^ 64) × (first ≡ other) × (second ≡ more)
pair-alike first second other more short is =
    let size = length-append (field first) second in
    let own = length-field first in
    let other_size = length-append (field other) more in
    let other_own = length-field other in
    let whole : length (field first ++ second) ≡ length (field other ++ more) = ap length is in
    let first_short : length first < 2 ^ 64 = omega (arith, size, own, short) in
    let second_short : length second < 2 ^ 64 = omega (arith, size, own, short) in
    let other_short : length other < 2 ^ 64 = omega (arith, other_size, other_own, whole, short) in
    let parts = fields.one first other second more first_short other_short is in
    (first_short, second_short, parts.0, parts.1)
