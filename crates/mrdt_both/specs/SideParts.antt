-- The events of a side are lawful.
use Rattle.std.proofs.Common.{◌≡◌, Some, List, subst}
use Rattle.mrdt_model.specs.Executions.{Event, IsLawful}
use Rattle.mrdt_model.proofs.Parts.{part-lawful}
use Rattle.mrdt_both.specs.declared.both.Side.{Side}
use Rattle.mrdt_both.specs.declared.both.Side.TheVariants.{First, Second}
use Rattle.mrdt_both.specs.Sides.{OnSides, at_first, at_second, first_part, second_part, by_side}

module _ {O P R S : Type 0} (is_o : O → Type 0) (is_p : P → Type 0) (is_r : R → Type 0) (is_s : S → Type 0) where
  known_first : (o : Side O P) (r : Side R S) (c : O × R) → at_first o r ≡ Some c → OnSides is_o is_p o → OnSides is_r is_s r → is_o c.0 × is_r c.1
  known_first (First o) (First r) c h op reply = let e : (o, r) ≡ c = cc in subst (λ (d : O × R). is_o d.0 × is_r d.1) e (op, reply)
  known_first (First o) (Second s) c h op reply = cc
  known_first (Second p) r c h op reply = cc

  known_second : (o : Side O P) (r : Side R S) (c : P × S) → at_second o r ≡ Some c → OnSides is_o is_p o → OnSides is_r is_s r → is_p c.0 × is_s c.1
  known_second (Second p) (Second s) c h op reply = let e : (p, s) ≡ c = cc in subst (λ (d : P × S). is_p d.0 × is_s d.1) e (op, reply)
  known_second (Second p) (First r) c h op reply = cc
  known_second (First o) r c h op reply = cc

  module _ (first_reply : List (Event O R) → O → R) (second_reply : List (Event P S) → P → S) where
    agrees_first : (x : List (Event (Side O P) (Side R S))) (o : Side O P) (r : Side R S) (c : O × R) → at_first o r ≡ Some c → r ≡ by_side first_reply second_reply x o → c.1 ≡ first_reply (first_part x) c.0
    agrees_first x (First o) (First r) c h is =
        let e : (o, r) ≡ c = cc in
        let own : r ≡ first_reply (first_part x) o = cc in
        subst (λ (d : O × R). d.1 ≡ first_reply (first_part x) d.0) e own
    agrees_first x (First o) (Second s) c h is = cc
    agrees_first x (Second p) r c h is = cc

    agrees_second : (x : List (Event (Side O P) (Side R S))) (o : Side O P) (r : Side R S) (c : P × S) → at_second o r ≡ Some c → r ≡ by_side first_reply second_reply x o → c.1 ≡ second_reply (second_part x) c.0
    agrees_second x (Second p) (Second s) c h is =
        let e : (p, s) ≡ c = cc in
        let own : s ≡ second_reply (second_part x) p = cc in
        subst (λ (d : P × S). d.1 ≡ second_reply (second_part x) d.0) e own
    agrees_second x (Second p) (First r) c h is = cc
    agrees_second x (First o) r c h is = cc

    -- the events of the first side are lawful
    pub first-lawful : (x : List (Event (Side O P) (Side R S))) → IsLawful (OnSides is_o is_p) (OnSides is_r is_s) (by_side first_reply second_reply) x → IsLawful is_o is_r first_reply (first_part x)
    first-lawful x l = part-lawful at_first (OnSides is_o is_p) (OnSides is_r is_s) is_o is_r known_first (by_side first_reply second_reply) first_reply agrees_first x l

    -- the events of the second side are lawful
    pub second-lawful : (x : List (Event (Side O P) (Side R S))) → IsLawful (OnSides is_o is_p) (OnSides is_r is_s) (by_side first_reply second_reply) x → IsLawful is_p is_s second_reply (second_part x)
    second-lawful x l = part-lawful at_second (OnSides is_o is_p) (OnSides is_r is_s) is_p is_s known_second (by_side first_reply second_reply) second_reply agrees_second x l
