use Rattle.std.proofs.Common.{◌∙◌, ap, sym, subst}
use Rattle.mrdt_both.specs.declared.both.Side.TheVariants.{First, Second}
use Rattle.mrdt_both.specs.Sides.{first_part, second_part, by_side, StandForSides}
use Rattle.mrdt_both.specs.SidesLaws.{first_lawful, second_lawful}
use Rattle.mrdt_both.proofs.both.BothMrdt.answer.Goals as goal

pub returns-in_ok-answer-in-First : goal.returns-in_ok-answer-in-First
returns-in_ok-answer-in-First g c x l is =
    let m = g.A.Mrdt.meaning in
    let n = g.B.Mrdt.meaning in
    let st : StandForSides m.stands n.stands (c.self.inside.first, c.self.inside.second) x = subst (λ both. StandForSides m.stands n.stands both x) (sym c.self.view_is) is in
    ap First (c.in_ok-answer-in-First.ensures (first_part x) (first_lawful m n x l) (subst (λ v. m.stands v (first_part x)) (sym c.get.ensures) st.0)) ∙ ap (by_side m.answer_of n.answer_of x) (sym c.in-First.is)

pub returns-in_ok-answer-in-Second : goal.returns-in_ok-answer-in-Second
returns-in_ok-answer-in-Second g c x l is =
    let m = g.A.Mrdt.meaning in
    let n = g.B.Mrdt.meaning in
    let st : StandForSides m.stands n.stands (c.self.inside.first, c.self.inside.second) x = subst (λ both. StandForSides m.stands n.stands both x) (sym c.self.view_is) is in
    ap Second (c.in_ok-answer-in-Second.ensures (second_part x) (second_lawful m n x l) (subst (λ v. n.stands v (second_part x)) (sym c.get-in-Second.ensures) st.1)) ∙ ap (by_side m.answer_of n.answer_of x) (sym c.in-Second.is)
