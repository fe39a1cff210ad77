use Rattle.std.proofs.Common.{◌∙◌, ap, sym, subst}
use Rattle.mrdt_map.specs.declared.map.MapAnswer.TheVariants.{OnValue, OnKeys}
use Rattle.mrdt_map.specs.Keyed.{on_key, StandsByKey, key_answer}
use Rattle.mrdt_map.specs.Keys.{on_key-lawful}
use Rattle.mrdt_map.specs.Touched.{keys-touched}
use Rattle.mrdt_map.proofs.map.MapMrdt.answer.Goals as goal

pub returns-in_ok-answer_on-in-AtKey : goal.returns-in_ok-answer_on-in-AtKey
returns-in_ok-answer_on-in-AtKey g c x l is =
    let t = g.T.Mrdt in
    let key = c.in-AtKey.key in
    let st : StandsByKey t.meaning.stands c.self.inside.entries x = subst (λ es. StandsByKey t.meaning.stands es x) (sym c.self.view_is) is in
    ap OnValue (c.in_ok-answer_on-in-AtKey.ensures (on_key key x) (on_key-lawful t.meaning.is_op t.meaning.is_reply t.meaning.reply_of key x l) (st.values key)) ∙ ap (key_answer t.meaning.answer_of x) (sym c.in-AtKey.is)

pub returns-in_ok-keys_in_order-in-Keys : goal.returns-in_ok-keys_in_order-in-Keys
returns-in_ok-keys_in_order-in-Keys g c x l is =
    let t = g.T.Mrdt in
    let entries = c.self.inside.entries in
    let st : StandsByKey t.meaning.stands entries x = subst (λ es. StandsByKey t.meaning.stands es x) (sym c.self.view_is) is in
    ap OnKeys (c.in_ok-keys_in_order-in-Keys.ensures ∙ keys-touched t.meaning.stands entries x st) ∙ ap (key_answer t.meaning.answer_of x) (sym c.in-Keys.is)
