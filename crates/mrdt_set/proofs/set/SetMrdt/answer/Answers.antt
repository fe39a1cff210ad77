use Rattle.std.proofs.Common.{◌∙◌, ap, sym, is_some}
use Rattle.std.specs.Map.{keys_of}
use Rattle.mrdt_set.specs.declared.set.SetAnswer.TheVariants.{IsIn, All}
use Rattle.mrdt_set.specs.Members.{times_at}
use Rattle.mrdt_set.specs.Set.{set_answer}
use Rattle.mrdt_set.specs.Lawful.{keys-set_of}
use Rattle.mrdt_set.proofs.Standing.{contains-holds}
use Rattle.mrdt_set.proofs.set.SetMrdt.answer.Goals as goal

pub returns-in-Contains : goal.returns-in-Contains
returns-in-Contains c x lawful is =
    let element = c.in-Contains.element in
    ap IsIn (c.contains.ensures ∙ ap (λ k. is_some (times_at c.args.self.now k)) c.as_slice.ensures.bytes ∙ contains-holds c.args.self.now x element lawful.well_formed is) ∙ ap (set_answer x) (sym c.in-Contains.is)

pub returns-in_ok-elements_in_order-in-Members : goal.returns-in_ok-elements_in_order-in-Members
returns-in_ok-elements_in_order-in-Members c x lawful is =
    ap All (c.in_ok-elements_in_order-in-Members.ensures ∙ ap keys_of (c.self.view_is ∙ is) ∙ keys-set_of x) ∙ ap (set_answer x) (sym c.in-Members.is)
