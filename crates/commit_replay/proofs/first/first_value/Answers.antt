-- The first value is spelled as the history without events has it.
use Rattle.std.proofs.Common.{◌≡◌, ◌∙◌, [], rules, List, ℕ, subst, sym}
use Rattle.branch_names.specs.declared.layout.Layout.{Layout}
use Rattle.branch_wire.specs.Objects.{value_object}
use Rattle.branch_machine.specs.Objects.{kept_value}
use Rattle.commit_replay.proofs.Begun.{first-spelled}
use Rattle.commit_replay.proofs.first.first_value.Goals as goal

pub returns-in_ok-put_value-in-Whole : goal.returns-in_ok-put_value-in-Whole
returns-in_ok-put_value-in-Whole g c =
    let m = g.T.Mrdt.meaning in
    let laws = (g.met.T.Mrdt g.world.𝓛 g.world.𝓜 g.world.𝓡 ((λ s x. x), (λ x. x), (λ x. x), λ x. x)).laws in
    let value : List ℕ = c.put_value.new.out.items in
    let is : value ≡ value_object (m.state_spelling c.initial.result) = search rules in
    subst (λ (layout : Layout). value ≡ kept_value layout (m.spelling_of [])) (sym c.in-Whole.is) (is ∙ first-spelled m laws c.initial.result c.initial.ensures)
