-- The first ones are the last ones of the list that is held.
use Rattle.std.proofs.Common.{◌≡◌, ◌≤◌, ◌-◌, ◌∙◌, arith, ℕ, length, ap, take, drop}
use Rattle.std.specs.Prelude.{reverse}
use Rattle.std.proofs.lemmas.List.{length-reverse}
use Rattle.store_receive.proofs.Turned.{turned-taken, turned-left}
use Rattle.store_receive.proofs.left.Left.take.Goals as goal

pub returns-clause-taken : goal.returns-clause-taken
returns-clause-taken c =
    let turned = c.self.inside.turned.items in
    let count = c.args.count in
    let size : c.len.result ≡ length turned = omega arith in
    let within : count ≤ length turned = omega (arith, c.requires, ap length c.self.view_is, length-reverse turned) in
    c.reverse.ensures.items ∙ ap reverse c.in_ok-items.ensures.tail ∙ ap (λ (n : ℕ). reverse (drop (n - count) turned)) size ∙ turned-taken turned count within ∙ ap (take count) c.self.view_is

pub returns-clause-left : goal.returns-clause-left
returns-clause-left c =
    let turned = c.self.inside.turned.items in
    let count = c.args.count in
    let size : c.len.result ≡ length turned = omega arith in
    let within : count ≤ length turned = omega (arith, c.requires, ap length c.self.view_is, length-reverse turned) in
    ap reverse (c.shrink_to_fit.ensures.items ∙ c.in_ok-items.ensures.items) ∙ ap (λ (n : ℕ). reverse (take (n - count) turned)) size ∙ turned-left turned count within ∙ ap (drop count) c.self.view_is
