-- Each move behind a renewed history, by its kind.
use Rattle.branch_renewal.proofs.Turns.{all-renewed}
use Rattle.branch_renewal.proofs.laws.keeps_turns.Goals as goal

pub returns : goal.returns
returns g c = λ f a b renews terms address moves valid first.
    let laws = (g.met.T.Mrdt g.world.𝓛 g.world.𝓜 g.world.𝓡 ((λ s x. x), (λ x. x), (λ x. x), λ x. x)).laws in
    all-renewed a b g.T.Mrdt.meaning g.U.Mrdt.meaning f laws renews terms address moves valid first
