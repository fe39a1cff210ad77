-- The answers at a commit are those of the renewed events.
use Rattle.branch_machine.specs.Fixed.{present}
use Rattle.branch_renewal.proofs.Turns.{answer-renewed}
use Rattle.branch_renewal.proofs.laws.keeps_answers.Goals as goal

pub returns : goal.returns
returns g c = λ f renews terms moves valid n q.
    let laws = (g.met.T.Mrdt g.world.𝓛 g.world.𝓜 g.world.𝓡 ((λ s x. x), (λ x. x), (λ x. x), λ x. x)).laws in
    answer-renewed present present g.T.Mrdt.meaning g.U.Mrdt.meaning f laws renews terms (λ bytes. bytes) moves valid n q
