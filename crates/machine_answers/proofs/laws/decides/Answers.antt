-- The machine's own answers to a turn are one.
use Rattle.machine_answers.proofs.Decided.{decided}
use Rattle.machine_answers.proofs.laws.decides.Goals as goal

pub returns : goal.returns
returns g c = λ turn old new new' one two takes takes' is is'.
    decided turn old one two new new' takes.turns takes'.turns takes.history takes'.history takes.counted takes'.counted is is'
