use Rattle.std.proofs.Common.{[], ◌∷◌}
use Rattle.store_seen.specs.Turns.{move_of}
use Rattle.branch_shared.proofs.Spellings.{lands-spelled}
use Rattle.branch_shared.proofs.spelled.spells_landings.Goals as goal

pub returns : goal.returns
returns g c = λ terms history valid prefix under moved.
    let made = c.args.prepared.now in
    let before = c.has_fully_valid_prefixes.ensures terms g.A.Address.address history (move_of made.seen.branch made.work ∷ []) valid in
    lands-spelled g.T.Mrdt.meaning (g.met.T.Mrdt g.world.𝓛 g.world.𝓜 g.world.𝓡 ((λ s x. x), (λ x. x), (λ x. x), λ x. x)).laws terms g.A.Address.address history made c.written.result before c.branch-prepared.ensures.seen prefix under c.written.ensures moved
