use Rattle.std.proofs.Common.{rules}
use Rattle.live_set.specs.Payloads.{IsAmount, amount_way}
use Rattle.live_set.proofs.payload.I64Payload.same.Goals as goal

pub returns-clause-spelled : goal.returns-clause-spelled
returns-clause-spelled c a b is =
    let mine : IsAmount c.args.self.now = search rules in
    let theirs : IsAmount c.args.other.now = search rules in
    (amount_way.one c.args.self.now c.args.other.now a b mine theirs is).0
