use Rattle.std.proofs.Common.{rules, ◌∙◌, ◌<◌, ◌^◌, length, sym}
use Rattle.branch_wire.proofs.OneWay.{fields}
use Rattle.live_set.proofs.payload.SharedBytesPayload.same.Goals as goal

pub returns-clause-spelled : goal.returns-clause-spelled
returns-clause-spelled c a b is =
    let mine : length c.args.self.now < 2 ^ 64 = search rules in
    let theirs : length c.args.other.now < 2 ^ 64 = search rules in
    (fields.one c.args.self.now c.args.other.now a b mine theirs is).0
