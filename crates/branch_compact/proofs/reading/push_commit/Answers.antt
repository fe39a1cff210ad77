-- There is room.
use Rattle.std.proofs.Common.{◌∙◌, Err, ap, arith}
use Rattle.branch_compact.proofs.reading.push_commit.Goals as goal

pub unreachable-requires : goal.unreachable-requires
unreachable-requires c =
    let n = c.in-Err-Full.field-0-0 in
    let full = (c.push.ensures.full n).0 (c.in-Err-Full.is ∙ ap Err c.in-Err-Full.field-0-is) in
    let limit = full.0 in
    let count = full.1 in
    let room = c.requires.room in
    omega (arith, limit, count, room)
