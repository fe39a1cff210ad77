use Rattle.std.proofs.Common.{◌≡◌, ◌+◌, ◌<◌, ◌≤◌, drop, take, length, arith}
use Rattle.std.proofs.lemmas.Grind.{common_steps}
use Rattle.std.proofs.Math.ListN.{drop_of_length-le}
use Rattle.branch_io.proofs.Calls.{next_bytes}
use Rattle.branch_io.proofs.memory.MemorySourceSource.take.Goals as goal

pub returns-clause-bytes : goal.returns-clause-bytes
returns-clause-bytes c =
    let bytes = c.args.self.now.bytes.items in
    let at = c.args.self.now.at in
    let count = c.min-count.result in
    let is : c.copy_from_slice.new.self ≡ take count (drop at bytes) = grind (arith, common_steps) in
    let len : length c.copy_from_slice.new.self ≡ count = grind (arith, common_steps) in
    let ends : count ≡ 0 → 0 < length c.args.buf.now → length bytes ≤ at + count = λ z r. grind (arith, common_steps) in (
      next_bytes bytes c.copy_from_slice.new.self (drop count c.args.buf.now) at count is len,
      λ zero room. drop_of_length-le bytes (ends zero (grind (arith, common_steps))),
    )
