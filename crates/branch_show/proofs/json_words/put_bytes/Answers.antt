use Rattle.std.proofs.Common.{get_or, refl}
use Rattle.branch_print.proofs.Written.{each-part}
use Rattle.branch_show.specs.Json.{json_byte}
use Rattle.branch_show.proofs.Refused.{on-err}
use Rattle.branch_show.proofs.json_words.put_bytes.Goals as goal

pub returns-in_err-put_byte-clause-err : goal.returns-in_err-put_byte-clause-err
returns-in_err-put_byte-clause-err c =
    on-err c.from_residual.result (each-part json_byte c.args.bytes.now c.loop-byte.byte-index (get_or c.args.bytes.now c.loop-byte.byte-index 0) 0 c.args.out.now.items c.loop-byte.out.items
    c.put_byte.new.out.items c.loop-byte-test.true refl c.loop-byte.invariant c.in_err-put_byte.ensures.err)
