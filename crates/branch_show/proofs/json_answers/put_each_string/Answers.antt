use Rattle.std.proofs.Common.{ap}
use Rattle.branch_show.specs.Json.{json_string}
use Rattle.branch_show.proofs.Commas.{commas-written}
use Rattle.branch_show.proofs.Refused.{commas-part, on-err}
use Rattle.branch_show.proofs.json_answers.put_each_string.Goals as goal

pub loop-i-preserved : goal.loop-i-preserved
loop-i-preserved c =
    commas-written json_string c.args.strings.now c.loop-i.i c.index-strings-i.result (json_string c.as_slice.result.now) c.args.out.now.items c.loop-i.out.items
    c.put_next_string.new.out.items c.loop-i-test.true c.index-strings-i.is (ap json_string c.as_slice.ensures.bytes) c.loop-i.invariant c.in_ok-put_next_string.ensures.ok

pub returns-in_err-put_next_string-clause-err : goal.returns-in_err-put_next_string-clause-err
returns-in_err-put_next_string-clause-err c =
    on-err c.from_residual.result (commas-part json_string c.args.strings.now c.loop-i.i c.index-strings-i.result (json_string c.as_slice.result.now) c.args.out.now.items c.loop-i.out.items
    c.put_next_string.new.out.items c.loop-i-test.true c.index-strings-i.is (ap json_string c.as_slice.ensures.bytes) c.loop-i.invariant c.in_err-put_next_string.ensures.err)
