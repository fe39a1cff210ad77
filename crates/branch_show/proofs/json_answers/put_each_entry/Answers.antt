use Rattle.std.proofs.Common.{refl}
use Rattle.branch_show.specs.Json.{json_entry}
use Rattle.branch_show.proofs.Commas.{commas-written}
use Rattle.branch_show.proofs.Refused.{commas-part, on-err}
use Rattle.branch_show.proofs.json_answers.put_each_entry.Goals as goal

pub loop-i-preserved : goal.loop-i-preserved
loop-i-preserved c =
    commas-written json_entry c.args.entries.now c.loop-i.i c.index-entries-i.result (json_entry c.index-entries-i.result) c.args.out.now.items c.loop-i.out.items
    c.put_next_entry.new.out.items c.loop-i-test.true c.index-entries-i.is refl c.loop-i.invariant c.in_ok-put_next_entry.ensures.ok

pub returns-in_err-put_next_entry-clause-err : goal.returns-in_err-put_next_entry-clause-err
returns-in_err-put_next_entry-clause-err c =
    on-err c.from_residual.result (commas-part json_entry c.args.entries.now c.loop-i.i c.index-entries-i.result (json_entry c.index-entries-i.result) c.args.out.now.items c.loop-i.out.items
    c.put_next_entry.new.out.items c.loop-i-test.true c.index-entries-i.is refl c.loop-i.invariant c.in_err-put_next_entry.ensures.err)
