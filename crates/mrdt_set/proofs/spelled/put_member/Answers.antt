use Rattle.std.proofs.lemmas.Result.{on_err_weaker}
use Rattle.branch_wire.specs.Fields.{field}
use Rattle.branch_wire.proofs.Parts.{part-first, part-second, on-err}
use Rattle.live_set.specs.Payloads.{nothing_spelling}
use Rattle.live_set.specs.Spelling.{live_spelling}
use Rattle.mrdt_set.proofs.spelled.put_member.Goals as goal

pub returns-in_err-put_bytes-clause-err : goal.returns-in_err-put_bytes-clause-err
returns-in_err-put_bytes-clause-err c =
    on-err c.from_residual.result (part-first c.args.out.now.items c.put_bytes.new.out.items (field c.args.element.now) (live_spelling nothing_spelling c.args.times.now) c.in_err-put_bytes.ensures.err)

pub returns-clause-err : goal.returns-clause-err
returns-clause-err c =
    on_err_weaker c.put.result (part-second c.args.out.now.items c.put_bytes.new.out.items c.put.new.out.items (field c.args.element.now) (live_spelling nothing_spelling c.args.times.now) c.in_ok-put_bytes.ensures.ok) c.put.ensures.err
