use Rattle.std.proofs.lemmas.Result.{on_err_weaker}
use Rattle.branch_wire.specs.Fields.{time_field}
use Rattle.branch_wire.proofs.Parts.{part-first, part-second, on-err}
use Rattle.live_set.proofs.spelled.put_kept.Goals as goal

pub returns-in_err-put_time-clause-err : goal.returns-in_err-put_time-clause-err
returns-in_err-put_time-clause-err g c =
    let kept = c.args.kept.now in
    on-err c.from_residual.result (part-first c.args.out.now.items c.put_time.new.out.items (time_field kept.time) (g.V.Payload.spelling kept.payload) c.in_err-put_time.ensures.err)

pub returns-clause-err : goal.returns-clause-err
returns-clause-err g c =
    let kept = c.args.kept.now in
    on_err_weaker c.put.result (part-second c.args.out.now.items c.put_time.new.out.items c.put.new.out.items (time_field kept.time) (g.V.Payload.spelling kept.payload) c.in_ok-put_time.ensures.ok) c.put.ensures.err
