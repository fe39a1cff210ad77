use Rattle.std.proofs.Common.{ℕ, List, [], codes, if◌then◌else◌}
use Rattle.branch_show.specs.Json.{json_string}
use Rattle.branch_print.proofs.Written.{second-refused}
use Rattle.branch_show.proofs.Refused.{on-err, part-first}
use Rattle.branch_show.proofs.json_answers.put_next_string.Goals as goal

pub returns-in_err-put_comma-clause-err : goal.returns-in_err-put_comma-clause-err
returns-in_err-put_comma-clause-err c =
    let t1 : List ℕ = if c.args.is_behind then codes "," else [] in
    let t2 : List ℕ = json_string c.args.bytes.now in
    on-err c.from_residual.result (part-first c.args.out.now.items c.put_comma.new.out.items t1 t2 c.in_err-put_comma.ensures.err)

pub returns-clause-err : goal.returns-clause-err
returns-clause-err c =
    let t1 : List ℕ = if c.args.is_behind then codes "," else [] in
    let t2 : List ℕ = json_string c.args.bytes.now in
    second-refused c.put_string.result c.args.out.now.items c.put_comma.new.out.items c.put_string.new.out.items t1 t2 c.in_ok-put_comma.ensures.ok c.put_string.ensures.err
