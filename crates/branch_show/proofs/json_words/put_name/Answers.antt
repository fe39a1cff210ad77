use Rattle.std.proofs.Common.{ℕ, List, codes}
use Rattle.branch_show.specs.Json.{json_string}
use Rattle.branch_print.proofs.Written.{second-refused}
use Rattle.branch_show.proofs.Refused.{on-err, part-first}
use Rattle.branch_show.proofs.json_words.put_name.Goals as goal

pub returns-in_err-put_string-clause-err : goal.returns-in_err-put_string-clause-err
returns-in_err-put_string-clause-err c =
    let t1 : List ℕ = json_string c.args.name.now in
    let t2 : List ℕ = codes ":" in
    on-err c.from_residual.result (part-first c.args.out.now.items c.put_string.new.out.items t1 t2 c.in_err-put_string.ensures.err)

pub returns-clause-err : goal.returns-clause-err
returns-clause-err c =
    let t1 : List ℕ = json_string c.args.name.now in
    let t2 : List ℕ = codes ":" in
    second-refused c.put_text.result c.args.out.now.items c.put_string.new.out.items c.put_text.new.out.items t1 t2 c.in_ok-put_string.ensures.ok c.put_text.ensures.err
