use Rattle.std.proofs.Common.{ℕ, List, ◌++◌, codes}
use Rattle.std.specs.List.{flat_map}
use Rattle.branch_show.specs.Json.{json_byte}
use Rattle.branch_print.proofs.Written.{second-refused}
use Rattle.branch_show.proofs.Refused.{on-err, part-first, part-second, behind}
use Rattle.branch_show.proofs.json_words.put_string.Goals as goal

pub returns-in_err-put_text-clause-err : goal.returns-in_err-put_text-clause-err
returns-in_err-put_text-clause-err c =
    let t1 : List ℕ = codes "\"" in
    let t2 : List ℕ = flat_map json_byte c.args.bytes.now in
    let t3 : List ℕ = codes "\"" in
    on-err c.from_residual.result (part-first c.args.out.now.items c.put_text.new.out.items (t1 ++ t2) t3 (part-first c.args.out.now.items c.put_text.new.out.items t1 t2
    c.in_err-put_text.ensures.err))

pub returns-in_err-put_bytes-clause-err : goal.returns-in_err-put_bytes-clause-err
returns-in_err-put_bytes-clause-err c =
    let t1 : List ℕ = codes "\"" in
    let t2 : List ℕ = flat_map json_byte c.args.bytes.now in
    let t3 : List ℕ = codes "\"" in
    on-err c.from_residual-in_err-put_bytes.result (part-first c.args.out.now.items c.put_bytes.new.out.items (t1 ++ t2) t3 (part-second c.args.out.now.items
    c.put_text.new.out.items c.put_bytes.new.out.items t1 t2 c.in_ok-put_text.ensures.ok c.in_err-put_bytes.ensures.err))

pub returns-clause-err : goal.returns-clause-err
returns-clause-err c =
    let t1 : List ℕ = codes "\"" in
    let t2 : List ℕ = flat_map json_byte c.args.bytes.now in
    let t3 : List ℕ = codes "\"" in
    second-refused c.put_text-2.result c.args.out.now.items c.put_bytes.new.out.items c.put_text-2.new.out.items (t1 ++ t2) t3 (behind c.args.out.now.items
    c.put_text.new.out.items c.put_bytes.new.out.items t1 t2 c.in_ok-put_text.ensures.ok c.in_ok-put_bytes.ensures.ok) c.put_text-2.ensures.err
