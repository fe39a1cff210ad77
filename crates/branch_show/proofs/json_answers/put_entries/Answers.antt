use Rattle.std.proofs.Common.{ℕ, List, ◌++◌, codes, map}
use Rattle.branch_show.specs.Json.{with_commas, json_entry}
use Rattle.branch_print.proofs.Written.{second-refused}
use Rattle.branch_show.proofs.Refused.{on-err, part-first, part-second, behind}
use Rattle.branch_show.proofs.json_answers.put_entries.Goals as goal

pub returns-in_err-put_text-clause-err : goal.returns-in_err-put_text-clause-err
returns-in_err-put_text-clause-err c =
    let t1 : List ℕ = codes "[" in
    let t2 : List ℕ = with_commas (map json_entry c.args.entries.now) in
    let t3 : List ℕ = codes "]" in
    on-err c.from_residual.result (part-first c.args.out.now.items c.put_text.new.out.items (t1 ++ t2) t3 (part-first c.args.out.now.items c.put_text.new.out.items t1 t2
    c.in_err-put_text.ensures.err))

pub returns-in_err-put_each_entry-clause-err : goal.returns-in_err-put_each_entry-clause-err
returns-in_err-put_each_entry-clause-err c =
    let t1 : List ℕ = codes "[" in
    let t2 : List ℕ = with_commas (map json_entry c.args.entries.now) in
    let t3 : List ℕ = codes "]" in
    on-err c.from_residual-in_err-put_each_entry.result (part-first c.args.out.now.items c.put_each_entry.new.out.items (t1 ++ t2) t3 (part-second c.args.out.now.items
    c.put_text.new.out.items c.put_each_entry.new.out.items t1 t2 c.in_ok-put_text.ensures.ok c.in_err-put_each_entry.ensures.err))

pub returns-clause-err : goal.returns-clause-err
returns-clause-err c =
    let t1 : List ℕ = codes "[" in
    let t2 : List ℕ = with_commas (map json_entry c.args.entries.now) in
    let t3 : List ℕ = codes "]" in
    second-refused c.put_text-2.result c.args.out.now.items c.put_each_entry.new.out.items c.put_text-2.new.out.items (t1 ++ t2) t3 (behind c.args.out.now.items
    c.put_text.new.out.items c.put_each_entry.new.out.items t1 t2 c.in_ok-put_text.ensures.ok c.in_ok-put_each_entry.ensures.ok) c.put_text-2.ensures.err
