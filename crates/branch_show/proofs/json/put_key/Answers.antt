use Rattle.std.proofs.Common.{ℕ, List, [], ◌++◌, ◌∙◌, ap, codes, if◌then◌else◌, append_assoc}
use Rattle.branch_show.specs.Json.{json_string, json_answer, key_member}
use Rattle.branch_print.proofs.Written.{part-is, second-refused}
use Rattle.branch_show.proofs.Refused.{on-err, part-first, part-second, behind}
use Rattle.branch_show.proofs.json.put_key.Goals as goal

pub returns-in_err-put_comma-clause-err : goal.returns-in_err-put_comma-clause-err
returns-in_err-put_comma-clause-err g c =
    let t1 : List ℕ = if c.args.is_behind then codes "," else [] in
    let t2 : List ℕ = json_string c.args.key.now ++ codes ":" in
    let t3 : List ℕ = json_answer c.in_ok-answer.answer in
    part-is c.from_residual-in_err-put_comma.result c.args.out.now.items c.put_comma.new.out.items (t1 ++ t2 ++ t3) (t1 ++ key_member (g.V.Asked.answers c.args.document.now)
    c.args.kind c.args.key.now) (on-err c.from_residual-in_err-put_comma.result (part-first c.args.out.now.items c.put_comma.new.out.items (t1 ++ t2) t3 (part-first
    c.args.out.now.items c.put_comma.new.out.items t1 t2 c.in_err-put_comma.ensures.err))) (append_assoc t1 t2 t3 ∙ ap (λ a. t1 ++ (t2 ++ json_answer a))
    c.in_ok-answer.ensures)

pub returns-in_err-put_name-clause-err : goal.returns-in_err-put_name-clause-err
returns-in_err-put_name-clause-err g c =
    let t1 : List ℕ = if c.args.is_behind then codes "," else [] in
    let t2 : List ℕ = json_string c.args.key.now ++ codes ":" in
    let t3 : List ℕ = json_answer c.in_ok-answer.answer in
    part-is c.from_residual-in_err-put_name.result c.args.out.now.items c.put_name.new.out.items (t1 ++ t2 ++ t3) (t1 ++ key_member (g.V.Asked.answers c.args.document.now)
    c.args.kind c.args.key.now) (on-err c.from_residual-in_err-put_name.result (part-first c.args.out.now.items c.put_name.new.out.items (t1 ++ t2) t3 (part-second
    c.args.out.now.items c.put_comma.new.out.items c.put_name.new.out.items t1 t2 c.in_ok-put_comma.ensures.ok c.in_err-put_name.ensures.err))) (append_assoc t1 t2 t3 ∙ ap (λ
    a. t1 ++ (t2 ++ json_answer a)) c.in_ok-answer.ensures)

pub returns-clause-err : goal.returns-clause-err
returns-clause-err g c =
    let t1 : List ℕ = if c.args.is_behind then codes "," else [] in
    let t2 : List ℕ = json_string c.args.key.now ++ codes ":" in
    let t3 : List ℕ = json_answer c.in_ok-answer.answer in
    part-is c.put_json_answer.result c.args.out.now.items c.put_json_answer.new.out.items (t1 ++ t2 ++ t3) (t1 ++ key_member (g.V.Asked.answers c.args.document.now)
    c.args.kind c.args.key.now) (second-refused c.put_json_answer.result c.args.out.now.items c.put_name.new.out.items c.put_json_answer.new.out.items (t1 ++ t2) t3 (behind
    c.args.out.now.items c.put_comma.new.out.items c.put_name.new.out.items t1 t2 c.in_ok-put_comma.ensures.ok c.in_ok-put_name.ensures.ok) c.put_json_answer.ensures.err)
    (append_assoc t1 t2 t3 ∙ ap (λ a. t1 ++ (t2 ++ json_answer a)) c.in_ok-answer.ensures)
