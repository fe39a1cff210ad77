use Rattle.std.proofs.Common.{◌≡◌, ◌∙◌, ap, ℕ, List, ◌++◌, codes, map, append_assoc}
use Rattle.branch_words.specs.Words.{kind_word}
use Rattle.branch_show.specs.Json.{with_commas, json_string, json_member, json_object, key_member}
use Rattle.branch_print.proofs.Written.{part-is, second-refused}
use Rattle.branch_show.proofs.Refused.{on-err, part-first, part-second, behind}
use Rattle.branch_show.proofs.json.put_kind.Goals as goal

-- a member that is an object
joined : (name members : List ℕ) → name ++ codes ":" ++ codes "{" ++ members ++ codes "}" ≡ name ++ codes ":" ++ (codes "{" ++ members ++ codes "}")
joined name members = simp append_assoc

pub returns-in_err-put_name-clause-err : goal.returns-in_err-put_name-clause-err
returns-in_err-put_name-clause-err g c =
    let t1 : List ℕ = json_string c.kind_word.result.now ++ codes ":" in
    let t2 : List ℕ = codes "{" in
    let t3 : List ℕ = with_commas (map (key_member (g.V.Asked.answers c.args.document.now) c.args.kind) c.args.keys.now) in
    let t4 : List ℕ = codes "}" in
    part-is c.from_residual.result c.args.out.now.items c.put_name.new.out.items (t1 ++ t2 ++ t3 ++ t4) (json_member (kind_word c.args.kind) (json_object (map (key_member
    (g.V.Asked.answers c.args.document.now) c.args.kind) c.args.keys.now))) (on-err c.from_residual.result (part-first c.args.out.now.items c.put_name.new.out.items (t1 ++ t2
    ++ t3) t4 (part-first c.args.out.now.items c.put_name.new.out.items (t1 ++ t2) t3 (part-first c.args.out.now.items c.put_name.new.out.items t1 t2
    c.in_err-put_name.ensures.err)))) (joined (json_string c.kind_word.result.now) t3 ∙ ap (λ (name : List ℕ). json_member name (codes "{" ++ t3 ++ codes "}"))
    c.kind_word.ensures)

pub returns-in_err-put_text-clause-err : goal.returns-in_err-put_text-clause-err
returns-in_err-put_text-clause-err g c =
    let t1 : List ℕ = json_string c.kind_word.result.now ++ codes ":" in
    let t2 : List ℕ = codes "{" in
    let t3 : List ℕ = with_commas (map (key_member (g.V.Asked.answers c.args.document.now) c.args.kind) c.args.keys.now) in
    let t4 : List ℕ = codes "}" in
    part-is c.from_residual-in_err-put_text.result c.args.out.now.items c.put_text.new.out.items (t1 ++ t2 ++ t3 ++ t4) (json_member (kind_word c.args.kind) (json_object (map
    (key_member (g.V.Asked.answers c.args.document.now) c.args.kind) c.args.keys.now))) (on-err c.from_residual-in_err-put_text.result (part-first c.args.out.now.items
    c.put_text.new.out.items (t1 ++ t2 ++ t3) t4 (part-first c.args.out.now.items c.put_text.new.out.items (t1 ++ t2) t3 (part-second c.args.out.now.items
    c.put_name.new.out.items c.put_text.new.out.items t1 t2 c.in_ok-put_name.ensures.ok c.in_err-put_text.ensures.err)))) (joined (json_string c.kind_word.result.now) t3 ∙ ap
    (λ (name : List ℕ). json_member name (codes "{" ++ t3 ++ codes "}")) c.kind_word.ensures)

pub returns-in_err-put_keys-clause-err : goal.returns-in_err-put_keys-clause-err
returns-in_err-put_keys-clause-err g c =
    let t1 : List ℕ = json_string c.kind_word.result.now ++ codes ":" in
    let t2 : List ℕ = codes "{" in
    let t3 : List ℕ = with_commas (map (key_member (g.V.Asked.answers c.args.document.now) c.args.kind) c.args.keys.now) in
    let t4 : List ℕ = codes "}" in
    part-is c.from_residual-in_err-put_keys.result c.args.out.now.items c.put_keys.new.out.items (t1 ++ t2 ++ t3 ++ t4) (json_member (kind_word c.args.kind) (json_object (map
    (key_member (g.V.Asked.answers c.args.document.now) c.args.kind) c.args.keys.now))) (on-err c.from_residual-in_err-put_keys.result (part-first c.args.out.now.items
    c.put_keys.new.out.items (t1 ++ t2 ++ t3) t4 (part-second c.args.out.now.items c.put_text.new.out.items c.put_keys.new.out.items (t1 ++ t2) t3 (behind
    c.args.out.now.items c.put_name.new.out.items c.put_text.new.out.items t1 t2 c.in_ok-put_name.ensures.ok c.in_ok-put_text.ensures.ok) c.in_err-put_keys.ensures.err)))
    (joined (json_string c.kind_word.result.now) t3 ∙ ap (λ (name : List ℕ). json_member name (codes "{" ++ t3 ++ codes "}")) c.kind_word.ensures)

pub returns-clause-err : goal.returns-clause-err
returns-clause-err g c =
    let t1 : List ℕ = json_string c.kind_word.result.now ++ codes ":" in
    let t2 : List ℕ = codes "{" in
    let t3 : List ℕ = with_commas (map (key_member (g.V.Asked.answers c.args.document.now) c.args.kind) c.args.keys.now) in
    let t4 : List ℕ = codes "}" in
    part-is c.put_text-2.result c.args.out.now.items c.put_text-2.new.out.items (t1 ++ t2 ++ t3 ++ t4) (json_member (kind_word c.args.kind) (json_object (map (key_member
    (g.V.Asked.answers c.args.document.now) c.args.kind) c.args.keys.now))) (second-refused c.put_text-2.result c.args.out.now.items c.put_keys.new.out.items
    c.put_text-2.new.out.items (t1 ++ t2 ++ t3) t4 (behind c.args.out.now.items c.put_text.new.out.items c.put_keys.new.out.items (t1 ++ t2) t3 (behind c.args.out.now.items
    c.put_name.new.out.items c.put_text.new.out.items t1 t2 c.in_ok-put_name.ensures.ok c.in_ok-put_text.ensures.ok) c.in_ok-put_keys.ensures.ok) c.put_text-2.ensures.err)
    (joined (json_string c.kind_word.result.now) t3 ∙ ap (λ (name : List ℕ). json_member name (codes "{" ++ t3 ++ codes "}")) c.kind_word.ensures)
