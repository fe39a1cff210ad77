use Rattle.std.proofs.Common.{◌≡◌, ◌++◌, ℕ, List, codes, map, filter, append_assoc}
use Rattle.std.proofs.lemmas.Result.{on_ok_weaker}
use Rattle.branch_doc.specs.declared.plain.PlainQuery.TheVariants.{Keys}
use Rattle.branch_print.specs.Texts.{line_end}
use Rattle.branch_show.specs.Documents.{all_kinds}
use Rattle.branch_show.specs.Json.{with_commas, kind_member, is_told, json_text}
use Rattle.branch_print.proofs.Written.{part-is, second-refused}
use Rattle.branch_show.proofs.Refused.{on-err, part-first, part-second, behind}
use Rattle.branch_show.proofs.json.put_json.Goals as goal

-- an object on a line of its own
written : (old brace whole new members : List ℕ) → brace ≡ old ++ codes "{" → whole ≡ brace ++ members → new ≡ whole ++ codes "}\n"
    → new ≡ old ++ (codes "{" ++ members ++ codes "}" ++ codes "\n")
written old brace whole new members p q r = simp (r, q, p, append_assoc)

joined : (members : List ℕ) → codes "{" ++ members ++ (codes "}" ++ line_end) ≡ codes "{" ++ members ++ codes "}" ++ line_end
joined members = simp append_assoc

pub returns-clause-ok : goal.returns-clause-ok
unfolding json_text
returns-clause-ok g c =
    on_ok_weaker c.put_text-2.result (written c.args.out.now.items c.put_text.new.out.items c.put_kinds.new.out.items c.put_text-2.new.out.items _ c.in_ok-put_text.ensures.ok
    c.in_ok-put_kinds.ensures.ok)
    c.put_text-2.ensures.ok

pub returns-in_err-put_text-clause-err : goal.returns-in_err-put_text-clause-err
unfolding json_text
returns-in_err-put_text-clause-err g c =
    let t1 : List ℕ = codes "{" in
    let t2 : List ℕ = with_commas (map (kind_member (g.V.Asked.answers c.args.document.now)) (filter (λ k. is_told (g.V.Asked.answers c.args.document.now (Keys k))) all_kinds)) in
    let t3 : List ℕ = codes "}" ++ line_end in
    part-is c.from_residual.result c.args.out.now.items c.put_text.new.out.items (t1 ++ t2 ++ t3) (json_text (g.V.Asked.answers c.args.document.now)) (on-err
    c.from_residual.result (part-first c.args.out.now.items c.put_text.new.out.items (t1 ++ t2) t3 (part-first c.args.out.now.items c.put_text.new.out.items t1 t2
    c.in_err-put_text.ensures.err))) (joined t2)

pub returns-in_err-put_kinds-clause-err : goal.returns-in_err-put_kinds-clause-err
unfolding json_text
returns-in_err-put_kinds-clause-err g c =
    let t1 : List ℕ = codes "{" in
    let t2 : List ℕ = with_commas (map (kind_member (g.V.Asked.answers c.args.document.now)) (filter (λ k. is_told (g.V.Asked.answers c.args.document.now (Keys k))) all_kinds)) in
    let t3 : List ℕ = codes "}" ++ line_end in
    part-is c.from_residual-in_err-put_kinds.result c.args.out.now.items c.put_kinds.new.out.items (t1 ++ t2 ++ t3) (json_text (g.V.Asked.answers c.args.document.now))
    (on-err c.from_residual-in_err-put_kinds.result (part-first c.args.out.now.items c.put_kinds.new.out.items (t1 ++ t2) t3 (part-second c.args.out.now.items
    c.put_text.new.out.items c.put_kinds.new.out.items t1 t2 c.in_ok-put_text.ensures.ok c.in_err-put_kinds.ensures.err))) (joined t2)

pub returns-clause-err : goal.returns-clause-err
unfolding json_text
returns-clause-err g c =
    let t1 : List ℕ = codes "{" in
    let t2 : List ℕ = with_commas (map (kind_member (g.V.Asked.answers c.args.document.now)) (filter (λ k. is_told (g.V.Asked.answers c.args.document.now (Keys k))) all_kinds)) in
    let t3 : List ℕ = codes "}" ++ line_end in
    part-is c.put_text-2.result c.args.out.now.items c.put_text-2.new.out.items (t1 ++ t2 ++ t3) (json_text (g.V.Asked.answers c.args.document.now)) (second-refused
    c.put_text-2.result c.args.out.now.items c.put_kinds.new.out.items c.put_text-2.new.out.items (t1 ++ t2) t3 (behind c.args.out.now.items c.put_text.new.out.items
    c.put_kinds.new.out.items t1 t2 c.in_ok-put_text.ensures.ok c.in_ok-put_kinds.ensures.ok) c.put_text-2.ensures.err) (joined t2)
