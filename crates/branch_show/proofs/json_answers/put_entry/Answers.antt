use Rattle.std.proofs.Common.{◌≡◌, ◌∙◌, ap, ℕ, List, [], ◌∷◌, ◌++◌, codes, sym, append_assoc}
use Rattle.std.proofs.lemmas.List.{append-nil}
use Rattle.branch_print.specs.Texts.{time_text}
use Rattle.branch_show.specs.Json.{json_string, json_entry, json_member, json_object}
use Rattle.branch_print.proofs.Written.{part-is, second-refused}
use Rattle.branch_show.proofs.Refused.{on-err, part-first, part-second, behind}
use Rattle.branch_show.proofs.json_answers.put_entry.Goals as goal

-- two members of an object
joined : (time word : List ℕ) → codes "{\"time\":" ++ time ++ codes ",\"word\":" ++ word ++ codes "}" ≡ json_object (json_member (codes "time") time ∷ json_member (codes "word") word ∷ [])
joined time word = simp (append-nil, append_assoc) (ap (λ t. codes "{\"time\":" ++ t) (sym (append_assoc time (codes ",\"word\":" ++ word) (codes "}"))))

pub returns-in_err-put_text-clause-err : goal.returns-in_err-put_text-clause-err
returns-in_err-put_text-clause-err c =
    let t1 : List ℕ = codes "{\"time\":" in
    let t2 : List ℕ = json_string (time_text c.args.entry.now.time) in
    let t3 : List ℕ = codes ",\"word\":" in
    let t4 : List ℕ = json_string c.args.entry.now.payload in
    let t5 : List ℕ = codes "}" in
    part-is c.from_residual.result c.args.out.now.items c.put_text.new.out.items (t1 ++ t2 ++ t3 ++ t4 ++ t5) (json_entry c.args.entry.now) (on-err c.from_residual.result
    (part-first c.args.out.now.items c.put_text.new.out.items (t1 ++ t2 ++ t3 ++ t4) t5 (part-first c.args.out.now.items c.put_text.new.out.items (t1 ++ t2 ++ t3) t4
    (part-first c.args.out.now.items c.put_text.new.out.items (t1 ++ t2) t3 (part-first c.args.out.now.items c.put_text.new.out.items t1 t2 c.in_err-put_text.ensures.err)))))
    (joined (json_string (time_text c.args.entry.now.time)) (json_string c.args.entry.now.payload))

pub returns-in_err-put_time-clause-err : goal.returns-in_err-put_time-clause-err
returns-in_err-put_time-clause-err c =
    let t1 : List ℕ = codes "{\"time\":" in
    let t2 : List ℕ = json_string (time_text c.args.entry.now.time) in
    let t3 : List ℕ = codes ",\"word\":" in
    let t4 : List ℕ = json_string c.args.entry.now.payload in
    let t5 : List ℕ = codes "}" in
    part-is c.from_residual-in_err-put_time.result c.args.out.now.items c.put_time.new.out.items (t1 ++ t2 ++ t3 ++ t4 ++ t5) (json_entry c.args.entry.now) (on-err
    c.from_residual-in_err-put_time.result (part-first c.args.out.now.items c.put_time.new.out.items (t1 ++ t2 ++ t3 ++ t4) t5 (part-first c.args.out.now.items
    c.put_time.new.out.items (t1 ++ t2 ++ t3) t4 (part-first c.args.out.now.items c.put_time.new.out.items (t1 ++ t2) t3 (part-second c.args.out.now.items
    c.put_text.new.out.items c.put_time.new.out.items t1 t2 c.in_ok-put_text.ensures.ok c.in_err-put_time.ensures.err))))) (joined (json_string (time_text
    c.args.entry.now.time)) (json_string c.args.entry.now.payload))

pub returns-in_err-put_text-2-clause-err : goal.returns-in_err-put_text-2-clause-err
returns-in_err-put_text-2-clause-err c =
    let t1 : List ℕ = codes "{\"time\":" in
    let t2 : List ℕ = json_string (time_text c.args.entry.now.time) in
    let t3 : List ℕ = codes ",\"word\":" in
    let t4 : List ℕ = json_string c.args.entry.now.payload in
    let t5 : List ℕ = codes "}" in
    part-is c.from_residual-in_err-put_text-2.result c.args.out.now.items c.put_text-2.new.out.items (t1 ++ t2 ++ t3 ++ t4 ++ t5) (json_entry c.args.entry.now) (on-err
    c.from_residual-in_err-put_text-2.result (part-first c.args.out.now.items c.put_text-2.new.out.items (t1 ++ t2 ++ t3 ++ t4) t5 (part-first c.args.out.now.items
    c.put_text-2.new.out.items (t1 ++ t2 ++ t3) t4 (part-second c.args.out.now.items c.put_time.new.out.items c.put_text-2.new.out.items (t1 ++ t2) t3 (behind
    c.args.out.now.items c.put_text.new.out.items c.put_time.new.out.items t1 t2 c.in_ok-put_text.ensures.ok c.in_ok-put_time.ensures.ok) c.in_err-put_text-2.ensures.err))))
    (joined (json_string (time_text c.args.entry.now.time)) (json_string c.args.entry.now.payload))

pub returns-in_err-put_string-clause-err : goal.returns-in_err-put_string-clause-err
returns-in_err-put_string-clause-err c =
    let t1 : List ℕ = codes "{\"time\":" in
    let t2 : List ℕ = json_string (time_text c.args.entry.now.time) in
    let t3 : List ℕ = codes ",\"word\":" in
    let t4 : List ℕ = json_string c.as_slice.result.now in
    let t5 : List ℕ = codes "}" in
    part-is c.from_residual-in_err-put_string.result c.args.out.now.items c.put_string.new.out.items (t1 ++ t2 ++ t3 ++ t4 ++ t5) (json_entry c.args.entry.now) (on-err
    c.from_residual-in_err-put_string.result (part-first c.args.out.now.items c.put_string.new.out.items (t1 ++ t2 ++ t3 ++ t4) t5 (part-second c.args.out.now.items
    c.put_text-2.new.out.items c.put_string.new.out.items (t1 ++ t2 ++ t3) t4 (behind c.args.out.now.items c.put_time.new.out.items c.put_text-2.new.out.items (t1 ++ t2) t3
    (behind c.args.out.now.items c.put_text.new.out.items c.put_time.new.out.items t1 t2 c.in_ok-put_text.ensures.ok c.in_ok-put_time.ensures.ok)
    c.in_ok-put_text-2.ensures.ok) c.in_err-put_string.ensures.err))) (joined t2 t4 ∙ ap (λ (word : List ℕ). json_object (json_member (codes "time") t2 ∷ json_member (codes
    "word") (json_string word) ∷ [])) c.as_slice.ensures.bytes)

pub returns-clause-err : goal.returns-clause-err
returns-clause-err c =
    let t1 : List ℕ = codes "{\"time\":" in
    let t2 : List ℕ = json_string (time_text c.args.entry.now.time) in
    let t3 : List ℕ = codes ",\"word\":" in
    let t4 : List ℕ = json_string c.as_slice.result.now in
    let t5 : List ℕ = codes "}" in
    part-is c.put_text-3.result c.args.out.now.items c.put_text-3.new.out.items (t1 ++ t2 ++ t3 ++ t4 ++ t5) (json_entry c.args.entry.now) (second-refused c.put_text-3.result
    c.args.out.now.items c.put_string.new.out.items c.put_text-3.new.out.items (t1 ++ t2 ++ t3 ++ t4) t5 (behind c.args.out.now.items c.put_text-2.new.out.items
    c.put_string.new.out.items (t1 ++ t2 ++ t3) t4 (behind c.args.out.now.items c.put_time.new.out.items c.put_text-2.new.out.items (t1 ++ t2) t3 (behind c.args.out.now.items
    c.put_text.new.out.items c.put_time.new.out.items t1 t2 c.in_ok-put_text.ensures.ok c.in_ok-put_time.ensures.ok) c.in_ok-put_text-2.ensures.ok)
    c.in_ok-put_string.ensures.ok) c.put_text-3.ensures.err) (joined t2 t4 ∙ ap (λ (word : List ℕ). json_object (json_member (codes "time") t2 ∷ json_member (codes "word")
    (json_string word) ∷ [])) c.as_slice.ensures.bytes)
