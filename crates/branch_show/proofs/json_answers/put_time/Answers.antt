use Rattle.std.proofs.Common.{◌≡◌, ◌∙◌, ap, arith, rules, ℕ, List, ◌++◌, codes, decimal, append_assoc}
use Rattle.std.specs.List.{flat_map}
use Rattle.std.proofs.lemmas.Grind.{flat_map-append}
use Rattle.branch_print.specs.Texts.{time_text}
use Rattle.branch_show.specs.Json.{json_byte, json_string}
use Rattle.branch_print.proofs.Written.{part-is, second-refused}
use Rattle.branch_show.proofs.Refused.{on-err, part-first, part-second, behind}
use Rattle.branch_show.proofs.json_answers.put_time.Goals as goal

-- two numbers and a point, in a string
quoted : (clock origin : List ℕ) → codes "\"" ++ flat_map json_byte clock ++ codes "." ++ flat_map json_byte origin ++ codes "\"" ≡ json_string (clock ++ codes "." ++ origin)
quoted clock origin = simp (flat_map-append, append_assoc)

pub returns-in_err-put_text-clause-err : goal.returns-in_err-put_text-clause-err
returns-in_err-put_text-clause-err c =
    let t1 : List ℕ = codes "\"" in
    let t2 : List ℕ = flat_map json_byte (decimal c.args.time.clock) in
    let t3 : List ℕ = codes "." in
    let t4 : List ℕ = flat_map json_byte (decimal c.args.time.origin) in
    let t5 : List ℕ = codes "\"" in
    part-is c.from_residual.result c.args.out.now.items c.put_text.new.out.items (t1 ++ t2 ++ t3 ++ t4 ++ t5) (json_string (time_text c.args.time)) (on-err
    c.from_residual.result (part-first c.args.out.now.items c.put_text.new.out.items (t1 ++ t2 ++ t3 ++ t4) t5 (part-first c.args.out.now.items c.put_text.new.out.items (t1
    ++ t2 ++ t3) t4 (part-first c.args.out.now.items c.put_text.new.out.items (t1 ++ t2) t3 (part-first c.args.out.now.items c.put_text.new.out.items t1 t2
    c.in_err-put_text.ensures.err))))) (quoted (decimal c.args.time.clock) (decimal c.args.time.origin))

pub returns-in_err-put_digits-clause-err : goal.returns-in_err-put_digits-clause-err
returns-in_err-put_digits-clause-err c =
    let t1 : List ℕ = codes "\"" in
    let t2 : List ℕ = flat_map json_byte (decimal c.args.time.clock) in
    let t3 : List ℕ = codes "." in
    let t4 : List ℕ = flat_map json_byte (decimal c.args.time.origin) in
    let t5 : List ℕ = codes "\"" in
    part-is c.from_residual-in_err-put_digits.result c.args.out.now.items c.put_digits.new.out.items (t1 ++ t2 ++ t3 ++ t4 ++ t5) (json_string (time_text c.args.time))
    (on-err c.from_residual-in_err-put_digits.result (part-first c.args.out.now.items c.put_digits.new.out.items (t1 ++ t2 ++ t3 ++ t4) t5 (part-first c.args.out.now.items
    c.put_digits.new.out.items (t1 ++ t2 ++ t3) t4 (part-first c.args.out.now.items c.put_digits.new.out.items (t1 ++ t2) t3 (part-second c.args.out.now.items
    c.put_text.new.out.items c.put_digits.new.out.items t1 t2 c.in_ok-put_text.ensures.ok c.in_err-put_digits.ensures.err))))) (quoted (decimal c.args.time.clock) (decimal
    c.args.time.origin))

pub returns-in_err-put_text-2-clause-err : goal.returns-in_err-put_text-2-clause-err
returns-in_err-put_text-2-clause-err c =
    let t1 : List ℕ = codes "\"" in
    let t2 : List ℕ = flat_map json_byte (decimal c.args.time.clock) in
    let t3 : List ℕ = codes "." in
    let t4 : List ℕ = flat_map json_byte (decimal c.args.time.origin) in
    let t5 : List ℕ = codes "\"" in
    part-is c.from_residual-in_err-put_text-2.result c.args.out.now.items c.put_text-2.new.out.items (t1 ++ t2 ++ t3 ++ t4 ++ t5) (json_string (time_text c.args.time))
    (on-err c.from_residual-in_err-put_text-2.result (part-first c.args.out.now.items c.put_text-2.new.out.items (t1 ++ t2 ++ t3 ++ t4) t5 (part-first c.args.out.now.items
    c.put_text-2.new.out.items (t1 ++ t2 ++ t3) t4 (part-second c.args.out.now.items c.put_digits.new.out.items c.put_text-2.new.out.items (t1 ++ t2) t3 (behind
    c.args.out.now.items c.put_text.new.out.items c.put_digits.new.out.items t1 t2 c.in_ok-put_text.ensures.ok c.in_ok-put_digits.ensures.ok)
    c.in_err-put_text-2.ensures.err)))) (quoted (decimal c.args.time.clock) (decimal c.args.time.origin))

pub returns-in_err-put_digits-2-clause-err : goal.returns-in_err-put_digits-2-clause-err
returns-in_err-put_digits-2-clause-err c =
    let t1 : List ℕ = codes "\"" in
    let t2 : List ℕ = flat_map json_byte (decimal c.args.time.clock) in
    let t3 : List ℕ = codes "." in
    let is_origin : c.from.result ≡ c.args.time.origin = first_of (omega arith, search rules) in
    let t4 : List ℕ = flat_map json_byte (decimal c.from.result) in
    let t5 : List ℕ = codes "\"" in
    part-is c.from_residual-in_err-put_digits-2.result c.args.out.now.items c.put_digits-2.new.out.items (t1 ++ t2 ++ t3 ++ t4 ++ t5) (json_string (time_text c.args.time))
    (on-err c.from_residual-in_err-put_digits-2.result (part-first c.args.out.now.items c.put_digits-2.new.out.items (t1 ++ t2 ++ t3 ++ t4) t5 (part-second
    c.args.out.now.items c.put_text-2.new.out.items c.put_digits-2.new.out.items (t1 ++ t2 ++ t3) t4 (behind c.args.out.now.items c.put_digits.new.out.items
    c.put_text-2.new.out.items (t1 ++ t2) t3 (behind c.args.out.now.items c.put_text.new.out.items c.put_digits.new.out.items t1 t2 c.in_ok-put_text.ensures.ok
    c.in_ok-put_digits.ensures.ok) c.in_ok-put_text-2.ensures.ok) c.in_err-put_digits-2.ensures.err))) (quoted (decimal c.args.time.clock) (decimal c.from.result) ∙ ap (λ (k
    : ℕ). json_string (decimal c.args.time.clock ++ codes "." ++ decimal k)) is_origin)

pub returns-clause-err : goal.returns-clause-err
returns-clause-err c =
    let t1 : List ℕ = codes "\"" in
    let t2 : List ℕ = flat_map json_byte (decimal c.args.time.clock) in
    let t3 : List ℕ = codes "." in
    let is_origin : c.from.result ≡ c.args.time.origin = first_of (omega arith, search rules) in
    let t4 : List ℕ = flat_map json_byte (decimal c.from.result) in
    let t5 : List ℕ = codes "\"" in
    part-is c.put_text-3.result c.args.out.now.items c.put_text-3.new.out.items (t1 ++ t2 ++ t3 ++ t4 ++ t5) (json_string (time_text c.args.time)) (second-refused
    c.put_text-3.result c.args.out.now.items c.put_digits-2.new.out.items c.put_text-3.new.out.items (t1 ++ t2 ++ t3 ++ t4) t5 (behind c.args.out.now.items
    c.put_text-2.new.out.items c.put_digits-2.new.out.items (t1 ++ t2 ++ t3) t4 (behind c.args.out.now.items c.put_digits.new.out.items c.put_text-2.new.out.items (t1 ++ t2)
    t3 (behind c.args.out.now.items c.put_text.new.out.items c.put_digits.new.out.items t1 t2 c.in_ok-put_text.ensures.ok c.in_ok-put_digits.ensures.ok)
    c.in_ok-put_text-2.ensures.ok) c.in_ok-put_digits-2.ensures.ok) c.put_text-3.ensures.err) (quoted (decimal c.args.time.clock) (decimal c.from.result) ∙ ap (λ (k : ℕ).
    json_string (decimal c.args.time.clock ++ codes "." ++ decimal k)) is_origin)
