use Rattle.std.proofs.Common.{◌∙◌, ℕ, List, [], ◌++◌, codes, map, if◌then◌else◌, ap, sym, subst, OnErr}
use Rattle.mrdt_model.specs.Spelled.{AppendsPart}
use Rattle.branch_words.specs.Words.{kind_word}
use Rattle.branch_show.specs.Documents.{keys_in}
use Rattle.branch_show.specs.Json.{json_member, json_object, key_member, kind_member, is_told}
use Rattle.branch_show.proofs.Refused.{on-err, part-first, part-second}
use Rattle.branch_show.proofs.json.put_told.Goals as goal

pub returns-in_err-put_comma-in-Some-clause-err : goal.returns-in_err-put_comma-in-Some-clause-err
returns-in_err-put_comma-in-Some-clause-err g c =
    let old = c.args.out.now.items in
    let new = c.put_comma.new.out.items in
    let comma : List ℕ = if c.args.is_behind then codes "," else [] in
    let member = kind_member (g.V.Asked.answers c.args.document.now) c.args.kind in
    let r = c.from_residual-in_err-put_comma-in-Some.result in
    subst (λ given. OnErr r (AppendsPart old new (if is_told given then comma ++ member else []))) (sym c.in-Some.is ∙ c.in_ok-ask.ensures)
    (on-err r (part-first old new comma member c.in_err-put_comma-in-Some.ensures.err))

pub returns-in_err-put_kind-in-Some-clause-err : goal.returns-in_err-put_kind-in-Some-clause-err
returns-in_err-put_kind-in-Some-clause-err g c =
    let answers = g.V.Asked.answers c.args.document.now in
    let old = c.args.out.now.items in
    let mid = c.put_comma.new.out.items in
    let new = c.put_kind.new.out.items in
    let comma : List ℕ = if c.args.is_behind then codes "," else [] in
    let member = kind_member answers c.args.kind in
    let r = c.from_residual-in_err-put_kind-in-Some.result in
    let given = sym c.in-Some.is ∙ c.in_ok-ask.ensures in
    let part : AppendsPart mid new member = subst (λ (keys : List (List ℕ)). AppendsPart mid new (json_member (kind_word c.args.kind) (json_object (map (key_member answers c.args.kind) keys))))
    (c.keys_in.ensures ∙ ap keys_in given) c.in_err-put_kind-in-Some.ensures.err in
    subst (λ given. OnErr r (AppendsPart old new (if is_told given then comma ++ member else []))) given
    (on-err r (part-second old mid new comma member c.in_ok-put_comma-in-Some.ensures.ok part))
