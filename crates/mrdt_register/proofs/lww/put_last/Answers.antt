use Rattle.std.proofs.Common.{rules, ◌≡◌, ◌∷◌, ◌++◌, [], OnErr, sym, subst}
use Rattle.std.proofs.lemmas.Result.{on_err_weaker}
use Rattle.mrdt_model.specs.Spelled.{AppendsPart}
use Rattle.branch_wire.specs.Fields.{time_field, field}
use Rattle.branch_wire.proofs.Parts.{part-first, part-second, on-err}
use Rattle.mrdt_register.specs.Lww.{lww_spelling}
use Rattle.mrdt_register.proofs.lww.put_last.Goals as goal

pub returns-in_err-put_time-in-Some-clause-err : goal.returns-in_err-put_time-in-Some-clause-err
returns-in_err-put_time-in-Some-clause-err c =
    let old = c.args.out.now.items in
    let kept = c.in-Some.kept in
    let mid = c.push-in-Some.new.self.items in
    let new = c.put_time.new.out.items in
    let first : mid ≡ old ++ 1 ∷ [] = search rules in
    let part = part-second old mid new (1 ∷ []) (time_field kept.time ++ field kept.payload) first (part-first mid new (time_field kept.time) (field kept.payload) c.in_err-put_time-in-Some.ensures.err) in
    subst (λ last. OnErr c.from_residual-in_err-put_time-in-Some.result (AppendsPart old new (lww_spelling last))) (sym c.in-Some.is) (on-err c.from_residual-in_err-put_time-in-Some.result part)

pub returns-in_ok-put_time-in-Some-clause-err : goal.returns-in_ok-put_time-in-Some-clause-err
returns-in_ok-put_time-in-Some-clause-err c =
    let old = c.args.out.now.items in
    let kept = c.in-Some.kept in
    let mid = c.push-in-Some.new.self.items in
    let timed = c.put_time.new.out.items in
    let new = c.put.new.out.items in
    let first : mid ≡ old ++ 1 ∷ [] = search rules in
    subst (λ last. OnErr c.put.result (AppendsPart old new (lww_spelling last))) (sym c.in-Some.is)
    (on_err_weaker c.put.result (λ part. part-second old mid new (1 ∷ []) (time_field kept.time ++ field kept.payload) first (part-second mid timed new (time_field kept.time) (field kept.payload) c.in_ok-put_time-in-Some.ensures.ok part)) c.put.ensures.err)
