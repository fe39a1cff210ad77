use Rattle.std.proofs.Common.{rules, ◌≡◌, ◌∷◌, ◌++◌, [], OnErr, sym, subst}
use Rattle.mrdt_model.specs.Spelled.{AppendsPart}
use Rattle.branch_wire.specs.Fields.{time_field}
use Rattle.branch_wire.proofs.Parts.{part-none, part-first, part-second, on-err}
use Rattle.mrdt_queue.specs.Queue.{reply_spelling}
use Rattle.mrdt_queue.proofs.spelling.put_reply.Goals as goal

pub returns-in_err-put_time-in-Took-clause-err : goal.returns-in_err-put_time-in-Took-clause-err
returns-in_err-put_time-in-Took-clause-err c =
    let old = c.args.out.now.items in
    let kept = c.in-Took.kept in
    let new = c.put_time.new.out.items in
    let mid = c.push-in-Took.new.self.items in
    let first : mid ≡ old ++ 1 ∷ [] = search rules in
    let part = part-second old mid new (1 ∷ []) (time_field kept.time ++ kept.payload) first (part-first mid new (time_field kept.time) kept.payload c.in_err-put_time-in-Took.ensures.err) in
    subst (λ reply. OnErr c.from_residual-in_err-put_time-in-Took.result (AppendsPart old new (reply_spelling reply))) (sym c.in-Took.is) (on-err c.from_residual-in_err-put_time-in-Took.result part)

pub returns-in_err-extend_from_slice-in-Took-clause-err : goal.returns-in_err-extend_from_slice-in-Took-clause-err
returns-in_err-extend_from_slice-in-Took-clause-err c =
    let old = c.args.out.now.items in
    let kept = c.in-Took.kept in
    let mid = c.push-in-Took.new.self.items in
    let timed = c.put_time.new.out.items in
    let new = c.extend_from_slice.new.self.items in
    let first : mid ≡ old ++ 1 ∷ [] = search rules in
    let none = subst (λ n. AppendsPart timed n kept.payload) (sym c.in_err-extend_from_slice-in-Took.ensures.items) (part-none timed kept.payload) in
    let part = part-second old mid new (1 ∷ []) (time_field kept.time ++ kept.payload) first (part-second mid timed new (time_field kept.time) kept.payload c.in_ok-put_time-in-Took.ensures.ok none) in
    subst (λ reply. OnErr c.from_residual-in_err-extend_from_slice-in-Took.result (AppendsPart old new (reply_spelling reply))) (sym c.in-Took.is) (on-err c.from_residual-in_err-extend_from_slice-in-Took.result part)
