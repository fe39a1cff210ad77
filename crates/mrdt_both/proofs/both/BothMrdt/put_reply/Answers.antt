use Rattle.std.proofs.Common.{rules, ◌≡◌, ◌++◌, ◌∷◌, [], sym, subst, OnErr}
use Rattle.std.proofs.lemmas.Result.{on_err_weaker}
use Rattle.mrdt_model.specs.Spelled.{AppendsPart}
use Rattle.branch_wire.proofs.Parts.{part-second}
use Rattle.mrdt_both.specs.Sides.{side_spelling}
use Rattle.mrdt_both.proofs.both.BothMrdt.put_reply.Goals as goal

pub returns-in_ok-push-in-First-clause-err : goal.returns-in_ok-push-in-First-clause-err
returns-in_ok-push-in-First-clause-err g c =
    let m = g.A.Mrdt.meaning in
    let n = g.B.Mrdt.meaning in
    let old = c.args.out.now.items in
    let mid = c.push.new.self.items in
    let new = c.put_reply.new.out.items in
    let byte : mid ≡ old ++ 1 ∷ [] = search rules in
    subst (λ reply. OnErr c.put_reply.result (AppendsPart old new (side_spelling m.reply_spelling n.reply_spelling reply))) (sym c.in-First.is)
    (on_err_weaker c.put_reply.result (part-second old mid new (1 ∷ []) (m.reply_spelling c.in-First.reply) byte) c.put_reply.ensures.err)

pub returns-in_ok-push-in-Second-clause-err : goal.returns-in_ok-push-in-Second-clause-err
returns-in_ok-push-in-Second-clause-err g c =
    let m = g.A.Mrdt.meaning in
    let n = g.B.Mrdt.meaning in
    let old = c.args.out.now.items in
    let mid = c.push-in-Second.new.self.items in
    let new = c.put_reply-in-Second.new.out.items in
    let byte : mid ≡ old ++ 2 ∷ [] = search rules in
    subst (λ reply. OnErr c.put_reply-in-Second.result (AppendsPart old new (side_spelling m.reply_spelling n.reply_spelling reply))) (sym c.in-Second.is)
    (on_err_weaker c.put_reply-in-Second.result (part-second old mid new (2 ∷ []) (n.reply_spelling c.in-Second.reply) byte) c.put_reply-in-Second.ensures.err)
