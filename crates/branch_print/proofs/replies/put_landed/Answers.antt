use Rattle.std.proofs.Common.{◌++◌, ◌∙◌, ap, List, ℕ, codes, decimal, append_assoc}
use Rattle.mrdt_model.specs.declared.time.Time.{Time}
use Rattle.branch_wire.proofs.Parts.{part-first, part-second, on-err}
use Rattle.branch_print.specs.Texts.{time_text, reply_text, line_end}
use Rattle.branch_print.proofs.Written.{second-refused}
use Rattle.branch_print.proofs.replies.put_landed.Goals as goal

abbrev at_commit : ℕ → Time → List ℕ
at_commit commit time = codes "landed #" ++ decimal commit ++ codes " at " ++ time_text time

pub returns-in_err-put_commit-clause-err : goal.returns-in_err-put_commit-clause-err
returns-in_err-put_commit-clause-err c =
    let old = c.args.out.now.items in
    let new = c.put_commit.new.out.items in
    let first = at_commit c.args.commit c.args.time in
    let said = reply_text c.args.takes c.args.reply.now in
    on-err c.from_residual.result (part-first old new (first ++ said) line_end (part-first old new first said c.in_err-put_commit.ensures.err))

pub returns-in_err-put_reply-clause-err : goal.returns-in_err-put_reply-clause-err
returns-in_err-put_reply-clause-err c =
    let old = c.args.out.now.items in
    let mid = c.put_commit.new.out.items in
    let new = c.put_reply.new.out.items in
    let first = at_commit c.args.commit c.args.time in
    let said = reply_text c.args.takes c.args.reply.now in
    on-err c.from_residual-in_err-put_reply.result (part-first old new (first ++ said) line_end (part-second old mid new first said c.in_ok-put_commit.ensures.ok c.in_err-put_reply.ensures.err))

pub returns-clause-err : goal.returns-clause-err
returns-clause-err c =
    let old = c.args.out.now.items in
    let first = at_commit c.args.commit c.args.time in
    let said = reply_text c.args.takes c.args.reply.now in
    let is = c.in_ok-put_reply.ensures.ok ∙ ap (λ out. out ++ said) c.in_ok-put_commit.ensures.ok ∙ append_assoc old first said in
    second-refused c.put_text.result old c.put_reply.new.out.items c.put_text.new.out.items (first ++ said) line_end is c.put_text.ensures.err
