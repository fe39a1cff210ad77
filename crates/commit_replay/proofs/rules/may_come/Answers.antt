-- There is room, and the rest is what the record of each kind asks.
use Rattle.std.proofs.Common.{◌<◌, length, ap, arith}
use Rattle.std.proofs.lemmas.Result.{IfOk-weaker}
use Rattle.branch_machine.specs.Fixed.{fix}
use Rattle.heads_journal.specs.declared.record.Record.TheVariants as entry
use Rattle.commit_replay.proofs.Looked.{known-by, may-by}
use Rattle.commit_replay.proofs.rules.may_come.Goals as goal

pub returns-in-Operation : goal.returns-in-Operation
returns-in-Operation g c =
    let r = c.args.recorded.now in
    let fixed = fix g.T.Mrdt.meaning r.terms g.A.Address.address in
    let now = c.standing_of-now.ensures in
    let room : length r.written < r.terms.limits.moves = omega (arith, now.moves, ap (λ l. l.limits.moves) now.terms, c.if-now.false) in
    IfOk-weaker c.may_operate.result _ _
    (λ may suits. may-by fixed r.written (entry.Operation c.in-Operation.branch c.in-Operation.address c.in-Operation.end) c.args.next.now may c.in-Operation.is room
    (known-by (entry.Operation c.in-Operation.branch c.in-Operation.address c.in-Operation.end) (omega arith)) (suits c.in-Operation.address)) c.may_operate.ensures

pub returns-in-Merge : goal.returns-in-Merge
returns-in-Merge g c =
    let r = c.args.recorded.now in
    let fixed = fix g.T.Mrdt.meaning r.terms g.A.Address.address in
    let now = c.standing_of-now.ensures in
    let room : length r.written < r.terms.limits.moves = omega (arith, now.moves, ap (λ l. l.limits.moves) now.terms, c.if-now.false) in
    IfOk-weaker c.may_merge.result _ _
    (λ may suits. may-by fixed r.written (entry.Merge c.in-Merge.branch c.in-Merge.from c.in-Merge.address c.in-Merge.end) c.args.next.now may c.in-Merge.is room
    (known-by (entry.Merge c.in-Merge.branch c.in-Merge.from c.in-Merge.address c.in-Merge.end) (omega arith)) (suits c.in-Merge.address)) c.may_merge.ensures
