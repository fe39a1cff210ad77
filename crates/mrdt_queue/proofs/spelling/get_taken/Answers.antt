use Rattle.std.proofs.Common.{rules, ◌≡◌, ◌∷◌, ◌++◌, List, ℕ, sym}
use Rattle.branch_wire.specs.Fields.{time_field}
use Rattle.live_set.specs.declared.kept.Kept.{Kept}
use Rattle.mrdt_queue.specs.declared.op.QueueReply.TheVariants.{Took}
use Rattle.mrdt_queue.specs.Queue.{IsReply}
use Rattle.mrdt_queue.proofs.spelling.get_taken.Goals as goal

pub returns-clause-inside : goal.returns-clause-inside
returns-clause-inside c =
    let kept : Kept (List ℕ) = record { time = c.in_ok-time.time; payload = c.in_ok-payload.payload } in
    let known : IsReply (Took kept) = search rules in
    let spelled : 1 ∷ (time_field c.in_ok-time.time ++ c.in_ok-payload.payload) ≡ 1 ∷ c.args.bytes.now = search rules in
    (Took kept, known, sym spelled)
