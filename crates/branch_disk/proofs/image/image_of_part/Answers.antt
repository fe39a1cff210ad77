use Rattle.std.proofs.Common.{Vec, true, ap, sym, ◌∙◌}
use Rattle.branch_disk.specs.declared.call.Call.{Call}
use Rattle.branch_disk.specs.Fill.{filled_after}
use Rattle.branch_disk.proofs.Replayed.{ends_some, ends_none}
use Rattle.branch_disk.proofs.image.image_of_part.Goals.{then-k-calls+in_ok-fill_one_call, else-k-calls}
use Rattle.branch_disk.proofs.image.image_of_part.Goals as goal

pub returns : goal.returns
returns c = λ objects heads began. elim c.if-k-calls.branch [
  | then-k-calls+in_ok-fill_one_call w ↦ ap (λ (v : Vec _ _). v.items) w.bytes-is
      ∙ ends_some objects heads c.args.calls.now c.args.k _ c.args.part c.args.fill _ _ c.fill_all.new.bytes.items c.requires c.last_sync-last.ensures began c.in_ok-write_all.ensures c.in_ok-fill_all.ensures
      w.index-calls-k.result _ w.if-k-calls.true w.index-calls-k.is
      (λ reads. w.in_ok-fill_one_call.ensures reads ∙ ap (λ (x : Call). filled_after c.args.fill c.args.part x.what true reads c.fill_all.new.bytes.items) (sym w.index-calls-k.is))
  | else-k-calls w ↦ ap (λ (v : Vec _ _). v.items) w.bytes-is
      ∙ ends_none objects heads c.args.calls.now c.args.k _ c.args.part c.args.fill _ _ _ c.requires c.last_sync-last.ensures began c.in_ok-write_all.ensures c.in_ok-fill_all.ensures w.if-k-calls.false
]
