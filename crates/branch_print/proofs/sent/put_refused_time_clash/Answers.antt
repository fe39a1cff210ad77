use Rattle.std.proofs.Common.{append_assoc}
use Rattle.branch_history.specs.Steps.{TimeClash}
use Rattle.branch_print.specs.Sent.{stop_text}
use Rattle.branch_print.proofs.Written.{part-is, whole-is}
use Rattle.branch_print.proofs.sent.put_refused_time_clash.Goals as goal

pub returns-clause-ok : goal.returns-clause-ok
returns-clause-ok c =
    whole-is c.put_pieces.result c.args.out.now.items c.put_pieces.new.out.items _ (stop_text c.args.item (TimeClash c.args.commit)) c.put_pieces.ensures.ok
    (simp (c.as_bytes.ensures.value, c.format.ensures.text, c.as_bytes-2.ensures.value, c.format-2.ensures.text, append_assoc))

pub returns-clause-err : goal.returns-clause-err
returns-clause-err c =
    part-is c.put_pieces.result c.args.out.now.items c.put_pieces.new.out.items _ (stop_text c.args.item (TimeClash c.args.commit)) c.put_pieces.ensures.err
    (simp (c.as_bytes.ensures.value, c.format.ensures.text, c.as_bytes-2.ensures.value, c.format-2.ensures.text, append_assoc))
