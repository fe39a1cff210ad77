use Rattle.std.proofs.Common.{append_assoc}
use Rattle.branch_print.specs.Sent.{received_text}
use Rattle.branch_print.proofs.Written.{part-is}
use Rattle.branch_print.proofs.sent.put_received.Goals as goal

pub returns-clause-err : goal.returns-clause-err
returns-clause-err c =
    part-is c.put_pieces.result c.args.out.now.items c.put_pieces.new.out.items _ (received_text c.args.count c.args.branch c.args.commit) c.put_pieces.ensures.err
    (simp (c.as_bytes.ensures.value, c.format.ensures.text, c.as_bytes-2.ensures.value, c.format-2.ensures.text, c.as_bytes-3.ensures.value, c.format-3.ensures.text, append_assoc))
