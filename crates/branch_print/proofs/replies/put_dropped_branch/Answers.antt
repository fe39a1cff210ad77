use Rattle.std.proofs.Common.{◌++◌, append_assoc}
use Rattle.branch_print.specs.Texts.{dropped_text, line_end}
use Rattle.branch_print.proofs.Written.{part-is}
use Rattle.branch_print.proofs.replies.put_dropped_branch.Goals as goal

pub returns-clause-err : goal.returns-clause-err
returns-clause-err c =
    part-is c.put_pieces.result c.args.out.now.items c.put_pieces.new.out.items _
    (dropped_text c.args.branch.now c.args.head ++ line_end) c.put_pieces.ensures.err
    (simp (c.as_bytes.ensures.bytes, c.as_bytes-2.ensures.value, c.format.ensures.text, append_assoc))
