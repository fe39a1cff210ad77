use Rattle.std.proofs.Common.{◌++◌, decimal, append_assoc}
use Rattle.branch_print.specs.Texts.{line_end}
use Rattle.branch_print.proofs.Written.{part-is}
use Rattle.branch_print.proofs.pieces.put_count.Goals as goal

pub returns-clause-err : goal.returns-clause-err
returns-clause-err c =
    part-is c.put_pieces.result c.args.out.now.items c.put_pieces.new.out.items _ (c.args.text.now ++ decimal c.args.number ++ line_end) c.put_pieces.ensures.err
    (simp (c.as_bytes.ensures.value, c.format.ensures.text, append_assoc))
