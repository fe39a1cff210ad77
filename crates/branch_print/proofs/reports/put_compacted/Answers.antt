use Rattle.std.proofs.Common.{◌++◌, append_assoc}
use Rattle.branch_print.specs.Reports.{compacted_text}
use Rattle.branch_print.proofs.Written.{part-is}
use Rattle.branch_print.proofs.reports.put_compacted.Goals as goal

pub returns-clause-err : goal.returns-clause-err
returns-clause-err c =
    part-is c.put_pieces.result c.args.out.now.items c.put_pieces.new.out.items _ (compacted_text c.args.kept c.args.moves) c.put_pieces.ensures.err
    (simp (c.as_bytes.ensures.value, c.format.ensures.text, c.as_bytes-2.ensures.value, c.format-2.ensures.text, append_assoc))
