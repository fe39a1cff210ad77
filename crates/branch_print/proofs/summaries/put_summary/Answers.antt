use Rattle.std.proofs.Common.{◌++◌, append_assoc}
use Rattle.branch_print.specs.Texts.{line_end}
use Rattle.branch_print.specs.Summaries.{summary_text}
use Rattle.branch_print.proofs.Written.{whole-is, part-is}
use Rattle.branch_print.proofs.summaries.put_summary.Goals as goal

pub returns-clause-ok : goal.returns-clause-ok
returns-clause-ok c =
    whole-is c.put_pieces.result c.args.out.now.items c.put_pieces.new.out.items _ (summary_text c.args.summary.now ++ line_end) c.put_pieces.ensures.ok
    (simp (c.as_bytes.ensures.value, c.format.ensures.text, c.as_bytes-2.ensures.value, c.format-2.ensures.text, c.as_bytes-3.ensures.value, c.format-3.ensures.text, c.as_bytes-4.ensures.value, c.format-4.ensures.text, c.as_bytes-5.ensures.value, c.format-5.ensures.text, c.as_bytes-6.ensures.value, c.format-6.ensures.text, c.as_bytes-7.ensures.value, c.format-7.ensures.text, c.as_bytes-8.ensures.value, c.format-8.ensures.text, c.as_bytes-9.ensures.value, c.format-9.ensures.text, append_assoc))

pub returns-clause-err : goal.returns-clause-err
returns-clause-err c =
    part-is c.put_pieces.result c.args.out.now.items c.put_pieces.new.out.items _ (summary_text c.args.summary.now ++ line_end) c.put_pieces.ensures.err
    (simp (c.as_bytes.ensures.value, c.format.ensures.text, c.as_bytes-2.ensures.value, c.format-2.ensures.text, c.as_bytes-3.ensures.value, c.format-3.ensures.text, c.as_bytes-4.ensures.value, c.format-4.ensures.text, c.as_bytes-5.ensures.value, c.format-5.ensures.text, c.as_bytes-6.ensures.value, c.format-6.ensures.text, c.as_bytes-7.ensures.value, c.format-7.ensures.text, c.as_bytes-8.ensures.value, c.format-8.ensures.text, c.as_bytes-9.ensures.value, c.format-9.ensures.text, append_assoc))
