use Rattle.std.proofs.Common.{◌++◌, append_assoc}
use Rattle.branch_print.specs.Texts.{line_end}
use Rattle.branch_print.specs.Clients.{client_done_text}
use Rattle.branch_print.proofs.Written.{part-is}
use Rattle.branch_print.proofs.clients.put_client_done.Goals as goal

pub returns-clause-err : goal.returns-clause-err
returns-clause-err c =
    part-is c.put_pieces.result c.args.out.now.items c.put_pieces.new.out.items _ (client_done_text c.args.client c.args.moves ++ line_end) c.put_pieces.ensures.err
    (simp (c.as_bytes.ensures.value, c.format.ensures.text, c.as_bytes-2.ensures.value, c.format-2.ensures.text, append_assoc))
