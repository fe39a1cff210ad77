use Rattle.std.proofs.Common.{append_assoc}
use Rattle.branch_history.specs.Steps.{UnknownBranch}
use Rattle.branch_print.specs.Sent.{stop_text}
use Rattle.branch_print.proofs.Written.{part-is}
use Rattle.branch_print.proofs.sent.put_refused_unknown.Goals as goal

pub returns-clause-err : goal.returns-clause-err
returns-clause-err c =
    part-is c.put_pieces.result c.args.out.now.items c.put_pieces.new.out.items _ (stop_text 0 (UnknownBranch c.args.name.now)) c.put_pieces.ensures.err
    (simp (c.as_bytes.ensures.bytes, append_assoc))
