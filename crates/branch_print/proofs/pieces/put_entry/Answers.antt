use Rattle.std.proofs.Common.{◌≡◌, ◌++◌, append_assoc, rules}
use Rattle.std.proofs.lemmas.List.{append-nil}
use Rattle.branch_print.specs.Texts.{entry_text}
use Rattle.branch_print.proofs.Written.{part-is}
use Rattle.branch_print.proofs.pieces.put_entry.Goals as goal

pub returns-clause-err : goal.returns-clause-err
returns-clause-err c =
    let payload : c.as_slice.result.now ≡ c.args.entry.now.payload = search rules in
    part-is c.put_pieces.result c.args.out.now.items c.put_pieces.new.out.items _ (c.args.text.now ++ entry_text c.args.entry.now) c.put_pieces.ensures.err
    (simp (c.as_bytes.ensures.value, c.format.ensures.text, c.as_bytes-2.ensures.value, c.format-2.ensures.text, payload, append-nil, append_assoc))
