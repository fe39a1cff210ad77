use Rattle.std.proofs.Common.{append_assoc}
use Rattle.std.proofs.lemmas.List.{append-nil}
use Rattle.branch_print.proofs.Written.{part-is}
use Rattle.branch_words.specs.Words.{with_word}
use Rattle.branch_words.proofs.words.put_with_word.Goals as goal

pub returns-clause-err : goal.returns-clause-err
returns-clause-err c =
    part-is c.put_pieces.result c.args.out.now.items c.put_pieces.new.out.items _ (with_word c.args.kind c.args.key.now c.args.operation.now c.args.word.now) c.put_pieces.ensures.err
    (simp (c.kind_word-kind.ensures, append-nil, append_assoc))
