use Rattle.std.proofs.Common.{◌++◌, [], ◌∷◌, codes}
use Rattle.std.proofs.lemmas.List.{append-nil}
use Rattle.hex.specs.Hex.{encode_lower}
use Rattle.branch_print.proofs.Written.{part-is}
use Rattle.branch_show.proofs.json_words.put_code.Goals as goal

pub returns-clause-err : goal.returns-clause-err
returns-clause-err c =
    part-is c.put_pieces.result c.args.out.now.items c.put_pieces.new.out.items _ (codes "\\u00" ++ encode_lower (c.args.byte ∷ [])) c.put_pieces.ensures.err
    (simp (c.as_slice.ensures, c.hex_digits-digits.ensures, append-nil))
