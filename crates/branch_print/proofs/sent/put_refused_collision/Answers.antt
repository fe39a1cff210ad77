use Rattle.std.proofs.Common.{◌≡◌, ◌++◌, ◌∙◌, ℕ, List, [], codes, append_assoc}
use Rattle.std.proofs.lemmas.List.{append-nil}
use Rattle.hex.specs.Hex.{encode_lower}
use Rattle.branch_print.specs.Texts.{line_end}
use Rattle.branch_print.proofs.Written.{part-is}
use Rattle.branch_print.proofs.sent.put_refused_collision.Goals as goal

-- three pieces, of which one is the digits
joined : (a b c digits : List ℕ) → b ≡ digits → a ++ (b ++ (c ++ [])) ≡ a ++ digits ++ c
joined a b c digits is = simp (is, append-nil, append_assoc)

pub returns-clause-err : goal.returns-clause-err
returns-clause-err c =
    part-is c.put_pieces.result c.args.out.now.items c.put_pieces.new.out.items _ (codes "refused collision " ++ encode_lower c.args.address.now ++ line_end) c.put_pieces.ensures.err
    (joined (codes "refused collision ") _ line_end _ (c.as_slice.ensures ∙ c.hex_digits-digits.ensures))
