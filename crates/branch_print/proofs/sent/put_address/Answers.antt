use Rattle.std.proofs.Common.{◌≡◌, ◌++◌, ◌∙◌, ℕ, List, []}
use Rattle.std.proofs.lemmas.List.{append-nil}
use Rattle.branch_print.specs.Sent.{address_text}
use Rattle.branch_print.specs.Texts.{line_end}
use Rattle.branch_print.proofs.Written.{part-is}
use Rattle.branch_print.proofs.sent.put_address.Goals as goal

-- two pieces, of which one is the digits
joined : (a b digits : List ℕ) → a ≡ digits → a ++ (b ++ []) ≡ digits ++ b
joined a b digits is = simp (is, append-nil)

pub returns-clause-err : goal.returns-clause-err
returns-clause-err c =
    part-is c.put_pieces.result c.args.out.now.items c.put_pieces.new.out.items _ (address_text c.args.address.now) c.put_pieces.ensures.err
    (joined _ line_end _ (c.as_slice.ensures ∙ c.hex_digits-digits.ensures))
