use Rattle.std.proofs.Common.{◌≡◌, ◌++◌, ◌∙◌, ℕ, List, [], codes, decimal, append_assoc}
use Rattle.std.proofs.lemmas.List.{append-nil}
use Rattle.branch_print.specs.Texts.{time_text}
use Rattle.branch_print.proofs.Written.{part-is}
use Rattle.branch_print.proofs.replies.put_commit.Goals as goal

-- six pieces, of which three are numbers
joined : (a b c d e f commit clock origin : List ℕ) → b ≡ commit → d ≡ clock → f ≡ origin → a ++ (b ++ (c ++ (d ++ (e ++ (f ++ []))))) ≡ a ++ commit ++ c ++ (clock ++ e ++ origin)
joined a b c d e f commit clock origin p q r = simp (p, q, r, append-nil, append_assoc)

pub returns-clause-err : goal.returns-clause-err
returns-clause-err c =
    part-is c.put_pieces.result c.args.out.now.items c.put_pieces.new.out.items _ (codes "landed #" ++ decimal c.args.commit ++ codes " at " ++ time_text c.args.time) c.put_pieces.ensures.err
    (joined (codes "landed #") _ (codes " at ") _ (codes ".") _ _ _ _ (c.as_bytes.ensures.value ∙ c.format.ensures.text) (c.as_bytes-2.ensures.value ∙ c.format-2.ensures.text)
    (c.as_bytes-3.ensures.value ∙ c.format-3.ensures.text))
