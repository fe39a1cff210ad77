use Rattle.std.proofs.Common.{◌≡◌, ◌++◌, ◌∙◌, ℕ, List, [], codes, append_assoc}
use Rattle.std.proofs.lemmas.List.{append-nil}
use Rattle.branch_print.specs.Texts.{time_text}
use Rattle.branch_print.proofs.Written.{part-is}
use Rattle.branch_print.proofs.replies.put_at.Goals as goal

-- four pieces, of which two are numbers
joined : (a b c d clock origin : List ℕ) → b ≡ clock → d ≡ origin → a ++ (b ++ (c ++ (d ++ []))) ≡ a ++ (clock ++ c ++ origin)
joined a b c d clock origin p q = simp (p, q, append-nil, append_assoc)

pub returns-clause-err : goal.returns-clause-err
returns-clause-err c =
    part-is c.put_pieces.result c.args.out.now.items c.put_pieces.new.out.items _ (c.args.text.now ++ time_text c.args.time) c.put_pieces.ensures.err
    (joined c.args.text.now _ (codes ".") _ _ _ (c.as_bytes.ensures.value ∙ c.format.ensures.text) (c.as_bytes-2.ensures.value ∙ c.format-2.ensures.text))
