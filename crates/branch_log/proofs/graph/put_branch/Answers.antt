-- Nine pieces, of which two are the number, one is the name and one the head.
use Rattle.std.proofs.Common.{◌≡◌, ℕ, ◌++◌, ◌∙◌, List, [], codes, append_assoc}
use Rattle.std.proofs.lemmas.List.{append-nil}
use Rattle.branch_print.specs.Texts.{line_end}
use Rattle.branch_print.proofs.Written.{whole-is}
use Rattle.branch_log.specs.Graphs.{head_node}
use Rattle.branch_log.proofs.graph.put_branch.Goals as goal

joined : (a l s ending e z number name head digits bytes head_digits : List ℕ) → digits ≡ number → bytes ≡ name → head_digits ≡ head
    → a ++ (digits ++ (l ++ (bytes ++ ((s ++ ending ++ a) ++ (digits ++ (e ++ (head_digits ++ ((z ++ ending) ++ []))))))))
    ≡ a ++ number ++ l ++ name ++ s ++ ending ++ a ++ number ++ e ++ head ++ z ++ ending
joined a l s ending e z number name head digits bytes head_digits p q r = simp (p, q, r, append-nil, append_assoc)

pub returns : goal.returns
returns c =
    whole-is c.put_pieces.result c.args.out.now.items c.put_pieces.new.out.items _ (head_node c.args.number c.args.name.now c.args.head) c.put_pieces.ensures.ok
    (joined (codes "  b") (codes " [label=\"") (codes "\" shape=box];") line_end (codes " -> c") (codes ";") _ _ _ _ _ _ (c.as_bytes-number_digits.ensures.value ∙ c.format.ensures.text) c.as_bytes.ensures.bytes
    (c.as_bytes-2.ensures.value ∙ c.format-2.ensures.text))
