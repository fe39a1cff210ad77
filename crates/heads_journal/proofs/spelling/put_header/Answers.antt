-- The header's block, without its last byte.
use Rattle.std.proofs.Common.{ℕ, List, ◌∷◌, ◌++◌, ◌∙◌, ap, sym, append-nil}
use Rattle.heads_journal.specs.Format.{Header, header_fields}
use Rattle.heads_journal.proofs.Fronts.{put-behind}
use Rattle.heads_journal.proofs.Spelled.{length-header_fields}
use Rattle.heads_journal.proofs.spelling.put_header.Goals as goal

pub returns : goal.returns
returns c =
    let header : Header = record { version = 2; terms = c.args.terms.now } in
    put-behind c.args.text.now.items c.push.new.self.items c.extend_from_slice.new.self.items (header_fields header) c.header_block-block.result (length-header_fields header)
    c.header_block-block.ensures c.in_ok-push.ensures.items (c.in_ok-extend_from_slice.ensures.items ∙ ap (λ (l : List ℕ). c.push.new.self.items ++ l) c.without_gate.ensures)
    ∙ ap (λ (l : List ℕ). c.args.text.now.items ++ 1 ∷ l) (sym (append-nil (header_fields header)))
