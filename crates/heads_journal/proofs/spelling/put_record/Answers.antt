-- The record's block, without its last byte.
use Rattle.std.proofs.Common.{ℕ, List, ◌∷◌, ◌++◌, ◌∙◌, ap, []}
use Rattle.heads_journal.specs.declared.fields.Fields.{Fields}
use Rattle.heads_journal.specs.Format.{fields_of, record_fields, spelled}
use Rattle.heads_journal.proofs.Fronts.{put-behind}
use Rattle.heads_journal.proofs.Spelled.{length-spelled}
use Rattle.heads_journal.proofs.spelling.put_record.Goals as goal

pub returns : goal.returns
returns c =
    put-behind c.args.text.now.items c.push.new.self.items c.extend_from_slice.new.self.items (record_fields c.args.added.now) c.block-block.result (length-spelled (fields_of c.args.added.now) c.fields.ensures.fits.0)
    (c.block-block.ensures ∙ ap (λ (f : Fields). spelled f ++ 0 ∷ []) c.fields.ensures.fields) c.in_ok-push.ensures.items (c.in_ok-extend_from_slice.ensures.items ∙ ap (λ (l : List ℕ). c.push.new.self.items ++ l) c.without_gate.ensures)
