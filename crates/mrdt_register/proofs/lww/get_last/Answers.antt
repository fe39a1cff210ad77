use Rattle.std.proofs.Common.{◌∙◌, [], sym}
use Rattle.std.proofs.lemmas.Bool.{both_ways}
use Rattle.std.proofs.lemmas.List.{append-nil}
use Rattle.branch_wire.specs.Fields.{field}
use Rattle.mrdt_register.proofs.lww.get_last.Goals as goal

pub returns-in_err-text-clause-outside : goal.returns-in_err-text-clause-outside
returns-in_err-text-clause-outside c error other known spelled =
    let first = c.in_ok-time.ensures.back other.time (field other.payload) known.0 (c.new-cursor.ensures ∙ sym spelled) in
    (c.in_err-text.ensures.back other.payload [] known.1.1 (first.1 ∙ sym (append-nil (field other.payload)))).0

pub returns-else-is_at_end-clause-outside : goal.returns-else-is_at_end-clause-outside
returns-else-is_at_end-clause-outside c error other known spelled =
    let first = c.in_ok-time.ensures.back other.time (field other.payload) known.0 (c.new-cursor.ensures ∙ sym spelled) in
    let second = c.in_ok-text.ensures.back other.payload [] known.1.1 (first.1 ∙ sym (append-nil (field other.payload))) in
    both_ways c.is_at_end.result c.if-is_at_end.false (c.is_at_end.ensures.1 second.1)
