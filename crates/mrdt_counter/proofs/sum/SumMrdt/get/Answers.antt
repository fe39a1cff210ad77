use Rattle.std.proofs.Common.{◌∙◌, [], sym, subst, refl, FitsSigned}
use Rattle.std.proofs.lemmas.Bool.{both_ways}
use Rattle.std.proofs.lemmas.List.{append-nil}
use Rattle.std.proofs.lemmas.Int.{to_z-of_z}
use Rattle.std.specs.Int.{w128}
use Rattle.branch_wire.specs.Fields.{wide_signed_number}
use Rattle.branch_wire.proofs.Numbers.{length-wide_signed_number}
use Rattle.mrdt_counter.proofs.Totals.{total-fits}
use Rattle.mrdt_counter.proofs.Whole.{whole-length, more-length}
use Rattle.mrdt_counter.proofs.sum.SumMrdt.get.Goals as goal

pub returns-then-is_at_end-clause-stands : goal.returns-then-is_at_end-clause-stands
returns-then-is_at_end-clause-stands c other spelled x l is =
    let fits : FitsSigned w128 other = subst (FitsSigned w128) (sym is) (total-fits x l) in
    let found = c.in_ok-total.ensures.back other [] fits (c.new-cursor.ensures ∙ sym spelled ∙ sym (append-nil (wide_signed_number other))) in
    to_z-of_z w128 c.in_ok-total.total (subst (FitsSigned w128) (sym found.0) fits) ∙ found.0 ∙ is

pub returns-then-is_at_end-clause-inside : goal.returns-then-is_at_end-clause-inside
returns-then-is_at_end-clause-inside c =
    let field = wide_signed_number c.in_ok-total.total in
    whole-length field c.take_i128.new.self c.args.bytes.now 16 (length-wide_signed_number c.in_ok-total.total) (sym c.new-cursor.ensures ∙ c.in_ok-total.ensures.ok) (c.if-is_at_end.ensures.0 refl)

pub returns-else-is_at_end-clause-outside : goal.returns-else-is_at_end-clause-outside
returns-else-is_at_end-clause-outside c error inside =
    let field = wide_signed_number c.in_ok-total.total in
    more-length field c.take_i128.new.self c.args.bytes.now 16 (length-wide_signed_number c.in_ok-total.total) (sym c.new-cursor.ensures ∙ c.in_ok-total.ensures.ok) (λ none. both_ways c.is_at_end.result c.if-is_at_end.false (c.is_at_end.ensures.1 none)) inside
