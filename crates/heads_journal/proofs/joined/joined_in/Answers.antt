use Rattle.std.proofs.Common.{◌≡◌, ◌≤◌, ◌-◌, ◌∙◌, ap, sym, rules, true, length, drop, arith, length-drop}
use Rattle.std.specs.List.{list_all, flat_map}
use Rattle.std.proofs.lemmas.Bool.{both_ways}
use Rattle.std.proofs.lemmas.List.{take_all}
use Rattle.branch_wire.specs.Fields.{short_number}
use Rattle.heads_journal.proofs.Padding.{is_zero}
use Rattle.heads_journal.proofs.Numbers.{joined, zeros_behind}
use Rattle.heads_journal.proofs.joined.joined_in.Goals as goal

pub returns-then-not-are_zeros-clause-none : goal.returns-then-not-are_zeros-clause-none
returns-then-not-are_zeros-clause-none c = λ none ns are many is.
    let all = c.numbers_in-numbers.result in
    let used = c.args.count in
    let some : 2 ≤ used = search rules in
    let few : used ≤ 8 = search rules in
    let eight : length all ≡ 8 = search rules in
    let zeros : list_all is_zero (drop used all) ≡ true = zeros_behind all used eight c.numbers_in-numbers.ensures.small some few ns are many (is ∙ sym c.numbers_in-numbers.ensures.spelled) in
    let rest = take_all (8 - used) (drop used all) (omega (arith, eight, length-drop used all)) in
    both_ways c.are_zeros.result c.if-not-are_zeros.true (c.are_zeros.ensures ∙ ap (list_all is_zero) rest ∙ zeros)

pub invariant_of-result : goal.invariant_of-result
invariant_of-result c =
    let all = c.numbers_in-numbers.result in
    let used = c.args.count in
    let eight : length all ≡ 8 = search rules in
    let rest = take_all (8 - used) (drop used all) (omega (arith, eight, length-drop used all)) in
    let zeros : list_all is_zero (drop used all) ≡ true = ap (list_all is_zero) (sym rest) ∙ sym c.are_zeros.ensures ∙ c.if-not-are_zeros.false in
    joined all used eight c.numbers_in-numbers.ensures.small (search rules) (search rules) zeros

pub returns-clause-some : goal.returns-clause-some
returns-clause-some c =
    let all = c.numbers_in-numbers.result in
    let used = c.args.count in
    let eight : length all ≡ 8 = search rules in
    let rest = take_all (8 - used) (drop used all) (omega (arith, eight, length-drop used all)) in
    let zeros : list_all is_zero (drop used all) ≡ true = ap (list_all is_zero) (sym rest) ∙ sym c.are_zeros.ensures ∙ c.if-not-are_zeros.false in
    let is = joined all used eight c.numbers_in-numbers.ensures.small (search rules) (search rules) zeros in
    (ap (flat_map short_number) is.filled ∙ c.numbers_in-numbers.ensures.spelled, is.counted, is.numbers)
