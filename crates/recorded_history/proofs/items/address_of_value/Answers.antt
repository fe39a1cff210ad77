-- The fields of a commit's object, one behind the other.
use Rattle.std.proofs.Common.{◌≡◌, ◌++◌, ◌∙◌, ◌+◌, ◌*◌, length, ap, sym, arith, Some}
use Rattle.branch_wire.specs.Fields.{number}
use Rattle.branch_wire.specs.Objects.{action_field, commit_body, commit_kind, value_field}
use Rattle.branch_wire.proofs.Numbers.{length-number}
use Rattle.recorded_history.proofs.Found.{middle, middle-length, parts, kind-small, value-there}
use Rattle.recorded_history.proofs.items.address_of_value.Goals as goal

pub returns-then-parents-gt-MOST_PARENTS : goal.returns-then-parents-gt-MOST_PARENTS
returns-then-parents-gt-MOST_PARENTS c d sized is =
    let rest = middle d ++ (value_field d.value ++ action_field d.action) in
    let size = number (length (commit_body d)) in
    let kind = c.in_ok-kind.ensures.back (commit_kind d.value) (size ++ (number (length d.parents) ++ rest)) (kind-small d.value) (c.new-cursor.ensures ∙ is ∙ parts d) in
    let first = (c.in_ok-take_exact.ensures.back size (number (length d.parents) ++ rest) (length-number (length (commit_body d))) kind.1).1 in
    let count = (c.in_ok-parents.ensures.back (length d.parents) rest (omega (arith, sized.few)) first).0 in
    let more = c.if-parents-gt-MOST_PARENTS.true in
    let few = sized.few in
    omega (arith, count, more, few)

pub returns-in_err-take_exact-2 : goal.returns-in_err-take_exact-2
returns-in_err-take_exact-2 c d sized is =
    let rest = middle d ++ (value_field d.value ++ action_field d.action) in
    let size = number (length (commit_body d)) in
    let kind = c.in_ok-kind.ensures.back (commit_kind d.value) (size ++ (number (length d.parents) ++ rest)) (kind-small d.value) (c.new-cursor.ensures ∙ is ∙ parts d) in
    let first = (c.in_ok-take_exact.ensures.back size (number (length d.parents) ++ rest) (length-number (length (commit_body d))) kind.1).1 in
    let second = c.in_ok-parents.ensures.back (length d.parents) rest (omega (arith, sized.few)) first in
    let many = middle-length d sized in
    let count = second.0 in
    absurd ((c.in_err-take_exact-2.ensures.back (middle d) (value_field d.value ++ action_field d.action) (omega (arith, many, count)) second.1).0)

pub returns-in_err-take_exact-3 : goal.returns-in_err-take_exact-3
returns-in_err-take_exact-3 c d sized is =
    let rest = middle d ++ (value_field d.value ++ action_field d.action) in
    let size = number (length (commit_body d)) in
    let kind = c.in_ok-kind.ensures.back (commit_kind d.value) (size ++ (number (length d.parents) ++ rest)) (kind-small d.value) (c.new-cursor.ensures ∙ is ∙ parts d) in
    let first = (c.in_ok-take_exact.ensures.back size (number (length d.parents) ++ rest) (length-number (length (commit_body d))) kind.1).1 in
    let second = c.in_ok-parents.ensures.back (length d.parents) rest (omega (arith, sized.few)) first in
    let many = middle-length d sized in
    let count = second.0 in
    let third = (c.in_ok-take_exact-2.ensures.back (middle d) (value_field d.value ++ action_field d.action) (omega (arith, many, count)) second.1).1 in
    let there = value-there d.value (λ k. c.if-kind-eq-CHANGE.false (kind.0 ∙ k)) sized.value in
    absurd ((c.in_err-take_exact-3.ensures.back (value_field d.value) (action_field d.action) there.0 third).0)

pub returns : goal.returns
returns c d sized is =
    let rest = middle d ++ (value_field d.value ++ action_field d.action) in
    let size = number (length (commit_body d)) in
    let kind = c.in_ok-kind.ensures.back (commit_kind d.value) (size ++ (number (length d.parents) ++ rest)) (kind-small d.value) (c.new-cursor.ensures ∙ is ∙ parts d) in
    let first = (c.in_ok-take_exact.ensures.back size (number (length d.parents) ++ rest) (length-number (length (commit_body d))) kind.1).1 in
    let second = c.in_ok-parents.ensures.back (length d.parents) rest (omega (arith, sized.few)) first in
    let many = middle-length d sized in
    let count = second.0 in
    let third = (c.in_ok-take_exact-2.ensures.back (middle d) (value_field d.value ++ action_field d.action) (omega (arith, many, count)) second.1).1 in
    let there = value-there d.value (λ k. c.if-kind-eq-CHANGE.false (kind.0 ∙ k)) sized.value in
    let fourth = (c.in_ok-take_exact-3.ensures.back (value_field d.value) (action_field d.action) there.0 third).0 in
    ap Some (c.copy_from_slice.ensures.after ∙ fourth) ∙ sym there.1
