use Rattle.std.proofs.Common.{◌≡◌, ◌∙◌, true, false, None, Some, is_some, ap, sym}
use Rattle.std.proofs.lemmas.Result.{IfOk-weaker}
use Rattle.mrdt_set.specs.Members.{times_at, IsKept, IsMergedAt}
use Rattle.mrdt_set.proofs.members.merge_gone.Goals as goal

pub returns-in-None-clause-gone : goal.returns-in-None-clause-gone
returns-in-None-clause-gone c =
    let both = c.args.both in
    let slot = c.args.slot.now in
    let made = rw (c.times.ensures, c.own.ensures) at c.merged_at.ensures.here in
    IfOk-weaker c.merged_at.result (λ table. IsKept (times_at both slot.0) → IsMergedAt (Some slot.1) (times_at both slot.0) None (times_at table slot.0))
    (λ table. times_at c.args.right.now slot.0 ≡ None → IsKept (times_at both slot.0) → IsMergedAt (Some slot.1) (times_at both slot.0) None (times_at table slot.0))
    (λ table merges none. merges) made

pub returns-in-None-clause-there : goal.returns-in-None-clause-there
returns-in-None-clause-there c =
    let both = c.args.both in
    let right = c.args.right.now in
    let slot = c.args.slot.now in
    let none : times_at right slot.0 ≡ None = ap (times_at right) (sym c.element-element.ensures) ∙ sym c.in-None.ensures.times in
    let made = rw (c.times.ensures, c.own.ensures) at c.merged_at.ensures.here in
    IfOk-weaker c.merged_at.result (λ table. IsKept (times_at both slot.0) → IsMergedAt (Some slot.1) (times_at both slot.0) None (times_at table slot.0))
    (λ table. is_some (times_at right slot.0) ≡ true → times_at table slot.0 ≡ times_at both slot.0)
    (λ table merges some. let no : true ≡ false = sym some ∙ ap is_some none in absurd (cc no)) made

pub returns-in-None-clause-others : goal.returns-in-None-clause-others
returns-in-None-clause-others c = rw c.own.ensures at c.merged_at.ensures.others
