-- Each commit that is kept is counted.
use Rattle.std.proofs.Common.{◌≡◌, ◌<◌, ◌∷◌, ◌++◌, [], true, false, length, rules, arith}
use Rattle.branch_compact.proofs.Counted.{counted-start, counted-low, counted-kept, counted-gone, mark-here}
use Rattle.branch_compact.proofs.marks.number_marked.Goals.{then-kept, else-kept}
use Rattle.branch_compact.proofs.marks.number_marked.Goals as goal

pub loop-kept-init : goal.loop-kept-init
loop-kept-init c = counted-start c.args.marks.now c.new-numbers.result.items c.new-numbers.ensures.items

pub overflow_add-count : goal.overflow_add-count
overflow_add-count c =
    let low = counted-low c.args.marks.now c.loop-kept.numbers.items c.loop-kept.count c.loop-kept.kept-index c.loop-kept.invariant in
    omega (arith, low)

pub loop-kept-preserved : goal.loop-kept-preserved
loop-kept-preserved c =
    let marks = c.args.marks.now in
    let i = c.loop-kept.kept-index in
    let lt : i < length marks = omega arith in
    let pushed : c.push.new.self.items ≡ c.loop-kept.numbers.items ++ c.loop-kept.count ∷ [] = search rules in
    elim c.if-kept.branch [
      | then-kept w ↦ counted-kept marks c.loop-kept.numbers.items c.push.new.self.items c.loop-kept.count c.if-kept.count i c.loop-kept.invariant (mark-here marks i _ true lt w.if-kept.true) pushed w.count-is
      | else-kept w ↦ counted-gone marks c.loop-kept.numbers.items c.push.new.self.items c.loop-kept.count c.if-kept.count i c.loop-kept.invariant (mark-here marks i _ false lt w.if-kept.false) pushed w.count-is
    ]
