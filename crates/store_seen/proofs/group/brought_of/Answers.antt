-- The next commit is brought or not.
use Rattle.std.proofs.Common.{◌<◌, ◌∷◌, [], ◌++◌, length, get_or, refl, ap, sym, ◌∙◌, arith}
use Rattle.store_seen.proofs.Brought.{brought_first-took, brought_first-left, brought_first-all}
use Rattle.store_seen.proofs.group.brought_of.Goals.{then-branch+in_ok-push, else-branch}
use Rattle.store_seen.proofs.group.brought_of.Goals as goal

pub loop-place-preserved : goal.loop-place-preserved
loop-place-preserved g c =
    let graph = c.args.nodes.now.graph.commits in
    let others = c.args.others.now in
    let i = c.loop-place.place in
    let lt : i < length others = omega arith in
    elim c.if-branch.branch [
      | then-branch+in_ok-push w ↦
          ap (λ v. v.items) w.found-is ∙ w.in_ok-push.ensures.items ∙ ap (λ l. l ++ get_or others i 0 ∷ []) c.loop-place.invariant
          ∙ sym (brought_first-took graph c.args.head others i (get_or others i 0) lt refl (sym c.in_ok-is_brought.ensures ∙ w.if-branch.true))
      | else-branch w ↦
          ap (λ v. v.items) w.found-is ∙ c.loop-place.invariant ∙ sym (brought_first-left graph c.args.head others i lt (sym c.in_ok-is_brought.ensures ∙ w.if-branch.false))
    ]

pub returns : goal.returns
returns g c = c.loop-place.invariant ∙ brought_first-all c.args.nodes.now.graph.commits c.args.head c.args.others.now c.loop-place.place c.loop-place-test.false
