-- One caller more.
use Rattle.std.proofs.Common.{◌≡◌, ◌<◌, length, map, take, set, get_or, ap, sym, subst, ◌∙◌, arith, length-take}
use Rattle.std.proofs.lemmas.List.{length-map}
use Rattle.std.proofs.lemmas.List.Edits.{map_over_more}
use Rattle.branch_shared.specs.Entries.{moments_of}
use Rattle.branch_shared.specs.Keeps.{faults_since}
use Rattle.branch_shared.specs.Batches.{TakenView, seen_to, IsBehind}
use Rattle.branch_shared.proofs.Places.{all-next, item-behind}
use Rattle.branch_shared.proofs.batch.see_each.Goals as goal

pub loop-taken-preserved : goal.loop-taken-preserved
loop-taken-preserved g c =
    let inv = c.loop-taken.invariant in
    let i = c.loop-taken.taken-index in
    let old = c.args.all.now in
    let taken = c.taken-item.result in
    let faults = faults_since g.D.Disk.faults c.args.core.now in
    let history = c.args.core.now.history in
    let sure = moments_of c.args.writer.now.moves in
    let known = ap (λ w. moments_of w.moves) inv.writer in
    let within : i < length old = c.loop-taken-test.true in
    let first = map (seen_to faults history sure) (take i old) in
    let long : length first ≡ i = omega (arith, length-map (take i old) (seen_to faults history sure), length-take i old) in
    let at = item-behind first old c.loop-taken.all i taken inv.seen long c.taken-item.is in
    record {
      writer = c.see_one.ensures.writer ∙ inv.writer;
      seen = ap (λ (t : TakenView _ _). set c.loop-taken.all i t) (c.see_one.ensures.taken ∙ (ap (λ l. seen_to faults history l (get_or c.loop-taken.all i taken)) known ∙ ap (λ (t : TakenView _ _). seen_to faults history sure t) (sym c.taken-item.is)))
          ∙ map_over_more (seen_to faults history sure) old c.loop-taken.all i taken within inv.seen c.taken-item.is;
      behind = all-next (λ (t : TakenView _ _). IsBehind faults history sure t.given.pass) old i taken within inv.behind at (subst (λ (t : TakenView _ _). IsBehind faults history sure t.given.pass) (sym c.taken-item.is) (subst (λ l. IsBehind faults history l (get_or c.loop-taken.all i taken).given.pass) known c.see_one.ensures.behind));
    }
