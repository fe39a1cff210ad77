use Rattle.std.proofs.Common.{◌∙◌, ◌&&◌, ◌||◌, ◌==◌, not, nat_lt, Bool, ap, sym, take, get_or}
use Rattle.branch_graph.specs.Paints.{has, is_painted, is_among}
use Rattle.branch_graph.proofs.Members.{any-take}
use Rattle.branch_graph.proofs.Painted.{one-more}
use Rattle.branch_graph.proofs.waiting.Waiting.paint_from.Goals as goal

pub loop-number-preserved : goal.loop-number-preserved
loop-number-preserved c = record {
  painted = λ colour n.
      let i = c.loop-number.number-index in
      let numbers = c.args.numbers.now in
      let passes = not (nat_lt n c.args.least) in
      c.in_ok-paint_at_least.ensures.painted colour n
      ∙ ap (λ (b : Bool). b || (has colour c.args.paint && ((get_or numbers i 0 == n) && passes))) (c.loop-number.invariant.painted colour n)
      ∙ one-more (is_painted c.args.self.now colour n) (has colour c.args.paint) (is_among (take i numbers) n) (get_or numbers i 0 == n) passes
      ∙ ap (λ (b : Bool). is_painted c.args.self.now colour n || (has colour c.args.paint && (b && passes))) (sym (any-take (λ k. k == n) numbers i c.loop-number-test.true));
  below = λ end all old. c.in_ok-paint_at_least.ensures.below end (all c.loop-number.number-index 0 c.loop-number-test.true) (c.loop-number.invariant.below end all old);
}
