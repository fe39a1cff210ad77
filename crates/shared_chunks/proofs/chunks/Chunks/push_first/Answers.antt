use Rattle.std.proofs.Common.{◌∙◌, ◌++◌, ◌∷◌, [], ap, sym, take, arith, append_assoc}
use Rattle.shared_chunks.proofs.Joined.{take-get}
use Rattle.shared_chunks.proofs.chunks.Chunks.push_first.Goals as goal

pub loop-place-preserved : goal.loop-place-preserved
loop-place-preserved g c = record {
  pushed =
      c.in_ok-push.ensures.pushed ∙ ap (λ entries. entries ++ c.in_ok-copy.field-0 ∷ []) c.loop-place.invariant.pushed
      ∙ append_assoc c.args.self.now (take c.loop-place.place c.args.chunk.now) (c.in_ok-copy.field-0 ∷ [])
      ∙ ap (λ entry. c.args.self.now ++ (take c.loop-place.place c.args.chunk.now ++ entry ∷ [])) c.in_ok-copy.ensures
      ∙ ap (λ more. c.args.self.now ++ more) (sym (take-get c.args.chunk.now c.loop-place.place c.get.result.now c.get.ensures));
  steps = let so_far = c.loop-place.invariant.steps in let one = c.tick.ensures in omega arith;
}
