-- One addition more, prepared on the same store.
use Rattle.std.proofs.Common.{◌≡◌, [], ◌∷◌, length, ap, arith, length-append}
use Rattle.std.proofs.lemmas.List.Elements.{All-push, All-same}
use mathlib.Core.List.{IsPrefix}
use Rattle.store_seen.specs.Views.{PreparedView}
use Rattle.core_tests.proofs.batches.additions.Goals as goal

pub loop-branch-preserved : goal.loop-branch-preserved
loop-branch-preserved g c =
    let inv = c.loop-branch.invariant in
    let same = c.in_ok-push.ensures.items in
    record {
      many = omega (arith, ap length same, length-append c.loop-branch.jobs.items (c.addition.result ∷ []), inv.many);
      history = let P : PreparedView _ _ → Type 0 = λ job. IsPrefix job.seen.history c.args.core.now.history in
          All-same P _ _ same (All-push P _ _ inv.history c.addition.ensures.history);
      terms = let P : PreparedView _ _ → Type 0 = λ job. job.seen.terms ≡ c.args.core.now.terms in
          All-same P _ _ same (All-push P _ _ inv.terms c.addition.ensures.terms);
    }
