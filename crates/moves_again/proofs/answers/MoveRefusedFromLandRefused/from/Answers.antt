-- Each refusal to land, by its variant.
use Rattle.std.proofs.Common.{◌≡◌, ◌∙◌, ap, sym}
use Rattle.moves_again.specs.Again.{land_refused}
use Rattle.moves_again.proofs.answers.MoveRefusedFromLandRefused.from.Goals as goal
use Rattle.moves_again.proofs.answers.MoveRefusedFromLandRefused.from.Goals.{in-Dropped, in-Stale, in-FullCommits, in-FullMoves, in-Collision, in-DiskFault, in-Failed, in-Memory}

pub returns : goal.returns
returns c =
    elim c.match-refused.branch [
      | in-Dropped w ↦ w.result-is ∙ ap land_refused (sym w.in-Dropped.is)
      | in-Stale w ↦ w.result-is ∙ ap land_refused (sym w.in-Stale.is)
      | in-FullCommits w ↦ w.result-is ∙ ap land_refused (sym w.in-FullCommits.is)
      | in-FullMoves w ↦ w.result-is ∙ ap land_refused (sym w.in-FullMoves.is)
      | in-Collision w ↦ w.result-is ∙ ap land_refused (sym w.in-Collision.is)
      | in-DiskFault w ↦ w.result-is ∙ ap land_refused (sym w.in-DiskFault.is)
      | in-Failed w ↦ w.result-is ∙ ap land_refused (sym w.in-Failed.is)
      | in-Memory w ↦ w.result-is ∙ ap land_refused (sym w.in-Memory.is)
    ]
