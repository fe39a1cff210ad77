use Rattle.std.proofs.Common.{[], ◌∷◌}
use Rattle.branch_batch.proofs.line.note.Given as goal

-- the job is what is added, and no fault is told
abbrev pub ghosts-note_as : goal.ghosts-note_as
ghosts-note_as g a = record { entry = a.job.now ∷ []; faults = 0 }
