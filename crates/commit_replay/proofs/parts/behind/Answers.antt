-- A commit's object would have been read.
use Rattle.branch_objects_codec.specs.declared.object.Object.TheVariants.{Commit}
use Rattle.mrdt_model.specs.declared.errors.Unread.TheVariants as unread
use Rattle.commit_replay.proofs.Parted.{same-error}
use Rattle.commit_replay.proofs.parts.behind.Goals as goal

pub returns-in-Err-clause-none : goal.returns-in-Err-clause-none
returns-in-Err-clause-none c error d commit laid is = c.in-Err.ensures.outside (same-error c.in-Err.refused unread.NotCanonical error) (Commit d.parents d.branch d.clock d.value d.action) commit is
