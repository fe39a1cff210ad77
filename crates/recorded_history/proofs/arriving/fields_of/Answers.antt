-- A commit's object would have been read.
use Rattle.std.proofs.Common.{◌≡◌, ap, Err, IsErrOf}
use Rattle.branch_objects_codec.specs.declared.object.Object.{Object}
use Rattle.branch_objects_codec.specs.declared.object.Object.TheVariants.{Commit}
use Rattle.mrdt_model.specs.declared.errors.Unread.TheVariants as unread
use Rattle.recorded_history.proofs.Asked.{same-error}
use Rattle.recorded_history.proofs.arriving.fields_of.Goals as goal

pub returns-clause-none : goal.returns-clause-none
returns-clause-none c error d commit is = c.in-Err.ensures.outside (same-error c.in-Err.refused unread.NotCanonical error) (Commit d.parents d.branch d.clock d.value d.action) commit is
