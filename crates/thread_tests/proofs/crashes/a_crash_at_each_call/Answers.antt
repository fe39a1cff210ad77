-- The document may cross.
use denote.Param.Send.{sendable}
use Rattle.documents_cross.proofs.Crosses.{Doc-send, Doc-sync}
use Rattle.thread_tests.proofs.crashes.a_crash_at_each_call.Goals as goal

pub leaves_parts-requires-send-T : goal.leaves_parts-requires-send-T
leaves_parts-requires-send-T g c κs = let d = Doc-send in search sendable

pub leaves_parts-requires-sync-T : goal.leaves_parts-requires-sync-T
leaves_parts-requires-sync-T g c κs = let d = Doc-sync in search sendable
