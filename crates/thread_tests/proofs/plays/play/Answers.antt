-- The document may cross.
use denote.Param.Send.{sendable}
use Rattle.documents_cross.proofs.Crosses.{Doc-send, Doc-sync}
use Rattle.thread_tests.proofs.plays.play.Goals as goal

pub play_over-requires-send-T : goal.play_over-requires-send-T
play_over-requires-send-T g c κs within = let d = Doc-send in search sendable

pub play_over-requires-sync-T : goal.play_over-requires-sync-T
play_over-requires-sync-T g c κs within = let d = Doc-sync in search sendable
