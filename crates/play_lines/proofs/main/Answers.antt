-- The document may cross.
use denote.Param.Send.{sendable}
use Rattle.documents_cross.proofs.Crosses.{Doc-send, Doc-sync}
use Rattle.play_lines.proofs.main.Goals as goal

pub tell-requires-send-T : goal.tell-requires-send-T
tell-requires-send-T c κs = let d = Doc-send in search sendable

pub tell-requires-sync-T : goal.tell-requires-sync-T
tell-requires-sync-T c κs = let d = Doc-sync in search sendable
