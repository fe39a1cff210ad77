-- The document may cross.
use denote.Param.Send.{sendable}
use Rattle.documents_cross.proofs.Crosses.{Doc-send, Doc-sync}
use Rattle.play_lines.proofs.begin.Goals as goal

pub init-requires-send-T : goal.init-requires-send-T
init-requires-send-T c κs = let d = Doc-send in search sendable

pub init-requires-sync-T : goal.init-requires-sync-T
init-requires-sync-T c κs = let d = Doc-sync in search sendable

pub new-requires-in-Ok-send-T : goal.new-requires-in-Ok-send-T
new-requires-in-Ok-send-T c κs = let d = Doc-send in search sendable

pub new-requires-in-Ok-sync-T : goal.new-requires-in-Ok-sync-T
new-requires-in-Ok-sync-T c κs = let d = Doc-sync in search sendable
