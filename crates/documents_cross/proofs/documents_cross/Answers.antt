-- By the lemmas for each document.
use denote.Param.Send.{sendable}
use Rattle.documents_cross.proofs.Crosses.{Doc-send, Doc-sync, Wide-send, Wide-sync, Doc1-send, Doc1-sync}
use Rattle.documents_cross.proofs.documents_cross.Goals as goal

pub may_cross-requires-send-T : goal.may_cross-requires-send-T
may_cross-requires-send-T c κs = let d = Doc-send in search sendable

pub may_cross-requires-sync-T : goal.may_cross-requires-sync-T
may_cross-requires-sync-T c κs = let d = Doc-sync in search sendable

pub may_cross-requires-2-send-T : goal.may_cross-requires-2-send-T
may_cross-requires-2-send-T c κs = let d = Wide-send in search sendable

pub may_cross-requires-2-sync-T : goal.may_cross-requires-2-sync-T
may_cross-requires-2-sync-T c κs = let d = Wide-sync in search sendable

pub may_cross-requires-3-send-T : goal.may_cross-requires-3-send-T
may_cross-requires-3-send-T c κs = let d = Doc1-send in search sendable

pub may_cross-requires-3-sync-T : goal.may_cross-requires-3-sync-T
may_cross-requires-3-sync-T c κs = let d = Doc1-sync in search sendable
