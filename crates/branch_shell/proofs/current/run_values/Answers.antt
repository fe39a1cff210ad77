-- The command over values of either type.
use denote.Param.Send.{sendable}
use Rattle.documents_cross.proofs.Crosses.{Doc-send, Doc-sync, Wide-send, Wide-sync}
use Rattle.branch_shell.proofs.current.run_values.Goals as goal

pub returns-in-Documents-clause-ran : goal.returns-in-Documents-clause-ran
returns-in-Documents-clause-ran g c said means = rw c.in-Documents.is (c.run_chosen.ensures.ran said means)

pub returns-in-WithSequences-clause-ran : goal.returns-in-WithSequences-clause-ran
returns-in-WithSequences-clause-ran g c said means = rw c.in-WithSequences.is (c.run_chosen-in-WithSequences.ensures.ran said means)

pub returns-in-Documents-clause-behind_source : goal.returns-in-Documents-clause-behind_source
returns-in-Documents-clause-behind_source g c said means fault = rw c.in-Documents.is (c.run_chosen.ensures.behind_source said means fault)

pub returns-in-WithSequences-clause-behind_source : goal.returns-in-WithSequences-clause-behind_source
returns-in-WithSequences-clause-behind_source g c said means fault = rw c.in-WithSequences.is (c.run_chosen-in-WithSequences.ensures.behind_source said means fault)

pub returns-in-Documents-clause-behind_disk : goal.returns-in-Documents-clause-behind_disk
returns-in-Documents-clause-behind_disk g c said means fault = rw c.in-Documents.is (c.run_chosen.ensures.behind_disk said means fault)

pub returns-in-WithSequences-clause-behind_disk : goal.returns-in-WithSequences-clause-behind_disk
returns-in-WithSequences-clause-behind_disk g c said means fault = rw c.in-WithSequences.is (c.run_chosen-in-WithSequences.ensures.behind_disk said means fault)

pub run_chosen-requires-send-T : goal.run_chosen-requires-send-T
run_chosen-requires-send-T g c κs within = let d = Doc-send in search sendable

pub run_chosen-requires-sync-T : goal.run_chosen-requires-sync-T
run_chosen-requires-sync-T g c κs within = let d = Doc-sync in search sendable

pub run_chosen-requires-in-WithSequences-send-T : goal.run_chosen-requires-in-WithSequences-send-T
run_chosen-requires-in-WithSequences-send-T g c κs within = let d = Wide-send in search sendable

pub run_chosen-requires-in-WithSequences-sync-T : goal.run_chosen-requires-in-WithSequences-sync-T
run_chosen-requires-in-WithSequences-sync-T g c κs within = let d = Wide-sync in search sendable
