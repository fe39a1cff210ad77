-- The rows, computed from the definitions.
use Rattle.std.proofs.Common.{refl}
use Rattle.mrdt_model.specs.Times.{is_earlier, same_time}
use Rattle.branch_wire.specs.Fields.{number, short_number, signed_number, wide_number, wide_signed_number}
use Rattle.branch_graph.specs.Graph.{reaches, maximal_common}
use Rattle.branch_history.specs.Commits.{visible, visible_at_all}
use Rattle.branch_history.specs.Merging.{brought}
use Rattle.branch_history.specs.History.{store_of}
use Rattle.branch_history.specs.Machine.{turn, operation_refusal, merge_refusal, move_refusal, room_refusal, forward_refusal, commit_refusal, fork_refusal, drop_refusal, received_operation_refusal, received_merge_refusal}
use Rattle.branch_machine.specs.Objects.{pairs_of, objects_of, new_objects}
use Rattle.branch_machine.specs.Machine.{collision_refusal, commit_at, full_turn}
use Rattle.branch_files.specs.Records.{records_of, new_address}
use Rattle.branch_rows.specs.Rows.{WritesFreshStore, WritesFreshChanges, WritesOneChange, WritesOneOperation, WritesReceived, RefusesTwoValues, RefusesTwoCommits, WritesMaps, WritesJoin}
use Rattle.branch_rows.specs.Turns.{JoinsBranches, ReceivesOperations, RefusesOwnOrigins, DropsBranches}

pub fresh_store : WritesFreshStore
unfolding objects_of pairs_of store_of visible reaches records_of number short_number signed_number wide_number wide_signed_number
fresh_store terms = (refl, refl, refl)

pub fresh_changes : WritesFreshChanges
unfolding objects_of pairs_of store_of visible reaches records_of number short_number signed_number wide_number wide_signed_number
fresh_changes terms = (refl, refl, refl)

pub one_change : WritesOneChange
unfolding objects_of pairs_of store_of visible reaches records_of new_address number short_number signed_number wide_number wide_signed_number
one_change in_range origins = (refl, refl, refl)

pub one_operation : WritesOneOperation
unfolding objects_of pairs_of store_of visible reaches records_of new_address number short_number signed_number wide_number wide_signed_number
one_operation limits in_range = (refl, refl, refl)

pub received : WritesReceived
unfolding objects_of pairs_of store_of visible visible_at_all reaches records_of new_address number short_number signed_number wide_number wide_signed_number
received in_range origins = (refl, refl, refl)

pub joined : WritesJoin
unfolding is_earlier objects_of pairs_of store_of visible visible_at_all reaches records_of new_address number short_number signed_number wide_number wide_signed_number
joined limits in_range = (refl, refl, refl)

pub two_values : RefusesTwoValues
unfolding full_turn commit_at turn operation_refusal move_refusal room_refusal commit_refusal collision_refusal new_objects objects_of pairs_of store_of visible reaches number short_number signed_number wide_number wide_signed_number
two_values in_range origins = (refl, refl)

pub two_commits : RefusesTwoCommits
unfolding is_earlier full_turn commit_at turn operation_refusal move_refusal room_refusal commit_refusal collision_refusal new_objects objects_of pairs_of store_of visible reaches number short_number signed_number wide_number wide_signed_number
two_commits in_range origins = (refl, refl)

pub maps : WritesMaps
unfolding objects_of pairs_of store_of visible reaches number short_number signed_number wide_number wide_signed_number
maps terms = (refl, refl)

pub joins : JoinsBranches
unfolding is_earlier full_turn commit_at turn operation_refusal merge_refusal move_refusal room_refusal forward_refusal commit_refusal fork_refusal collision_refusal new_objects objects_of pairs_of store_of visible visible_at_all reaches maximal_common brought number short_number signed_number wide_number wide_signed_number
joins in_range origins = refl

pub receives : ReceivesOperations
unfolding is_earlier same_time full_turn commit_at turn operation_refusal merge_refusal move_refusal room_refusal forward_refusal commit_refusal fork_refusal received_operation_refusal received_merge_refusal collision_refusal new_objects objects_of pairs_of store_of visible visible_at_all reaches maximal_common brought number short_number signed_number wide_number wide_signed_number
receives in_range origins = refl

pub own_origins : RefusesOwnOrigins
unfolding is_earlier same_time full_turn commit_at turn operation_refusal move_refusal room_refusal commit_refusal received_operation_refusal collision_refusal new_objects objects_of pairs_of store_of visible reaches number short_number signed_number wide_number wide_signed_number
own_origins in_range origins = refl

pub drops : DropsBranches
unfolding is_earlier full_turn commit_at turn operation_refusal move_refusal room_refusal commit_refusal fork_refusal drop_refusal collision_refusal new_objects objects_of pairs_of store_of visible reaches number short_number signed_number wide_number wide_signed_number
drops in_range origins = refl
