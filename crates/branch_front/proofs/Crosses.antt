-- The front may be shared by threads, and the writer and a pass may go to another thread, whatever a move is.
use denote.RattleType.{RattleType}
use denote.Param.Send.{IsSend, IsSync, Frees, sendable, part_keyless}
use denote.Struct.Struct.{Struct}
use denote.Struct.Owning.{shape}
use Rattle.std.specs.declared.alloc.Allocator as alloc
use Rattle.std.proofs.Crossing.{crosses}
use Rattle.atomic_table.specs.declared.shared.TableRule as rule
use Rattle.atomic_table.specs.contracts.shared.Shared as Shared
use Rattle.atomic_table.specs.contracts.shared.Seat as Seat
use Rattle.atomic_table.specs.contracts.badge.Badge as Badge
use Rattle.atomic_table.specs.contracts.send_lease.SendLease as SendLease
use Rattle.atomic_table.proofs.Sent.{seat_keyless, badge_keyless, shares_keyless, owns_keyless}
use Rattle.atomic_table.proofs.Rights.{right_send}
use Rattle.branch_front.specs.contracts.writer.Writer as Writer
use Rattle.branch_front.specs.contracts.pass.Pass as Pass
use Rattle.branch_front.specs.contracts.front.Front as Front

-- the next six are atomic_table's own, which only its own crate can name
seat_send : (S V : RattleType) → IsSend S → IsSend (Seat.the_row S V)
seat_send S V s = record { owned = λ d vs. ((λ vss. (tt, ((λ uss. (tt, tt)), tt))), seat_keyless S s V.coded.code d.table_id d.id d.me); leaving = λ k f vs. tt }

badge_send : (V : RattleType) → IsSend (Badge.the_row V)
badge_send V = record { owned = λ d vs. ((λ vss. (tt, ((λ uss. (tt, tt)), tt))), badge_keyless V.coded.code d.table_id d.id d.views); leaving = λ k f vs. tt }

table_send : (S V K P : RattleType) (g : rule.Ghosts P.Denot S.Denot V.Denot K.Denot) → IsSend S → IsSend (Shared.the_row S V K P g)
table_send S V K P g s = record { owned = λ d vs. ((λ vss. (tt, (tt, (tt, ((λ uss. (tt, tt)), tt))))), owns_keyless S s V.coded.code d.table_id (g.holds d.key) d.words d.slots); leaving = λ k f vs. tt }

table_sync : (S V K P : RattleType) (g : rule.Ghosts P.Denot S.Denot V.Denot K.Denot) → IsSend S → IsSync (Shared.the_row S V K P g)
table_sync S V K P g s = let fields : IsSync (Struct (shape (Shared.the_type S V K P g))) = search sendable depth 20 in
    record { shared = λ d b o ν. (fields.shared (d.words, (d.slots, (tt, tt))) b o ν, shares_keyless S s V.coded.code d.table_id (g.holds d.key) d.words d.slots ν) }

lease_send : (T A : RattleType) (g : alloc.Ghosts A.Denot) → IsSend A → Frees g g.dealloc_token → IsSend (SendLease.the_row T A g)
lease_send T A g s f = right_send T A g f

lease_sync : (T A : RattleType) (g : alloc.Ghosts A.Denot) → IsSend A → Frees g g.dealloc_token → IsSync (SendLease.the_row T A g)
lease_sync T A g s f = record { shared = λ d b o ν q. part_keyless (SendLease.the_row T A g) (right_send T A g f) q d b o }

pub Writer-send : (M : RattleType) → IsSend (Writer.the_row M)
Writer-send M = search (sendable, seat_send) depth 20

pub Pass-send : (M : RattleType) → IsSend (Pass.the_row M)
Pass-send M = search (sendable, badge_send) depth 20

pub Front-sync : (M : RattleType) → IsSync (Front.the_row M)
Front-sync M = search (sendable, crosses, table_sync, lease_sync) depth 20

pub Front-send : (M : RattleType) → IsSend (Front.the_row M)
Front-send M = search (sendable, crosses, table_send, lease_send) depth 20
