-- Both disks, from what stands on each.
use Rattle.std.proofs.Common.{◌≡◌, ◌∙◌, length, ap, sym, subst, refl}
use Rattle.branch_history.specs.declared.moves.Move.{Move}
use Rattle.branch_machine.specs.Fixed.{fix}
use Rattle.branch_machine.specs.Objects.{objects_text}
use Rattle.branch_compact.specs.Compact.{compact}
use Rattle.recorded_history.specs.Views.{RecordedView}
use Rattle.store_core.specs.Contents.{closed_text}
use Rattle.store_compact.specs.declared.answers.Which.{Which}
use Rattle.store_compact.specs.declared.answers.CompactRefused.TheVariants as refusal
use Rattle.store_compact.specs.Compacting.{first_of, second_of, HasCauseOfEither}
use Rattle.store_compact.proofs.Standing.{second-done, second-left, first-done, first-left, nothing-done, cause-none, cause-first}
use Rattle.store_compact.proofs.compacting.compact.Goals as goal

pub returns-in-Err-clause-refused : goal.returns-in-Err-clause-refused
returns-in-Err-clause-refused g c =
    let laws = g.met.D.Disk in let m = g.T.Mrdt.meaning in let a = g.A.Address.address in let core = c.args.core in
    let fixed = fix m core.terms a in
    let fewer = compact core.terms core.history in
    let valid = c.moves-moves.ensures.valid in
    let all = c.compacts_fully_valid.ensures core.terms a core.history valid in
    let size = g.met.A.Address.size in
    nothing-done g.D.Disk laws.counts_now laws.only_now laws.reads_image laws.told laws.all_tell m a core c.reads_what_stands.ensures c.switches_to_first.ensures c.switches_to_second.ensures valid all
    (c.moves-moves.ensures.stands c.requires.working) (c.has_gates.ensures core.terms a size core.history valid) (c.has_gates.ensures core.terms a size fewer all)
    (objects_text fixed fewer) (closed_text fixed fewer) refl refl
    c.args.current c.args.other c.into_recorded-recorded.result.1 c.in_order-first.result.0 c.in_order-first.result.1 c.into_recorded-recorded.ensures.same c.in_order-first.ensures.first c.in_order-first.ensures.second c.requires.aside

pub returns-in-Err-clause-cause : goal.returns-in-Err-clause-cause
returns-in-Err-clause-cause g c =
    let faults = g.D.Disk.faults in
    let same = c.into_recorded-recorded.ensures.same in
    cause-none (faults (first_of c.args.current c.args.core.disk c.args.other)) (faults c.in_order-first.result.0) (faults (second_of c.args.current c.args.core.disk c.args.other)) (faults c.in_order-first.result.1)
    (ap faults (c.in_order-first.ensures.first ∙ ap (λ d. first_of c.args.current d c.args.other) same))
    (ap faults (c.in_order-first.ensures.second ∙ ap (λ d. second_of c.args.current d c.args.other) same))

pub returns-in-Ok-move_to_second-clause-compacted : goal.returns-in-Ok-move_to_second-clause-compacted
returns-in-Ok-move_to_second-clause-compacted g c =
    let laws = g.met.D.Disk in let m = g.T.Mrdt.meaning in let a = g.A.Address.address in let core = c.args.core in
    let fewer = compact core.terms core.history in
    let valid = c.moves-moves.ensures.valid in
    let all = c.compacts_fully_valid.ensures core.terms a core.history valid in
    let size = g.met.A.Address.size in
    let files = c.in-Ok.files in
    let was = c.into_recorded-recorded.ensures.recorded in
    second-done g.D.Disk laws.counts_now laws.only_now laws.reads_image laws.told laws.all_tell m a core c.reads_what_stands.ensures c.switches_to_first.ensures c.switches_to_second.ensures valid all
    (c.moves-moves.ensures.stands c.requires.working) (c.has_gates.ensures core.terms a size core.history valid) (c.has_gates.ensures core.terms a size fewer all)
    files.objects.items files.heads.items
    (subst (λ (r : RecordedView (Move g.row.T-Op.Denot g.row.T-Reply.Denot)). files.objects.items ≡ objects_text (fix m r.terms a) (compact r.terms r.written)) was c.in-Ok.ensures.objects)
    (subst (λ (r : RecordedView (Move g.row.T-Op.Denot g.row.T-Reply.Denot)). files.heads.items ≡ closed_text (fix m r.terms a) (compact r.terms r.written)) was c.in-Ok.ensures.heads)
    c.args.current c.in-First.is c.args.other c.in-Ok-move_to_second.first c.in-Ok-move_to_second.second c.into_recorded-recorded.result.1 c.into_recorded-recorded.ensures.same _
    (subst (λ (r : RecordedView (Move g.row.T-Op.Denot g.row.T-Reply.Denot)). files.moves ≡ length (compact r.terms r.written)) was c.in-Ok.ensures.moves)
    c.moves-moves.ensures.moves c.in-Ok-move_to_second.ensures.moved

pub returns-in-First-clause-refused : goal.returns-in-First-clause-refused
returns-in-First-clause-refused g c =
    let laws = g.met.D.Disk in let m = g.T.Mrdt.meaning in let a = g.A.Address.address in let core = c.args.core in
    let fewer = compact core.terms core.history in
    let valid = c.moves-moves.ensures.valid in
    let all = c.compacts_fully_valid.ensures core.terms a core.history valid in
    let size = g.met.A.Address.size in
    let files = c.in-Ok.files in
    let was = c.into_recorded-recorded.ensures.recorded in
    second-left g.D.Disk laws.counts_now laws.only_now laws.reads_image laws.told laws.all_tell m a core c.reads_what_stands.ensures c.switches_to_first.ensures c.switches_to_second.ensures valid all
    (c.moves-moves.ensures.stands c.requires.working) (c.has_gates.ensures core.terms a size core.history valid) (c.has_gates.ensures core.terms a size fewer all)
    files.objects.items files.heads.items
    (subst (λ (r : RecordedView (Move g.row.T-Op.Denot g.row.T-Reply.Denot)). files.objects.items ≡ objects_text (fix m r.terms a) (compact r.terms r.written)) was c.in-Ok.ensures.objects)
    (subst (λ (r : RecordedView (Move g.row.T-Op.Denot g.row.T-Reply.Denot)). files.heads.items ≡ closed_text (fix m r.terms a) (compact r.terms r.written)) was c.in-Ok.ensures.heads)
    c.args.current c.in-First.is c.args.other c.in-Err-move_to_second.first c.in-Err-move_to_second.second c.into_recorded-recorded.result.1 c.into_recorded-recorded.ensures.same c.in-Err-move_to_second.ensures.left

pub move_to_first-requires-clause-aside : goal.move_to_first-requires-clause-aside
move_to_first-requires-clause-aside g c = c.requires.aside c.in-Second.is

pub returns-in-Ok-move_to_first-clause-compacted : goal.returns-in-Ok-move_to_first-clause-compacted
returns-in-Ok-move_to_first-clause-compacted g c =
    let laws = g.met.D.Disk in let m = g.T.Mrdt.meaning in let a = g.A.Address.address in let core = c.args.core in
    let fewer = compact core.terms core.history in
    let valid = c.moves-moves.ensures.valid in
    let all = c.compacts_fully_valid.ensures core.terms a core.history valid in
    let size = g.met.A.Address.size in
    let files = c.in-Ok.files in
    let was = c.into_recorded-recorded.ensures.recorded in
    first-done g.D.Disk laws.counts_now laws.only_now laws.reads_image laws.told laws.all_tell m a core c.reads_what_stands.ensures c.switches_to_first.ensures c.switches_to_second.ensures valid all
    (c.moves-moves.ensures.stands c.requires.working) (c.has_gates.ensures core.terms a size core.history valid) (c.has_gates.ensures core.terms a size fewer all)
    files.objects.items files.heads.items
    (subst (λ (r : RecordedView (Move g.row.T-Op.Denot g.row.T-Reply.Denot)). files.objects.items ≡ objects_text (fix m r.terms a) (compact r.terms r.written)) was c.in-Ok.ensures.objects)
    (subst (λ (r : RecordedView (Move g.row.T-Op.Denot g.row.T-Reply.Denot)). files.heads.items ≡ closed_text (fix m r.terms a) (compact r.terms r.written)) was c.in-Ok.ensures.heads)
    c.args.current c.in-Second.is c.args.other c.in-Ok-move_to_first.first c.into_recorded-recorded.result.1 c.into_recorded-recorded.ensures.same _
    (subst (λ (r : RecordedView (Move g.row.T-Op.Denot g.row.T-Reply.Denot)). files.moves ≡ length (compact r.terms r.written)) was c.in-Ok.ensures.moves)
    c.moves-moves.ensures.moves c.in-Ok-move_to_first.ensures.moved

pub returns-clause-refused : goal.returns-clause-refused
returns-clause-refused g c =
    let laws = g.met.D.Disk in let m = g.T.Mrdt.meaning in let a = g.A.Address.address in let core = c.args.core in
    let fewer = compact core.terms core.history in
    let valid = c.moves-moves.ensures.valid in
    let all = c.compacts_fully_valid.ensures core.terms a core.history valid in
    let size = g.met.A.Address.size in
    let files = c.in-Ok.files in
    let was = c.into_recorded-recorded.ensures.recorded in
    first-left g.D.Disk laws.counts_now laws.only_now laws.reads_image laws.told laws.all_tell m a core c.reads_what_stands.ensures c.switches_to_first.ensures c.switches_to_second.ensures valid all
    (c.moves-moves.ensures.stands c.requires.working) (c.has_gates.ensures core.terms a size core.history valid) (c.has_gates.ensures core.terms a size fewer all)
    files.objects.items files.heads.items
    (subst (λ (r : RecordedView (Move g.row.T-Op.Denot g.row.T-Reply.Denot)). files.objects.items ≡ objects_text (fix m r.terms a) (compact r.terms r.written)) was c.in-Ok.ensures.objects)
    (subst (λ (r : RecordedView (Move g.row.T-Op.Denot g.row.T-Reply.Denot)). files.heads.items ≡ closed_text (fix m r.terms a) (compact r.terms r.written)) was c.in-Ok.ensures.heads)
    c.args.current c.in-Second.is c.args.other c.in-Err-move_to_first.first c.into_recorded-recorded.result.1 c.into_recorded-recorded.ensures.same c.in-Err-move_to_first.ensures.left

pub returns-clause-cause : goal.returns-clause-cause
returns-clause-cause g c =
    let faults = g.D.Disk.faults in
    let other = c.args.other in let held = c.args.core.disk in
    let first = c.in-Err-move_to_first.first in let second = c.into_recorded-recorded.result.1 in
    let cause = c.in-Err-move_to_first.ensures.cause in
    subst (λ (w : Which). HasCauseOfEither (faults (first_of w held other)) (faults first) (faults (second_of w held other)) (faults second) refusal.DiskFault) (sym c.in-Second.is)
    (cause-first (faults other) (faults first) (faults held) (faults second) cause.0 cause.1 (ap faults c.into_recorded-recorded.ensures.same))
