use Rattle.std.proofs.Common.{refl}
use Rattle.branch_disk.specs.Image.{synced}
use Rattle.branch_disk.specs.History.{on_part}
use Rattle.branch_disk.specs.History.{both_at_rest}
use Rattle.branch_disk.proofs.Lines.{carried, line_moment, line_left}
use Rattle.branch_disk.specs.declared.memory.MemoryDisk.{MemoryDisk}
use Rattle.branch_disk.proofs.Noted.{moments, kept-syncs, sync_images, durable_ok, either}
use Rattle.branch_disk.proofs.memory.MemoryDiskDisk.sync.Goals as goal

pub invariant_of-self : goal.invariant_of-self
invariant_of-self c = record { is = kept-syncs _ _ _ c.args.self.now.faults c.note.new.faults _ _ _ c.note.ensures.noted c.args.self.now.is }

pub returns-clause-durable : goal.returns-clause-durable
returns-clause-durable c = durable_ok _ _ _ c.args.self.now.faults c.note.new.faults c.args.part _ _ c.note.ensures.noted c.args.self.now.is

pub returns-clause-moments : goal.returns-clause-moments
returns-clause-moments c =
    carried (λ (m : MemoryDisk). (both_at_rest m.first_objects.items m.first_heads.items, m.calls.items)) line_moment line_left _ _ _
    (moments _ _ _ c.args.self.now.faults c.note.new.faults _ _ c.note.ensures.noted _ (λ f image. image) (λ failed f image. sync_images _ _ c.args.part failed c.args.self.now.is f image))

pub returns-clause-held : goal.returns-clause-held
returns-clause-held c = either _ _ _ c.args.self.now.faults c.note.new.faults _ _ c.note.ensures.noted (on_part c.args.part synced) (λ h. h) refl refl
