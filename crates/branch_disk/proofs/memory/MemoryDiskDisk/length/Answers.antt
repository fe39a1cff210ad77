use Rattle.std.proofs.Common.{refl}
use Rattle.branch_disk.specs.History.{both_at_rest}
use Rattle.branch_disk.proofs.Lines.{carried, line_moment, line_left}
use Rattle.branch_disk.specs.declared.memory.MemoryDisk.{MemoryDisk}
use Rattle.branch_disk.proofs.Noted.{moments, kept-look, goes_through, fails_so, of_error}
use Rattle.branch_disk.proofs.memory.MemoryDiskDisk.length.Goals as goal

pub invariant_of-self : goal.invariant_of-self
invariant_of-self c = record { is = kept-look _ _ _ c.args.self.now.faults c.note.new.faults _ _ c.note.ensures.noted c.args.self.now.is }

pub returns-in_err-note-clause-moments : goal.returns-in_err-note-clause-moments
returns-in_err-note-clause-moments c =
    carried (λ (m : MemoryDisk). (both_at_rest m.first_objects.items m.first_heads.items, m.calls.items)) line_moment line_left _ _ _ (moments _ _ _ c.args.self.now.faults c.note.new.faults _ _ c.note.ensures.noted _ (λ f image. image) (λ failed f image. image))

pub returns-clause-moments : goal.returns-clause-moments
returns-clause-moments c =
    carried (λ (m : MemoryDisk). (both_at_rest m.first_objects.items m.first_heads.items, m.calls.items)) line_moment line_left _ _ _ (moments _ _ _ c.args.self.now.faults c.note.new.faults _ _ c.note.ensures.noted _ (λ f image. image) (λ failed f image. image))

pub returns-in_err-note-clause-held : goal.returns-in_err-note-clause-held
returns-in_err-note-clause-held c = of_error c.from_residual.result _ _ c.from_residual.ensures.0 (fails_so _ _ _ c.args.self.now.faults c.note.new.faults _ _ c.in_err-note.ensures.noted (λ h. h) refl)

pub returns-clause-held : goal.returns-clause-held
returns-clause-held c = (goes_through _ _ _ c.args.self.now.faults c.note.new.faults _ c.in_ok-note.ensures.noted (λ h. h) refl, tt)
