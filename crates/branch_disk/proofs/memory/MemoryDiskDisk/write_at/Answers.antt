use Rattle.std.proofs.Common.{◌≡◌, ℕ, length, refl, ap, subst, rules}
use Rattle.branch_disk.specs.Disk.{Files, OnPart, Torn, After}
use Rattle.branch_disk.specs.Image.{IsImageOf, written, half_written}
use Rattle.branch_disk.specs.History.{both_at_rest, replay, on_part}
use Rattle.branch_disk.proofs.Lines.{carried, line_moment, line_left}
use Rattle.branch_disk.specs.declared.memory.MemoryDisk.{MemoryDisk}
use Rattle.branch_disk.proofs.Noted.{moments, kept-failed_write, kept-done_write, write_images, write_before, kept_same, write_same, holds_torn, goes_through, fails_so, of_error, same_bytes}
use Rattle.branch_disk.proofs.memory.MemoryDiskDisk.write_at.Goals as goal

pub invariant_of-self-in-Break-1 : goal.invariant_of-self-in-Break-1
invariant_of-self-in-Break-1 c = record {
  is = kept_same _ _ _ c.prepared.ensures.objects c.prepared.ensures.heads
      (kept-failed_write _ _ _ c.args.self.now.faults c.note.new.faults c.args.part c.args.at c.in-Ok.copy _ _ c.in_err-note.ensures.noted c.args.self.now.is);
}

pub returns-in_err-note-clause-moments : goal.returns-in_err-note-clause-moments
returns-in_err-note-clause-moments c =
    let copied : c.in-Ok.copy.items ≡ c.args.bytes.now = search rules in
    let held = replay (both_at_rest c.args.self.now.first_objects.items c.args.self.now.first_heads.items) c.args.self.now.calls.items in
    let P : ℕ → Files → Type 0 = λ n. After (OnPart c.args.part (Torn c.args.at n)) (IsImageOf held) in
    carried (λ (m : MemoryDisk). (both_at_rest m.first_objects.items m.first_heads.items, m.calls.items)) line_moment line_left _ _ _
    (moments _ _ _ c.args.self.now.faults c.note.new.faults _ _ c.note.ensures.noted (P (length c.args.bytes.now)) (write_before held c.args.part c.args.at (length c.args.bytes.now))
    (λ failed f image. subst (λ (n : ℕ). P n f) (ap length copied) (write_images held _ c.args.part c.args.at c.in-Ok.copy failed (c.requires.within _ refl) c.args.self.now.is f image)))

pub invariant_of-self-2 : goal.invariant_of-self-2
invariant_of-self-2 c =
    let copied : c.in-Ok.copy.items ≡ c.args.bytes.now = search rules in
    let files : Files = record { objects = c.args.self.now.objects.items; heads = c.args.self.now.heads.items } in
    let ready : Files = record { objects = c.prepared.new.objects.items; heads = c.prepared.new.heads.items } in
    let next : Files = record { objects = c.put_in.new.objects.items; heads = c.put_in.new.heads.items } in
    record {
      is = kept-done_write _ _ _ c.args.self.now.faults c.note.new.faults c.args.part c.args.at c.in-Ok.copy files next (c.requires.within _ refl) c.in_ok-note.ensures.noted
          (write_same c.args.part c.args.at c.args.bytes.now c.in-Ok.copy.items files ready next c.prepared.ensures.objects c.prepared.ensures.heads copied c.put_in.ensures) c.args.self.now.is;
    }

pub returns-clause-torn : goal.returns-clause-torn
returns-clause-torn c = λ f told.
    let files : Files = record { objects = c.args.self.now.objects.items; heads = c.args.self.now.heads.items } in
    let ready : Files = record { objects = c.prepared.new.objects.items; heads = c.prepared.new.heads.items } in
    let next : Files = record { objects = c.put_in.new.objects.items; heads = c.put_in.new.heads.items } in (
      next,
      refl,
      holds_torn files next f c.args.part c.args.at c.args.bytes.now (c.requires.within _ refl)
          (write_same c.args.part c.args.at c.args.bytes.now c.args.bytes.now files ready next c.prepared.ensures.objects c.prepared.ensures.heads refl c.put_in.ensures) told,
    )

pub returns-clause-moments : goal.returns-clause-moments
returns-clause-moments c =
    let copied : c.in-Ok.copy.items ≡ c.args.bytes.now = search rules in
    let held = replay (both_at_rest c.args.self.now.first_objects.items c.args.self.now.first_heads.items) c.args.self.now.calls.items in
    let P : ℕ → Files → Type 0 = λ n. After (OnPart c.args.part (Torn c.args.at n)) (IsImageOf held) in
    carried (λ (m : MemoryDisk). (both_at_rest m.first_objects.items m.first_heads.items, m.calls.items)) line_moment line_left _ _ _
    (moments _ _ _ c.args.self.now.faults c.note.new.faults _ _ c.note.ensures.noted (P (length c.args.bytes.now)) (write_before held c.args.part c.args.at (length c.args.bytes.now))
    (λ failed f image. subst (λ (n : ℕ). P n f) (ap length copied) (write_images held _ c.args.part c.args.at c.in-Ok.copy failed (c.requires.within _ refl) c.args.self.now.is f image)))

pub returns-in_err-note-clause-held : goal.returns-in_err-note-clause-held
returns-in_err-note-clause-held c =
    let copied : c.in-Ok.copy.items ≡ c.args.bytes.now = search rules in
    of_error c.from_residual.result _ _ c.from_residual.ensures.0 (fails_so _ _ _ c.args.self.now.faults c.note.new.faults _ _ c.in_err-note.ensures.noted (on_part c.args.part (half_written c.args.at c.args.bytes.now))
    (same_bytes (λ l. on_part c.args.part (half_written c.args.at l)) _ c.in-Ok.copy.items c.args.bytes.now copied))

pub returns-clause-held : goal.returns-clause-held
returns-clause-held c =
    let copied : c.in-Ok.copy.items ≡ c.args.bytes.now = search rules in
    (goes_through _ _ _ c.args.self.now.faults c.note.new.faults _ c.in_ok-note.ensures.noted (on_part c.args.part (written c.args.at c.args.bytes.now)) (same_bytes (λ l. on_part c.args.part (written c.args.at l)) _ c.in-Ok.copy.items c.args.bytes.now copied), tt)
