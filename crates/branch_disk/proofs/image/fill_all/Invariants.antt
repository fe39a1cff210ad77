use Rattle.std.proofs.Common.{◌≡◌, take}
use Rattle.branch_disk.specs.Image.{Held}
use Rattle.branch_disk.specs.History.{replay}
use Rattle.branch_disk.specs.Fill.{kept_of, filled_of}
use Rattle.branch_disk.proofs.image.fill_all.Given as goal

abbrev pub invariant-loop-call : goal.invariant-loop-call
invariant-loop-call l = (held : Held) → l.initial.bytes.items ≡ filled_of l.fill (kept_of l.part held) → l.bytes.items ≡ filled_of l.fill (kept_of l.part (replay held (take l.call-index l.calls)))
