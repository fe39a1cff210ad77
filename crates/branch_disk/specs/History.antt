-- The calls that a disk in memory has done, and what it holds after them.
use Rattle.std.specs.Prelude.{◌≡◌, ◌⊎◌, ℕ, ◌+◌, ◌≤◌, Bool, true, false, List, [], ◌∷◌, ◌++◌, length, take, Result, Ok, Err}
use Rattle.branch_io.specs.declared.faults.Faults.{Faults}
use Rattle.branch_io.specs.Counts.{capped, IsNextListed}
use Rattle.branch_disk.specs.declared.part.Part.{Part}
use Rattle.branch_disk.specs.declared.part.Part.TheVariants.{Objects, Heads}
use Rattle.branch_disk.specs.declared.call.What.{What}
use Rattle.branch_disk.specs.declared.call.What.TheVariants.{Look, Write, Sync}
use Rattle.branch_disk.specs.declared.call.Call.{Call}
use Rattle.branch_disk.specs.declared.disk.DiskFailed.{DiskFailed}
use Rattle.branch_disk.specs.Disk.{Files}
use Rattle.branch_disk.specs.Image.{Kept, Held, IsImageOf, IsSound, written, half_written, synced}

-- a part whose bytes are all sure
abbrev pub at_rest : List ℕ → Kept
at_rest bytes = record { reads = bytes; sure = bytes; pending = [] }

abbrev pub both_at_rest : List ℕ → List ℕ → Held
both_at_rest objects heads = record { objects = at_rest objects; heads = at_rest heads }

abbrev pub on_part : Part → (Kept → Kept) → Held → Held
on_part Objects f held = record { objects = f held.objects; heads = held.heads }
on_part Heads f held = record { objects = held.objects; heads = f held.heads }

-- what a disk holds after a call
abbrev pub after_what : What → Bool → Held → Held
after_what Look failed held = held
after_what (Write part at bytes) true held = on_part part (half_written at bytes.items) held
after_what (Write part at bytes) false held = on_part part (written at bytes.items) held
after_what (Sync part) true held = held
after_what (Sync part) false held = on_part part synced held

abbrev pub replay : Held → List Call → Held
replay held [] = held
replay held (call ∷ calls) = replay (after_what call.what call.failed held) calls

-- What a crash at some moment since t might have left: an image of what is held after k calls.
abbrev pub WasLeft : Held → List Call → ℕ → Files → Type 0
WasLeft first calls t c = (k : ℕ) × (t ≤ k) × (k ≤ length calls) × IsImageOf (replay first (take k calls)) c

-- A call is noted, and goes through, or fails because it is listed; or there is no room to note it, which is counted,
-- and it fails.
abbrev pub IsNoted : What → Result (Unit {0}) DiskFailed → List Call → List Call → Faults → Faults → Type 0
IsNoted what result old new faults faults' =
    (result ≡ Ok tt × (new ≡ old ++ (record { what = what; failed = false }) ∷ []) × (faults'.refused ≡ faults.refused))
    ⊎ (result ≡ Err (record {}) × (new ≡ old ++ (record { what = what; failed = true }) ∷ []) × IsNextListed faults × (faults'.refused ≡ faults.refused))
    ⊎ (result ≡ Err (record {}) × (new ≡ old) × (faults'.refused ≡ capped (faults.refused + 1)))

-- these files are what reads give of what is held, and one of its images
pub record IsKeptAs (held : Held) (files : Files) : Type 0 where
  pub objects : files.objects ≡ held.objects.reads
  pub heads : files.heads ≡ held.heads.reads
  pub sound_objects : IsSound held.objects
  pub sound_heads : IsSound held.heads

-- of two things, one for each part, that for this one
abbrev pub chosen : {A : Type 0} → Part → A → A → A
chosen Objects objects heads = objects
chosen Heads objects heads = heads
