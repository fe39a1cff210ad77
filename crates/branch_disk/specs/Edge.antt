-- What the calls on an open file are, where it tells its place and its bytes.
use Rattle.std.specs.Prelude.{◌≡◌, ℕ, Option, Some, IfSome}
use Rattle.branch_disk.specs.declared.part.Part.{Part}
use Rattle.branch_disk.specs.declared.part.Part.TheVariants.{Objects, Heads}
use Rattle.branch_disk.specs.declared.file.Opened.{Opened}

-- A step that goes on from the file at this place: the one call before it sought the place.
abbrev pub FromPlace : {F : Type 0} → (F → Option ℕ) → ℕ → (F → F → Type 0) → F → F → Type 0
FromPlace {F} place at step old new = (mid : F) × IfSome (place old) (λ _. place mid ≡ Some at) × step mid new

-- of two open files this one takes the step, and the other is not touched
abbrev pub OnFile : {F : Type 0} → Part → (F → F → Type 0) → Opened F → Opened F → Type 0
OnFile Objects step old new = step old.objects new.objects × (new.heads ≡ old.heads)
OnFile Heads step old new = step old.heads new.heads × (new.objects ≡ old.objects)
