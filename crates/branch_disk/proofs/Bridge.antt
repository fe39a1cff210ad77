-- Images by sure bytes and pending ranges, and images as they are torn and made sure call by call.
use Rattle.std.proofs.Common.{◌≡◌, ◌↔◌, ℕ, ◌≤◌, List, [], length, refl, sym, subst, arith}
use Rattle.branch_disk.specs.declared.part.Part.{Part}
use Rattle.branch_disk.specs.declared.part.Part.TheVariants.{Objects, Heads}
use Rattle.branch_disk.specs.Disk.{Files, bytes_of, OnPart, Torn, After}
use Rattle.branch_disk.specs.Image.{Patch, Held, IsImage, IsImageOf, IsSound, written, half_written, synced}
use Rattle.branch_disk.proofs.ImageLaws.{image_before, torn_image, sound-synced, sure_alone}
use Rattle.branch_disk.specs.History.{on_part}
use Rattle.branch_disk.specs.Fill.{kept_of}

pub torn_exactly : (held : Held) (part : Part) (at : ℕ) (bytes : List ℕ) (c : Files) → IsSound (kept_of part held) → at ≤ length (kept_of part held).reads
    → IsImageOf (on_part part (half_written at bytes) held) c ↔ After (OnPart part (Torn at (length bytes))) (IsImageOf held) c
torn_exactly held Objects at bytes c sound within =
    let k = held.objects in
    let patch : Patch = record { at = at; bytes = bytes } in (
      λ (objects, heads).
          let from = image_before k.sure k.pending patch c.objects (omega (arith, sound.no_longer, within)) objects in
          (record { objects = from.0; heads = c.heads }, (from.1, heads), (from.2, refl)),
      λ (d, image, step). (torn_image k.sure k.pending patch d.objects c.objects image.0 step.0, subst (λ (l : List ℕ). IsImage held.heads.sure held.heads.pending l) (sym step.1) image.1),
    )
torn_exactly held Heads at bytes c sound within =
    let k = held.heads in
    let patch : Patch = record { at = at; bytes = bytes } in (
      λ (objects, heads).
          let from = image_before k.sure k.pending patch c.heads (omega (arith, sound.no_longer, within)) heads in
          (record { objects = c.objects; heads = from.0 }, (objects, from.1), (from.2, refl)),
      λ (d, image, step). (subst (λ (l : List ℕ). IsImage held.objects.sure held.objects.pending l) (sym step.1) image.0, torn_image k.sure k.pending patch d.heads c.heads image.1 step.0),
    )

pub torn_exactly_through : (held : Held) (part : Part) (at : ℕ) (bytes : List ℕ) (c : Files) → IsSound (kept_of part held) → at ≤ length (kept_of part held).reads
    → IsImageOf (on_part part (written at bytes) held) c ↔ After (OnPart part (Torn at (length bytes))) (IsImageOf held) c
torn_exactly_through held Objects at bytes c sound within = torn_exactly held Objects at bytes c sound within
torn_exactly_through held Heads at bytes c sound within = torn_exactly held Heads at bytes c sound within

pub sure_exactly : (held : Held) (part : Part) (c : Files) → IsSound (kept_of part held)
    → IsImageOf (on_part part synced held) c ↔ (IsImageOf held c × (bytes_of part c ≡ (kept_of part held).reads))
sure_exactly held Objects c sound =
    let k = held.objects in (
      λ (objects, heads). let is = sure_alone k.reads c.objects objects in ((subst (λ (l : List ℕ). IsImage k.sure k.pending l) (sym is) sound, heads), is),
      λ (image, is). (subst (λ (l : List ℕ). IsImage k.reads [] l) (sym is) (sound-synced k), image.1),
    )
sure_exactly held Heads c sound =
    let k = held.heads in (
      λ (objects, heads). let is = sure_alone k.reads c.heads heads in ((objects, subst (λ (l : List ℕ). IsImage k.sure k.pending l) (sym is) sound), is),
      λ (image, is). (image.0, subst (λ (l : List ℕ). IsImage k.reads [] l) (sym is) (sound-synced k)),
    )
