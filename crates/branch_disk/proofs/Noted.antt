-- What a call that is noted does to the history of a disk in memory.
use Rattle.std.proofs.Common.{◌≡◌, ◌⊎◌, inl, inr, ℕ, ◌+◌, ◌≤◌, Bool, true, false, List, [], ◌∷◌, ◌++◌, length, Result, Ok, Err, OnOk, OnErr, IsErr, Some, Vec, length-append, refl, sym, ◌∙◌, ap, subst, arith}
use Rattle.std.specs.declared.alloc.Global.{Global}
use Rattle.branch_io.specs.declared.faults.Faults.{Faults}
use Rattle.branch_io.specs.Counts.{capped, IsNextListed}
use Rattle.branch_disk.specs.declared.part.Part.{Part}
use Rattle.branch_disk.specs.declared.part.Part.TheVariants.{Objects, Heads}
use Rattle.branch_disk.specs.declared.call.What.{What}
use Rattle.branch_disk.specs.declared.call.What.TheVariants.{Look, Write, Sync}
use Rattle.branch_disk.specs.declared.call.Call.{Call}
use Rattle.branch_disk.specs.declared.disk.DiskFailed.{DiskFailed}
use Rattle.branch_disk.specs.Disk.{Files, bytes_of, put, OnPart, Holds, Torn, After, LeavesOnly, IsSure}
use Rattle.branch_disk.specs.Image.{Held, IsImage, IsImageOf}
use Rattle.branch_disk.proofs.ImageLaws.{image_before, torn_refl, put_torn, sound-written, sound-half_written, sound-synced, sure_alone}
use Rattle.branch_disk.specs.History.{after_what, replay, IsNoted, IsKeptAs}
use Rattle.branch_disk.proofs.Lines.{replay-push, one_more, none_more, line_moment, line_left}

-- a write leaves an image from before it, torn in the range
pub write_images : (held : Held) (files : Files) (part : Part) (at : ℕ) (v : Vec ℕ Global) (failed : Bool) → at ≤ length (bytes_of part files) → IsKeptAs held files
    → (c : Files) → IsImageOf (after_what (Write part at v) failed held) c → After (OnPart part (Torn at (length v.items))) (IsImageOf held) c
write_images held files Objects at v true within kept c (objects, heads) =
    let from = image_before held.objects.sure held.objects.pending (record { at = at; bytes = v.items }) c.objects (omega (arith, ap length kept.objects, kept.sound_objects.no_longer)) objects in
    (record { objects = from.0; heads = c.heads }, (from.1, heads), (from.2, refl))
write_images held files Objects at v false within kept c (objects, heads) =
    let from = image_before held.objects.sure held.objects.pending (record { at = at; bytes = v.items }) c.objects (omega (arith, ap length kept.objects, kept.sound_objects.no_longer)) objects in
    (record { objects = from.0; heads = c.heads }, (from.1, heads), (from.2, refl))
write_images held files Heads at v true within kept c (objects, heads) =
    let from = image_before held.heads.sure held.heads.pending (record { at = at; bytes = v.items }) c.heads (omega (arith, ap length kept.heads, kept.sound_heads.no_longer)) heads in
    (record { objects = c.objects; heads = from.0 }, (objects, from.1), (from.2, refl))
write_images held files Heads at v false within kept c (objects, heads) =
    let from = image_before held.heads.sure held.heads.pending (record { at = at; bytes = v.items }) c.heads (omega (arith, ap length kept.heads, kept.sound_heads.no_longer)) heads in
    (record { objects = c.objects; heads = from.0 }, (objects, from.1), (from.2, refl))

-- and so may what was there before
pub write_before : (held : Held) (part : Part) (at n : ℕ) (c : Files) → IsImageOf held c → After (OnPart part (Torn at n)) (IsImageOf held) c
write_before held Objects at n c image = (c, image, (torn_refl at n c.objects, refl))
write_before held Heads at n c image = (c, image, (torn_refl at n c.heads, refl))

-- what reads give after a write
pub kept-write : (held : Held) (files next : Files) (part : Part) (at : ℕ) (v : Vec ℕ Global) → at ≤ length (bytes_of part files) → OnPart part (Holds at v.items) files next → IsKeptAs held files
    → IsKeptAs (after_what (Write part at v) false held) next
kept-write held files next Objects at v within step kept = record {
  objects = step.0 ∙ ap (put at v.items) kept.objects;
  heads = step.1 ∙ kept.heads;
  sound_objects = sound-written held.objects at v.items (omega (arith, ap length kept.objects)) kept.sound_objects;
  sound_heads = kept.sound_heads;
}
kept-write held files next Heads at v within step kept = record {
  objects = step.1 ∙ kept.objects;
  heads = step.0 ∙ ap (put at v.items) kept.heads;
  sound_objects = kept.sound_objects;
  sound_heads = sound-written held.heads at v.items (omega (arith, ap length kept.heads)) kept.sound_heads;
}

kept-half_write : (held : Held) (files : Files) (part : Part) (at : ℕ) (v : Vec ℕ Global) → IsKeptAs held files → IsKeptAs (after_what (Write part at v) true held) files
kept-half_write held files Objects at v kept = record { objects = kept.objects; heads = kept.heads; sound_objects = sound-half_written held.objects at v.items kept.sound_objects; sound_heads = kept.sound_heads }
kept-half_write held files Heads at v kept = record { objects = kept.objects; heads = kept.heads; sound_objects = kept.sound_objects; sound_heads = sound-half_written held.heads at v.items kept.sound_heads }

kept-sync : (held : Held) (files : Files) (part : Part) (failed : Bool) → IsKeptAs held files → IsKeptAs (after_what (Sync part) failed held) files
kept-sync held files part true kept = kept
kept-sync held files Objects false kept = record { objects = kept.objects; heads = kept.heads; sound_objects = sound-synced held.objects; sound_heads = kept.sound_heads }
kept-sync held files Heads false kept = record { objects = kept.objects; heads = kept.heads; sound_objects = kept.sound_objects; sound_heads = sound-synced held.heads }

-- a sync leaves images from before it
pub sync_images : (held : Held) (files : Files) (part : Part) (failed : Bool) → IsKeptAs held files → (c : Files) → IsImageOf (after_what (Sync part) failed held) c → IsImageOf held c
sync_images held files part true kept c image = image
sync_images held files Objects false kept c (objects, heads) =
    (subst (λ (l : List ℕ). IsImage held.objects.sure held.objects.pending l) (sym (sure_alone held.objects.reads c.objects objects)) kept.sound_objects, heads)
sync_images held files Heads false kept c (objects, heads) =
    (objects, subst (λ (l : List ℕ). IsImage held.heads.sure held.heads.pending l) (sym (sure_alone held.heads.reads c.heads heads)) kept.sound_heads)

-- and if it goes through, those with what reads give in that part
sync_sure : (held : Held) (files : Files) (part : Part) → IsKeptAs held files → (c : Files) → IsImageOf (after_what (Sync part) false held) c → bytes_of part c ≡ bytes_of part files
sync_sure held files Objects kept c (objects, heads) = sure_alone held.objects.reads c.objects objects ∙ sym kept.objects
sync_sure held files Heads kept c (objects, heads) = sure_alone held.heads.reads c.heads heads ∙ sym kept.heads

module _ (first : Held) (old new : List Call) (a b : Faults) where
  noted : (what : What) (failed : Bool) → new ≡ old ++ (record { what = what; failed = failed }) ∷ [] → replay first new ≡ after_what what failed (replay first old)
  noted what failed is = ap (replay first) is ∙ replay-push first old (record { what = what; failed = failed })

  longer : (what : What) (failed : Bool) → new ≡ old ++ (record { what = what; failed = failed }) ∷ [] → length new ≡ length old + 1
  longer what failed is = ap length is ∙ length-append old ((record { what = what; failed = failed }) ∷ [])

  -- the moments of a call
  pub moments : (what : What) (result : Result (Unit {0}) DiskFailed) → IsNoted what result old new a b → (P : Files → Type 0)
      → ((c : Files) → IsImageOf (replay first old) c → P c) → ((f : Bool) (c : Files) → IsImageOf (after_what what f (replay first old)) c → P c)
      → LeavesOnly line_moment line_left (first, old) (first, new) P
  moments what result (inl (_, is, _)) P was now = subst (λ (l : List Call). LeavesOnly line_moment line_left (first, old) (first, l) P) (sym is) (one_more first old (record { what = what; failed = false }) P was (now false))
  moments what result (inr (inl (_, is, _, _))) P was now = subst (λ (l : List Call). LeavesOnly line_moment line_left (first, old) (first, l) P) (sym is) (one_more first old (record { what = what; failed = true }) P was (now true))
  moments what result (inr (inr (_, is, _))) P was now = subst (λ (l : List Call). LeavesOnly line_moment line_left (first, old) (first, l) P) (sym is) (none_more first old P was)

  -- what is held after a call
  pub goes_through : (what : What) → IsNoted what (Ok tt) old new a b → (through : Held → Held) → after_what what false (replay first old) ≡ through (replay first old)
      → (replay first new ≡ through (replay first old)) × (length new ≡ length old + 1)
  goes_through what (inl (_, is, _)) through same = (noted what false is ∙ same, longer what false is)
  goes_through what (inr (inl (not, _, _, _))) through same = cc
  goes_through what (inr (inr (not, _, _))) through same = cc

  pub fails_so : (what : What) (e : DiskFailed) → IsNoted what (Err e) old new a b → (failing : Held → Held) → after_what what true (replay first old) ≡ failing (replay first old)
      → ((replay first new ≡ failing (replay first old)) × (length new ≡ length old + 1) × IsNextListed a × (b.refused ≡ a.refused)) ⊎ ((new ≡ old) × (b.refused ≡ capped (a.refused + 1)))
  fails_so what e (inl (not, _, _)) failing same = cc
  fails_so what e (inr (inl (_, is, listed, stays))) failing same = inl (noted what true is ∙ same, longer what true is, listed, stays)
  fails_so what e (inr (inr (_, is, more))) failing same = inr (is, more)

  pub either : (what : What) (result : Result (Unit {0}) DiskFailed) → IsNoted what result old new a b → (through failing : Held → Held)
      → after_what what false (replay first old) ≡ through (replay first old) → after_what what true (replay first old) ≡ failing (replay first old)
      → OnOk result ((replay first new ≡ through (replay first old)) × (length new ≡ length old + 1))
      × OnErr result (((replay first new ≡ failing (replay first old)) × (length new ≡ length old + 1) × IsNextListed a × (b.refused ≡ a.refused)) ⊎ ((new ≡ old) × (b.refused ≡ capped (a.refused + 1))))
  either what (Ok u) is through failing same half = (goes_through what is through same, tt)
  either what (Err e) is through failing same half = (tt, fails_so what e is failing half)

  pub kept-look : (result : Result (Unit {0}) DiskFailed) (files : Files) → IsNoted Look result old new a b → IsKeptAs (replay first old) files → IsKeptAs (replay first new) files
  kept-look result files (inl (_, is, _)) kept = subst (λ (h : Held). IsKeptAs h files) (sym (noted Look false is)) kept
  kept-look result files (inr (inl (_, is, _, _))) kept = subst (λ (h : Held). IsKeptAs h files) (sym (noted Look true is)) kept
  kept-look result files (inr (inr (_, is, _))) kept = subst (λ (l : List Call). IsKeptAs (replay first l) files) (sym is) kept

  pub kept-syncs : (part : Part) (result : Result (Unit {0}) DiskFailed) (files : Files) → IsNoted (Sync part) result old new a b → IsKeptAs (replay first old) files → IsKeptAs (replay first new) files
  kept-syncs part result files (inl (_, is, _)) kept = subst (λ (h : Held). IsKeptAs h files) (sym (noted (Sync part) false is)) (kept-sync (replay first old) files part false kept)
  kept-syncs part result files (inr (inl (_, is, _, _))) kept = subst (λ (h : Held). IsKeptAs h files) (sym (noted (Sync part) true is)) kept
  kept-syncs part result files (inr (inr (_, is, _))) kept = subst (λ (l : List Call). IsKeptAs (replay first l) files) (sym is) kept

  pub durable : (part : Part) (files : Files) → IsNoted (Sync part) (Ok tt) old new a b → IsKeptAs (replay first old) files → IsSure part (Some files) (IsImageOf (replay first new))
  durable part files (inl (_, is, _)) kept f told c image =
      let same : files ≡ f = cc in
      sync_sure (replay first old) files part kept c (subst (λ (h : Held). IsImageOf h c) (noted (Sync part) false is) image) ∙ ap (bytes_of part) same
  durable part files (inr (inl (not, _, _, _))) kept f told c image = cc
  durable part files (inr (inr (not, _, _))) kept f told c image = cc

  pub durable_ok : (part : Part) (result : Result (Unit {0}) DiskFailed) (files : Files) → IsNoted (Sync part) result old new a b → IsKeptAs (replay first old) files → OnOk result (IsSure part (Some files) (IsImageOf (replay first new)))
  durable_ok part (Ok u) files is kept = durable part files is kept
  durable_ok part (Err e) files is kept = tt

  pub kept-failed_write : (part : Part) (at : ℕ) (v : Vec ℕ Global) (e : DiskFailed) (files : Files) → IsNoted (Write part at v) (Err e) old new a b → IsKeptAs (replay first old) files → IsKeptAs (replay first new) files
  kept-failed_write part at v e files (inl (not, _, _)) kept = cc
  kept-failed_write part at v e files (inr (inl (_, is, _, _))) kept = subst (λ (h : Held). IsKeptAs h files) (sym (noted (Write part at v) true is)) (kept-half_write (replay first old) files part at v kept)
  kept-failed_write part at v e files (inr (inr (_, is, _))) kept = subst (λ (l : List Call). IsKeptAs (replay first l) files) (sym is) kept

  pub kept-done_write : (part : Part) (at : ℕ) (v : Vec ℕ Global) (files next : Files) → at ≤ length (bytes_of part files) → IsNoted (Write part at v) (Ok tt) old new a b
      → OnPart part (Holds at v.items) files next → IsKeptAs (replay first old) files → IsKeptAs (replay first new) next
  kept-done_write part at v files next within (inl (_, is, _)) step kept = subst (λ (h : Held). IsKeptAs h next) (sym (noted (Write part at v) false is)) (kept-write (replay first old) files next part at v within step kept)
  kept-done_write part at v files next within (inr (inl (not, _, _, _))) step kept = cc
  kept-done_write part at v files next within (inr (inr (not, _, _))) step kept = cc

-- what is said of an error alone
pub of_error : {T : Type 0} (result : Result T DiskFailed) (A B : Type 0) → IsErr result → B → OnOk result A × OnErr result B
of_error (Ok x) A B not b = cc
of_error (Err e) A B is b = (tt, b)

-- a write of the same bytes changes the same
pub same_bytes : (change : List ℕ → Held → Held) (held : Held) (a b : List ℕ) → a ≡ b → change a held ≡ change b held
same_bytes change held a b is = ap (λ (l : List ℕ). change l held) is

-- the same files hold the same
pub kept_same : (held : Held) (files next : Files) → next.objects ≡ files.objects → next.heads ≡ files.heads → IsKeptAs held files → IsKeptAs held next
kept_same held files next o h kept = record { objects = o ∙ kept.objects; heads = h ∙ kept.heads; sound_objects = kept.sound_objects; sound_heads = kept.sound_heads }

-- a write of the same bytes to the same files
pub write_same : (part : Part) (at : ℕ) (bytes copy : List ℕ) (files ready next : Files) → ready.objects ≡ files.objects → ready.heads ≡ files.heads → copy ≡ bytes
    → OnPart part (Holds at bytes) ready next → OnPart part (Holds at copy) files next
write_same Objects at bytes copy files ready next o h same step =
    (step.0 ∙ ap (put at bytes) o ∙ ap (λ (l : List ℕ). put at l files.objects) (sym same), step.1 ∙ h)
write_same Heads at bytes copy files ready next o h same step =
    (step.0 ∙ ap (put at bytes) h ∙ ap (λ (l : List ℕ). put at l files.heads) (sym same), step.1 ∙ o)

-- what is told of a write
pub holds_torn : (files next f : Files) (part : Part) (at : ℕ) (bytes : List ℕ) → at ≤ length (bytes_of part files) → OnPart part (Holds at bytes) files next → Some files ≡ Some f → OnPart part (Torn at (length bytes)) f next
holds_torn files next f Objects at bytes within step told =
    let same : files ≡ f = cc in
    subst (λ (g : Files). OnPart Objects (Torn at (length bytes)) g next) same (subst (λ (l : List ℕ). Torn at (length bytes) files.objects l) (sym step.0) (put_torn at bytes files.objects within), step.1)
holds_torn files next f Heads at bytes within step told =
    let same : files ≡ f = cc in
    subst (λ (g : Files). OnPart Heads (Torn at (length bytes)) g next) same (subst (λ (l : List ℕ). Torn at (length bytes) files.heads l) (sym step.0) (put_torn at bytes files.heads within), step.1)
